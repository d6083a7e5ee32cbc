use Rattle.cap_shared.proofs.Prelude.{List, ◌∙◌, subst, arith, Replays, Entry}
use Rattle.cap_shared.proofs.Following.{all_left, closed_leads, followed_whole}
use Rattle.cap_shared.proofs.replica.Replica.close.Goals as goal

pub catch_up-requires : goal.catch_up-requires
catch_up-requires g c =
    let journal = c.args.closed.now.journal.items in
    let len = c.args.closed.now.journal.ok.0 in
    closed_leads g.J.Naming.opening c.args.closed.now.cluster.flat c.args.self.log c.in-Ok.news journal c.requires.begins (all_left journal c.in-Ok.news c.len.result c.followed.result _ c.in-Ok.ensures (omega (arith, c.len.ensures)) c.followed.ensures) c.requires.run (omega arith)

pub returns : goal.returns
returns g c =
    let o = g.J.Naming.opening in
    let journal = c.args.closed.now.journal.items in
    let cluster = c.catch_up.new.self.cluster in
    c.into_cluster.ensures.cluster
    ∙ followed_whole o cluster c.args.closed.now.cluster.flat c.args.self.log c.in-Ok.news journal c.requires.begins (all_left journal c.in-Ok.news c.len.result c.followed.result _ c.in-Ok.ensures (omega (arith, c.len.ensures)) c.followed.ensures) c.requires.run
    (subst (λ (l : List Entry). Replays o l cluster) c.in-Ok-catch_up.ensures.ok c.into_cluster.ensures.run)
