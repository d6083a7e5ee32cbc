use Rattle.cap_shared.proofs.Prelude.{◌≡◌, ◌<◌, ◌+◌, suc, length, List, ℕ, ap, ◌∙◌, subst, arith, length-map, Replays, Entry}
use Rattle.std.proofs.Common.{take, drop, get_or}
use Rattle.cap_shared.specs.declared.deed.Deed.{Deed}
use Rattle.cap_shared.specs.Following.{deed_of, deeds_of, Leads}
use Rattle.cap_shared.proofs.Following.{follow_next}
use Rattle.cap_shared.proofs.replica.follow.Goals as goal

pub loop-deed-preserved : goal.loop-deed-preserved
loop-deed-preserved c =
    let i = c.loop-deed.invariant in
    let at = c.loop-deed.deed-index in
    let news = c.args.news.now in
    let old = c.args.cluster.now.flat in
    let new = c.make.new.cluster.flat in
    let deed = c.deed-item.result in
    let is : deed ≡ get_or (deeds_of news) at deed = c.deed-item.is ∙ ap (λ (ds : List Deed). get_or ds at deed) c.deeds-deeds.ensures in
    let count : length c.deeds-deeds.result.now ≡ length news = ap length c.deeds-deeds.ensures ∙ length-map news (λ (e : Entry). deed_of e.event) in
    let less : at < length news = subst (λ (n : ℕ). at < n) count c.loop-deed-test.true in
    let next = follow_next news at old c.loop-deed.cluster.flat new deed less is i.run i.rest c.in-Ok.ensures.ok in
    let one : suc at ≡ at + 1 = omega arith in
    record {
      count = ap (λ (n : ℕ). n + 1) i.count;
      run = subst (λ (n : ℕ). Replays old (take n news) new) one next.0;
      rest = subst (λ (n : ℕ). Leads new (drop n news)) one next.1;
    }
