use Rattle.cap_commit.proofs.Fitting.{container_in_cluster}
use Rattle.cap_commit.proofs.Prelude.{sym, ◌∙◌, arith, owns, none_pass, none_ended, first_found, fewer_left, few_ended, one_ended, all_ended}
use Rattle.cap_commit.proofs.EndRooms.{more_ends, no_end, one_end}
use Rattle.cap_commit.proofs.cluster.Cluster.end_all.Goals as goal

pub loop-container-init : goal.loop-container-init
loop-container-init g c = (none_ended c.args.cause (owns c.args.owner) c.args.self.now.flat, no_end c.args.self.now.accounts)

pub end-requires : goal.end-requires
end-requires g c =
    let now = c.loop-container in
    let kinds = c.first_of.ensures.resources in
    let first = sym c.first_of.ensures.first ∙ c.in-Some.is in
    ((search), (omega (arith, kinds), first_found c.args.cause (owns c.args.owner) c.args.self.now.flat now.self.flat now.ended now.invariant.0 c.first_of.ensures.numbers c.first_of.ensures.few c.in-Some.container first))

pub overflow_add-ended : goal.overflow_add-ended
overflow_add-ended g c =
    let now = c.loop-container in
    let first = sym c.first_of.ensures.first ∙ c.in-Some.is in
    let few = few_ended c.args.cause (owns c.args.owner) c.args.self.now.flat now.self.flat now.ended now.invariant.0 c.first_of.ensures.numbers c.first_of.ensures.few c.in-Some.container first c.end.new.self.flat c.end.ensures.ended in
    omega (arith, few)

pub loop-container-smaller : goal.loop-container-smaller
loop-container-smaller g c =
    let now = c.loop-container in
    let first = sym c.first_of.ensures.first ∙ c.in-Some.is in
    let less = fewer_left c.args.cause (owns c.args.owner) c.args.self.now.flat now.self.flat now.ended now.invariant.0 c.first_of.ensures.numbers c.first_of.ensures.few c.in-Some.container first c.end.new.self.flat c.end.ensures.ended in
    omega (arith, less)

pub loop-container-preserved : goal.loop-container-preserved
loop-container-preserved g c =
    let now = c.loop-container in
    let first = sym c.first_of.ensures.first ∙ c.in-Some.is in (
      one_ended c.args.cause (owns c.args.owner) c.args.self.now.flat now.self.flat now.ended now.invariant.0 c.first_of.ensures.numbers c.first_of.ensures.few c.in-Some.container first c.end.new.self.flat c.end.ensures.ended,
      more_ends c.args.self.now.accounts now.self.accounts c.end.new.self.accounts now.invariant.1 (one_end _ now.self.accounts c.end.new.self.accounts c.end.ensures.room),
    )

pub returns-clause-count : goal.returns-clause-count
returns-clause-count g c =
    let now = c.loop-container in
    (all_ended c.args.cause (owns c.args.owner) c.args.self.now.flat now.self.flat now.ended now.invariant.0 (sym c.first_of.ensures.first ∙ c.in_default.is)).1

pub returns-clause-ended : goal.returns-clause-ended
returns-clause-ended g c =
    let now = c.loop-container in
    (all_ended c.args.cause (owns c.args.owner) c.args.self.now.flat now.self.flat now.ended now.invariant.0 (sym c.first_of.ensures.first ∙ c.in_default.is)).0

pub returns-clause-none : goal.returns-clause-none
returns-clause-none g c = none_pass (owns c.args.owner) c.loop-container.self.flat.nodes.live (sym c.first_of.ensures.first ∙ c.in_default.is)

pub first_of-requires : goal.first_of-requires
first_of-requires g c = search container_in_cluster

pub returns-clause-room : goal.returns-clause-room
returns-clause-room g c = c.loop-container.invariant.1
