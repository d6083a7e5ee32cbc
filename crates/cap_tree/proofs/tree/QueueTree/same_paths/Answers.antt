use Rattle.cap_tree.proofs.Prelude.{◌≡◌, ◌∙◌, length, ap, arith, sym, subst, false, true, list_all, length-map, take_all, IsListing, has_path, has_same_paths, queues_of, settings_of_row}
use Rattle.cap_tree.proofs.Counting.{count_is, is_count}
use Rattle.cap_tree.proofs.Sizes.{row_in_tree}
use Rattle.cap_tree.proofs.SamePaths.{found_path, one_missing, one_more, same_count}
use Rattle.cap_tree.proofs.tree.QueueTree.same_paths.Goals as goal

pub returns-in-Missing : goal.returns-in-Missing
returns-in-Missing g c =
    subst (λ rows. false ≡ has_same_paths rows (queues_of c.args.self.now)) c.queues-queues.ensures.rows
    (one_missing c.queues-queues.result.now (queues_of c.args.self.now) c.loop-queue.queue-index c.queue-item.result c.loop-queue-test.true c.queue-item.is
    (rw (c.as_bytes.ensures.value, c.path-path.ensures) at c.in-Missing.ensures.found))

pub loop-queue-preserved : goal.loop-queue-preserved
loop-queue-preserved g c =
    one_more c.queues-queues.result.now (queues_of c.args.self.now) c.loop-queue.queue-index c.queue-item.result c.loop-queue-test.true c.queue-item.is c.loop-queue.invariant
    (subst (λ p. has_path (queues_of c.args.self.now) p ≡ true) (c.as_bytes.ensures.value ∙ c.path-path.ensures) (found_path c.as_bytes.result.now c.args.self.now c.find.result c.find.ensures.found c.in_default.not-Missing))

pub returns : goal.returns
returns g c =
    let ps = c.queues-queues.result.now in
    let qs = queues_of c.args.self.now in
    let listing = subst IsListing (sym c.queues-queues.ensures.rows) c.queues-queues.ensures.listing in
    let all = ap (list_all (λ q. has_path qs q.path)) (sym (take_all c.loop-queue.queue-index ps (omega (arith, c.loop-queue-test.false)))) ∙ c.loop-queue.invariant in
    let count = length-map c.args.self.now settings_of_row in
    let is = c.has_count.ensures.is in
    subst (λ rows. c.has_count.result ≡ has_same_paths rows qs) c.queues-queues.ensures.rows
    (same_count ps qs listing.tree.distinct c.has_count.ensures.rows.listing.tree.distinct all c.has_count.result
    (count_is c.has_count.result (length c.args.self.now) (length ps) (length qs) is count) (is_count c.has_count.result (length c.args.self.now) (length ps) (length qs) is count))

pub path-path-requires : goal.path-path-requires
path-path-requires g c = search row_in_tree

pub queues-queues-requires : goal.queues-queues-requires
queues-queues-requires g c = ((search), search row_in_tree)

pub find-requires : goal.find-requires
find-requires g c = search

pub has_count-requires : goal.has_count-requires
has_count-requires g c = search
