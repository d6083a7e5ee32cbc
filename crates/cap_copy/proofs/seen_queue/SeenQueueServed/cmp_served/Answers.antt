use Rattle.cap_copy.proofs.Prelude.{◌≡◌, ◌∙◌, ap, sym, tied_itself, bytes_eq-Decides, nat_cmp, ordering_then, slice_cmp, shares, shares_cmp, shares_cmp_total, Queue, SeenQueue}
use Rattle.cap_tree.proofs.Orders.{alike, told_apart}
use Rattle.cap_copy.proofs.Fitting.{amounts_in_seen, shares_in_seen}
use Rattle.cap_copy.proofs.seen_queue.SeenQueueServed.cmp_served.Goals as goal

pub returns-then-eq-2 : goal.returns-then-eq-2
returns-then-eq-2 g c =
    let p : Queue = c.args.self.now.queue in
    let q : Queue = c.args.other.now.queue in
    let own = c.self.invariant in
    let others = c.other.invariant in
    let same_used : c.self.inside.used ≡ c.other.inside.used = (bytes_eq-Decides c.self.inside.used c.other.inside.used).0 (sym c.eq.ensures ∙ c.if-eq.true) in
    let same_guaranteed : c.self.inside.guaranteed ≡ c.other.inside.guaranteed = (bytes_eq-Decides c.self.inside.guaranteed c.other.inside.guaranteed).0 (sym c.eq-then-eq.ensures ∙ c.if-eq-2.true) in
    let used : p.used ≡ q.used = sym (own.used_is ∙ ap (λ (r : SeenQueue). r.queue.used) c.self.view_is) ∙ same_used ∙ others.used_is ∙ ap (λ (r : SeenQueue). r.queue.used) c.other.view_is in
    let guaranteed : p.guaranteed ≡ q.guaranteed = sym (own.guaranteed_is ∙ ap (λ (r : SeenQueue). r.queue.guaranteed) c.self.view_is) ∙ same_guaranteed ∙ others.guaranteed_is ∙ ap (λ (r : SeenQueue). r.queue.guaranteed) c.other.view_is in
    let tied = sym (tied_itself shares_cmp_total (shares p.used p.guaranteed)) ∙ (λ i. shares_cmp (shares p.used p.guaranteed) (shares (used i) (guaranteed i))) in
    c.cmp_name.ensures ∙ ap (λ o. ordering_then o (slice_cmp nat_cmp p.name q.name)) tied

pub eq-requires : goal.eq-requires
eq-requires g c = search amounts_in_seen

pub eq-requires-then-eq : goal.eq-requires-then-eq
eq-requires-then-eq g c = search amounts_in_seen

pub cmp_shares-order-requires : goal.cmp_shares-order-requires
cmp_shares-order-requires g c = search shares_in_seen

pub cmp_name-requires : goal.cmp_name-requires
cmp_name-requires g c = search

pub cmp_name-requires-2 : goal.cmp_name-requires-2
cmp_name-requires-2 g c = search

pub returns-then-is_ne : goal.returns-then-is_ne
returns-then-is_ne g c =
    let s = c.self.invariant.shares_are ∙ ap (λ (r : SeenQueue). shares r.queue.used r.queue.guaranteed) c.self.view_is in
    let o = c.other.invariant.shares_are ∙ ap (λ (r : SeenQueue). shares r.queue.used r.queue.guaranteed) c.other.view_is in
    let by_name = slice_cmp nat_cmp c.args.self.now.queue.name c.args.other.now.queue.name in
    told_apart c.cmp_shares-order.result by_name (sym c.is_ne.ensures ∙ c.if-is_ne.true) ∙ ap (λ r. ordering_then r by_name) (c.cmp_shares-order.ensures ∙ (λ i. shares_cmp (s i) (o i)))

pub returns : goal.returns
returns g c =
    let s = c.self.invariant.shares_are ∙ ap (λ (r : SeenQueue). shares r.queue.used r.queue.guaranteed) c.self.view_is in
    let o = c.other.invariant.shares_are ∙ ap (λ (r : SeenQueue). shares r.queue.used r.queue.guaranteed) c.other.view_is in
    let by_name = slice_cmp nat_cmp c.args.self.now.queue.name c.args.other.now.queue.name in
    c.cmp_name-2.ensures ∙ alike c.cmp_shares-order.result by_name (sym c.is_ne.ensures ∙ c.if-is_ne.false) ∙ ap (λ r. ordering_then r by_name) (c.cmp_shares-order.ensures ∙ (λ i. shares_cmp (s i) (o i)))
