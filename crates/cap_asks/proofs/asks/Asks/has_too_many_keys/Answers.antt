use Rattle.cap_asks.proofs.Prelude.{◌≡◌, ◌∙◌, ◌+◌, ap, sym, is_some, arith, take, length, length-take, length-set, length-replicate, All-nil, not, ◌==◌, ◌<◌, subst, ask_at, HeldAsks, AreKept, key_slot, slice_index_or, false, Bool}
use Rattle.std.proofs.Math.Nat.{mod-lt}
use mir.Val.{bool_byte}
use Rattle.cap_asks.proofs.Keeping.{count_next, few_all, byte_few, not_too_many, put_all, taken_next, untouched}
use Rattle.cap_asks.proofs.asks.Asks.has_too_many_keys.Given.{Over}
use Rattle.cap_asks.proofs.asks.Asks.has_too_many_keys.Goals as goal
use Rattle.cap_asks.proofs.asks.Asks.has_too_many_keys.Goals.{then-is_taken-slot, else-is_taken-slot}

pub returns-then-count-asks-le-KEYS_MAX : goal.returns-then-count-asks-le-KEYS_MAX
returns-then-count-asks-le-KEYS_MAX g c =
    let kept : AreKept c.args.self.now.asks = rw (← c.self.view_is) c.self.invariant.0 in
    let seen = ap (λ (a : HeldAsks). length a.asks) c.self.view_is in
    not_too_many c.args.self.now.asks c.args.asks.now kept (omega (arith, seen))

pub loop-i-init : goal.loop-i-init
loop-i-init g c =
    let seen = ap (λ (a : HeldAsks). length a.asks) c.self.view_is in
    record { count = omega (arith, seen); slots = length-replicate {A = Bool} 4096 false; taken = All-nil _ }

pub overflow_add-count-in-loop-i : goal.overflow_add-count-in-loop-i
overflow_add-count-in-loop-i g c =
    let kept : AreKept c.args.self.now.asks = rw (← c.self.view_is) c.self.invariant.0 in
    let few = few_all c.args.self.now.asks (take c.loop-i.i c.args.asks.now) kept in
    let seen = ap (λ (a : HeldAsks). length a.asks) c.self.view_is in
    let is = c.loop-i.invariant.count in
    let first = length-take c.loop-i.i c.args.asks.now in
    let one = byte_few (not (c.count-stands.result == 0)) in
    omega (arith, few, seen, is, first, one)

module _ (g : Over) (c : goal.After-count-stands g) where
  stood_is : c.stands_after-stood.result ≡ is_some (ask_at c.key-key.result (put_all c.args.self.now.asks (take c.loop-i.i c.args.asks.now)))
  stood_is =
      elim c.if-is_taken-slot.branch [
        | then-is_taken-slot w ↦ c.stands_after-stood.ensures ∙ ap (λ b. is_some (ask_at c.key-key.result (put_all c.args.self.now.asks b.now))) w.earlier-is
        | else-is_taken-slot w ↦ c.stands_after-stood.ensures ∙ ap (λ b. is_some (ask_at c.key-key.result (put_all c.args.self.now.asks b.now))) w.earlier-is
            ∙ ap is_some (sym (untouched c.key-key.result c.loop-i.is_taken c.args.self.now.asks (take c.loop-i.i c.args.asks.now) (ap (λ slot. slice_index_or c.loop-i.is_taken slot false) (sym c.slot_of-slot.ensures) ∙ w.if-is_taken-slot.false) c.loop-i.invariant.taken))
      ]

  is_counted : c.loop-i.count + bool_byte (not (c.count-stands.result == 0)) ≡ length (put_all c.args.self.now.asks (take (c.loop-i.i + 1) c.args.asks.now)) + bool_byte c.stands_after-stood.result
  is_counted = count_next c.args.self.now.asks c.args.asks.now c.loop-i.i c.index-asks-i.result c.key-key.result c.count-stands.result c.loop-i.count c.stands_after-stood.result
      (rw (← c.self.view_is) c.self.invariant.0) c.loop-i-test.true c.index-asks-i.is c.key-key.ensures c.loop-i.invariant.count stood_is c.count-stands.ensures

pub overflow_sub-count : goal.overflow_sub-count
overflow_sub-count g c = let is = is_counted g c in omega (arith, is)

pub loop-i-preserved : goal.loop-i-preserved
loop-i-preserved g c =
    let is = is_counted g c in
    let slot = c.slot_of-slot.ensures ∙ ap key_slot c.key-key.ensures in
    let within = subst (λ n. n < 4096) (sym c.slot_of-slot.ensures) (mod-lt _ (omega arith)) in
    record {
      count = omega (arith, is);
      slots = length-set c.loop-i.is_taken c.slot_of-slot.result _ ∙ c.loop-i.invariant.slots;
      taken = taken_next c.loop-i.is_taken c.args.asks.now c.loop-i.i c.slot_of-slot.result c.index-asks-i.result c.loop-i-test.true c.index-asks-i.is slot (rw c.loop-i.invariant.slots within) c.loop-i.invariant.taken;
    }
