-- Entries by the paths of their queues.
use Rattle.cap_config.proofs.Prelude.{◌≡◌, ℕ, suc, ◌<◌, ◌≤◌, List, length, get_or, drop, drop-cons, Bool, true, false, cond, Option, Some, sym, ap, ◌∙◌, arith, find, Entry, pointed_entry}
use denote.Ref.{Bor}

pub found_after : (here : Bool) (o r : Option (Bor Entry)) (w : Bor Entry) → r ≡ cond here (Some w) o → pointed_entry r ≡ cond here (Some w.now) (pointed_entry o)
found_after true o r w e = ap pointed_entry e
found_after false o r w e = ap pointed_entry e

-- one entry more at the front
pub find_before : (p : Entry → Bool) (entries : List Entry) (end i : ℕ) (entry : Entry) → end ≡ suc i → end ≤ length entries → entry ≡ get_or entries i entry →
    find p (drop i entries) ≡ cond (p entry) (Some entry) (find p (drop end entries))
find_before p entries end i entry e h is =
    let inside : i < length entries = omega arith in
    ap (find p) (drop-cons entries i entry inside)
    ∙ ap (λ (x : Entry). cond (p x) (Some x) (find p (drop (suc i) entries))) (sym is)
    ∙ ap (λ n. cond (p entry) (Some entry) (find p (drop n entries))) (sym e)
