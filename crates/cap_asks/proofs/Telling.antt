-- News of which the told ones go.
use Rattle.cap_asks.proofs.Prelude.{◌≡◌, ℕ, ◌+◌, ◌-◌, ◌≤◌, List, length, take, drop, sym, ◌∙◌, ap, arith, min, length-drop, take_min, drop_min, drop-drop}

-- the oldest of those that wait are told, where some of the first are forgotten and still there
pub record AreTold {T : Type 0} (n still gone most : ℕ) (xs left : List T) : Type 0 where
  pub within : still + n ≤ length left
  pub few : n ≤ most
  pub told : take n (drop still left) ≡ take most (drop gone xs)
  pub waiting : drop (still + n) left ≡ drop most (drop gone xs)

pub told_next : {T : Type 0} (n still gone most : ℕ) (xs left : List T) → still ≤ length left → drop still left ≡ drop gone xs → n ≡ min (length xs - gone) most → AreTold n still gone most xs left
told_next n still gone most xs left within rest n_is =
    let lengths = sym (length-drop still left) ∙ ap length rest ∙ length-drop gone xs in
    let least : n ≡ min most (length (drop gone xs)) = omega (arith, n_is, length-drop gone xs) in
    record {
      within = omega (arith, within, lengths, n_is);
      few = omega (arith, n_is);
      told = ap (take n) rest ∙ ap (λ k. take k (drop gone xs)) least ∙ take_min most (drop gone xs);
      waiting = sym (drop-drop n still left) ∙ ap (drop n) rest ∙ ap (λ k. drop k (drop gone xs)) least ∙ drop_min most (drop gone xs);
    }
