-- The order of ranks is total.
use Rattle.cap_model.proofs.Prelude.{◌≡◌, true, false, is_gt, ordering_reverse, Ordering, Less, Equal, Greater, IsTotalOrder, refl, sym, ◌∙◌, ap, nat_cmp_total, lists_total, on_total, then_total, level_cmp_total, ask_key_cmp, rank_cmp}

pub ask_key_cmp_total : IsTotalOrder ask_key_cmp
ask_key_cmp_total = then_total (on_total (λ k. k.priority) nat_cmp_total) (on_total (λ k. k.request) nat_cmp_total)

pub rank_cmp_total : IsTotalOrder rank_cmp
rank_cmp_total = then_total (on_total (λ r. r.levels) (lists_total level_cmp_total)) (then_total (on_total (λ r. r.app) nat_cmp_total) (on_total (λ r. r.key) ask_key_cmp_total))

module _ {A : Type 0} (R : A → A → Ordering) (o : IsTotalOrder R) where
  less_or_equal : (x y z : A) (a b c : Ordering) → R x y ≡ a → R y z ≡ b → R x z ≡ c → is_gt a ≡ false → is_gt b ≡ false → is_gt c ≡ false
  less_or_equal x y z Greater b c p q r g h = absurd (cc g)
  less_or_equal x y z a Greater c p q r g h = absurd (cc h)
  less_or_equal x y z Less Less c p q r g h = ap is_gt (sym r ∙ o.trans x y z p q)
  less_or_equal x y z Less Equal c p q r g h =
      ap is_gt (sym r ∙ o.antisymm x z ∙ ap ordering_reverse (sym (o.congr y z x q)) ∙ sym (o.antisymm x y) ∙ p)
  less_or_equal x y z Equal b c p q r g h = ap is_gt (sym r ∙ o.congr x y z p ∙ q) ∙ h

  -- not after, and not after, is not after
  pub not_after_trans : (x y z : A) → is_gt (R x y) ≡ false → is_gt (R y z) ≡ false → is_gt (R x z) ≡ false
  not_after_trans x y z g h = less_or_equal x y z (R x y) (R y z) (R x z) refl refl refl g h

  turned : (a : Ordering) → is_gt a ≡ true → is_gt (ordering_reverse a) ≡ false
  turned Less g = absurd (cc g)
  turned Equal g = absurd (cc g)
  turned Greater g = refl

  -- of two, one is not after the other
  pub not_after_other : (x y : A) → is_gt (R x y) ≡ true → is_gt (R y x) ≡ false
  not_after_other x y g = ap is_gt (o.antisymm y x) ∙ turned (R x y) g

  pub not_after_itself : (x : A) → is_gt (R x x) ≡ false
  not_after_itself x = by (R x x) (o.antisymm x x)
    where
      by : (a : Ordering) → a ≡ ordering_reverse a → is_gt a ≡ false
      by Less e = refl
      by Equal e = refl
      by Greater e = absurd (cc e)
