-- The order of shares, of fullness and of sibling queues is total.
use Rattle.cap_base.proofs.Prelude.{◌≡◌, ℕ, ◌*◌, ◌<◌, max, nat_cmp, MatchOrdering, Ordering, Less, Equal, Greater, IsTotalOrder, nat_cmp_is, arith, refl, sym, ◌∙◌, ap, nat_cmp_total, nat_list_cmp_total, lists_total, on_total, then_total, ranked, mul_right_comm, mul-lt-mul_of_pos_right, share_cmp, shares_cmp, level_cmp}

scaled_rank : (a b k : ℕ) (r : Ordering) → 0 < k → MatchOrdering r (a < b) (a ≡ b) (b < a) → MatchOrdering r (a * k < b * k) (a * k ≡ b * k) (b * k < a * k)
scaled_rank a b k Less h l = mul-lt-mul_of_pos_right l h
scaled_rank a b k Equal h e = ap (λ n. n * k) e
scaled_rank a b k Greater h g = mul-lt-mul_of_pos_right g h

-- a factor on both sides decides nothing
pub scaled : (a b k : ℕ) → 0 < k → nat_cmp a b ≡ nat_cmp (a * k) (b * k)
scaled a b k h = nat_cmp_is (a * k) (b * k) (nat_cmp a b) (scaled_rank a b k (nat_cmp a b) h (ranked a b (nat_cmp a b) refl))

-- fractions x/p, y/q, z/r, by cross products
chain : (x p y q z r : ℕ) → 0 < p → 0 < q → 0 < r → nat_cmp (x * q) (y * p) ≡ Less → nat_cmp (y * r) (z * q) ≡ Less → nat_cmp (x * r) (z * p) ≡ Less
chain x p y q z r hp hq hr h g =
    let a : nat_cmp (x * q * r) (y * p * r) ≡ Less = sym (scaled (x * q) (y * p) r hr) ∙ h in
    let b : nat_cmp (y * r * p) (z * q * p) ≡ Less = sym (scaled (y * r) (z * q) p hp) ∙ g in
    let b' : nat_cmp (y * p * r) (z * q * p) ≡ Less = ap (λ n. nat_cmp n (z * q * p)) (mul_right_comm y p r) ∙ b in
    let t = nat_cmp_total.trans (x * q * r) (y * p * r) (z * q * p) a b' in
    scaled (x * r) (z * p) q hq ∙ ap (λ n. nat_cmp n (z * p * q)) (mul_right_comm x r q) ∙ ap (λ n. nat_cmp (x * q * r) n) (mul_right_comm z p q) ∙ t

same : (x p y q z r : ℕ) → 0 < p → 0 < q → 0 < r → nat_cmp (x * q) (y * p) ≡ Equal → nat_cmp (x * r) (z * p) ≡ nat_cmp (y * r) (z * q)
same x p y q z r hp hq hr h =
    let a : nat_cmp (x * q * r) (y * p * r) ≡ Equal = sym (scaled (x * q) (y * p) r hr) ∙ h in
    let c = nat_cmp_total.congr (x * q * r) (y * p * r) (z * q * p) a in
    scaled (x * r) (z * p) q hq ∙ ap (λ n. nat_cmp n (z * p * q)) (mul_right_comm x r q) ∙ ap (λ n. nat_cmp (x * q * r) n) (mul_right_comm z p q)
    ∙ c ∙ ap (λ n. nat_cmp n (z * q * p)) (mul_right_comm y p r) ∙ sym (scaled (y * r) (z * q) p hp)

pub share_cmp_total : IsTotalOrder share_cmp
share_cmp_total = record {
  antisymm = λ a b. nat_cmp_total.antisymm (a.used * max 1 b.guaranteed) (b.used * max 1 a.guaranteed);
  trans = λ a b c. chain a.used (max 1 a.guaranteed) b.used (max 1 b.guaranteed) c.used (max 1 c.guaranteed) (omega arith) (omega arith) (omega arith);
  congr = λ a b c. same a.used (max 1 a.guaranteed) b.used (max 1 b.guaranteed) c.used (max 1 c.guaranteed) (omega arith) (omega arith) (omega arith);
}

pub shares_cmp_total : IsTotalOrder shares_cmp
shares_cmp_total = lists_total share_cmp_total

pub level_cmp_total : IsTotalOrder level_cmp
level_cmp_total = then_total (on_total (λ l. l.fullness) shares_cmp_total) (on_total (λ l. l.name) nat_list_cmp_total)
