-- What is known of a version, and of the head that begins with it.
use Rattle.cap_grammar.proofs.Prelude.{Bool, List, Some, arith, false, inl, inr, true, ℕ, ◌++◌, ◌<◌, ◌^◌, ◌∷◌, ◌≡◌, ◌≤◌, ◌⊎◌, and_parts, eqb-true, leb-true, or_cases, to_be_bytes, w32, if◌then◌else◌, nat_le, ◌==◌, ◌||◌, IsBytes, a_head, amounts_in, is_version, Head}
use Rattle.cap_grammar.proofs.SpelledBytes.{one, both, word}
use Rattle.cap_grammar.proofs.FieldLaws.{AreBytes, IsField, is_pair, is_u8, is_u32}

-- the amounts that it spells are among the K of each vector
pub spelled_among : (K version : ℕ) → is_version K version ≡ true → amounts_in version ≤ K
spelled_among K version is = leb-true (amounts_in version) K (and_parts (version == 1 || version == 2) (nat_le (amounts_in version) K) is).1

-- it is 1 or 2
pub one_or_two : (K version : ℕ) → is_version K version ≡ true → (version ≡ 1) ⊎ (version ≡ 2)
one_or_two K version is =
    elim (or_cases (version == 1) (version == 2) (and_parts (version == 1 || version == 2) (nat_le (amounts_in version) K) is).0) [
      | inl one ↦ inl (eqb-true version 1 one)
      | inr two ↦ inr (eqb-true version 2 two)
    ]

-- so it is a byte
version_small : (K version : ℕ) → is_version K version ≡ true → version < 256
version_small K version is =
    elim (one_or_two K version is) [
      | inl one ↦ omega (arith, one)
      | inr two ↦ omega (arith, two)
    ]

-- whatever the number, it spells no more than three amounts
pub three_at_most : (version : ℕ) → amounts_in version ≤ 3
three_at_most version = by (version == 1)
  where
    by : (first : Bool) → (if first then 2 else 3) ≤ 3
    by true = omega arith
    by false = omega arith

-- ---- version, kind and call id

is_head : IsField a_head
unfolding a_head
is_head = is_pair is_u8 (is_pair is_u8 is_u32)

pub head_takes : (bytes : List ℕ) (version kind id : ℕ) (rest : List ℕ) → AreBytes bytes → a_head.read bytes ≡ Some ((version, (kind, id)), rest) → (bytes ≡ version ∷ kind ∷ to_be_bytes w32 id ++ rest) × (id < 2 ^ 32)
unfolding a_head
head_takes bytes version kind id rest fits e = let t = is_head.takes bytes (version, (kind, id)) rest fits e in (t.0, t.1.1.1)

module _ (K : ℕ) (head : Head) (kind : ℕ) (rest : List ℕ) (is : is_version K head.version ≡ true) (small : kind < 256) where
  pub head_again : head.call_id < 2 ^ 32 → a_head.read (head.version ∷ kind ∷ to_be_bytes w32 head.call_id ++ rest) ≡ Some ((head.version, (kind, head.call_id)), rest)
  unfolding a_head
  head_again fits = is_head.again (head.version, (kind, head.call_id)) rest (version_small K head.version is, (small, fits))

  pub headed : IsBytes rest → IsBytes (head.version ∷ kind ∷ to_be_bytes w32 head.call_id ++ rest)
  headed body = one head.version (kind ∷ to_be_bytes w32 head.call_id ++ rest) (version_small K head.version is) (one kind (to_be_bytes w32 head.call_id ++ rest) small (both (to_be_bytes w32 head.call_id) rest (word head.call_id) body))
