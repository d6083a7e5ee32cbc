-- Up from a queue to the root.
use Rattle.cap_config.proofs.Prelude.{◌≡◌, ℕ, List, [], Option, Some, None, refl, ap, ◌∙◌, bytes_eq, BTreeMap, Entry, Value, Amounts, Setting, MaximumCapacity, root, is_queue, maximum, nearest_maximum, leads_to_root, above, amounts_at, amounts_or, entry_for, entry_at, FindsAll}
use denote.Ref.{Bor}
use Rattle.cap_config.proofs.Above.{IsParent}

pub queue_at_top : (entries : List Entry) (path : List ℕ) → above path ≡ [] → is_queue entries path ≡ bytes_eq path root
queue_at_top entries path is = ap (leads_to_root entries path) is

pub entry_found : (entries : List Entry) (setting : Setting) (places : BTreeMap (Bor (List ℕ)) (Bor Entry)) (q : List ℕ) → FindsAll places setting entries → entry_at places q ≡ entry_for entries setting q
unfolding entry_for
entry_found entries setting places q h = h q

own_value : (other : Option (List ℕ)) (value : Value) (amounts : List ℕ) → amounts_or None value ≡ Some amounts → amounts_or other value ≡ Some amounts
own_value other (Amounts a) amounts h = h
own_value other _ amounts h = absurd (cc h)

other_value : (other : Option (List ℕ)) (value : Value) → amounts_or None value ≡ None → amounts_or other value ≡ other
other_value other (Amounts a) h = absurd (cc h)
other_value other _ h = refl

amounts_own : (other : Option (List ℕ)) (entry : Option Entry) (amounts : List ℕ) → amounts_at None entry ≡ Some amounts → amounts_at other entry ≡ Some amounts
amounts_own other None amounts h = absurd (cc h)
amounts_own other (Some entry) amounts h = own_value other entry.value amounts h

amounts_other : (other : Option (List ℕ)) (entry : Option Entry) → amounts_at None entry ≡ None → amounts_at other entry ≡ other
amounts_other other None h = refl
amounts_other other (Some entry) h = other_value other entry.value h

pub maximum_own : (entries : List Entry) (path parent amounts : List ℕ) → IsParent path parent → amounts_at None (entry_for entries MaximumCapacity path) ≡ Some amounts → maximum entries path ≡ Some amounts
maximum_own entries path parent amounts is h =
    ap (nearest_maximum entries path) is.above ∙ amounts_own (maximum entries parent) (entry_for entries MaximumCapacity path) amounts h

pub maximum_inherited : (entries : List Entry) (path parent : List ℕ) → IsParent path parent → amounts_at None (entry_for entries MaximumCapacity path) ≡ None → maximum entries path ≡ maximum entries parent
maximum_inherited entries path parent is h =
    ap (nearest_maximum entries path) is.above ∙ amounts_other (maximum entries parent) (entry_for entries MaximumCapacity path) h

pub maximum_at_top : (entries : List Entry) (path : List ℕ) → above path ≡ [] → maximum entries path ≡ amounts_at None (entry_for entries MaximumCapacity path)
maximum_at_top entries path is = ap (nearest_maximum entries path) is
