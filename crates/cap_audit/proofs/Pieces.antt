-- Lines of a text that comes in pieces, and what a reader gave.
use Rattle.cap_audit.proofs.Prelude.{IsFalseBeginning, IsFalseInput, IsFalseText, LeadsNowhere, LeadsOn, MayGoOn, StartsAnew, inner_of, ◌≡◌, ℕ, ◌<◌, true, false, arith, Ok, Err, Result, IsOk, OnOk, take, drop, take-append-drop, pointwise, nat_eq, same_text, StreamState, CanCount, List, [], ◌∷◌, ◌++◌, length, Option, None, Some, refl, sym, ap, ◌∙◌, subst, lines, strip_carriage_return, append_assoc, append-nil, nil_from_length, list_all-append, Consumes, IsAtEnd, Counted, state_of, lacks, IsCut, first_line, last_line, Auditor, Begins, HasEnded, IsPlayed, IsRead, IsTrueFile, PlaysLine, Reads, whole_line}
use Rattle.cap_audit.proofs.Truth.{ends, stands_anew}
use Rattle.cap_audit.proofs.Onwards.{may_start}

cut_more : (left raw after more : List ℕ) → IsCut 10 left raw after → IsCut 10 (left ++ more) raw (after ++ more)
cut_more left raw after more cut = record { whole = ap (λ x. x ++ more) cut.whole ∙ append_assoc raw (10 ∷ after) more; first = cut.first }

next_line : (text : List ℕ) (done : List (List ℕ)) (left raw after : List ℕ) → Reads text done left → IsCut 10 left raw after → Reads text (done ++ strip_carriage_return raw ∷ []) after
next_line text done left raw after reads cut = λ more.
    reads more
    ∙ ap (λ x. done ++ x) (first_line (left ++ more) raw (after ++ more) (cut_more left raw after more cut))
    ∙ sym (append_assoc done (strip_carriage_return raw ∷ []) (lines (after ++ more)))

-- nothing was read
pub starts : (a : Auditor) → StartsAnew a → IsPlayed [] [] a
starts a anew = record { done = []; reads = λ more. refl; stands = stands_anew a anew; goes = λ more is. may_start (lines more) a anew is }

-- what was begun, with the next bytes
cut_with : (begun rest front after : List ℕ) → IsCut 10 rest front after → lacks 10 begun ≡ true → IsCut 10 (begun ++ rest) (begun ++ front) after
cut_with begun rest front after cut clean = record {
  whole = ap (λ x. begun ++ x) cut.whole ∙ sym (append_assoc begun front (10 ∷ after));
  first = list_all-append _ begun front ∙ rw (clean, cut.first) refl;
}

-- the first of the lines to come is the one that a line feed ends
line_first : (begun rest front after more : List ℕ) → IsCut 10 rest front after → lacks 10 begun ≡ true → lines ((begun ++ rest) ++ more) ≡ whole_line begun front ∷ lines (after ++ more)
line_first begun rest front after more cut clean = first_line ((begun ++ rest) ++ more) (begun ++ front) (after ++ more) (cut_more (begun ++ rest) (begun ++ front) after more (cut_with begun rest front after cut clean))

-- the line that a line feed ends was played
pub ended_line : (text begun rest front after left : List ℕ) (a b : Auditor) → IsPlayed text (begun ++ rest) a → IsCut 10 rest front after → lacks 10 begun ≡ true → left ≡ [] → PlaysLine (whole_line begun front) a b → LeadsOn (whole_line begun front) a b → IsPlayed text (left ++ after) b
ended_line text begun rest front after left a b p cut clean cleared plays leads = record {
  done = p.done ++ whole_line begun front ∷ [];
  reads = rw cleared (next_line text p.done (begun ++ rest) (begun ++ front) after p.reads (cut_with begun rest front after cut clean));
  stands = plays p.done p.stands;
  goes = λ more is.
      let may = leads (lines (after ++ more)) (subst (λ (l : List (List ℕ)). MayGoOn l a) (line_first begun rest front after more cut clean) (p.goes more is)) in
      subst (λ (l : List ℕ). MayGoOn (lines ((l ++ after) ++ more)) b) (sym cleared) may;
}

-- it was found false
pub false_line : (text begun rest front after : List ℕ) (a : Auditor) → IsPlayed text (begun ++ rest) a → IsCut 10 rest front after → lacks 10 begun ≡ true → LeadsNowhere (whole_line begun front) a → IsFalseBeginning text
false_line text begun rest front after a p cut clean never = λ more is.
    never (lines (after ++ more)) (subst (λ (l : List (List ℕ)). MayGoOn l a) (line_first begun rest front after more cut clean) (p.goes more is))

-- more was read
pub read_on : (text begun piece : List ℕ) (a : Auditor) → IsPlayed text begun a → IsPlayed (text ++ piece) (begun ++ piece) a
read_on text begun piece a p = record {
  done = p.done;
  reads = λ more.
      ap lines (append_assoc text piece more)
      ∙ p.reads (piece ++ more)
      ∙ ap (λ x. p.done ++ lines x) (sym (append_assoc begun piece more));
  stands = p.stands;
  goes = λ more is.
      let may = p.goes (piece ++ more) (subst (λ (t : List ℕ). IsTrueFile (lines t)) (append_assoc text piece more) is) in
      subst (λ (t : List ℕ). MayGoOn (lines t) a) (sym (append_assoc begun piece more)) may;
}

at_end : (text : List ℕ) (done : List (List ℕ)) (begun : List ℕ) → Reads text done begun → lines text ≡ done ++ lines begun
at_end text done begun reads = ap lines (sym (append-nil text)) ∙ reads [] ∙ ap (λ x. done ++ lines x) (append-nil begun)

-- the end, with no last line
pub ends_whole : (text begun : List ℕ) (a b : Auditor) → length begun ≡ 0 → IsPlayed text begun a → Begins a b → b.place.inside ≡ false → IsTrueFile (lines text)
ends_whole text begun a b none p is outside =
    let all : lines text ≡ p.done = at_end text p.done begun p.reads ∙ ap (λ x. p.done ++ lines x) (nil_from_length begun none) ∙ append-nil p.done in
    subst IsTrueFile (sym all) (ends p.done a b p.stands is outside)

-- the end, with a last line
pub ends_with : (text begun : List ℕ) (a b c : Auditor) → 0 < length begun → lacks 10 begun ≡ true → IsPlayed text begun a → PlaysLine begun a b → Begins b c → c.place.inside ≡ false → IsTrueFile (lines text)
ends_with text begun a b c some clean p plays is outside =
    let all : lines text ≡ p.done ++ begun ∷ [] = at_end text p.done begun p.reads ∙ ap (λ x. p.done ++ x) (last_line begun some clean) in
    subst IsTrueFile (sym all) (ends (p.done ++ begun ∷ []) b c (plays p.done p.stands) is outside)

-- what is to come at the end
may_end : (text begun : List ℕ) (a : Auditor) → IsPlayed text begun a → IsTrueFile (lines text) → MayGoOn (lines begun) a
may_end text begun a p is =
    subst (λ (t : List ℕ). MayGoOn (lines t) a) (append-nil begun) (p.goes [] (subst (λ (t : List ℕ). IsTrueFile (lines t)) (sym (append-nil text)) is))

-- no last line, and a file that may not end there
pub false_whole : (text begun : List ℕ) (a : Auditor) → length begun ≡ 0 → IsPlayed text begun a → (MayGoOn [] a → ⊥) → IsFalseText text
false_whole text begun a none p never = λ is. never (subst (λ (t : List ℕ). MayGoOn (lines t) a) (nil_from_length begun none) (may_end text begun a p is))

-- the last line is false, or the file may not end behind it
pub false_last : (text begun : List ℕ) (a : Auditor) → 0 < length begun → lacks 10 begun ≡ true → IsPlayed text begun a → LeadsNowhere begun a → IsFalseText text
false_last text begun a some clean p never = λ is. never [] (subst (λ (l : List (List ℕ)). MayGoOn l a) (last_line begun some clean) (may_end text begun a p is))

pub false_end : (text begun : List ℕ) (a b : Auditor) → 0 < length begun → lacks 10 begun ≡ true → IsPlayed text begun a → LeadsOn begun a b → (MayGoOn [] b → ⊥) → IsFalseText text
false_end text begun a b some clean p leads never = λ is. never (leads [] (subst (λ (l : List (List ℕ)). MayGoOn l a) (last_line begun some clean) (may_end text begun a p is)))

-- ---- what a reader gave

consumes_more : (a b c : Option (List ℕ)) (first next : List ℕ) → Consumes a b first → Consumes b c next → Consumes a c (first ++ next)
consumes_more None b c first next x y = tt
consumes_more (Some xs) None c first next x y = absurd x
consumes_more (Some xs) (Some ys) None first next x y = absurd y
consumes_more (Some xs) (Some ys) (Some zs) first next x y = x ∙ ap (λ r. first ++ r) y ∙ sym (append_assoc first next zs)

consumes_self : (a : Option (List ℕ)) → Consumes a a []
consumes_self None = tt
consumes_self (Some xs) = refl

pub read_nothing : {T : Type 0} (remaining : T → Option (List ℕ)) (a : Counted T) → IsRead remaining a a []
read_nothing remaining a = record { given = sym (append-nil (state_of a).given); consumed = consumes_self (remaining (inner_of a)) }

pub read_more : {T : Type 0} (remaining : T → Option (List ℕ)) (a b c : Counted T) (first next : List ℕ) → IsRead remaining a b first → IsRead remaining b c next → IsRead remaining a c (first ++ next)
read_more remaining a b c first next x y = record {
  given = y.given ∙ ap (λ (r : List ℕ). r ++ next) x.given ∙ append_assoc (state_of a).given first next;
  consumed = consumes_more (remaining (inner_of a)) (remaining (inner_of b)) (remaining (inner_of c)) first next x.consumed y.consumed;
}

pub read_none : {T : Type 0} (remaining : T → Option (List ℕ)) (a b c : Counted T) (text piece : List ℕ) → length piece ≡ 0 → IsRead remaining a b text → IsRead remaining b c piece → IsRead remaining a c text
read_none remaining a b c text piece none x y =
    subst (λ (t : List ℕ). IsRead remaining a c t) (ap (λ (p : List ℕ). text ++ p) (nil_from_length piece none) ∙ append-nil text) (read_more remaining a b c text piece x y)

-- the end was not found before
pub ended_since : {T : Type 0} (remaining : T → Option (List ℕ)) (a b c : Counted T) → (state_of b).ends ≡ (state_of a).ends → HasEnded remaining b c → HasEnded remaining a c
ended_since remaining a b c same end = record { counted = subst (λ (n : ℕ). n < (state_of c).ends) same end.counted; at_end = end.at_end }

consumed_all : (old new : Option (List ℕ)) (text whole : List ℕ) → Consumes old new text → IsAtEnd new → old ≡ Some whole → whole ≡ text
consumed_all None new text whole c end is = absurd (cc is)
consumed_all (Some xs) None text whole c end is = absurd c
consumed_all (Some xs) (Some ys) text whole c end is =
    let same : xs ≡ whole = cc is in
    sym same ∙ c ∙ ap (λ (y : List ℕ). text ++ y) end ∙ append-nil text

consumed_some : (old new : Option (List ℕ)) (text whole : List ℕ) → Consumes old new text → old ≡ Some whole → (more : List ℕ) × (whole ≡ text ++ more)
consumed_some None new text whole c is = absurd (cc is)
consumed_some (Some xs) None text whole c is = absurd c
consumed_some (Some xs) (Some ys) text whole c is =
    let same : xs ≡ whole = cc is in
    (ys, sym same ∙ c)

-- all was read, and it is no true file
pub false_input : {T : Type 0} (remaining : T → Option (List ℕ)) (a c : Counted T) (text : List ℕ) → IsRead remaining a c text → HasEnded remaining a c → IsFalseText text → IsFalseInput remaining a
false_input remaining a c text read ended bad = λ whole known.
    subst IsFalseText (sym (consumed_all (remaining (inner_of a)) (remaining (inner_of c)) text whole read.consumed ended.at_end known)) bad

-- a part was read, and no true file begins so
pub false_piece : {T : Type 0} (remaining : T → Option (List ℕ)) (a c : Counted T) (text : List ℕ) → IsRead remaining a c text → IsFalseBeginning text → IsFalseInput remaining a
false_piece remaining a c text read bad = λ whole known.
    let split = consumed_some (remaining (inner_of a)) (remaining (inner_of c)) text whole read.consumed known in
    subst IsFalseText (sym split.1) (bad split.0)

-- the same counts may still rise
pub still_counts : (old new : StreamState) → CanCount old → new.failures ≡ old.failures → new.quiets ≡ old.quiets → new.ends ≡ old.ends → CanCount new
still_counts old new may failures quiets ends = record { failures = omega (arith, may.failures, failures); quiets = omega (arith, may.quiets, quiets); ends = omega (arith, may.ends, ends) }

-- ---- answers

pub on_ok : {X E : Type 0} {P Q : Type 0} → (r : Result X E) → OnOk r P → (P → Q) → OnOk r Q
on_ok (Ok x) p f = f p
on_ok (Err e) p f = tt

pub from_ok : {X E : Type 0} {P : Type 0} → (r : Result X E) → IsOk r → OnOk r P → P
from_ok (Ok x) is p = p
from_ok (Err e) is p = absurd cc

-- the same seen by another name
pub as_now : (text begun left : List ℕ) (a : Auditor) → IsPlayed text begun a → left ≡ begun → IsPlayed text left a
as_now text begun left a p e = rw e p

-- a line that begins so
pub begins_so : (line left prefix : List ℕ) → pointwise nat_eq (take (length prefix) line) prefix ≡ true → left ≡ drop (length prefix) line → line ≡ prefix ++ left
begins_so line left prefix same e = sym (take-append-drop (length prefix) line) ∙ ap (λ (x : List ℕ). x ++ drop (length prefix) line) (same_text (take (length prefix) line) prefix (sym same)) ∙ ap (λ (x : List ℕ). prefix ++ x) (sym e)
