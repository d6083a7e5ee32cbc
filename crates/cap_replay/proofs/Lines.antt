-- Lines of a text that comes in pieces.
use Rattle.cap_replay.proofs.Prelude.{◌≡◌, ℕ, ◌<◌, true, List, [], ◌∷◌, ◌++◌, length, Option, None, Some, refl, sym, ap, ◌∙◌, subst, lines, strip_carriage_return, append_assoc, append-nil, nil_from_length, list_all-append, Consumes, lacks, IsCut, first_line, last_line, ConfigFault, IsScript, HasBadLine, Simulation, settings_fault, AreReadBefore, HasSettingsFault, Begins, FailsToBegin, Reads, IsPlayed, IsPlayedOut, Stands, StopsAtStep, whole_line}
use Rattle.cap_replay.proofs.Scripts.{at_start, played_at_end, sound_at_end, opens_at_end, fault_at_end}

cut_more : (left raw after more : List ℕ) → IsCut 10 left raw after → IsCut 10 (left ++ more) raw (after ++ more)
cut_more left raw after more cut = record { whole = ap (λ x. x ++ more) cut.whole ∙ append_assoc raw (10 ∷ after) more; first = cut.first }

next_line : (text : List ℕ) (done : List (List ℕ)) (left raw after : List ℕ) → Reads text done left → IsCut 10 left raw after → Reads text (done ++ strip_carriage_return raw ∷ []) after
next_line text done left raw after reads cut = λ more.
    reads more
    ∙ ap (λ x. done ++ x) (first_line (left ++ more) raw (after ++ more) (cut_more left raw after more cut))
    ∙ sym (append_assoc done (strip_carriage_return raw ∷ []) (lines (after ++ more)))

-- nothing was read
pub starts : (s : Simulation) → s.settings ≡ None → s.world ≡ None → IsPlayed [] [] s
starts s none no_world = record { done = []; reads = λ more. refl; stands = at_start s none no_world }

-- the same seen by other names
pub as_now : (text begun left : List ℕ) (s t : Simulation) → IsPlayed text begun s → left ≡ begun → t ≡ s → IsPlayed text left t
as_now text begun left s t p a b = rw (a, b) p

-- what was begun, with the next bytes
cut_with : (begun rest front after : List ℕ) → IsCut 10 rest front after → lacks 10 begun ≡ true → IsCut 10 (begun ++ rest) (begun ++ front) after
cut_with begun rest front after cut clean = record {
  whole = ap (λ x. begun ++ x) cut.whole ∙ sym (append_assoc begun front (10 ∷ after));
  first = list_all-append _ begun front ∙ rw (clean, cut.first) refl;
}

-- the line that a line feed ends was played
pub plays_line : (text begun rest front after left : List ℕ) (s t : Simulation) → (p : IsPlayed text (begun ++ rest) s) → IsCut 10 rest front after → lacks 10 begun ≡ true → left ≡ [] → Stands (p.done ++ whole_line begun front ∷ []) t → IsPlayed text (left ++ after) t
plays_line text begun rest front after left s t p cut clean cleared stands = record {
  done = p.done ++ whole_line begun front ∷ [];
  reads = rw cleared (next_line text p.done (begun ++ rest) (begun ++ front) after p.reads (cut_with begun rest front after cut clean));
  stands = stands;
}

whole_lines : (text : List ℕ) (done : List (List ℕ)) (line rest : List ℕ) (last : List (List ℕ)) → Reads text (done ++ last) rest → lines text ≡ done ++ (last ++ lines rest)
whole_lines text done line rest last reads =
    ap lines (sym (append-nil text))
    ∙ reads []
    ∙ ap (λ x. (done ++ last) ++ lines x) (append-nil rest)
    ∙ append_assoc done last (lines rest)

-- the line that a line feed ends may not stand there
pub stops_at_line : (text begun rest front after : List ℕ) (s : Simulation) → (p : IsPlayed text (begun ++ rest) s) → IsCut 10 rest front after → lacks 10 begun ≡ true → (IsScript (p.done ++ strip_carriage_return (begun ++ front) ∷ []) → ⊥) → HasBadLine text
stops_at_line text begun rest front after s p cut clean bad =
    let raw = begun ++ front in
    let reads = next_line text p.done (begun ++ rest) raw after p.reads (cut_with begun rest front after cut clean) in
    record {
      front = p.done;
      line = strip_carriage_return raw;
      back = lines after;
      lines = whole_lines text p.done (strip_carriage_return raw) after (strip_carriage_return raw ∷ []) reads;
      good = p.stands.good;
      bad = bad;
    }

-- the line that a line feed ends is the first step, and the settings have a fault
pub fails_at_line : (text begun rest front after : List ℕ) (s : Simulation) (fault : ConfigFault) (ended : Type 0) → (p : IsPlayed text (begun ++ rest) s) → IsCut 10 rest front after → lacks 10 begun ≡ true → StopsAtStep p.done (strip_carriage_return (begun ++ front)) fault → HasSettingsFault text ended fault
fails_at_line text begun rest front after s fault ended p cut clean stops =
    let raw = begun ++ front in
    let reads = next_line text p.done (begun ++ rest) raw after p.reads (cut_with begun rest front after cut clean) in
    record {
      front = p.done;
      back = strip_carriage_return raw ∷ lines after;
      lines = whole_lines text p.done (strip_carriage_return raw) after (strip_carriage_return raw ∷ []) reads;
      opens = stops.opens;
      read = stops.step;
      found = stops.found;
    }

read_when : (back : List (List ℕ)) (a b : Type 0) → (a → b) → AreReadBefore back a → AreReadBefore back b
read_when [] a b f read = f read
read_when (line ∷ back) a b f read = read

-- a fault at the end, where that is seen otherwise
pub fault_when : (text : List ℕ) (a b : Type 0) (fault : ConfigFault) → (a → b) → HasSettingsFault text a fault → HasSettingsFault text b fault
fault_when text a b fault f h = record {
  front = h.front;
  back = h.back;
  lines = h.lines;
  opens = h.opens;
  read = read_when h.back a b f h.read;
  found = h.found;
}

at_end : (text : List ℕ) (done : List (List ℕ)) (begun : List ℕ) → Reads text done begun → lines text ≡ done ++ lines begun
at_end text done begun reads = ap lines (sym (append-nil text)) ∙ reads [] ∙ ap (λ x. done ++ lines x) (append-nil begun)

-- the end, with no last line
no_last : (text : List ℕ) (done : List (List ℕ)) (begun : List ℕ) → length begun ≡ 0 → Reads text done begun → lines text ≡ done
no_last text done begun none reads = at_end text done begun reads ∙ ap (λ x. done ++ lines x) (nil_from_length begun none) ∙ append-nil done

with_last : (text : List ℕ) (done : List (List ℕ)) (begun : List ℕ) → 0 < length begun → lacks 10 begun ≡ true → Reads text done begun → lines text ≡ done ++ begun ∷ []
with_last text done begun some h reads = at_end text done begun reads ∙ ap (λ x. done ++ x) (last_line begun some h)

-- the lines stand where they may, and their steps were made
is_played_out : (text : List ℕ) (done : List (List ℕ)) (s t : Simulation) → lines text ≡ done → Stands done s → Begins s t → IsPlayedOut text t
is_played_out text done s t is stands begins = record {
  done = record {
    good = subst IsScript (sym is) stands.good;
    sound = ap settings_fault is ∙ sound_at_end done s t stands begins;
  };
  world = rw is (played_at_end done s t stands begins);
}

has_fault : (text : List ℕ) (done : List (List ℕ)) (s : Simulation) (fault : ConfigFault) (ended : Type 0) → ended → lines text ≡ done → Stands done s → FailsToBegin s fault → HasSettingsFault text ended fault
has_fault text done s fault ended end is stands fails = record {
  front = done;
  back = [];
  lines = is ∙ sym (append-nil done);
  opens = opens_at_end done s fault stands fails;
  read = end;
  found = fault_at_end done s fault stands fails;
}

pub ends_done : (text begun : List ℕ) (s t : Simulation) → length begun ≡ 0 → IsPlayed text begun s → Begins s t → IsPlayedOut text t
ends_done text begun s t none p begins = is_played_out text p.done s t (no_last text p.done begun none p.reads) p.stands begins

pub ends_done_with : (text begun : List ℕ) (r s t : Simulation) → 0 < length begun → lacks 10 begun ≡ true → (p : IsPlayed text begun r) → Stands (p.done ++ begun ∷ []) s → Begins s t → IsPlayedOut text t
ends_done_with text begun r s t some h p stands begins = is_played_out text (p.done ++ begun ∷ []) s t (with_last text p.done begun some h p.reads) stands begins

pub ends_fault : (text begun : List ℕ) (s : Simulation) (fault : ConfigFault) (ended : Type 0) → ended → length begun ≡ 0 → IsPlayed text begun s → FailsToBegin s fault → HasSettingsFault text ended fault
ends_fault text begun s fault ended end none p fails = has_fault text p.done s fault ended end (no_last text p.done begun none p.reads) p.stands fails

pub ends_fault_with : (text begun : List ℕ) (r s : Simulation) (fault : ConfigFault) (ended : Type 0) → ended → 0 < length begun → lacks 10 begun ≡ true → (p : IsPlayed text begun r) → Stands (p.done ++ begun ∷ []) s → FailsToBegin s fault → HasSettingsFault text ended fault
ends_fault_with text begun r s fault ended end some h p stands fails = has_fault text (p.done ++ begun ∷ []) s fault ended end (with_last text p.done begun some h p.reads) stands fails

-- the last line may not stand there
pub ends_bad : (text begun : List ℕ) (s : Simulation) → 0 < length begun → lacks 10 begun ≡ true → (p : IsPlayed text begun s) → (IsScript (p.done ++ begun ∷ []) → ⊥) → HasBadLine text
ends_bad text begun s some h p bad = record {
  front = p.done;
  line = begun;
  back = [];
  lines = with_last text p.done begun some h p.reads;
  good = p.stands.good;
  bad = bad;
}

-- the last line is the first step, and the settings have a fault
pub ends_at_step : (text begun : List ℕ) (s : Simulation) (fault : ConfigFault) (ended : Type 0) → 0 < length begun → lacks 10 begun ≡ true → (p : IsPlayed text begun s) → StopsAtStep p.done begun fault → HasSettingsFault text ended fault
ends_at_step text begun s fault ended some h p stops = record {
  front = p.done;
  back = begun ∷ [];
  lines = with_last text p.done begun some h p.reads;
  opens = stops.opens;
  read = stops.step;
  found = stops.found;
}

-- known bytes that are taken one after the other
pub consumes_more : (a b c : Option (List ℕ)) (first next : List ℕ) → Consumes a b first → Consumes b c next → Consumes a c (first ++ next)
consumes_more None b c first next x y = tt
consumes_more (Some xs) None c first next x y = absurd x
consumes_more (Some xs) (Some ys) None first next x y = absurd y
consumes_more (Some xs) (Some ys) (Some zs) first next x y = x ∙ ap (λ r. first ++ r) y ∙ sym (append_assoc first next zs)

pub consumes_none : (a b c : Option (List ℕ)) (text piece : List ℕ) → length piece ≡ 0 → Consumes a b text → Consumes b c piece → Consumes a c text
consumes_none a b c text piece none x y = subst (λ (t : List ℕ). Consumes a c t) (ap (λ p. text ++ p) (nil_from_length piece none) ∙ append-nil text) (consumes_more a b c text piece x y)
