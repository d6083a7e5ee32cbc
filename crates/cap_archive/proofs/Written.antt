-- Bytes that are written out in pieces.
use Rattle.std.proofs.Common.{◌≡◌, ◌≤◌, ◌<◌, ◌+◌, ℕ, suc, get_or, drop, List, [], ◌∷◌, ◌++◌, Option, Some, None, refl, ap, sym, ◌∙◌, subst, append_assoc, length}
use Rattle.std.proofs.lemmas.List.{append-nil, drop_all, drop_more}
use Rattle.std.specs.Io.KnownBytes.{Appends}
use Rattle.std.specs.List.{flat_map}
use Rattle.std.specs.Prelude.{OnOk, Ok, Err, Result}
use Rattle.cap_journal.specs.Lines.{closed_words, ended, epoch_text, epoch_words, event_words}
use Rattle.cap_shared.specs.Journal.{events_in}
use Rattle.cap_shared.specs.declared.entry.Entry.{Entry}
use Rattle.cap_archive.specs.Archive.{Passes}

appends_then : (u v w : Option (List ℕ)) (a b : List ℕ) → Appends u v a → Appends v w b → Appends u w (a ++ b)
appends_then None v w a b x y = tt
appends_then (Some xs) None w a b x y = absurd x
appends_then (Some xs) (Some ys) None a b x y = absurd y
appends_then (Some xs) (Some ys) (Some zs) a b x y = y ∙ ap (λ (q : List ℕ). q ++ b) x ∙ append_assoc xs a b

appends_none : (u : Option (List ℕ)) → Appends u u []
appends_none None = tt
appends_none (Some xs) = sym (append-nil xs)

-- the line of an entry, with its end
abbrev pub entry_text : Entry → List ℕ
entry_text e = ended (event_words e.event)

pub passes_none : (u : Option (List ℕ)) (all : List ℕ) → Passes u u all all
passes_none u all = ([], appends_none u, refl)

pub passes_more : (u v w : Option (List ℕ)) (all left more mid last : List ℕ) → Passes u v all left → mid ≡ left ++ more → Passes v w mid last → Passes u w (all ++ more) last
passes_more u v w all left more mid last p e q = (
  p.0 ++ q.0,
  appends_then u v w p.0 q.0 p.1 q.1,
  append_assoc p.0 q.0 last
      ∙ ap (λ (t : List ℕ). p.0 ++ t) (q.2 ∙ e)
      ∙ sym (append_assoc p.0 left more)
      ∙ ap (λ (t : List ℕ). t ++ more) p.2,
)

-- what is left was written too
pub all_written : (u v w : Option (List ℕ)) (all left more mid whole : List ℕ) → Passes u v all left → mid ≡ left ++ more → Appends v w mid → all ++ more ≡ whole → Appends u w whole
all_written u v w all left more mid whole p e a is =
    subst (Appends u w) (
    ap (λ (t : List ℕ). p.0 ++ t) e
    ∙ sym (append_assoc p.0 left more)
    ∙ ap (λ (t : List ℕ). t ++ more) p.2
    ∙ is
    ) (appends_then u v w p.0 mid p.1 a)

pub entries_text : (entries : List Entry) → flat_map entry_text entries ≡ flat_map (λ e. ended (event_words e)) (events_in entries)
entries_text [] = refl
entries_text (e ∷ entries) = ap (λ (t : List ℕ). entry_text e ++ t) (entries_text entries)

pub events_count : (entries : List Entry) → length (events_in entries) ≡ length entries
events_count [] = refl
events_count (e ∷ entries) = ap suc (events_count entries)

rest_more : (journal : List Entry) (i : ℕ) (e : Entry) → i < length journal → e ≡ get_or journal i e → flat_map entry_text (drop i journal) ≡ entry_text e ++ flat_map entry_text (drop (i + 1) journal)
rest_more journal i e lt is = ap (flat_map entry_text) (drop_more journal i e lt ∙ ap (λ (x : Entry). x ∷ drop (i + 1) journal) (sym is))

-- one more entry was put, and maybe written
pub passes_entry : (u v w : Option (List ℕ)) (journal : List Entry) (i : ℕ) (e : Entry) (all left mid last whole : List ℕ) → i < length journal → e ≡ get_or journal i e → Passes u v all left → all ++ flat_map entry_text (drop i journal) ≡ whole → mid ≡ left ++ entry_text e → Passes v w mid last →
    (more : List ℕ) × Passes u w more last × (more ++ flat_map entry_text (drop (i + 1) journal) ≡ whole)
passes_entry u v w journal i e all left mid last whole lt is p h put q = (
  all ++ entry_text e,
  passes_more u v w all left (entry_text e) mid last p put q,
  append_assoc all (entry_text e) (flat_map entry_text (drop (i + 1) journal))
      ∙ ap (λ (t : List ℕ). all ++ t) (sym (rest_more journal i e lt is))
      ∙ h,
)

whole_epoch : (number : ℕ) (journal : List Entry) (all : List ℕ) → all ≡ ended (epoch_words number) ++ flat_map entry_text journal → all ++ ended (closed_words (length journal)) ≡ epoch_text number (events_in journal)
whole_epoch number journal all e =
    let words = ended (epoch_words number) in
    ap (λ (t : List ℕ). t ++ ended (closed_words (length journal))) (e ∙ ap (λ (t : List ℕ). words ++ t) (entries_text journal))
    ∙ ap (λ (n : ℕ). (words ++ flat_map (λ x. ended (event_words x)) (events_in journal)) ++ ended (closed_words n)) (sym (events_count journal))

-- the last line was put, and all is written
pub ends_epoch : (u v w : Option (List ℕ)) (number : ℕ) (journal : List Entry) (i : ℕ) (all left mid : List ℕ) → length journal ≤ i → Passes u v all left → all ++ flat_map entry_text (drop i journal) ≡ ended (epoch_words number) ++ flat_map entry_text journal → mid ≡ left ++ ended (closed_words (length journal)) → Appends v w mid →
    Appends u w (epoch_text number (events_in journal))
ends_epoch u v w number journal i all left mid past p h put a =
    let over = sym (append-nil all) ∙ ap (λ (es : List Entry). all ++ flat_map entry_text es) (sym (drop_all i journal past)) ∙ h in
    all_written u v w all left (ended (closed_words (length journal))) mid (epoch_text number (events_in journal)) p put a (whole_epoch number journal all over)

pub on_ok : {X E : Type 0} {P Q : Type 0} → (r : Result X E) → OnOk r P → (P → Q) → OnOk r Q
on_ok (Ok x) p f = f p
on_ok (Err e) p f = tt
