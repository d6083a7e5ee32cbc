-- What a seat and the desk keep as the journal grows.
use Rattle.cap_shared.proofs.Prelude.{◌≡◌, ℕ, suc, ◌+◌, ◌<◌, ◌≤◌, ◌==◌, Bool, true, false, List, [], ◌∷◌, ◌++◌, length, refl, ap, sym, ◌∙◌, subst, arith, length-append, if◌then◌else◌, Me, TableId, resources, Flat, after_event, Step, Event, step_is_determined, Entry, Receipt, NotedAnswer, Moment, Entered, Noted, Mark, Sitting, View, Replays, state_after, receipt_for, seat_entries, receipts_in, position_of, start_of, end_of, end_after, Rises, NoteHolds, NotesHold, IsBy, TagsBelow, AllHonest, keeper, sitter, sitting, sitting_of, NotesBegin, Fits, IsSeat, IsDesk, Pass, IsNoted, IsEntered, JournalsLeadToStates}
use mathlib.Core.List.{IsPrefix}
use Rattle.cap_model.specs.declared.event.Event.TheVariants as event
use Rattle.cap_shared.proofs.Lists.{receipts_in-told, receipts_in-noted}

pub Replays-push : (s m t : Flat resources) (es : List Entry) (e : Entry) → Replays s es m → Step m e.event t → Replays s (es ++ e ∷ []) t
Replays-push s m t [] e r h = (t, subst (λ (x : Flat resources). Step x e.event t) (sym r) h, refl)
Replays-push s m t (d ∷ es) e r h = (r.0, r.1, Replays-push r.0 m t es e r.2 h)

-- the state that entries lead to is the one after them
pub state_is : (s t : Flat resources) (es : List Entry) → Replays s es t → t ≡ state_after s es
state_is s t [] r = sym r
state_is s t (e ∷ es) r = state_is r.0 t es r.2 ∙ ap (λ (x : Flat resources). state_after x es) (step_is_determined resources s r.0 e.event r.1)

pub leads_to_states : JournalsLeadToStates
leads_to_states opening closing [] rest r = (refl, r, state_is opening closing rest r)
leads_to_states opening closing (e ∷ first) rest r =
    let P : Flat resources → Type 0 = λ x. Replays x first (state_after x first) × Replays (state_after x first) rest closing × (closing ≡ state_after x (first ++ rest)) in
    let at = step_is_determined resources opening r.0 e.event r.1 in
    let on : P (after_event opening e.event) = subst P at (leads_to_states r.0 closing first rest r.2) in
    ((after_event opening e.event, subst (λ (x : Flat resources). Step opening e.event x) at r.1, on.0), on.1, on.2)

pub TagsBelow-push : (n : ℕ) (es : List Entry) (e : Entry) → TagsBelow n es → (e.seat < n) × IsBy e.seat e.event → TagsBelow n (es ++ e ∷ [])
TagsBelow-push n [] e h l = (l, tt)
TagsBelow-push n (d ∷ es) e h l = (h.0, TagsBelow-push n es e h.1 l)

Rises-push : (n : ℕ) (ms : List Moment) (m : Moment) → Rises n ms → end_after n ms ≤ start_of m → Rises n (ms ++ m ∷ [])
Rises-push n [] m h l = (l, tt)
Rises-push n (k ∷ ms) m h l = (h.0, Rises-push (end_of k) ms m h.1 l)

-- each moment of a seat that fits the journal ends within it
abbrev Within : ℕ → List Receipt → Type 0
Within n [] = Unit {0}
Within n (r ∷ rs) = (position_of r < n) × Within n rs

position_is : (n : ℕ) (e : Event resources) → position_of (receipt_for n e) ≡ n
position_is n (event.Call by q r) = refl
position_is n (event.Grant c) = refl
position_is n (event.Reserve v) = refl

within_if : (b : Bool) (n k : ℕ) (e : Event resources) (rs : List Receipt) → k < n → Within n rs → Within n (if b then (receipt_for k e ∷ rs) else rs)
within_if true n k e rs l h = (rw (position_is k e) l, h)
within_if false n k e rs l h = h

receipts_within : (s k n : ℕ) (es : List Entry) → k + length es ≤ n → Within n (seat_entries s k es)
receipts_within s k n [] l = tt
receipts_within s k n (e ∷ es) l = within_if (e.seat == s) n k e.event (seat_entries s (suc k) es) (omega arith) (receipts_within s (suc k) n es (omega arith))

prefix_length : (xs ys : List Entry) → IsPrefix xs ys → length xs ≤ length ys
prefix_length xs ys p = omega (arith, sym (ap length p.1) ∙ length-append xs p.0)

ends : (log : List Entry) (n : ℕ) (ms : List Moment) → n ≤ length log → Within (length log) (receipts_in ms) → NotesBegin log ms → end_after n ms ≤ length log
ends log n [] l w b = l
ends log n (Entered r ∷ ms) l w b = ends log (suc (position_of r)) ms (omega (arith, w.0)) w.1 b
ends log n (Noted es a ∷ ms) l w b = ends log (length es) ms (prefix_length es log b.0) w b.1

pub fits_ends : (log : List Entry) (s : Sitting) → Fits log s → end_after 0 s.past ≤ length log
fits_ends log s h = ends log 0 s.past (omega arith) (subst (λ (rs : List Receipt). Within (length log) rs) h.receipts (receipts_within s.seat 0 (length log) log (omega arith))) h.notes

-- a seat that fits a journal that is not full has met no full one
pub met_less : (log : List Entry) (s x : Sitting) (limit : ℕ) → Fits log s → s ≡ x → length log < limit → end_after 0 x.past < limit
met_less log s x limit h is less = subst (λ (y : Sitting). end_after 0 y.past < limit) is (let e = fits_ends log s h in omega arith)

NotesHold-told : (o : Flat resources) (limit : ℕ) (ms : List Moment) (r : Receipt) → NotesHold o limit ms → NotesHold o limit (ms ++ Entered r ∷ [])
NotesHold-told o limit [] r h = tt
NotesHold-told o limit (Entered q ∷ ms) r h = NotesHold-told o limit ms r h
NotesHold-told o limit (Noted es a ∷ ms) r h = (h.0, h.1, NotesHold-told o limit ms r h.2)

NotesHold-noted : (o : Flat resources) (limit : ℕ) (ms : List Moment) (es : List Entry) (cluster : Flat resources) (a : NotedAnswer) → NotesHold o limit ms → Replays o es cluster → NoteHolds limit es cluster a → NotesHold o limit (ms ++ Noted es a ∷ [])
NotesHold-noted o limit [] es cluster a h run k =
    let at = state_is o cluster es run in
    (subst (λ (x : Flat resources). Replays o es x) at run, subst (λ (x : Flat resources). NoteHolds limit es x a) at k, tt)
NotesHold-noted o limit (Entered q ∷ ms) es cluster a h run k = NotesHold-noted o limit ms es cluster a h run k
NotesHold-noted o limit (Noted fs b ∷ ms) es cluster a h run k = (h.0, h.1, NotesHold-noted o limit ms es cluster a h.2 run k)

-- the seat after a receipt, and after a note
module _ (T : TableId) (o : Flat resources) (limit seats n : ℕ) (rs : List Receipt) (at : TableId) (me : Me Mark View) (h : IsSeat T o limit seats n rs at me) (log : List Entry) (f : Fits log (sitting_of me.0)) (at' : TableId) (same : at' ≡ at) where
  pub seat_told : (r : Receipt) (rs' : List Receipt) (me' : Me Mark View) → position_of r ≡ length log → rs' ≡ rs ++ r ∷ [] → me' ≡ (sitter (sitting (sitting_of me.0).seat ((sitting_of me.0).past ++ Entered r ∷ [])), [])
      → IsSeat T o limit seats n rs' at' me'
  seat_told r rs' me' p rs_is me_is =
      let past = (sitting_of me.0).past in
      let e = fits_ends log (sitting_of me.0) f in
      let new : IsSeat T o limit seats n rs' at' (sitter (sitting (sitting_of me.0).seat (past ++ Entered r ∷ [])), []) = record {
        same = same ∙ h.same;
        sits = refl;
        number_is = h.number_is;
        below = h.below;
        receipts_are = rs_is ∙ ap (λ xs. xs ++ r ∷ []) h.receipts_are ∙ sym (receipts_in-told past r);
        rises = Rises-push 0 past (Entered r) h.rises (rw p e);
        notes = NotesHold-told o limit past r h.notes;
      } in
      subst (λ (m : Me Mark View). IsSeat T o limit seats n rs' at' m) (sym me_is) new

  pub seat_noted : (cluster : Flat resources) (a : NotedAnswer) (rs' : List Receipt) (me' : Me Mark View) → rs' ≡ rs → Replays o log cluster → NoteHolds limit log cluster a → me' ≡ (sitter (sitting (sitting_of me.0).seat ((sitting_of me.0).past ++ Noted log a ∷ [])), [])
      → IsSeat T o limit seats n rs' at' me'
  seat_noted cluster a rs' me' rs_is run k me_is =
      let past = (sitting_of me.0).past in
      let e = fits_ends log (sitting_of me.0) f in
      let new : IsSeat T o limit seats n rs' at' (sitter (sitting (sitting_of me.0).seat (past ++ Noted log a ∷ [])), []) = record {
        same = same ∙ h.same;
        sits = refl;
        number_is = h.number_is;
        below = h.below;
        receipts_are = rs_is ∙ h.receipts_are ∙ sym (receipts_in-noted past log a);
        rises = Rises-push 0 past (Noted log a) h.rises e;
        notes = NotesHold-noted o limit past log cluster a h.notes run k;
      } in
      subst (λ (m : Me Mark View). IsSeat T o limit seats n rs' at' m) (sym me_is) new

-- the desk after an entry
pub desk_entered : (T : TableId) (o : Flat resources) (limit seats : ℕ) (s t : Flat resources) (log log' : List Entry) (at at' : TableId) (me me' : Me Mark View) (bound room room' : ℕ) (e : Entry)
    → IsDesk T o limit seats s log at me bound room → Step s e.event t → (e.seat < seats) × IsBy e.seat e.event → length log < bound → log' ≡ log ++ e ∷ [] → at' ≡ at → me' ≡ (keeper log', []) → room' ≡ room
    → IsDesk T o limit seats t log' at' me' bound room'
desk_entered T o limit seats s t log log' at at' me me' bound room room' e h step below less log_is same me_is room_is =
    record {
      same = same ∙ h.same;
      keeps = me_is;
      run = rw log_is (Replays-push o s t log e h.run step);
      tags = rw log_is (TagsBelow-push seats log e h.tags below);
      limit_is = h.limit_is;
      fits = omega (arith, ap length log_is ∙ length-append log (e ∷ []));
      room_is = omega arith;
    }

-- the same from what was added under the lock
module _ (T : TableId) (o : Flat resources) (limit seats : ℕ) (log : List Entry) (d d' s s' : Pass) where
  pub noted_seat : (n : ℕ) (rs rs' : List Receipt) (cluster : Flat resources) (a : NotedAnswer) → IsSeat T o limit seats n rs s.table_id s.me → IsNoted log a d d' s s' → rs' ≡ rs → Replays o log cluster → NoteHolds limit log cluster a → IsSeat T o limit seats n rs' s'.table_id s'.me
  noted_seat n rs rs' cluster a h m same run holds = seat_noted T o limit seats n rs s.table_id s.me h log m.fits s'.table_id m.seat_table cluster a rs' s'.me same run holds m.sits

  pub entered_seat : (n : ℕ) (rs rs' : List Receipt) (e : Entry) (r : Receipt) → IsSeat T o limit seats n rs s.table_id s.me → IsEntered log e r d d' s s' → position_of r ≡ length log → rs' ≡ rs ++ r ∷ [] → IsSeat T o limit seats n rs' s'.table_id s'.me
  entered_seat n rs rs' e r h m at more = seat_told T o limit seats n rs s.table_id s.me h log m.fits s'.table_id m.seat_table r rs' s'.me at more m.sits

  pub entered_desk : (old new : Flat resources) (bound room room' : ℕ) (e : Entry) (r : Receipt) (log' : List Entry) → IsDesk T o limit seats old log d.table_id d.me bound room → IsEntered log e r d d' s s' → Step old e.event new
      → (e.seat < seats) × IsBy e.seat e.event → length log < bound → log' ≡ log ++ e ∷ [] → room' ≡ room → IsDesk T o limit seats new log' d'.table_id d'.me bound room'
  entered_desk old new bound room room' e r log' h m step below less log_is room_is =
      desk_entered T o limit seats old new log log' d.table_id d'.table_id d.me d'.me bound room room' e h step below less log_is m.desk_table (m.keeps ∙ ap (λ (l : List Entry). (keeper l, [])) (sym log_is)) room_is

-- a seat that was answered nothing
pub seat_fresh : (T : TableId) (o : Flat resources) (limit seats n : ℕ) (rs : List Receipt) (at : TableId) (me : Me Mark View) → at ≡ T → me ≡ (sitter (sitting n []), []) → n < seats → rs ≡ [] → IsSeat T o limit seats n rs at me
seat_fresh T o limit seats n rs at me same me_is below none =
    subst (λ (m : Me Mark View). IsSeat T o limit seats n rs at m) (sym me_is)
    (record { same = same; sits = refl; number_is = refl; below = below; receipts_are = none; rises = tt; notes = tt })

pub honest-push : (o : Flat resources) (limit : ℕ) (ss : List Sitting) (s : Sitting) → AllHonest o limit ss → Rises 0 s.past → NotesHold o limit s.past → AllHonest o limit (ss ++ s ∷ [])
honest-push o limit [] s h r n = ((r, n), tt)
honest-push o limit (t ∷ ss) s h r n = (h.0, honest-push o limit ss s h.1 r n)
