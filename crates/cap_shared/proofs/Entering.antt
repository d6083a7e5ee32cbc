-- What a call and a proposal come to, as events and receipts.
use Rattle.cap_shared.proofs.Prelude.{◌≡◌, ℕ, Bool, true, if◌then◌else◌, step_is_determined, [], ◌∷◌, ◌++◌, ◌-◌, List, Some, length, length-append, slice_get, arith, refl, ap, sym, ◌∙◌, subst, Me, resources, Flat, Reply, Step, Replies, Event, Request, Receipt, Mark, Moment, Sitting, View, Made, HasMore, receipt_for, receipts_in, IsBy, event_of_made, Pass, sitter, sitting, sitting_of}
use Rattle.cap_model.specs.declared.event.Event.TheVariants as event
use Rattle.cap_model.specs.Events.{is_no_memory}
use Rattle.cap_model.specs.Replies.{after_request}
use Rattle.cap_copy.proofs.Ranging.{last_at}
use Rattle.cap_shared.specs.Calls.{CallsOk}
use Rattle.cap_shared.specs.declared.entry.Receipt.TheVariants as receipt
use Rattle.cap_commit.specs.declared.made.Made.TheVariants as made
use Rattle.cap_shared.proofs.Lists.{receipts_in-told}

pub call_step : (old new : Flat resources) (by : ℕ) (request q : Request resources) (reply r : Reply resources) → Replies old request reply new → q ≡ request → r ≡ reply → Step old (event.Call by q r) new
call_step old new by request q reply r is same_q same_r = subst (λ (x : Event resources). Step old x new) (sym (ap (λ (x : Request resources). event.Call by x r) same_q ∙ ap (λ (x : Reply resources). event.Call by request x) same_r)) is

-- a call that no memory was found for leaves the cluster as it was
pub unchanged : (old new : Flat resources) (request : Request resources) (reply : Reply resources) → Replies old request reply new → is_no_memory reply ≡ true → new ≡ old
unchanged old new request reply is none = step_is_determined resources old new (event.Call 0 request reply) is ∙ ap (λ (b : Bool). if b then old else (after_request old request)) none

made_by : (n : ℕ) (m : Made resources) → IsBy n (event_of_made m)
made_by n (made.Grant c) = tt
made_by n (made.Reserve r) = tt

pub event_by : (n : ℕ) (m : Made resources) (e : Event resources) → e ≡ event_of_made m → IsBy n e
event_by n m e is = subst (λ (x : Event resources). IsBy n x) (sym is) (made_by n m)

made_receipt : (n : ℕ) (m : Made resources) → receipt_for n (event_of_made m) ≡ receipt.Commit n (event_of_made m)
made_receipt n (made.Grant c) = refl
made_receipt n (made.Reserve r) = refl

pub event_receipt : (n : ℕ) (m : Made resources) (e f : Event resources) → e ≡ event_of_made m → f ≡ event_of_made m → receipt.Commit n f ≡ receipt_for n e
event_receipt n m e f e_is f_is = ap (λ (x : Event resources). receipt.Commit n x) f_is ∙ sym (made_receipt n m) ∙ ap (λ (x : Event resources). receipt_for n x) (sym e_is)

-- the last receipt of a seat whose call was answered is that of the call
pub last_called : (request : Request resources) (old new : Sitting) (rs : List Receipt) (r : Reply resources) (ok : CallsOk request old new r) → rs ≡ receipts_in new.past → slice_get rs (length rs - 1) ≡ Some (receipt.Call ok.1.0 request r)
last_called request old new rs r ok are =
    let before = receipts_in old.past in
    let last = receipt.Call ok.1.0 request r in
    let now : rs ≡ before ++ last ∷ [] = are ∙ ap (λ (s : Sitting). receipts_in s.past) ok.1.1 ∙ receipts_in-told old.past last in
    let end : length rs - 1 ≡ length before = omega (arith, ap (λ (l : List Receipt). length l) now, length-append before (last ∷ [])) in
    ap (λ (i : ℕ). slice_get rs i) end ∙ ap (λ (l : List Receipt). slice_get l (length before)) now ∙ last_at before last

-- and its reply is that of the call
pub last_reply : (request : Request resources) (old new : Sitting) (rs : List Receipt) (r : Reply resources) (ok : CallsOk request old new r) → rs ≡ receipts_in new.past → (seen : Receipt) (at : ℕ) (q : Request resources) (p : Reply resources) → Some seen ≡ slice_get rs (length rs - 1) → seen ≡ receipt.Call at q p → p ≡ r
last_reply request old new rs r ok are seen at q p value is = let last = last_called request old new rs r ok are in cc

-- the sitting of a pass, with one moment more
pub one_more : (s s' : Pass) (x : Sitting) (m n : Moment) → sitting_of s.me.0 ≡ x → s'.me ≡ (sitter (sitting (sitting_of s.me.0).seat ((sitting_of s.me.0).past ++ m ∷ [])), []) → m ≡ n → HasMore x (sitting_of s'.me.0) (n ∷ [])
one_more s s' x m n is me same = ap (λ (me : Me Mark View). sitting_of me.0) me ∙ ap (λ (y : Sitting). sitting y.seat (y.past ++ m ∷ [])) is ∙ ap (λ (k : Moment). sitting x.seat (x.past ++ k ∷ [])) same
