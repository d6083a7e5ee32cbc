-- The line of an epoch or of an entry, and what alone comes of it.
use Rattle.cap_model.specs.declared.event.Event.TheVariants as event
use Rattle.cap_audit.proofs.Prelude.{◌≡◌, ◌<◌, ◌^◌, ℕ, List, [], ◌∷◌, ◌++◌, take, drop, length, true, false, inl, inr, refl, sym, ap, ◌∙◌, subst, append-nil, resources, pointwise, nat_eq, codes, decimal, encode_lower, same_text, take-append-drop, Reply, Request, Replies, RepliesAlways, is_no_memory, after_request, reply_to, NodeProposal, IsOf, Step, Flat, Event, Container, Reservation, grant_proposal, reserve_proposal, kind_of, reply_bytes, request_bytes, blanked, head, call_words, closed_words, epoch_words, event_words, grant_words, reserve_words, Closes, Enters, FitsCall, FitsProposal, IsLineOf, IsNoWay, IsOnlyWay, Makes, MakesNone, MakesOnly, Opens, Passes, IsCallText, proposal_numbers, Place}
use Rattle.cap_audit.proofs.Onwards.{differ}

-- ---- what a line begins with

abbrev pub epoch_word : List ℕ
epoch_word = 101 ∷ 112 ∷ 111 ∷ 99 ∷ 104 ∷ 32 ∷ []

abbrev pub closed_word : List ℕ
closed_word = 99 ∷ 108 ∷ 111 ∷ 115 ∷ 101 ∷ 100 ∷ 32 ∷ []

abbrev pub call_word : List ℕ
call_word = 99 ∷ 97 ∷ 108 ∷ 108 ∷ 32 ∷ []

abbrev pub grant_word : List ℕ
grant_word = 103 ∷ 114 ∷ 97 ∷ 110 ∷ 116 ∷ []

abbrev pub reserve_word : List ℕ
reserve_word = 114 ∷ 101 ∷ 115 ∷ 101 ∷ 114 ∷ 118 ∷ 101 ∷ []

-- a line that begins with the word, and one that doesn't
pub word_first : (line word : List ℕ) → pointwise nat_eq word (take (length word) line) ≡ true → line ≡ word ++ drop (length word) line
word_first line word same =
    sym (take-append-drop (length word) line) ∙ ap (λ (x : List ℕ). x ++ drop (length word) line) (sym (same_text word (take (length word) line) (sym same)))

opens_so : (line : List ℕ) (p q : Place) → Opens line p q → pointwise nat_eq epoch_word (take 6 line) ≡ true
opens_so line p q opens = ap (λ (l : List ℕ). pointwise nat_eq epoch_word (take 6 l)) opens.line_is

closes_so : (line : List ℕ) (p q : Place) → Closes line p q → pointwise nat_eq closed_word (take 7 line) ≡ true
closes_so line p q closes = ap (λ (l : List ℕ). pointwise nat_eq closed_word (take 7 l)) closes.line_is

-- the line of an epoch's beginning or end is no entry's
not_closed : (line rest : List ℕ) (p q : Place) → line ≡ epoch_word ++ rest → Closes line p q → ⊥
not_closed line rest p q is closes = differ 0 line (epoch_word ++ rest) (closed_words _) is closes.line_is refl

no_entry_opens : (line rest : List ℕ) (e : Event resources) → line ≡ epoch_word ++ rest → line ≡ event_words e → ⊥
no_entry_opens line rest (event.Call by request reply) is spelled = differ 0 line (epoch_word ++ rest) (call_words by request reply) is spelled refl
no_entry_opens line rest (event.Grant c) is spelled = differ 0 line (epoch_word ++ rest) (grant_words c) is spelled refl
no_entry_opens line rest (event.Reserve r) is spelled = differ 0 line (epoch_word ++ rest) (reserve_words r) is spelled refl

not_opened : (line rest : List ℕ) (p q : Place) → line ≡ closed_word ++ rest → Opens line p q → ⊥
not_opened line rest p q is opens = differ 0 line (closed_word ++ rest) (epoch_words _) is opens.line_is refl

no_entry_closes : (line rest : List ℕ) (e : Event resources) → line ≡ closed_word ++ rest → line ≡ event_words e → ⊥
no_entry_closes line rest (event.Call by request reply) is spelled = differ 1 line (closed_word ++ rest) (call_words by request reply) is spelled refl
no_entry_closes line rest (event.Grant c) is spelled = differ 0 line (closed_word ++ rest) (grant_words c) is spelled refl
no_entry_closes line rest (event.Reserve r) is spelled = differ 0 line (closed_word ++ rest) (reserve_words r) is spelled refl

-- ---- an epoch begins or ends

pub epoch_alone : (line rest : List ℕ) (p q : Place) (a : Flat resources) → line ≡ epoch_word ++ rest → Opens line p q → IsOnlyWay line p q a a
epoch_alone line rest p q a is opens = λ next after plays.
    elim plays [
      | inl x ↦
          elim x.0 [
            | inl again ↦ (again.now ∙ sym opens.now, x.1)
            | inr closes ↦ absurd (not_closed line rest p next is closes)
          ]
      | inr x ↦ absurd (no_entry_opens line rest x.1.0 is x.1.1.line_is)
    ]

pub epoch_never : (line rest : List ℕ) (p : Place) (a : Flat resources) → line ≡ epoch_word ++ rest → ((next : Place) → Opens line p next → ⊥) → IsNoWay line p a
epoch_never line rest p a is none = λ next after plays.
    elim plays [
      | inl x ↦
          elim x.0 [
            | inl opens ↦ none next opens
            | inr closes ↦ not_closed line rest p next is closes
          ]
      | inr x ↦ no_entry_opens line rest x.1.0 is x.1.1.line_is
    ]

pub close_alone : (line rest : List ℕ) (p q : Place) (a : Flat resources) → line ≡ closed_word ++ rest → Closes line p q → IsOnlyWay line p q a a
close_alone line rest p q a is closes = λ next after plays.
    elim plays [
      | inl x ↦
          elim x.0 [
            | inl opens ↦ absurd (not_opened line rest p next is opens)
            | inr again ↦ (again.now ∙ sym closes.now, x.1)
          ]
      | inr x ↦ absurd (no_entry_closes line rest x.1.0 is x.1.1.line_is)
    ]

pub close_never : (line rest : List ℕ) (p : Place) (a : Flat resources) → line ≡ closed_word ++ rest → ((next : Place) → Closes line p next → ⊥) → IsNoWay line p a
close_never line rest p a is none = λ next after plays.
    elim plays [
      | inl x ↦
          elim x.0 [
            | inl opens ↦ not_opened line rest p next is opens
            | inr closes ↦ none next closes
          ]
      | inr x ↦ no_entry_closes line rest x.1.0 is x.1.1.line_is
    ]

-- ---- an entry

pub record BeginsNoEpoch (line : List ℕ) : Type 0 where
  pub no_opening : pointwise nat_eq epoch_word (take 6 line) ≡ false
  pub no_closing : pointwise nat_eq closed_word (take 7 line) ≡ false

no_passing : (line : List ℕ) (p q : Place) → BeginsNoEpoch line → Passes line p q → ⊥
no_passing line p q none passes =
    elim passes [
      | inl opens ↦ cc (opens_so line p q opens, none.no_opening)
      | inr closes ↦ cc (closes_so line p q closes, none.no_closing)
    ]

pub entry_alone : (line : List ℕ) (p q : Place) (a b : Flat resources) → BeginsNoEpoch line → Enters p q → MakesOnly line a b → IsOnlyWay line p q a b
entry_alone line p q a b none enters only = λ next after plays.
    elim plays [
      | inl x ↦ absurd (no_passing line p next none x.0)
      | inr x ↦ (x.0.now ∙ sym enters.now, only after x.1)
    ]

pub entry_never : (line : List ℕ) (p : Place) (a : Flat resources) → BeginsNoEpoch line → MakesNone line a → IsNoWay line p a
entry_never line p a none never = λ next after plays.
    elim plays [
      | inl x ↦ no_passing line p next none x.0
      | inr x ↦ never after x.1
    ]

pub outside_never : (line : List ℕ) (p : Place) (a : Flat resources) → BeginsNoEpoch line → p.inside ≡ false → IsNoWay line p a
outside_never line p a none outside = λ next after plays.
    elim plays [
      | inl x ↦ no_passing line p next none x.0
      | inr x ↦ cc (x.0.inside, outside)
    ]

-- ---- calls

-- the event of a call's line
pub record CallOf (rest : List ℕ) (e : Event resources) : Type 0 where
  pub by : ℕ
  pub request : Request resources
  pub reply : Reply resources
  pub event_is : e ≡ event.Call by request reply
  pub text : IsCallText rest by request
  pub fits : FitsCall by request reply

pub call_of : (line rest : List ℕ) (e : Event resources) → line ≡ codes "call " ++ rest → IsLineOf line e → CallOf rest e
call_of line rest (event.Call by request reply) is of = record {
  by = by;
  request = request;
  reply = reply;
  event_is = refl;
  text = record {
    by_fits = of.fits.by_fits;
    request_fits = of.fits.request_fits;
    reply = encode_lower (reply_bytes head (kind_of request) reply);
    text_is = ap (drop 5) (sym is ∙ of.line_is) ∙ ap (λ (d : List ℕ). d ++ 32 ∷ encode_lower (request_bytes head request) ++ 32 ∷ encode_lower (reply_bytes head (kind_of request) reply)) (append-nil (decimal by));
  };
  fits = of.fits;
}
call_of line rest (event.Grant c) is of = absurd (differ 0 line (codes "call " ++ rest) (grant_words c) is of.line_is refl)
call_of line rest (event.Reserve r) is of = absurd (differ 0 line (codes "call " ++ rest) (reserve_words r) is of.line_is refl)

-- the one call that a text spells
abbrev pub IsOnlyCall : List ℕ → ℕ → Request resources → Type 0
IsOnlyCall rest by request = (n : ℕ) (r : Request resources) → IsCallText rest n r → (by ≡ n) × (request ≡ r)

always : (old : Flat resources) (request : Request resources) (reply : Reply resources) (new : Flat resources) → Replies old request reply new → is_no_memory reply ≡ false → RepliesAlways old request reply new
always old request reply new replies answered =
    elim replies [
      | inl is ↦ is
      | inr lacks ↦
          let none : is_no_memory reply ≡ true = ap is_no_memory lacks.0.reply_is in
          absurd (cc (none, answered))
    ]

-- a call that was made, and the event of the line
pub record IsSame (line : List ℕ) (new after : Flat resources) (by : ℕ) (request : Request resources) (reply : Reply resources) : Type 0 where
  pub cluster : after ≡ new
  pub line_is : line ≡ call_words by request reply

same_call : (line : List ℕ) (old new after : Flat resources) (by n : ℕ) (request r : Request resources) (reply other : Reply resources) → by ≡ n → request ≡ r → RepliesAlways old request reply new → RepliesAlways old r other after → line ≡ call_words n r other → IsSame line new after by request reply
same_call line old new after by n request r reply other e f made said spelled =
    let requests = sym f in
    record {
      cluster = said.1 ∙ ap (λ (x : Request resources). after_request old x) requests ∙ sym made.1;
      line_is =
          spelled
          ∙ ap (λ (x : Reply resources). call_words n r x) (said.0 ∙ ap (λ (x : Request resources). reply_to old x) requests ∙ sym made.0)
          ∙ ap (λ (x : Request resources). call_words n x reply) requests
          ∙ ap (λ (x : ℕ). call_words x request reply) (sym e);
    }

pub call_again : (line rest : List ℕ) (old new after : Flat resources) (by : ℕ) (request : Request resources) (reply : Reply resources) → line ≡ codes "call " ++ rest → IsOnlyCall rest by request → Replies old request reply new → is_no_memory reply ≡ false → Makes line old after → IsSame line new after by request reply
call_again line rest old new after by request reply is only replies answered makes =
    let of = call_of line rest makes.0 is makes.1 in
    let same = only of.by of.request of.text in
    let step = subst (λ (e : Event resources). Step old e after) of.event_is makes.2 in
    same_call line old new after by of.by request of.request reply of.reply same.0 same.1
    (always old request reply new replies answered)
    (always old of.request of.reply after step of.fits.answered)
    (makes.1.line_is ∙ ap event_words of.event_is)

pub written : (before words spelled : List ℕ) → before ≡ [] → words ≡ before ++ spelled → words ≡ spelled
written before words spelled none put = put ∙ ap (λ (b : List ℕ). b ++ spelled) none

pub makes_call : (old new : Flat resources) (by : ℕ) (request : Request resources) (reply : Reply resources) (line before words : List ℕ) →
    Replies old request reply new → before ≡ [] → words ≡ before ++ call_words by request reply → line ≡ words → FitsCall by request reply → Makes line old new
makes_call old new by request reply line before words replies none put same fits = (
  event.Call by request reply,
  record { line_is = same ∙ put ∙ ap (λ (b : List ℕ). b ++ call_words by request reply) none; fits = fits },
  replies,
)

-- ---- grants and reservations

pub record GrantOf (rest : List ℕ) (e : Event resources) : Type 0 where
  pub container : Container
  pub event_is : e ≡ event.Grant container
  pub number_fits : container.number < 2 ^ 64
  pub fits : FitsProposal (grant_proposal container)
  pub text_is : rest ≡ blanked (container.number ∷ proposal_numbers (grant_proposal container))

pub grant_of : (line rest : List ℕ) (e : Event resources) → line ≡ codes "grant" ++ rest → IsLineOf line e → GrantOf rest e
grant_of line rest (event.Call by request reply) is of = absurd (differ 0 line (codes "grant" ++ rest) (call_words by request reply) is of.line_is refl)
grant_of line rest (event.Grant c) is of = record { container = c; event_is = refl; number_fits = of.fits.0; fits = of.fits.1; text_is = ap (drop 5) (sym is ∙ of.line_is) }
grant_of line rest (event.Reserve r) is of = absurd (differ 0 line (codes "grant" ++ rest) (reserve_words r) is of.line_is refl)

pub record ReserveOf (rest : List ℕ) (e : Event resources) : Type 0 where
  pub reservation : Reservation
  pub event_is : e ≡ event.Reserve reservation
  pub fits : FitsProposal (reserve_proposal reservation)
  pub text_is : rest ≡ blanked (proposal_numbers (reserve_proposal reservation))

pub reserve_of : (line rest : List ℕ) (e : Event resources) → line ≡ codes "reserve" ++ rest → IsLineOf line e → ReserveOf rest e
reserve_of line rest (event.Call by request reply) is of = absurd (differ 0 line (codes "reserve" ++ rest) (call_words by request reply) is of.line_is refl)
reserve_of line rest (event.Grant c) is of = absurd (differ 0 line (codes "reserve" ++ rest) (grant_words c) is of.line_is refl)
reserve_of line rest (event.Reserve r) is of = record { reservation = r; event_is = refl; fits = of.fits; text_is = ap (drop 7) (sym is ∙ of.line_is) }

-- an event that is of a proposal
pub of_grant : (q : NodeProposal) (e : Event resources) (c : Container) → e ≡ event.Grant c → grant_proposal c ≡ q → IsOf q e
of_grant q e c same is = subst (λ (x : Event resources). IsOf q x) (sym same) is

pub of_reserve : (q : NodeProposal) (e : Event resources) (r : Reservation) → e ≡ event.Reserve r → reserve_proposal r ≡ q → IsOf q e
of_reserve q e r same is = subst (λ (x : Event resources). IsOf q x) (sym same) is
