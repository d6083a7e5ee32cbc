-- Which commands a line can be.
use Rattle.cap_replay.proofs.Prelude.{◌≡◌, ℕ, Bool, true, false, cond, eqb, List, [], ◌∷◌, ◌++◌, refl, sym, ap, ◌∙◌, subst, arith, inl, inr, length, get_or, take, drop, take-append-drop, Option, None, Some, pointwise, same_text, nat_eq, ◌||◌, IfSome, IfNone, IsSome, take-append_seam, append_cancel_left, list_all, and_parts, eq-eqb, nat_tests, is_digit, lacks, IsCut, one_cut, number_digits, Command, Nothing, Conf, Open, Bytes, End, Copy, Propose, Commit, IsNumber, IsCommand, IsPiece, IsOpeningLine, IsLaterLine, IsStep, MayOpen, IsStepOrComment, MayStep}
use denote.Ref.{Bor}

-- digits have no blank
digits_no_blank : (digits : List ℕ) → list_all is_digit digits ≡ true → lacks 32 digits ≡ true
digits_no_blank [] h = refl
digits_no_blank (d ∷ digits) h =
    let both = and_parts (is_digit d) (list_all is_digit digits) h in
    let one : eqb d 32 ≡ false = (let here = both.0 in grind (arith, nat_tests, here)) in
    rw (one, digits_no_blank digits both.1) refl

number_no_blank : (digits : List ℕ) (n : ℕ) → IsNumber digits n → lacks 32 digits ≡ true
number_no_blank digits n is = digits_no_blank digits (number_digits 10 digits n is.spelled)

-- what a line asks for shows in its first byte, where that begins a comment, and else in its third
abbrev kind_of : List ℕ → ℕ
kind_of [] = 0
kind_of (b ∷ line) = cond (eqb b 35) 0 (get_or line 1 0)

abbrev kind : Command → ℕ
kind Nothing = 0
kind (Conf property) = 110
kind (Open n) = 101
kind (End n) = 100
kind (Bytes n piece) = 116
kind (Copy w) = 112
kind (Propose w start) = 111
kind (Commit w) = 109

its_kind : (line : List ℕ) (command : Command) → IsCommand line command → kind_of line ≡ kind command
its_kind line Nothing (inl empty) = ap kind_of empty
its_kind line Nothing (inr comment) = ap kind_of comment.1
its_kind line (Conf property) is = ap kind_of is
its_kind line (Open n) is = ap kind_of is.1
its_kind line (End n) is = ap kind_of is.1
its_kind line (Bytes n piece) is = ap kind_of is.1
its_kind line (Copy w) is = ap kind_of is.1
its_kind line (Propose w start) is = ap kind_of is.2
its_kind line (Commit w) is = ap kind_of is.1

one_kind : (line : List ℕ) (command other : Command) → IsCommand line command → IsCommand line other → kind command ≡ kind other
one_kind line command other is has = sym (its_kind line command is) ∙ its_kind line other has

-- two cuts at the first blank of what is brought are one
one_piece : (line digits piece : List ℕ) (m : ℕ) (brought : Bor (List ℕ)) → line ≡ 98 ∷ 121 ∷ 116 ∷ 101 ∷ 115 ∷ 32 ∷ (digits ++ 32 ∷ piece) → lacks 32 digits ≡ true → (has : IsCommand line (Bytes m brought)) →
    (digits ≡ has.0) × (piece ≡ brought.now)
one_piece line digits piece m brought starts first has =
    let same : digits ++ 32 ∷ piece ≡ has.0 ++ 32 ∷ brought.now = ap (drop 6) (sym starts ∙ has.1) in
    one_cut 32 (digits ++ 32 ∷ piece) digits piece has.0 brought.now (record { whole = refl; first = first }) (record { whole = same; first = number_no_blank has.0 m has.2 })

-- where no number stands before the first blank of what is brought, the line asks for nothing
pub no_command : (line left number piece : List ℕ) → line ≡ 98 ∷ 121 ∷ 116 ∷ 101 ∷ 115 ∷ 32 ∷ left → IsCut 32 left number piece → ((n : ℕ) → IsNumber number n → false ≡ true) → (command : Command) → IsCommand line command → false ≡ true
no_command line left number piece starts cut none (Bytes n brought) is =
    let whole = starts ∙ ap (λ x. 98 ∷ 121 ∷ 116 ∷ 101 ∷ 115 ∷ 32 ∷ x) cut.whole in
    none n (subst (λ (d : List ℕ). IsNumber d n) (sym (one_piece line number piece n brought whole cut.first is).0) is.2)
no_command line left number piece starts cut none command is = absurd (omega (arith, ap kind_of starts, its_kind line command is))

-- where no two numbers stand round the first blank of what is proposed, the line asks for nothing
pub no_proposal : (line left worker start : List ℕ) → line ≡ 112 ∷ 114 ∷ 111 ∷ 112 ∷ 111 ∷ 115 ∷ 101 ∷ 32 ∷ left → IsCut 32 left worker start → ((w s : ℕ) → IsNumber worker w → IsNumber start s → false ≡ true) → (command : Command) → IsCommand line command → false ≡ true
no_proposal line left worker start starts cut none (Propose w s) is =
    let same : worker ++ 32 ∷ start ≡ is.0 ++ 32 ∷ is.1 = sym cut.whole ∙ ap (drop 8) (sym starts ∙ is.2) in
    let one = one_cut 32 (worker ++ 32 ∷ start) worker start is.0 is.1 (record { whole = refl; first = cut.first }) (record { whole = same; first = number_no_blank is.0 w is.3 }) in
    none w s (subst (λ (d : List ℕ). IsNumber d w) (sym one.0) is.3) (subst (λ (d : List ℕ). IsNumber d s) (sym one.1) is.4)
no_proposal line left worker start starts cut none command is = absurd (omega (arith, ap kind_of starts, its_kind line command is))

-- a line that begins so
pub begins_so : (line left prefix : List ℕ) → pointwise nat_eq (take (length prefix) line) prefix ≡ true → left ≡ drop (length prefix) line → line ≡ prefix ++ left
begins_so line left prefix same e = sym (take-append-drop (length prefix) line) ∙ ap (λ (x : List ℕ). x ++ drop (length prefix) line) (same_text (take (length prefix) line) prefix (sym same)) ∙ ap (λ (x : List ℕ). prefix ++ x) (sym e)

-- the commands that may open a script
abbrev opens : ℕ → Bool
opens n = eqb n 0 || eqb n 110

may_open : (command : Command) → MayOpen command → opens (kind command) ≡ true
may_open Nothing may = refl
may_open (Conf property) may = refl
may_open (Open n) may = absurd may
may_open (End n) may = absurd may
may_open (Bytes n piece) may = absurd may
may_open (Copy w) may = absurd may
may_open (Propose w start) may = absurd may
may_open (Commit w) may = absurd may

no_opening_by : (line : List ℕ) (command : Command) → IsCommand line command → opens (kind command) ≡ false → IsOpeningLine line → ⊥
no_opening_by line command is other opening =
    absurd (cc (other, may_open opening.0 opening.2, ap opens (one_kind line command opening.0 is opening.1)))

may_step : (command : Command) → MayStep command → opens (kind command) ≡ false
may_step Nothing may = absurd may
may_step (Conf property) may = absurd may
may_step (Open n) may = refl
may_step (End n) may = refl
may_step (Bytes n piece) may = refl
may_step (Copy w) may = refl
may_step (Propose w start) may = refl
may_step (Commit w) may = refl

-- a step is no opening line
pub step_never_opens : (line : List ℕ) → IsStep line → IsOpeningLine line → ⊥
step_never_opens line step = no_opening_by line step.0 step.1 (may_step step.0 step.2)

-- a line whose piece is none
pub no_opening : (line : List ℕ) (n : ℕ) (piece : Bor (List ℕ)) → IsCommand line (Bytes n piece) → IsOpeningLine line → ⊥
no_opening line n piece is = no_opening_by line (Bytes n piece) is refl

follows_by : (line : List ℕ) (n : ℕ) (piece : Bor (List ℕ)) → IsCommand line (Bytes n piece) → (command : Command) → IsCommand line command → IsStepOrComment command → IsPiece piece.now
follows_by line n piece is (Bytes m brought) has may =
    subst IsPiece (sym (one_piece line is.0 piece.now m brought is.1 (number_no_blank is.0 n is.2) has).1) may
follows_by line n piece is command has may = absurd (omega (arith, one_kind line (Bytes n piece) command is has))

pub no_later : (line : List ℕ) (n : ℕ) (piece : Bor (List ℕ)) → IsCommand line (Bytes n piece) → (IsPiece piece.now → ⊥) → IsLaterLine line → ⊥
no_later line n piece is bad later = bad (follows_by line n piece is later.0 later.1 later.2)

-- a property line is no later line
no_conf : (line : List ℕ) (property : Bor (List ℕ)) → IsCommand line (Conf property) → (command : Command) → IsCommand line command → IsStepOrComment command → ⊥
no_conf line property is (Conf given) has may = may
no_conf line property is command has may = absurd (omega (arith, one_kind line (Conf property) command is has))

pub no_later_conf : (line : List ℕ) (property : Bor (List ℕ)) → IsCommand line (Conf property) → IsLaterLine line → ⊥
no_later_conf line property is later = no_conf line property is later.0 later.1 later.2

-- the number after a beginning of the line
pub number_there : (r : Option ℕ) (line beginning left : List ℕ) → line ≡ beginning ++ left → IfSome r (λ n. IsNumber left n) → IfSome r (λ n. (digits : List ℕ) × (line ≡ beginning ++ digits) × IsNumber digits n)
number_there None line beginning left starts is = tt
number_there (Some n) line beginning left starts is = (left, starts, is)

pub no_number_there : (r : Option ℕ) (line beginning left : List ℕ) → line ≡ beginning ++ left → ((n : ℕ) → IsNumber left n → IsSome r) → IfNone r ((digits : List ℕ) (n : ℕ) → line ≡ beginning ++ digits → IsNumber digits n → ⊥)
no_number_there (Some n) line beginning left starts only = tt
no_number_there None line beginning left starts only = λ digits n e is.
    let same : digits ≡ left = append_cancel_left beginning digits left (sym e ∙ starts) in
    absurd (cc (only n (subst (λ (d : List ℕ). IsNumber d n) same is)))

same_pointwise : (bytes : List ℕ) → pointwise nat_eq bytes bytes ≡ true
same_pointwise [] = refl
same_pointwise (b ∷ bytes) = rw (eq-eqb b b refl, same_pointwise bytes) refl

-- a line that begins otherwise
pub begins_otherwise : (line beginning left : List ℕ) → pointwise nat_eq (take (length beginning) line) beginning ≡ false → line ≡ beginning ++ left → ⊥
begins_otherwise line beginning left other e =
    let front : take (length beginning) line ≡ beginning = ap (take (length beginning)) e ∙ take-append_seam beginning left in
    let both : pointwise nat_eq beginning beginning ≡ false = ap (λ (x : List ℕ). pointwise nat_eq x beginning) (sym front) ∙ other in
    absurd (cc (both, same_pointwise beginning))

-- where a line is what its form was read from
pub found_so : (r : Option Command) (line whole : List ℕ) → line ≡ whole → IfSome r (λ command. IsCommand whole command) → IfSome r (λ command. IsCommand line command)
found_so r line whole starts found = subst (λ (x : List ℕ). IfSome r (λ command. IsCommand x command)) (sym starts) found
