-- Scripts line by line.
use Rattle.cap_replay.proofs.Prelude.{◌≡◌, ◌⊎◌, ℕ, Ok, List, [], ◌∷◌, ◌++◌, refl, sym, ap, ◌∙◌, subst, inl, inr, Option, None, Some, All, fold, filter_map, append_assoc, append-nil, All-nil, All-cons, All-head, All-tail, All-push, All-same, filter_map-append, fold-append, ConfigFault, first_fault, Command, Nothing, Conf, Open, Bytes, End, Copy, Propose, Commit, IsCommand, IsOpeningLine, IsLaterLine, IsStep, IsScript, MayStep, IsStepOrComment, property_of, with_line, properties, settings_text, settings_fault, Step, Did, Known, start, StepOutcome, performs_more, Simulation, IsStepFor, IsStepOf, IsOpened, HasPlayed, IsWorldOf, HasPlayedAll, Begins, FailsToBegin, MakesStep, Performs, Stands, StopsAtStep}
use denote.Ref.{Bor}
use Rattle.cap_world.specs.declared.step.Step.TheVariants as steps
use Rattle.cap_replay.proofs.Commands.{step_never_opens}
use Rattle.cap_replay.proofs.Making.{bring_none, bring_no_more, bring_more}

-- the lines before a last line all open the script, or the last line stands behind the first step
last_line : (head body front : List (List ℕ)) (line : List ℕ) → front ++ line ∷ [] ≡ head ++ body → All IsOpeningLine head → All IsLaterLine body → (All IsOpeningLine front × IsOpeningLine line) ⊎ IsLaterLine line
last_line [] body front line cut opens steps = inr (of_last front line body cut steps)
  where
    of_last : (front : List (List ℕ)) (line : List ℕ) (body : List (List ℕ)) → front ++ line ∷ [] ≡ body → All IsLaterLine body → IsLaterLine line
    of_last front line body cut steps = last_of front line (All-same IsLaterLine (front ++ line ∷ []) body cut steps)
      where
        last_of : (front : List (List ℕ)) (line : List ℕ) → All IsLaterLine (front ++ line ∷ []) → IsLaterLine line
        last_of [] line all = All-head IsLaterLine line [] all
        last_of (x ∷ front) line all = last_of front line (All-tail IsLaterLine x (front ++ line ∷ []) all)
last_line (h ∷ head) body [] line cut opens steps =
    let is : line ≡ h = cc in
    inl (All-nil IsOpeningLine, subst IsOpeningLine (sym is) (All-head IsOpeningLine h head opens))
last_line (h ∷ head) body (f ∷ front) line cut opens steps =
    let first : f ≡ h = cc in
    let rest : front ++ line ∷ [] ≡ head ++ body = cc in
    with_first f front line (subst IsOpeningLine (sym first) (All-head IsOpeningLine h head opens)) (last_line head body front line rest (All-tail IsOpeningLine h head opens) steps)
  where
    with_first : (f : List ℕ) (front : List (List ℕ)) (line : List ℕ) → IsOpeningLine f → (All IsOpeningLine front × IsOpeningLine line) ⊎ IsLaterLine line → (All IsOpeningLine (f ∷ front) × IsOpeningLine line) ⊎ IsLaterLine line
    with_first f front line is (inl both) = inl (All-cons IsOpeningLine f front is both.0, both.1)
    with_first f front line is (inr later) = inr later

by_cases : {A B : Type 0} → A ⊎ B → (A → ⊥) → (B → ⊥) → ⊥
by_cases (inl a) f g = f a
by_cases (inr b) f g = g b

-- a line that is neither an opening line nor a later one
pub no_script : (done : List (List ℕ)) (line : List ℕ) → (IsOpeningLine line → ⊥) → (IsLaterLine line → ⊥) → IsScript (done ++ line ∷ []) → ⊥
no_script done line opens later script = by_cases (last_line script.front script.back done line script.cut script.opens script.steps) (λ both. opens both.1) later

-- a property line behind a step
pub no_script_conf : (done : List (List ℕ)) (line : List ℕ) → (All IsOpeningLine done → ⊥) → (IsLaterLine line → ⊥) → IsScript (done ++ line ∷ []) → ⊥
no_script_conf done line waits later script = by_cases (last_line script.front script.back done line script.cut script.opens script.steps) (λ both. waits both.0) later

last_opens : (done : List (List ℕ)) (line : List ℕ) → All IsOpeningLine (done ++ line ∷ []) → IsOpeningLine line
last_opens [] line all = All-head IsOpeningLine line [] all
last_opens (x ∷ done) line all = last_opens done line (All-tail IsOpeningLine x (done ++ line ∷ []) all)

first_open : (done : List (List ℕ)) (line : List ℕ) → All IsOpeningLine (done ++ line ∷ []) → All IsOpeningLine done
first_open [] line all = All-nil IsOpeningLine
first_open (x ∷ done) line all = All-cons IsOpeningLine x done (All-head IsOpeningLine x (done ++ line ∷ []) all) (first_open done line (All-tail IsOpeningLine x (done ++ line ∷ []) all))

-- a script of opening lines alone
opening : (script : List (List ℕ)) → All IsOpeningLine script → IsScript script
opening script all = record { front = script; back = []; cut = sym (append-nil script); opens = all; steps = All-nil IsLaterLine }

-- one more later line
later : (done : List (List ℕ)) (line : List ℕ) → IsScript done → IsLaterLine line → IsScript (done ++ line ∷ [])
later done line script is = record {
  front = script.front;
  back = script.back ++ line ∷ [];
  cut = ap (λ x. x ++ line ∷ []) script.cut ∙ append_assoc script.front script.back (line ∷ []);
  opens = script.opens;
  steps = All-push IsLaterLine script.back line script.steps is;
}

brings_nothing : (line : List ℕ) → (command : Command) → IsCommand line command → IsStepOrComment command → property_of line ≡ None
brings_nothing line Nothing (inl empty) may = rw empty refl
brings_nothing line Nothing (inr comment) may = rw (comment.1) refl
brings_nothing line (Conf property) is may = absurd may
brings_nothing line (Open n) is may = rw (is.1) refl
brings_nothing line (End n) is may = rw (is.1) refl
brings_nothing line (Bytes n piece) is may = rw (is.1) refl
brings_nothing line (Copy w) is may = rw (is.1) refl
brings_nothing line (Propose w start) is may = rw (is.2) refl
brings_nothing line (Commit w) is may = rw (is.1) refl

brings : (line property : List ℕ) → line ≡ 99 ∷ 111 ∷ 110 ∷ 102 ∷ 32 ∷ property → property_of line ≡ Some property
brings line property is = rw is refl

unchanged : (done : List (List ℕ)) (line : List ℕ) → property_of line ≡ None → properties (done ++ line ∷ []) ≡ properties done
unchanged done line none =
    ap (fold with_line None) (filter_map-append property_of done (line ∷ []))
    ∙ fold-append with_line None (filter_map property_of done) (filter_map property_of (line ∷ []))
    ∙ rw none refl

gains : (done : List (List ℕ)) (line property : List ℕ) → property_of line ≡ Some property → properties (done ++ line ∷ []) ≡ with_line (properties done) property
gains done line property some =
    ap (fold with_line None) (filter_map-append property_of done (line ∷ []))
    ∙ fold-append with_line None (filter_map property_of done) (filter_map property_of (line ∷ []))
    ∙ rw some refl

-- nothing was played
pub at_start : (s : Simulation) → s.settings ≡ None → s.world ≡ None → Stands [] s
at_start s none no_world = record {
  good = opening [] (All-nil IsOpeningLine);
  gathered = none;
  world = rw no_world (All-nil IsOpeningLine);
}

-- the same settings and the same steps after a line that brings neither
played_comment : (done : List (List ℕ)) (line : List ℕ) (world : Known) → IsCommand line Nothing → HasPlayed done world → HasPlayed (done ++ line ∷ []) world
played_comment done line world is played = record {
  opened = rw (unchanged done line (brings_nothing line Nothing is tt)) played.opened;
  steps = played.steps;
  brought = bring_no_more line (Nothing, is, tt) played.brought;
  made = played.made;
}

world_comment : (done : List (List ℕ)) (line : List ℕ) (world : Option Known) → IsCommand line Nothing → IsWorldOf done world → IsWorldOf (done ++ line ∷ []) world
world_comment done line None is all = All-push IsOpeningLine done line all (Nothing, is, tt)
world_comment done line (Some world) is both = (played_comment done line world is both.0, λ all. both.1 (first_open done line all))

-- one more empty line or comment
pub after_comment : (done : List (List ℕ)) (line : List ℕ) (s : Simulation) → Stands done s → IsCommand line Nothing → Stands (done ++ line ∷ []) s
after_comment done line s stands is = record {
  good = later done line stands.good (Nothing, is, tt);
  gathered = stands.gathered ∙ sym (unchanged done line (brings_nothing line Nothing is tt));
  world = world_comment done line s.world is stands.world;
}

-- only opening lines stand before the first step
waits : (done : List (List ℕ)) (s : Simulation) → Stands done s → s.world ≡ None → All IsOpeningLine done
waits done s stands none = rw none at stands.world

-- where a world stands there was a step
world_steps : (done : List (List ℕ)) (world : Option Known) → (world ≡ None → ⊥) → IsWorldOf done world → All IsOpeningLine done → ⊥
world_steps done None some is all = some refl
world_steps done (Some world) some is all = is.1 all

pub has_stepped : (done : List (List ℕ)) (s : Simulation) → Stands done s → (s.world ≡ None → ⊥) → All IsOpeningLine done → ⊥
has_stepped done s stands some all = world_steps done s.world some stands.world all

-- one more property line
pub after_property : (done : List (List ℕ)) (line : List ℕ) (property : Bor (List ℕ)) (old new : Simulation) → Stands done old → IsCommand line (Conf property) → old.world ≡ None → new.world ≡ old.world → new.settings ≡ with_line old.settings property.now → Stands (done ++ line ∷ []) new
after_property done line property old new stands is closed same added =
    let all = All-push IsOpeningLine done line (waits done old stands closed) (Conf property, is, tt) in
    record {
      good = opening (done ++ line ∷ []) all;
      gathered = added ∙ ap (λ x. with_line x property.now) stands.gathered ∙ sym (gains done line property.now (brings line property.now is));
      world = rw (same, closed) all;
    }

-- the step that a command asks for is one that may stand behind the settings
may_step : (command : Command) (step : Step) → IsStepFor command step → MayStep command
may_step Nothing step is = absurd is
may_step (Conf property) step is = absurd is
may_step (Open n) step is = tt
may_step (End n) step is = tt
may_step (Bytes n digits) (steps.Open m) is = absurd is
may_step (Bytes n digits) (steps.End m) is = absurd is
may_step (Bytes n digits) (steps.Bytes m piece) is = (is.1, rw is.2 refl)
may_step (Bytes n digits) (steps.Copy w) is = absurd is
may_step (Bytes n digits) (steps.Propose w start) is = absurd is
may_step (Bytes n digits) (steps.Commit w) is = absurd is
may_step (Copy w) step is = tt
may_step (Propose w start) step is = tt
may_step (Commit w) step is = tt

is_later : (line : List ℕ) (command : Command) → IsCommand line command → MayStep command → IsLaterLine line
is_later line Nothing is may = absurd may
is_later line (Conf property) is may = absurd may
is_later line (Open n) is may = (Open n, is, may)
is_later line (End n) is may = (End n, is, may)
is_later line (Bytes n piece) is may = (Bytes n piece, is, may)
is_later line (Copy w) is may = (Copy w, is, may)
is_later line (Propose w start) is may = (Propose w start, is, may)
is_later line (Commit w) is may = (Commit w, is, may)

-- the world of these lines, also where it was opened just now
played_in : (done : List (List ℕ)) (text : List ℕ) (was : Option Known) (now : Known) → text ≡ settings_text (properties done) → IsWorldOf done was → IsOpened text was now → HasPlayed done now
played_in done text None now same all opened = record {
  opened = rw same at opened.0;
  steps = [];
  brought = bring_none done all;
  made = (ap (λ (w : Known). w.sight) opened.1, ap (λ (w : Known). w.events) opened.1);
}
played_in done text (Some was) now same is opened = subst (λ (w : Known). HasPlayed done w) (sym opened) is.0

played_now : (done : List (List ℕ)) (s : Simulation) (now : Known) → Stands done s → IsOpened (settings_text s.settings) s.world now → HasPlayed done now
played_now done s now stands opened = played_in done (settings_text s.settings) s.world now (ap settings_text stands.gathered) stands.world opened

-- one more step of the world
played_step : (done : List (List ℕ)) (line : List ℕ) (step : Step) (did : Did) (mid now : Known) → property_of line ≡ None → IsStepOf line step → now.opening ≡ mid.opening → StepOutcome step (Ok did) mid.sight now.sight mid.events now.events → HasPlayed done mid → HasPlayed (done ++ line ∷ []) now
played_step done line step did mid now none is same made played = record {
  opened = rw (unchanged done line none, same) played.opened;
  steps = played.steps ++ step ∷ [];
  brought = bring_more line step is played.brought;
  made = rw same (performs_more played.steps step did (start mid.opening).sight mid.sight now.sight [] mid.events now.events played.made made);
}

pub after_step : (done : List (List ℕ)) (line : List ℕ) (command : Command) (old new : Simulation) → Stands done old → IsCommand line command → Performs command old new → Stands (done ++ line ∷ []) new
after_step done line command old new stands is performs =
    let a = performs.advances in
    let may = may_step command performs.step performs.asked in
    let late = is_later line command is may in
    let none = brings_nothing line late.0 late.1 late.2 in
    record {
      good = later done line stands.good late;
      gathered = a.same ∙ stands.gathered ∙ sym (unchanged done line none);
      world = rw a.stands (played_step done line performs.step performs.did a.mid a.now none (command, is, performs.asked) a.opening a.made (played_now done old a.mid stands a.opened), λ all. step_never_opens line (command, is, may) (last_opens done line all));
    }

-- the same by the step that was made
pub after_make : (done : List (List ℕ)) (line : List ℕ) (command : Command) (step : Step) (old new : Simulation) → Stands done old → IsCommand line command → IsStepFor command step → MakesStep step old new → Stands (done ++ line ∷ []) new
after_make done line command step old new stands is asked makes = after_step done line command old new stands is (record { step = step; did = makes.0; asked = asked; advances = makes.1 })

-- the end of the input
pub played_at_end : (done : List (List ℕ)) (old new : Simulation) → Stands done old → Begins old new → HasPlayedAll done new.world
played_at_end done old new stands begins = rw begins.stands (played_now done old begins.now stands begins.opened)

pub sound_at_end : (done : List (List ℕ)) (old new : Simulation) → Stands done old → Begins old new → settings_fault done ≡ None
sound_at_end done old new stands begins = (played_now done old begins.now stands begins.opened).opened.sound

-- the end, where the settings have a fault
pub opens_at_end : (done : List (List ℕ)) (old : Simulation) (fault : ConfigFault) → Stands done old → FailsToBegin old fault → All IsOpeningLine done
opens_at_end done old fault stands fails = waits done old stands fails.0

pub fault_at_end : (done : List (List ℕ)) (old : Simulation) (fault : ConfigFault) → Stands done old → FailsToBegin old fault → settings_fault done ≡ Some fault
fault_at_end done old fault stands fails = ap (λ x. first_fault (settings_text x)) (sym stands.gathered) ∙ fails.1

-- the first step, where they have one
pub fails_at_step : (done : List (List ℕ)) (line : List ℕ) (old : Simulation) (fault : ConfigFault) → Stands done old → IsStep line → FailsToBegin old fault → StopsAtStep done line fault
fails_at_step done line old fault stands step fails = record {
  opens = opens_at_end done old fault stands fails;
  step = step;
  found = fault_at_end done old fault stands fails;
}
