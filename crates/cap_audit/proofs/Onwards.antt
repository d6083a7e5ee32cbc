-- Lines to come that are true, and one less.
use Rattle.cap_audit.specs.declared.stop.Stop.{Stop}
use Rattle.cap_audit.specs.declared.stop.Stop.TheVariants as stop
use Rattle.cap_model.specs.declared.event.Event.TheVariants as event
use Rattle.std.proofs.lemmas.Bool.{eqb-false}
use Rattle.cap_audit.proofs.Prelude.{is_some, ◌≡◌, ◌==◌, ℕ, List, [], ◌∷◌, ◌++◌, get_or, take, drop, Option, None, Some, Result, Ok, Err, OnOk, IfErr, true, false, inl, inr, refl, sym, ap, ◌∙◌, subst, map, append_assoc, append-nil, resources, pointwise, nat_eq, Run, Flat, Event, ClusterState, ended, event_words, property_words, epoch_words, closed_words, call_words, grant_words, reserve_words, Adds, AreTrue, Begins, Goes, IsNoWay, IsOpened, IsOpenedBy, IsTrueFile, Makes, Passes, PlaysOn, Spells, StartsAnew, settings_text, start, GoesOn, GoesOnFrom, IfFalse, IsFoundFalse, IsNoWayFrom, LeadsNowhere, LeadsOn, MakesNone, MayGoOn, OpensNone, Starts, Tells, Auditor, Place}

-- ---- what an audit that went no further says

pub if_false : (s : Stop) {P Q : Type 0} → IfFalse s P → (P → Q) → IfFalse s Q
if_false (stop.False why) p f = f p
if_false stop.Settings p f = f p
if_false stop.NoMemory p f = tt
if_false stop.Input p f = tt
if_false stop.Output p f = tt

-- what never finds anything false
pub unsaid : (s : Stop) (P : Type 0) → s ≡ stop.NoMemory → IfFalse s P
unsaid s P e = subst (λ (x : Stop). IfFalse x P) (sym e) tt

pub unread : (s : Stop) (P : Type 0) → s ≡ stop.Input → IfFalse s P
unread s P e = subst (λ (x : Stop). IfFalse x P) (sym e) tt

pub none_made : (s : Stop) (line : List ℕ) (old : Flat resources) → ((after : Flat resources) → Makes line old after → IfFalse s ⊥) → IfFalse s (MakesNone line old)
none_made (stop.False why) line old f = f
none_made stop.Settings line old f = f
none_made stop.NoMemory line old f = tt
none_made stop.Input line old f = tt
none_made stop.Output line old f = tt

pub tells : {X : Type 0} (r : Result X Stop) {P Q P' Q' : Type 0} → OnOk r P → IfErr r (λ s. IfFalse s Q) → (P → P') → (Q → Q') → Tells r P' Q'
tells (Ok x) p q f g = f p
tells (Err s) p q f g = if_false s q g

pub on_err : {X : Type 0} (r : Result X Stop) {P Q : Type 0} → IfErr r (λ s. IfFalse s P) → (P → Q) → IfErr r (λ s. IfFalse s Q)
on_err (Ok x) p f = tt
on_err (Err s) p f = if_false s p f

pub both_told : {X : Type 0} (r : Result X Stop) {P A Q : Type 0} (B : Type 0) → OnOk r P → Tells r A B → (P → A → Q) → OnOk r Q
both_told (Ok x) B p t f = f p t
both_told (Err s) B p t f = tt

pub told_err : {X : Type 0} (r : Result X Stop) {B Q : Type 0} (A : Type 0) → Tells r A B → (B → Q) → IfErr r (λ s. IfFalse s Q)
told_err (Ok x) A t f = tt
told_err (Err s) A t f = if_false s t f

pub found_false : (r : Result Unit Stop) (P : Type 0) → IsFoundFalse r → IfErr r (λ s. IfFalse s P) → P
found_false (Ok x) P is p = absurd is
found_false (Err (stop.False why)) P is p = p
found_false (Err stop.Settings) P is p = p
found_false (Err stop.NoMemory) P is p = absurd is
found_false (Err stop.Input) P is p = absurd is
found_false (Err stop.Output) P is p = absurd is

-- ---- lines that differ

-- a line is not two that have another byte somewhere
pub differ : (k : ℕ) (line a b : List ℕ) → line ≡ a → line ≡ b → (get_or a k 0 == get_or b k 0) ≡ false → ⊥
differ k line a b e f other = eqb-false (get_or a k 0) (get_or b k 0) other (ap (λ (l : List ℕ). get_or l k 0) (sym e ∙ f))

no_event : (line property : List ℕ) (e : Event resources) → line ≡ property_words property → line ≡ event_words e → ⊥
no_event line property (event.Call by request reply) is spelled = differ 1 line (property_words property) (call_words by request reply) is spelled refl
no_event line property (event.Grant c) is spelled = differ 0 line (property_words property) (grant_words c) is spelled refl
no_event line property (event.Reserve r) is spelled = differ 0 line (property_words property) (reserve_words r) is spelled refl

no_pass : (line property : List ℕ) (p q : Place) → line ≡ property_words property → Passes line p q → ⊥
no_pass line property p q is passes =
    elim passes [
      | inl x ↦ differ 0 line (property_words property) (epoch_words _) is x.line_is refl
      | inr x ↦ differ 1 line (property_words property) (closed_words _) is x.line_is refl
    ]

-- a property line leads nowhere once a cluster stands
pub no_property : (line property : List ℕ) (p q : Place) (a b : Flat resources) → line ≡ property_words property → PlaysOn line p q a b → ⊥
no_property line property p q a b is plays =
    elim plays [
      | inl x ↦ no_pass line property p q is x.0
      | inr x ↦ no_event line property x.1.0 is x.1.1.line_is
    ]

-- ---- a true file, from its beginning

goes_from : (lines : List (List ℕ)) (place last : Place) (events : List (Event resources)) (a b : Flat resources) → Spells place lines events last → Run a events b → last.inside ≡ false → GoesOn lines place a
goes_from [] place last events a b spelled run outside = ap (λ (p : Place). p.inside) (sym spelled.1) ∙ outside
goes_from (line ∷ lines) place last events a b spelled run outside =
    elim spelled.1 [
      | inl x ↦ (spelled.0, a, inl (x.0, refl), goes_from lines spelled.0 last events a b x.1 run outside)
      | inr x ↦
          let rest = subst (λ (es : List (Event resources)). Run a es b) x.2 run in
          (spelled.0, rest.0, inr (x.3, (x.0, x.4, rest.1)), goes_from lines spelled.0 last x.1 rest.0 b x.5 rest.2 outside)
    ]

goes_at : (lines : List (List ℕ)) (place : Place) (text : List ℕ) (cluster : Option (ClusterState resources)) → cluster ≡ None → place ≡ start → Starts lines text → GoesOnFrom lines place text cluster
goes_at lines place text cluster none at starts = subst (λ (o : Option (ClusterState resources)). GoesOnFrom lines place text o) (sym none) (at, starts)

starts_with_all : (lines : List (List ℕ)) (text : List ℕ) (last : Place) (closing : Flat resources) → text ≡ [] → AreTrue lines last closing → last.inside ≡ false → Starts lines text
starts_with_all lines text last closing none is outside = record {
  properties = is.properties;
  entries = is.entries;
  cut = is.cut;
  opening = is.opening;
  opened = subst (λ (t : List ℕ). IsOpenedBy (t ++ settings_text is.properties) is.opening) (sym none) is.opened;
  goes = goes_from is.entries start last is.events is.opening closing is.spelled is.run outside;
}

pub may_start : (lines : List (List ℕ)) (a : Auditor) → StartsAnew a → IsTrueFile lines → MayGoOn lines a
may_start lines a anew true_file =
    goes_at lines a.place a.settings.items a.cluster anew.none anew.place (starts_with_all lines a.settings.items true_file.0 true_file.1 anew.text true_file.2 true_file.3)

-- ---- one more property line

same_property : (p q : List ℕ) → property_words p ≡ property_words q → p ≡ q
same_property p q e = ap (drop 5) e

cons_head : (l m : List ℕ) (ls ms : List (List ℕ)) → l ∷ ls ≡ m ∷ ms → l ≡ m
cons_head l m ls ms e = cc e

cons_tail : (l m : List ℕ) (ls ms : List (List ℕ)) → l ∷ ls ≡ m ∷ ms → ls ≡ ms
cons_tail l m ls ms e = cc e

property_first : (line property : List ℕ) (rest : List (List ℕ)) (text : List ℕ) (properties entries : List (List ℕ)) (opening : Flat resources) → line ≡ property_words property → line ∷ rest ≡ map property_words properties ++ entries → IsOpenedBy (text ++ settings_text properties) opening → GoesOn entries start opening → Starts rest (text ++ ended property)
property_first line property rest text [] entries opening is cut opened goes =
    let first = subst (λ (l : List (List ℕ)). GoesOn l start opening) (sym cut) goes in
    absurd (no_property line property start first.0 opening first.1 is first.2)
property_first line property rest text (p ∷ properties) entries opening is cut opened goes =
    let same = same_property property p (sym is ∙ cons_head line (property_words p) rest (map property_words properties ++ entries) cut) in
    record {
      properties = properties;
      entries = entries;
      cut = cons_tail line (property_words p) rest (map property_words properties ++ entries) cut;
      opening = opening;
      opened = subst (λ (t : List ℕ). IsOpenedBy t opening) (ap (λ (q : List ℕ). text ++ (ended q ++ settings_text properties)) (sym same) ∙ sym (append_assoc text (ended property) (settings_text properties))) opened;
      goes = goes;
    }

pub adds_on : (line property : List ℕ) {a b : Auditor} → line ≡ property_words property → Adds property a b → LeadsOn line a b
adds_on line property {a} {b} is adds = λ rest goes.
    let from = subst (λ (o : Option (ClusterState resources)). GoesOnFrom (line ∷ rest) a.place a.settings.items o) adds.before goes in
    let s = from.1 in
    let starts = property_first line property rest a.settings.items s.properties s.entries s.opening is s.cut s.opened s.goes in
    goes_at rest b.place b.settings.items b.cluster (adds.cluster ∙ adds.before) (adds.place ∙ from.0) (subst (λ (t : List ℕ). Starts rest t) (sym adds.text) starts)

pub stands_late : (o : Option (ClusterState resources)) → is_some o ≡ true → o ≡ None → ⊥
stands_late (Some cluster) is none = cc none
stands_late None is none = cc is

pub not_some : (o : Option (ClusterState resources)) → is_some o ≡ false → o ≡ None
not_some (Some cluster) is = absurd (cc is)
not_some None is = refl

stands_at : (rest : List (List ℕ)) (line property : List ℕ) (place : Place) (text : List ℕ) (cluster : Option (ClusterState resources)) → line ≡ property_words property → GoesOnFrom (line ∷ rest) place text cluster → cluster ≡ None
stands_at rest line property place text None is goes = refl
stands_at rest line property place text (Some cluster) is goes = absurd (no_property line property place goes.0 cluster.flat goes.1 is goes.2)

-- one that comes late
pub late_nowhere : (line property : List ℕ) (a : Auditor) → line ≡ property_words property → (a.cluster ≡ None → ⊥) → LeadsNowhere line a
late_nowhere line property a is stands = λ rest goes. stands (stands_at rest line property a.place a.settings.items a.cluster is goes)

-- ---- the settings open a cluster

-- whatever property lines are first, there are none
abbrev pub NoneFirst : List (List ℕ) → Type 0
NoneFirst rest = (properties entries : List (List ℕ)) → rest ≡ map property_words properties ++ entries → properties ≡ []

pub none_in_nothing : NoneFirst []
none_in_nothing [] entries cut = refl
none_in_nothing (p ∷ properties) entries cut = absurd (cc cut)

pub none_first : (line : List ℕ) (rest : List (List ℕ)) → ((property : List ℕ) → line ≡ property_words property → ⊥) → NoneFirst (line ∷ rest)
none_first line rest other [] entries cut = refl
none_first line rest other (p ∷ properties) entries cut = absurd (other p (cons_head line (property_words p) rest (map property_words properties ++ entries) cut))

one_opening : (text : List ℕ) (a b : Flat resources) → IsOpenedBy text a → IsOpenedBy text b → a ≡ b
one_opening text a b p q =
    let same : p.settings ≡ q.settings = cc (p.read, q.read) in
    cc (p.cluster, q.cluster, same)

opened_alone : (rest : List (List ℕ)) (text : List ℕ) (s : Starts rest text) → NoneFirst rest → IsOpenedBy text s.opening
opened_alone rest text s none = subst (λ (t : List ℕ). IsOpenedBy t s.opening) (ap (λ (ps : List (List ℕ)). text ++ settings_text ps) (none s.properties s.entries s.cut) ∙ append-nil text) s.opened

goes_alone : (rest : List (List ℕ)) (text : List ℕ) (s : Starts rest text) → NoneFirst rest → GoesOn rest start s.opening
goes_alone rest text s none = subst (λ (l : List (List ℕ)). GoesOn l start s.opening) (sym (s.cut ∙ ap (λ (ps : List (List ℕ)). map property_words ps ++ s.entries) (none s.properties s.entries s.cut))) s.goes

begins_at : (rest : List (List ℕ)) (place : Place) (text : List ℕ) (old : Option (ClusterState resources)) (now : Flat resources) → NoneFirst rest → IsOpened text old now → GoesOnFrom rest place text old → GoesOn rest place now
begins_at rest place text (Some cluster) now none same goes = subst (λ (x : Flat resources). GoesOn rest place x) (sym same) goes
begins_at rest place text None now none opened goes =
    let same = one_opening text goes.1.opening now (opened_alone rest text goes.1 none) opened in
    subst (λ (p : Place). GoesOn rest p now) (sym goes.0) (subst (λ (x : Flat resources). GoesOn rest start x) same (goes_alone rest text goes.1 none))

pub begins_on : (rest : List (List ℕ)) (a b : Auditor) → NoneFirst rest → (is : Begins a b) → MayGoOn rest a → GoesOn rest b.place is.now.flat
begins_on rest a b none is goes = subst (λ (p : Place). GoesOn rest p is.now.flat) (sym is.place) (begins_at rest a.place a.settings.items a.cluster is.now.flat none is.opened goes)

pub opens_none : (rest : List (List ℕ)) (a : Auditor) → NoneFirst rest → OpensNone a → MayGoOn rest a → ⊥
opens_none rest a none fails goes =
    let from = subst (λ (o : Option (ClusterState resources)). GoesOnFrom rest a.place a.settings.items o) fails.none goes in
    let opened = opened_alone rest a.settings.items from.1 none in
    cc (opened.read, fails.fails)

-- ---- one line on the cluster

some_same : {A : Type 0} (o : Option A) (x y : A) → o ≡ Some x → o ≡ Some y → x ≡ y
some_same o x y e f = cc (e, f)

pub leads_on : (line : List ℕ) {a b c : Auditor} → ((property : List ℕ) → line ≡ property_words property → ⊥) → Begins a b → Goes line b c → LeadsOn line a c
leads_on line {a} {b} {c} other is goes = λ rest may.
    let on = begins_on (line ∷ rest) a b (none_first line rest other) is may in
    let same = some_same b.cluster is.now goes.was is.stands goes.stood in
    let plays = subst (λ (x : ClusterState resources). PlaysOn line b.place on.0 x.flat on.1) same on.2 in
    let only = goes.alone on.0 on.1 plays in
    let after = subst (λ (x : Flat resources). GoesOn rest c.place x) only.1 (subst (λ (p : Place). GoesOn rest p on.1) only.0 on.3) in
    subst (λ (o : Option (ClusterState resources)). GoesOnFrom rest c.place c.settings.items o) (sym goes.stands) after

pub leads_nowhere : (line : List ℕ) {a b : Auditor} → ((property : List ℕ) → line ≡ property_words property → ⊥) → Begins a b → IsNoWayFrom line b → LeadsNowhere line a
leads_nowhere line {a} {b} other is never = λ rest may.
    let on = begins_on (line ∷ rest) a b (none_first line rest other) is may in
    never is.now is.stands on.0 on.1 on.2

pub opens_nowhere : (line : List ℕ) {a : Auditor} → ((property : List ℕ) → line ≡ property_words property → ⊥) → OpensNone a → LeadsNowhere line a
opens_nowhere line {a} other fails = λ rest may. opens_none (line ∷ rest) a (none_first line rest other) fails may

pub no_way_from : (line : List ℕ) (a : Auditor) (cluster : ClusterState resources) → a.cluster ≡ Some cluster → IsNoWay line a.place cluster.flat → IsNoWayFrom line a
no_way_from line a cluster is never = λ was stood. subst (λ (x : ClusterState resources). IsNoWay line a.place x.flat) (some_same a.cluster cluster was is stood) never

-- a line that does not begin so
pub no_property_line : (line : List ℕ) → pointwise nat_eq (take 5 line) (99 ∷ 111 ∷ 110 ∷ 102 ∷ 32 ∷ []) ≡ false → (property : List ℕ) → line ≡ property_words property → ⊥
no_property_line line other property is =
    let begins : pointwise nat_eq (take 5 line) (99 ∷ 111 ∷ 110 ∷ 102 ∷ 32 ∷ []) ≡ true = ap (λ (l : List ℕ). pointwise nat_eq (take 5 l) (99 ∷ 111 ∷ 110 ∷ 102 ∷ 32 ∷ [])) is in
    cc (begins, other)
