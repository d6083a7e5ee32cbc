-- Lines that are true, and one more.
use Rattle.cap_audit.proofs.Prelude.{◌≡◌, ℕ, List, [], ◌∷◌, ◌++◌, Option, None, Some, false, inl, inr, refl, sym, ap, ◌∙◌, subst, map, append_assoc, append-nil, flat_map-append, map-append, resources, Run, Step, Flat, Event, ClusterState, ended, property_words, Adds, AreTrue, Begins, Enters, Goes, IsLineOf, IsOpened, IsOpenedBy, IsTrueFile, Passes, PlaysLine, PlaysOn, Spells, StandsAt, StandsOn, StartsAnew, settings_text, start, Auditor, Place}

run_one : (events : List (Event resources)) (event : Event resources) (a b c : Flat resources) → Run a events b → Step b event c → Run a (events ++ event ∷ []) c
run_one [] event a b c e step = (c, subst (λ (x : Flat resources). Step x event c) (sym e) step, refl)
run_one (e ∷ es) event a b c run step = (run.0, run.1, run_one es event run.0 b c run.2 step)

same_run : (events : List (Event resources)) (a b c : Flat resources) → c ≡ b → Run a events b → Run a events c
same_run events a b c e run = subst (λ (x : Flat resources). Run a events x) (sym e) run

-- an epoch begins or ends behind the lines
spells_pass : (lines : List (List ℕ)) (line : List ℕ) (events : List (Event resources)) (p q r : Place) → Spells p lines events q → Passes line q r → Spells p (lines ++ line ∷ []) events r
spells_pass [] line events p q r spelled passes = (r, inl (subst (λ (x : Place). Passes line x r) spelled.1 passes, (spelled.0, refl)))
spells_pass (l ∷ lines) line events p q r spelled passes = (
  spelled.0,
  elim spelled.1 [
    | inl x ↦ inl (x.0, spells_pass lines line events spelled.0 q r x.1 passes)
    | inr x ↦ inr (x.0, x.1, x.2, x.3, x.4, spells_pass lines line x.1 spelled.0 q r x.5 passes)
  ],
)

-- an entry stands behind the lines
spells_enter : (lines : List (List ℕ)) (line : List ℕ) (events : List (Event resources)) (event : Event resources) (p q r : Place) → Spells p lines events q → Enters q r → IsLineOf line event → Spells p (lines ++ line ∷ []) (events ++ event ∷ []) r
spells_enter [] line events event p q r spelled enters is = (
  r,
  inr (event, [], ap (λ (es : List (Event resources)). es ++ event ∷ []) spelled.0, subst (λ (x : Place). Enters x r) spelled.1 enters, is, (refl, refl)),
)
spells_enter (l ∷ lines) line events event p q r spelled enters is = (
  spelled.0,
  elim spelled.1 [
    | inl x ↦ inl (x.0, spells_enter lines line events event spelled.0 q r x.1 enters is)
    | inr x ↦ inr (x.0, x.1 ++ event ∷ [], ap (λ (es : List (Event resources)). es ++ event ∷ []) x.2, x.3, x.4, spells_enter lines line x.1 event spelled.0 q r x.5 enters is)
  ],
)

-- one more line is true
true_more : (lines : List (List ℕ)) (line : List ℕ) (p q : Place) (a b : Flat resources) → AreTrue lines p a → PlaysOn line p q a b → AreTrue (lines ++ line ∷ []) q b
true_more lines line p q a b is plays =
    let cut = ap (λ (l : List (List ℕ)). l ++ line ∷ []) is.cut ∙ append_assoc (map property_words is.properties) is.entries (line ∷ []) in
    elim plays [
      | inl x ↦ record {
        properties = is.properties;
        entries = is.entries ++ line ∷ [];
        cut = cut;
        opening = is.opening;
        opened = is.opened;
        events = is.events;
        spelled = spells_pass is.entries line is.events start p q is.spelled x.0;
        run = same_run is.events is.opening a b x.1 is.run;
      }
      | inr x ↦ record {
        properties = is.properties;
        entries = is.entries ++ line ∷ [];
        cut = cut;
        opening = is.opening;
        opened = is.opened;
        events = is.events ++ x.1.0 ∷ [];
        spelled = spells_enter is.entries line is.events x.1.0 start p q is.spelled x.0 x.1.1;
        run = run_one is.events x.1.0 is.opening a b is.run x.1.2;
      }
    ]

-- a cluster that the settings opened just now stands behind property lines alone
begins_at : (lines : List (List ℕ)) (p : Place) (text : List ℕ) (old : Option (ClusterState resources)) (now : ClusterState resources) → StandsAt lines p text old → IsOpened text old now.flat → AreTrue lines p now.flat
begins_at lines p text (Some cluster) now stands same = subst (λ (x : Flat resources). AreTrue lines p x) (sym same) stands
begins_at lines p text None now stands opened =
    let properties = stands.1.0 in
    record {
      properties = properties;
      entries = [];
      cut = stands.1.1 ∙ sym (append-nil (map property_words properties));
      opening = now.flat;
      opened = subst (λ (t : List ℕ). IsOpenedBy t now.flat) stands.1.2 opened;
      events = [];
      spelled = (refl, stands.0);
      run = refl;
    }

pub begins : (lines : List (List ℕ)) (a b : Auditor) → StandsOn lines a → (is : Begins a b) → AreTrue lines b.place is.now.flat
begins lines a b stands is = subst (λ (p : Place). AreTrue lines p is.now.flat) (sym is.place) (begins_at lines a.place a.settings.items a.cluster is.now stands is.opened)

some_same : {A : Type 0} (o : Option A) (x y : A) → o ≡ Some x → o ≡ Some y → x ≡ y
some_same o x y e f = cc (e, f)

-- an audit that went on by one line
pub plays_line : (line : List ℕ) {a b c : Auditor} → Begins a b → Goes line b c → PlaysLine line a c
plays_line line {a} {b} {c} is goes = λ lines stands.
    let at = begins lines a b stands is in
    let same = some_same b.cluster is.now goes.was is.stands goes.stood in
    let after = true_more lines line b.place c.place is.now.flat goes.now.flat at (subst (λ (x : ClusterState resources). PlaysOn line b.place c.place x.flat goes.now.flat) (sym same) goes.plays) in
    subst (λ (o : Option (ClusterState resources)). StandsAt (lines ++ line ∷ []) c.place c.settings.items o) (sym goes.stands) after

-- one more property line
add_at : (lines : List (List ℕ)) (line property : List ℕ) (p q : Place) (text more : List ℕ) (old new : Option (ClusterState resources)) → line ≡ property_words property → old ≡ None → new ≡ old → q ≡ p → more ≡ text ++ ended property → StandsAt lines p text old → StandsAt (lines ++ line ∷ []) q more new
add_at lines line property p q text more old new is none same place grown stands =
    let was = subst (StandsAt lines p text) none stands in
    let properties = was.1.0 in
    subst (StandsAt (lines ++ line ∷ []) q more) (sym (same ∙ none)) (
      place ∙ was.0,
      (
        properties ++ property ∷ [],
        ap (λ (l : List (List ℕ)). l ++ line ∷ []) was.1.1
            ∙ ap (λ (l : List ℕ). map property_words properties ++ l ∷ []) is
            ∙ sym (map-append property_words properties (property ∷ [])),
        grown
            ∙ ap (λ (t : List ℕ). t ++ ended property) was.1.2
            ∙ ap (λ (t : List ℕ). settings_text properties ++ t) (sym (append-nil (ended property)))
            ∙ sym (flat_map-append ended properties (property ∷ [])),
      ),
    )

pub adds_line : (line property : List ℕ) {a b : Auditor} → line ≡ property_words property → Adds property a b → PlaysLine line a b
adds_line line property {a} {b} is adds = λ lines stands. add_at lines line property a.place b.place a.settings.items b.settings.items a.cluster b.cluster is adds.before adds.cluster adds.place adds.text stands

-- the end of a file that ends in no epoch
pub ends : (lines : List (List ℕ)) (a b : Auditor) → StandsOn lines a → Begins a b → b.place.inside ≡ false → IsTrueFile lines
ends lines a b stands is outside = (b.place, is.now.flat, begins lines a b stands is, outside)

-- an audit that has played nothing stands behind no line
stands_at_none : (p : Place) (text : List ℕ) (cluster : Option (ClusterState resources)) → cluster ≡ None → p ≡ start → text ≡ [] → StandsAt [] p text cluster
stands_at_none p text cluster none at empty = subst (λ (o : Option (ClusterState resources)). StandsAt [] p text o) (sym none) (at, ([], refl, empty))

pub stands_anew : (a : Auditor) → StartsAnew a → StandsOn [] a
stands_anew a anew = stands_at_none a.place a.settings.items a.cluster anew.none anew.place anew.text
