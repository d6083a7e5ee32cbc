use Rattle.cap_replay.proofs.Prelude.{◌≡◌, List, ℕ, Option, None, Some, Ok, refl, ap, sym, subst, ◌∙◌, ConfigFault, AnswersFault, first_fault, settings_in, opened_cluster, Known, start, settings_text}
use Rattle.cap_replay.proofs.settings.Settings.open.Goals as goal

-- where there are settings there is no fault
no_fault : {X : Type 0} (fault : Option ConfigFault) (settings : X) → AnswersFault {X = X} fault (Ok settings) → fault ≡ None
no_fault None settings answers = refl
no_fault (Some fault) settings answers = absurd answers

pub returns-in-Ok-from_config-clause-good : goal.returns-in-Ok-from_config-clause-good
returns-in-Ok-from_config-clause-good c =
    let opened = c.in-Ok-from_config.ensures.opened in
    let opening : c.in-Ok-from_config.world.opening ≡ opened_cluster c.in-Ok.config = ap (λ (w : Known). w.opening) opened in
    let text : c.text.result.now ≡ settings_text c.args.self.now = c.text.ensures in (
      record {
        sound = subst (λ (t : List ℕ). first_fault t ≡ None) text (no_fault (first_fault c.text.result.now) c.in-Ok.config c.in-Ok.ensures.fault);
        settings = c.in-Ok.config;
        read = subst (λ (t : List ℕ). settings_in t ≡ Some c.in-Ok.config) text c.in-Ok.ensures.settings;
        cluster = opening;
      },
      opened ∙ ap start (sym opening),
    )
