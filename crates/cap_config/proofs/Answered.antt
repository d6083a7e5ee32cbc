-- Each text has one answer.
use Rattle.cap_config.proofs.Prelude.{◌≡◌, ℕ, List, Option, Some, None, Result, Ok, Err, refl, ◌↔◌, IsSome, lines, Settings, Entry, ConfigFault, read_lines, whole_fault, settings_of, first_fault, fault_after, settings_in, settings_after, unless_fault}

one_of : (fault : Option ConfigFault) (settings : Settings) → (fault ≡ None) ↔ IsSome (unless_fault fault settings)
one_of (Some fault) settings = (λ h. absurd (cc h), λ h. absurd (cc h))
one_of None settings = (λ _. refl, λ _. refl)

one_after : (r : Result (List Entry) ConfigFault) → (fault_after r ≡ None) ↔ IsSome (settings_after r)
one_after (Ok entries) = one_of (whole_fault entries) (settings_of entries)
one_after (Err fault) = (λ h. absurd (cc h), λ h. absurd (cc h))

pub one_answer : (text : List ℕ) → (first_fault text ≡ None) ↔ IsSome (settings_in text)
unfolding first_fault settings_in
one_answer text = one_after (read_lines (lines text))
