-- The first fault of a text, from its lines and from its shape.
use Rattle.cap_config.proofs.Prelude.{◌≡◌, ◌≢◌, ℕ, List, Option, Some, None, Result, Ok, Err, refl, ap, lines, same_Some, Entry, ConfigFault, ConfigFaultKind, NoMemory, FailsBy, read_lines, whole_fault, settings_of, fault_after, first_fault, AnswersFault, settings_in, settings_after, unless_fault}
use Rattle.cap_config.proofs.FaultLines.{whole_of_text}
use Rattle.cap_config.proofs.NextLine.{fails_after}

pub early_by_line : (text : List ℕ) (fault : ConfigFault) → read_lines (lines text) ≡ Err fault → first_fault text ≡ Some fault
unfolding first_fault
early_by_line text fault is = ap fault_after is

pub early_by_shape : (text : List ℕ) (entries : List Entry) → read_lines (lines text) ≡ Ok entries → first_fault text ≡ whole_fault entries
unfolding first_fault
early_by_shape text entries is = ap fault_after is

pub settings_are : (text : List ℕ) (entries : List Entry) → read_lines (lines text) ≡ Ok entries → settings_in text ≡ unless_fault (whole_fault entries) (settings_of entries)
unfolding settings_in
settings_are text entries is = ap settings_after is

pub line_fault : (X : Type 0) (early : Option ConfigFault) (r : Result (List Entry) ConfigFault) (given : ConfigFault) → (r ≡ Err given → early ≡ Some given) → FailsBy given.kind given r →
    AnswersFault {X = X} early (Err given)
line_fault X None r given is h = fails_after given.kind given r (let ok : Result (Unit {0}) ConfigFault = Ok tt in ok) (λ e. absurd (cc (is e))) h
line_fault X (Some fault) r given is h = fails_after given.kind given r (Err fault) (λ e. ap Err (same_Some fault given (is e))) h

itself : (X : Type 0) (kind : ConfigFaultKind) (fault : ConfigFault) → kind ≢ NoMemory → FailsBy kind fault {Y = X} (Err fault)
itself X NoMemory fault h = absurd (h refl)
itself X _ fault h = refl

pub whole_first : (X : Type 0) (entries : List Entry) (fault : ConfigFault) → whole_fault entries ≡ Some fault → AnswersFault {X = X} (whole_fault entries) (Err fault)
whole_first X entries fault h = rw h (itself X fault.kind fault (whole_of_text entries fault h))
