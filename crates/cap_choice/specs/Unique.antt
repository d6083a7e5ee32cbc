-- A node has one choice, and so has a starting node.
use Rattle.std.specs.Prelude.{◌≡◌, ℕ, Option}
use Rattle.cap_model.specs.Admission.{NodeProposal}
use Rattle.cap_model.specs.Choice.{IsChoiceFrom, IsNodeChoice}
use Rattle.cap_model.specs.Sight.{Sight}

abbrev pub NodeChoiceIsUnique : Type 0
NodeChoiceIsUnique = (K : ℕ) (sight : Sight K) (n : ℕ) (a b : Option NodeProposal) → IsNodeChoice sight n a → IsNodeChoice sight n b → a ≡ b

abbrev pub ChoiceFromIsUnique : Type 0
ChoiceFromIsUnique = (K : ℕ) (sight : Sight K) (start : ℕ) (a b : Option NodeProposal) → IsChoiceFrom sight start a → IsChoiceFrom sight start b → a ≡ b
