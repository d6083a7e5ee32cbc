-- What was put, and what of a list of items is a worker's.
use Rattle.std.specs.Prelude.{◌≡◌, ℕ, ◌==◌, Bool, true, false, List, [], ◌∷◌, if◌then◌else◌}
use Rattle.cap_model.specs.Admission.{NodeProposal}
use Rattle.cap_lanes.specs.declared.item.Item.{Item}
use Rattle.cap_lanes.specs.declared.item.Message.{Message}
use Rattle.cap_lanes.specs.declared.item.Message.TheVariants.{Put, End}

-- what a worker put, among these items, in order
abbrev pub messages_of : ℕ → List Item → List Message
messages_of w [] = []
messages_of w (x ∷ xs) = if x.worker == w then (x.message ∷ messages_of w xs) else (messages_of w xs)

-- the proposals among them
abbrev pub proposals : List Message → List NodeProposal
proposals [] = []
proposals (Put p ∷ xs) = p ∷ proposals xs
proposals (End ∷ xs) = proposals xs

-- whether the end is among them
abbrev pub is_over : List Message → Bool
is_over [] = false
is_over (Put p ∷ xs) = is_over xs
is_over (End ∷ xs) = true

-- nothing comes after an end
abbrev pub EndsLast : List Message → Type 0
EndsLast [] = Unit {0}
EndsLast (Put p ∷ xs) = EndsLast xs
EndsLast (End ∷ xs) = xs ≡ []

-- the proposals of a list of items, each with its worker's number
abbrev pub puts_if : Message → ℕ → List (ℕ × NodeProposal) → List (ℕ × NodeProposal)
puts_if (Put p) w ps = (w, p) ∷ ps
puts_if End w ps = ps

abbrev pub puts_in : List Item → List (ℕ × NodeProposal)
puts_in [] = []
puts_in (x ∷ xs) = puts_if x.message x.worker (puts_in xs)

-- of a list of proposals with their workers' numbers, those of a worker, in order
abbrev pub tagged : ℕ → List (ℕ × NodeProposal) → List NodeProposal
tagged w [] = []
tagged w (e ∷ es) = if e.0 == w then (e.1 ∷ tagged w es) else (tagged w es)
