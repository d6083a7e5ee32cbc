-- What is printed.
use Rattle.std.specs.Prelude.{ℕ, List, [], ◌∷◌, ◌++◌, ◌==◌, codes, decimal, if◌then◌else◌}
use Rattle.std.specs.Prelude.{Option, Some, None}
use Rattle.std.specs.List.{flat_map}
use Rattle.hex.specs.Hex.{encode_lower}
use Rattle.cap_vector.specs.Vector.{amount}
use Rattle.cap_base.specs.Limits.{resources}
use Rattle.cap_model.specs.declared.event.Event.{Event}
use Rattle.cap_model.specs.declared.proposal.ProposalKind.{ProposalKind}
use Rattle.cap_model.specs.declared.proposal.ProposalKind.TheVariants.{Grant, Reserve}
use Rattle.cap_model.specs.declared.proposal.Reason.{Reason}
use Rattle.cap_model.specs.declared.proposal.Reason.TheVariants.{OverMaximum}
use Rattle.cap_model.specs.declared.proposal.Verdict.{Verdict}
use Rattle.cap_model.specs.declared.proposal.Verdict.TheVariants.{Done, Rejected}
use Rattle.cap_model.specs.Admission.{NodeProposal, reason_number}

-- words that end with a blank, and a number
abbrev pub number_line : List ℕ → List ℕ → List ℕ
number_line words digits = words ++ digits ++ 10 ∷ []

-- a fault of the settings, and its line
abbrev pub fault_line : ℕ → ℕ → List ℕ
fault_line line kind = codes "config " ++ decimal line ++ number_line (codes " ") (decimal kind)

-- a frame that a connection was answered, with its length
abbrev pub frame_line : ℕ → List ℕ → List ℕ
frame_line number frame = codes "out " ++ decimal number ++ codes " " ++ encode_lower frame ++ 10 ∷ []

-- numbers in decimal, a blank before each
abbrev pub blanked : List ℕ → List ℕ
blanked numbers = flat_map (λ n. 32 ∷ decimal n) numbers

-- the GPUs of a proposal, where there are any
unfoldable pub gpus_words : ℕ → List ℕ
gpus_words gpus = if gpus == 0 then [] else blanked (gpus ∷ [])

-- a proposal: its kind, application, priority, allocation request id and node, and its amounts
abbrev pub kind_words : ProposalKind → List ℕ
kind_words Grant = codes " grant"
kind_words Reserve = codes " reserve"

abbrev pub proposal_words : NodeProposal → List ℕ
proposal_words p =
    kind_words p.kind ++ blanked (p.app ∷ p.key.priority ∷ p.key.request ∷ p.node ∷ amount p.resource 0 ∷ amount p.resource 1 ∷ []) ++ gpus_words (amount p.resource 2)

-- what a worker proposes, and the line that says it
abbrev pub choice_words : Option NodeProposal → List ℕ
choice_words None = codes " none"
choice_words (Some p) = proposal_words p

abbrev pub choice_line : ℕ → Option NodeProposal → List ℕ
choice_line worker choice = codes "proposed" ++ blanked (worker ∷ []) ++ choice_words choice ++ 10 ∷ []

-- what was made of a proposal
abbrev pub made_words : Event resources → List ℕ
made_words (Event.Call by request reply) = []
made_words (Event.Grant container) = codes " grant" ++ blanked (container.number ∷ [])
made_words (Event.Reserve reservation) = codes " reserve"

-- the number of a reason, and of a maximum that would be passed its level
abbrev pub level_words : Reason → List ℕ
level_words (OverMaximum level) = level ∷ []
level_words _ = []

abbrev pub reason_words : Reason → List ℕ
reason_words reason = blanked (reason_number reason ∷ level_words reason)

-- what became of a proposal, and the line that says it
abbrev pub verdict_line : ℕ → Verdict resources → List ℕ
verdict_line worker (Done event) = codes "done" ++ blanked (worker ∷ []) ++ made_words event ++ 10 ∷ []
verdict_line worker (Rejected reason) = codes "rejected" ++ blanked (worker ∷ []) ++ reason_words reason ++ 10 ∷ []
