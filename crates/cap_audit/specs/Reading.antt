-- What the readers of a line's words find.
use Rattle.std.specs.Prelude.{◌≡◌, ℕ, ◌<◌, ◌^◌, List, [], ◌∷◌, ◌++◌, get_or, true, decimal}
use Rattle.hex.specs.Hex.{encode_lower}
use Rattle.cap_text.specs.Pieces.{lacks}
use Rattle.cap_base.specs.Limits.{resources}
use Rattle.cap_model.specs.Admission.{NodeProposal}
use Rattle.cap_model.specs.Verdicts.{IsOf}
use Rattle.cap_model.specs.declared.proposal.ProposalKind.{ProposalKind}
use Rattle.cap_model.specs.declared.request.Request.{Request}
use Rattle.cap_model.specs.declared.event.Event.{Event}
use Rattle.cap_model.specs.declared.event.Event.TheVariants as event
use Rattle.cap_grammar.specs.Spelling.{FitsRequest, request_bytes}
use Rattle.cap_journal.specs.Lines.{amounts, head}
use Rattle.cap_audit.specs.Audit.{FitsProposal, IsLineOf}

-- nothing, or a blank first
abbrev pub IsBlankOrEnd : List ℕ → Type 0
IsBlankOrEnd [] = Unit {0}
IsBlankOrEnd (b ∷ bytes) = b ≡ 32

-- a word without blanks, and what follows it
pub record IsWord (bytes front rest : List ℕ) : Type 0 where
  pub whole : bytes ≡ front ++ rest
  pub unbroken : lacks 32 front ≡ true
  pub ends : IsBlankOrEnd rest

-- each number fits 64 bits
abbrev pub AreNumbers : List ℕ → Type 0
AreNumbers numbers = (k : ℕ) → get_or numbers k 0 < 2 ^ 64

-- the numbers of a proposal in the order of a line
abbrev pub proposal_numbers : NodeProposal → List ℕ
proposal_numbers p = p.app ∷ p.key.priority ∷ p.key.request ∷ p.node ∷ amounts p.resource

-- a proposal of this kind whose numbers fit
pub record IsProposalOf (kind : ProposalKind) (numbers : List ℕ) (p : NodeProposal) : Type 0 where
  pub kind_is : p.kind ≡ kind
  pub numbers_are : numbers ≡ proposal_numbers p
  pub fits : FitsProposal p

-- what follows the first word of a call's line
pub record IsCallText (bytes : List ℕ) (by : ℕ) (request : Request resources) : Type 0 where
  pub by_fits : by < 2 ^ 32
  pub request_fits : FitsRequest 2 request
  pub reply : List ℕ
  pub text_is : bytes ≡ decimal by ++ 32 ∷ encode_lower (request_bytes head request) ++ 32 ∷ reply

-- whatever event the line spells is of this proposal
abbrev pub IsProposedBy : List ℕ → NodeProposal → Type 0
IsProposedBy line p = (event : Event resources) → IsLineOf line event → IsOf p event

-- an event of a proposal, and no call
abbrev pub IsNoCall : Event resources → Type 0
IsNoCall (event.Call by request reply) = ⊥
IsNoCall _ = Unit {0}
