-- Each request and each reply has exactly one spelling in each version. All laws are of any number K of resources.
use Rattle.std.specs.Prelude.{◌≡◌, ℕ, ◌<◌, ◌^◌, List, [], ◌∷◌, ◌++◌, true, slice_index}
use Rattle.cap_model.specs.declared.request.Request.{Request}
use Rattle.cap_model.specs.News.{Reply}
use Rattle.cap_grammar.specs.declared.head.Head.{Head}
use Rattle.cap_grammar.specs.Shown.{shown}
use Rattle.cap_grammar.specs.Spelling.{FitsRequest, IsRequest, IsNoRequest, IsKind, IsOfKind, FitsReply, IsReply, fault_reply}
use Rattle.cap_grammar.specs.Versions.{amounts_in, is_version}
use Rattle.cap_grammar.specs.Answers.{Says}
use Rattle.cap_grammar.specs.declared.answers.Answer.{Answer}
use Rattle.cap_frames.specs.Stream.{IsBytes}

-- every request within its bounds is spelled by some bytes, under every head
abbrev pub RequestsHaveASpelling : Type 0
RequestsHaveASpelling =
    (K : ℕ) (head : Head) (request : Request K) → is_version K head.version ≡ true → head.call_id < 2 ^ 32 → FitsRequest head.version request → (bytes : List ℕ) × IsBytes bytes × IsRequest bytes head request

abbrev pub RequestsHaveNoOther : Type 0
RequestsHaveNoOther = (K : ℕ) (bytes others : List ℕ) (head : Head) (request : Request K) → IsRequest bytes head request → IsRequest others head request → bytes ≡ others

-- no bytes spell two requests, or one under two heads
abbrev pub NoTwoRequestsShareOne : Type 0
NoTwoRequestsShareOne =
    (K : ℕ) (bytes : List ℕ) (head head' : Head) (request request' : Request K) → IsRequest bytes head request → IsRequest bytes head' request' → (head ≡ head') × (request ≡ request')

-- no request's spelling is a beginning of another's, in whichever versions
abbrev pub NoRequestBeginsAnother : Type 0
NoRequestBeginsAnother =
    (K : ℕ) (bytes rest : List ℕ) (head head' : Head) (request request' : Request K) → IsRequest bytes head request → IsRequest (bytes ++ rest) head' request' → rest ≡ []

-- no spelling of a request in one version is one of any request in the other
abbrev pub RequestsHaveOneVersion : Type 0
RequestsHaveOneVersion =
    (K : ℕ) (bytes : List ℕ) (head head' : Head) (request request' : Request K) → IsRequest bytes head request → IsRequest bytes head' request' → head.version ≡ head'.version

-- about two resources there are messages of version 1 alone: no bytes that begin with 2 are a request
abbrev pub TwoResourcesHaveVersionOne : Type 0
TwoResourcesHaveVersionOne = (bytes : List ℕ) → slice_index bytes 0 ≡ 2 → IsNoRequest 2 bytes

-- a RegisterNode of 8192 MiB and 8 vcores on the host n1 in the rack /r1, under this version byte and the call id 2
abbrev pub node_with_two_amounts : ℕ → List ℕ
node_with_two_amounts version =
    version ∷ 5 ∷ 0 ∷ 0 ∷ 0 ∷ 2 ∷ 2 ∷ 110 ∷ 49 ∷ 3 ∷ 47 ∷ 114 ∷ 49 ∷ 0 ∷ 0 ∷ 0 ∷ 0 ∷ 0 ∷ 0 ∷ 32 ∷ 0 ∷ 0 ∷ 0 ∷ 0 ∷ 0 ∷ 0 ∷ 0 ∷ 0 ∷ 8 ∷ []

-- a request in version 1, with no GPUs, and none in version 2, neither about three resources nor about two
abbrev pub TwoAmountsAreOfVersionOne : Type 0
TwoAmountsAreOfVersionOne =
    IsRequest {K = 3} (node_with_two_amounts 1) (record { version = 1; call_id = 2 }) (Request.RegisterNode (110 ∷ 49 ∷ []) (47 ∷ 114 ∷ 49 ∷ []) (8192 ∷ 8 ∷ 0 ∷ [])) × IsNoRequest 3 (node_with_two_amounts 2) × IsNoRequest 2 (node_with_two_amounts 2)

-- every reply within its bounds is spelled by some bytes, under every head and kind that it may have
abbrev pub RepliesHaveASpelling : Type 0
RepliesHaveASpelling =
    (K : ℕ) (head : Head) (kind : ℕ) (reply : Reply K) → is_version K head.version ≡ true → head.call_id < 2 ^ 32 → IsKind kind → IsOfKind kind reply → FitsReply reply → (bytes : List ℕ) × IsBytes bytes × IsReply bytes head kind reply

abbrev pub RepliesHaveNoOther : Type 0
RepliesHaveNoOther =
    (K : ℕ) (bytes others : List ℕ) (head : Head) (kind : ℕ) (reply : Reply K) → IsReply bytes head kind reply → IsReply others head kind reply → bytes ≡ others

-- Replies that share a spelling have one head, so one version, and one kind, and are the same or differ in amounts alone that the version does not
-- spell.
abbrev pub SharingRepliesAreAlike : Type 0
SharingRepliesAreAlike =
    (K : ℕ) (bytes : List ℕ) (head head' : Head) (kind kind' : ℕ) (reply reply' : Reply K) → IsReply bytes head kind reply → IsReply bytes head' kind' reply' →
    (head ≡ head') × (kind ≡ kind') × (shown (amounts_in head.version) reply ≡ shown (amounts_in head.version) reply')

-- replies that are the same, or differ in amounts alone that the version does not spell, share a spelling
abbrev pub AlikeRepliesShareOne : Type 0
AlikeRepliesShareOne =
    (K : ℕ) (bytes : List ℕ) (head : Head) (kind : ℕ) (reply reply' : Reply K) → IsReply bytes head kind reply → FitsReply reply' → shown (amounts_in head.version) reply ≡ shown (amounts_in head.version) reply' → IsReply bytes head kind reply'

-- where a version spells all amounts no two replies share a spelling
abbrev pub NothingIsLost : Type 0
NothingIsLost =
    (K : ℕ) (bytes : List ℕ) (head head' : Head) (kind kind' : ℕ) (reply reply' : Reply K) → amounts_in head.version ≡ K → IsReply bytes head kind reply → IsReply bytes head' kind' reply' → reply ≡ reply'

-- a reply to a request is none to a fault
abbrev pub NoReplyIsAFault : Type 0
NoReplyIsAFault = (K : ℕ) (status : ℕ) (head : Head) (kind : ℕ) (reply : Reply K) → IsReply (fault_reply status) head kind reply → ⊥

-- of two answers no bytes say both
abbrev pub NoTwoAnswersShareOne : Type 0
NoTwoAnswersShareOne = (bytes : List ℕ) (answer answer' : Answer) → Says bytes answer → Says bytes answer' → answer ≡ answer'
