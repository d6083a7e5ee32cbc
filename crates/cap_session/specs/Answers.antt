-- What a connection is answered, whatever the number K of resources.
use Rattle.std.specs.Prelude.{◌≡◌, ℕ, List, [], ◌∷◌, ◌++◌}
use Rattle.cap_model.specs.declared.request.Request.{Request}
use Rattle.cap_model.specs.News.{Reply}
use Rattle.cap_frames.specs.Stream.{frame_of, Tail, rest, fault}
use Rattle.cap_grammar.specs.declared.head.Head.{Head}
use Rattle.cap_grammar.specs.Spelling.{IsRequest, IsNoRequest, IsReply, kind_of, fault_reply}

-- a request with its reply
pub record Call (K : ℕ) : Type 0 where
  pub request : Request K
  pub reply : Reply K

-- The frames that answer these payloads, one each. A payload that is a request is the next call's, and the frame spells that call's
-- reply under the payload's head and kind; for a payload that is none the frame is the fault reply 41. No call is left over.
pub data Answers {K : ℕ} : List (List ℕ) → List (Call K) → List ℕ → Type 0 where
  nothing : Answers [] [] []
  replied : {payload bytes : List ℕ} {payloads : List (List ℕ)} {head : Head} {call : Call K} {calls : List (Call K)} {output : List ℕ} → IsRequest payload head call.request → IsReply bytes head (kind_of call.request) call.reply → Answers payloads calls output → Answers (payload ∷ payloads) (call ∷ calls) (frame_of bytes ++ output)
  refused : {payload : List ℕ} {payloads : List (List ℕ)} {calls : List (Call K)} {output : List ℕ} → IsNoRequest K payload → Answers payloads calls output → Answers (payload ∷ payloads) calls (frame_of (fault_reply 41) ++ output)

-- what answers the end of a stream: the fault reply 40 where a length comes that no frame has
abbrev pub tail_answer : Tail → List ℕ
tail_answer (rest bytes) = []
tail_answer (fault bytes) = frame_of (fault_reply 40)

-- the output answers the payloads and then the tail
abbrev pub IsAnswered : {K : ℕ} → List (List ℕ) → Tail → List (Call K) → List ℕ → Type 0
IsAnswered payloads tail calls output = (frames : List ℕ) × Answers payloads calls frames × (output ≡ frames ++ tail_answer tail)
