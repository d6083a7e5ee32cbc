-- What answers payloads by some calls answers them, in the grammar of two resources, by these calls without the third.
use Rattle.cap_narrow_worlds.proofs.Prelude.{◌≡◌, ℕ, Bool, List, [], ◌∷◌, ◌++◌, refl, sym, subst, map, All, All-nil, All-cons, All-head, All-tail, resources, Tail, kind_of, IsReply, Call, Answers, nothing, replied, refused, AnswersAll, AnswersSome, Hearing, unopened, live, over, cut, IsHeard, IsNotOfVersion2, HaveNoVersion2, HeardNoVersion2}
use Rattle.cap_narrow_worlds.proofs.Calls.{narrow_call, CallSpellsNone}
use Rattle.cap_narrow_worlds.proofs.Spelled.{request_narrow, reply_narrow, none_narrow, kind_narrow}

-- calls, and that none of them spells any of the third resource
abbrev Narrowed : (List (Call 2) → Type 0) → List (Call resources) → Type 0
Narrowed Answered calls = Answered (map narrow_call calls) × All CallSpellsNone calls

answers_narrow : {payloads : List (List ℕ)} {calls : List (Call resources)} {output : List ℕ} → All IsNotOfVersion2 payloads → Answers payloads calls output → Narrowed (λ cs. Answers payloads cs output) calls
answers_narrow all nothing = (nothing, All-nil CallSpellsNone)
answers_narrow all (replied {payload} {bytes} {payloads} {head} {call} {calls} {output} is spells later) =
    let version = All-head IsNotOfVersion2 payload payloads all head call.request is in
    let request = request_narrow payload head call.request version is in
    let rest = answers_narrow (All-tail IsNotOfVersion2 payload payloads all) later in (
      replied {call = narrow_call call} request.0
          (subst (λ (kind : ℕ). IsReply bytes head kind (narrow_call call).reply) (sym (kind_narrow call.request)) (reply_narrow bytes head (kind_of call.request) call.reply version spells)) rest.0,
      All-cons CallSpellsNone call calls request.1 rest.1,
    )
answers_narrow all (refused {payload} {payloads} {calls} {output} is later) =
    let rest = answers_narrow (All-tail IsNotOfVersion2 payload payloads all) later in
    (refused (none_narrow payload is) rest.0, rest.1)

-- all payloads of some bytes, or a beginning of them
all_narrow : (taken : List ℕ) (tail : Tail) (calls : List (Call resources)) (output : List ℕ) → HaveNoVersion2 taken → AnswersAll taken tail calls output → Narrowed (λ cs. AnswersAll taken tail cs output) calls
all_narrow taken tail calls output none (payloads, stream, (frames, answers, is)) =
    let narrowed = answers_narrow (none payloads tail stream) answers in
    ((payloads, stream, (frames, narrowed.0, is)), narrowed.1)

first_all : (xs ys : List (List ℕ)) → All IsNotOfVersion2 (xs ++ ys) → All IsNotOfVersion2 xs
first_all [] ys all = All-nil IsNotOfVersion2
first_all (x ∷ xs) ys all = All-cons IsNotOfVersion2 x xs (All-head IsNotOfVersion2 x (xs ++ ys) all) (first_all xs ys (All-tail IsNotOfVersion2 x (xs ++ ys) all))

some_narrow : (taken : List ℕ) (calls : List (Call resources)) (output : List ℕ) → HaveNoVersion2 taken → AnswersSome taken calls output → Narrowed (λ cs. AnswersSome taken cs output) calls
some_narrow taken calls output none (payloads, later, tail, stream, answers) =
    let narrowed = answers_narrow (first_all payloads later (none (payloads ++ later) tail stream)) answers in
    ((payloads, later, tail, stream, narrowed.0), narrowed.1)

-- ---- what a connection heard

no_calls : (calls : List (Call resources)) → calls ≡ [] → (map narrow_call calls ≡ []) × All CallSpellsNone calls
no_calls [] is = (refl, All-nil CallSpellsNone)
no_calls (call ∷ calls) is = absurd (cc is)

pub heard_narrow : (heard : Hearing) (calls : List (Call resources)) (output : List ℕ) (is_open : Bool) → HeardNoVersion2 heard → IsHeard heard calls output is_open → Narrowed (λ cs. IsHeard heard cs output is_open) calls
heard_narrow unopened calls output is_open none (is, empty, closed) =
    let no = no_calls calls is in ((no.0, empty, closed), no.1)
heard_narrow (live taken) calls output is_open none (tail, answers, opens) =
    let all = all_narrow taken tail calls output none answers in
    ((tail, all.0, opens), all.1)
heard_narrow (over taken) calls output is_open none (tail, answers, closed) =
    let all = all_narrow taken tail calls output none answers in
    ((tail, all.0, closed), all.1)
heard_narrow (cut taken) calls output is_open none (answers, closed) =
    let some = some_narrow taken calls output none answers in
    ((some.0, closed), some.1)
