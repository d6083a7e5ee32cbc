-- What is read is spelled so, and what is spelled so is read, and no request begins another.
use Rattle.cap_grammar.proofs.Prelude.{Err, List, Option, Some, [], ap, arith, refl, subst, suc, sym, true, zero, ℕ, ◌++◌, ◌∙◌, ◌∷◌, ◌≡◌, append-nil, to_be_bytes, w32, IfOk, IsErrOf, Ok, Result, slice_index, resources, IsBytes, body_at, registration, ◌>>=◌, amount_at, amounts_at, node_with_two_amounts, GivesInMemory, a_head, request_at, FitsRequest, IsNoRequest, IsRequest, kind_of, request_body, request_bytes, resource, is_version, MessageFault, NoMemory, Head, Request, IsWithin, amount_max}
use Rattle.cap_grammar.specs.declared.fault.MessageFault.TheVariants as faults
use Rattle.cap_grammar.proofs.FieldLaws.{AreBytes, AreBytes-past, bind_then, guard_then, some_is, all_read, all_again}
use Rattle.cap_grammar.proofs.VersionLaws.{spelled_among, head_takes, head_again, headed}
use Rattle.cap_grammar.proofs.RequestKinds.{body_takes, body_again, kind_fits}

request_takes : (K : ℕ) (bytes : List ℕ) (head : Head) (r : Request K) → AreBytes bytes → request_at K bytes ≡ Some (head, r) → IsRequest bytes head r
unfolding request_at
request_takes K bytes head r fits e =
    bind_then _ _ _ e (λ h at_head e'.
    let t = head_takes bytes h.0.0 h.0.1.0 h.0.1.1 h.1 fits at_head in
    let g = guard_then _ _ _ e' in
    bind_then _ _ _ g.1 (λ q at_body e''.
    let body = AreBytes-past (h.0.0 ∷ h.0.1.0 ∷ to_be_bytes w32 h.0.1.1) bytes h.1 t.0 fits in
    let b = body_takes K h.0.0 (spelled_among K h.0.0 g.0) h.0.1.0 h.1 q [] body (all_read (body_at K h.0.0 h.0.1.0) h.1 q at_body) in
    let found : Head = record { version = h.0.0; call_id = h.0.1.1 } in
    let made : Head × Request K = (found, q) in
    let same : made ≡ (head, r) = cc (e'') in
    let kind = b.kind_is in
    let spelled = b.spelled in
    subst (λ (p : Head × Request K). IsRequest bytes p.0 p.1) same (record {
      spelled = t.0 ∙ rw (kind, spelled, append-nil (request_body h.0.0 q)) refl;
      version_fits = g.0;
      id_fits = t.1;
      fits = b.fits;
    })))

request_again : (K : ℕ) (bytes : List ℕ) (head : Head) (r : Request K) → IsRequest bytes head r → request_at K bytes ≡ Some (head, r)
unfolding request_at
request_again K bytes head r is =
    let le = spelled_among K head.version is.version_fits in
    let front = head_again K head (kind_of r) (request_body head.version r) is.version_fits (kind_fits r) is.id_fits in
    let body = all_again (body_at K head.version (kind_of r)) (request_body head.version r) r (body_again K head.version le r is.fits).0 in
    ap (request_at K) is.spelled ∙ rw (front, is.version_fits, body) refl

-- no two requests share a spelling
pub one_request : (K : ℕ) (bytes : List ℕ) (head head' : Head) (request request' : Request K) → IsRequest bytes head request → IsRequest bytes head' request' → (head ≡ head') × (request ≡ request')
one_request K bytes head head' request request' is is' =
    let same : (head, request) ≡ (head', request') = some_is (head, request) (head', request') (request_at K bytes) (request_again K bytes head request is) (request_again K bytes head' request' is') in
    (ap (λ (p : Head × Request K). p.0) same, ap (λ (p : Head × Request K). p.1) same)

-- so those of one version are none of the other
pub one_version : (K : ℕ) (bytes : List ℕ) (head head' : Head) (request request' : Request K) → IsRequest bytes head request → IsRequest bytes head' request' → head.version ≡ head'.version
one_version K bytes head head' request request' is is' = ap (λ (h : Head). h.version) (one_request K bytes head head' request request' is is').0

-- about two resources there are messages of version 1 alone
pub two_have_one : (bytes : List ℕ) → slice_index bytes 0 ≡ 2 → IsNoRequest 2 bytes
two_have_one bytes first head request is =
    let version : head.version ≡ 2 = sym (ap (λ (b : List ℕ). slice_index b 0) is.spelled) ∙ first in
    let fits : is_version 2 2 ≡ true = subst (λ v. is_version 2 v ≡ true) version is.version_fits in
    absurd (cc fits)

-- ---- an example

-- two amounts are read in version 1, and are too few in version 2
pub one_in_version_one : IsRequest {K = 3} (node_with_two_amounts 1) (record { version = 1; call_id = 2 }) (Request.RegisterNode (110 ∷ 49 ∷ []) (47 ∷ 114 ∷ 49 ∷ []) (8192 ∷ 8 ∷ 0 ∷ []))
unfolding resource
one_in_version_one = record {
  spelled = refl;
  version_fits = refl;
  id_fits = omega arith;
  fits = (refl, refl, record { vector = record { count = refl; within = within }; is_shown = refl });
}
  where
    within : IsWithin amount_max (8192 ∷ 8 ∷ 0 ∷ [])
    within zero = omega arith
    within (suc zero) = omega arith
    within (suc (suc zero)) = omega arith
    within (suc (suc (suc k))) = omega arith

pub none_in_version_two : IsNoRequest 3 (node_with_two_amounts 2)
unfolding request_at a_head body_at registration amounts_at amount_at
none_in_version_two head request is = let read = request_again 3 (node_with_two_amounts 2) head request is in absurd (cc read)

-- the request at the front, and the bytes after it
abbrev front_at : (K : ℕ) → List ℕ → Option ((Head × Request K) × List ℕ)
front_at K bytes = a_head.read bytes >>= λ h. body_at K h.0.0 h.0.1.0 h.1 >>= λ r. Some ((record { version = h.0.0; call_id = h.0.1.1 }, r.0), r.1)

front_again : {K : ℕ} (bytes rest : List ℕ) (head : Head) (r : Request K) → IsRequest bytes head r → front_at K (bytes ++ rest) ≡ Some ((head, r), rest)
front_again {K} bytes rest head r is =
    let le = spelled_among K head.version is.version_fits in
    let front = head_again K head (kind_of r) (request_body head.version r ++ rest) is.version_fits (kind_fits r) is.id_fits in
    ap (λ (b : List ℕ). front_at K (b ++ rest)) is.spelled ∙ rw (front, (body_again K head.version le r is.fits).0 rest) refl

pub none_begins_another : (K : ℕ) (bytes rest : List ℕ) (head head' : Head) (request request' : Request K) → IsRequest bytes head request → IsRequest (bytes ++ rest) head' request' → rest ≡ []
none_begins_another K bytes rest head head' request request' is is' =
    let shorter : front_at K (bytes ++ rest) ≡ Some ((head, request), rest) = front_again bytes rest head request is in
    let longer : front_at K (bytes ++ rest) ≡ Some ((head', request'), []) = ap (front_at K) (sym (append-nil (bytes ++ rest))) ∙ front_again (bytes ++ rest) [] head' request' is' in
    let same : ((head, request), rest) ≡ ((head', request'), []) = some_is ((head, request), rest) ((head', request'), []) (front_at K (bytes ++ rest)) shorter longer in
    ap (λ (p : (Head × Request K) × List ℕ). p.1) same

pub request_is_bytes : (K : ℕ) (head : Head) (r : Request K) → is_version K head.version ≡ true → FitsRequest head.version r → IsBytes (request_bytes head r)
request_is_bytes K head r is fits = headed K head (kind_of r) (request_body head.version r) is (kind_fits r) (body_again K head.version (spelled_among K head.version is) r fits).1

-- ---- what a function that reads so returns

abbrev Read : Type 0
Read = Result (Head × Request resources) MessageFault

pub found : (bytes : List ℕ) (result : Read) → AreBytes bytes → GivesInMemory (λ x. (x.0, x.1)) result (request_at resources bytes) → IfOk result (λ x. IsRequest bytes x.0 x.1)
found bytes (Ok x) fits h = request_takes resources bytes x.0 x.1 fits h
found bytes (Err e) fits h = tt

pub only : (bytes : List ℕ) (result : Read) → GivesInMemory (λ x. (x.0, x.1)) result (request_at resources bytes) → (head : Head) (request : Request resources) → IsRequest bytes head request → IfOk result (λ x. (x.0 ≡ head) × (x.1 ≡ request))
only bytes (Ok x) h head request is =
    let e = request_again resources bytes head request is in
    let same : (x.0, x.1) ≡ (head, request) = some_is (x.0, x.1) (head, request) (request_at resources bytes) h e in
    (ap (λ (p : Head × Request resources). p.0) same, ap (λ (p : Head × Request resources). p.1) same)
only bytes (Err e) h head request is = tt

pub bad : (bytes : List ℕ) (result : Read) → GivesInMemory (λ x. (x.0, x.1)) result (request_at resources bytes) → IsErrOf result faults.Bad → IsNoRequest resources bytes
bad bytes (Ok x) h is_bad head request is = absurd (cc (is_bad))
bad bytes (Err faults.Bad) h is_bad head request is = let e = request_again resources bytes head request is in absurd (cc (h, e))
bad bytes (Err faults.NoMemory) h is_bad head request is = absurd (cc (is_bad))
