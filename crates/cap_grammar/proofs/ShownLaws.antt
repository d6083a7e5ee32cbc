-- What a reply shows of vectors is spelled as the whole reply is, and is within its bounds where the reply is.
use Rattle.cap_grammar.proofs.Prelude.{◌≡◌, ℕ, zero, suc, ◌-◌, List, [], ◌∷◌, ◌++◌, length, map, take, Option, Some, None, refl, ap, arith, option_map, IfSome, flat_map, AllByRecursion, w64, to_be_bytes, append-nil, take_all, zeros, IsResource, Grant, AllocateReply, Reply, shown_amounts, shown_grant, shown_news, shown, resource, limit, grant, allocate_bytes, queue_report, cluster_report, reply_body, IsOfKind, FitsGrant, FitsReply, amounts_in}
use Rattle.cap_model.specs.declared.reply.ReplyWith.TheVariants as Reply

-- the first n amounts are those of the vector
take_shown : (n m : ℕ) (v : List ℕ) → m ≡ length v - n → take n (take n v ++ zeros m) ≡ take n v
take_shown zero m v e = refl
take_shown (suc n) zero [] e = refl
take_shown (suc n) (suc m) [] e = absurd (omega (arith, e))
take_shown (suc n) m (x ∷ v) e = ap (λ (t : List ℕ). x ∷ t) (take_shown n m v (omega (arith, e)))

resource_shown : (n : ℕ) (v : List ℕ) → resource n (shown_amounts n v) ≡ resource n v
unfolding resource
resource_shown n v = ap (flat_map (to_be_bytes w64)) (take_shown n (length v - n) v refl)

limit_shown : (K n : ℕ) (maximum : Option (List ℕ)) → limit K n (option_map (shown_amounts n) maximum) ≡ limit K n maximum
limit_shown K n None = refl
limit_shown K n (Some amounts) = rw (resource_shown n amounts) refl

grant_shown : (n : ℕ) (g : Grant) → grant n (shown_grant n g) ≡ grant n g
unfolding grant
grant_shown n g = rw (resource_shown n g.resource) refl

grants_shown : (n : ℕ) (gs : List Grant) → flat_map (grant n) (map (shown_grant n) gs) ≡ flat_map (grant n) gs
grants_shown n [] = refl
grants_shown n (g ∷ gs) = rw (grant_shown n g, grants_shown n gs) refl

pub how_many : (n : ℕ) (gs : List Grant) → length (map (shown_grant n) gs) ≡ length gs
how_many n [] = refl
how_many n (g ∷ gs) = ap suc (how_many n gs)

news_shown : (n : ℕ) (r : AllocateReply) → allocate_bytes n (shown_news n r) ≡ allocate_bytes n r
unfolding allocate_bytes
news_shown n r = rw (grants_shown n r.grants, how_many n r.grants) refl

-- a reply is spelled as what it shows
pub body_shown : {K : ℕ} (version : ℕ) (reply : Reply K) → reply_body version (shown (amounts_in version) reply) ≡ reply_body version reply
unfolding queue_report cluster_report
body_shown version (Reply.RegisterMaster minimum maximum) = rw (resource_shown (amounts_in version) minimum, resource_shown (amounts_in version) maximum) refl
body_shown version (Reply.Allocate reply) = ap (λ (bytes : List ℕ). 0 ∷ bytes) (news_shown (amounts_in version) reply)
body_shown {K} version (Reply.QueueInfo r) =
    let n = amounts_in version in
    rw (resource_shown n r.guaranteed, limit_shown K n r.maximum, resource_shown n r.used) refl
body_shown version (Reply.ClusterInfo r) = rw (resource_shown (amounts_in version) r.totals, resource_shown (amounts_in version) r.used) refl
body_shown version _ = refl

-- and is of the same kinds
pub shown_of_kind : {K : ℕ} (n kind : ℕ) (reply : Reply K) → IsOfKind kind reply → IsOfKind kind (shown n reply)
shown_of_kind n kind (Reply.Refused refusal) of_kind = of_kind
shown_of_kind n kind Reply.Refresh of_kind = of_kind
shown_of_kind n kind _ of_kind = of_kind

pub of_kind_shown : {K : ℕ} (n kind : ℕ) (reply : Reply K) → IsOfKind kind (shown n reply) → IsOfKind kind reply
of_kind_shown n kind (Reply.Refused refusal) of_kind = of_kind
of_kind_shown n kind Reply.Refresh of_kind = of_kind
of_kind_shown n kind _ of_kind = of_kind

-- ---- where all amounts are spelled

all_shown : (K : ℕ) (v : List ℕ) → length v ≡ K → shown_amounts K v ≡ v
all_shown K v count =
    let none : length v - K ≡ 0 = omega (arith, count) in
    rw (take_all K v (omega (arith, count)), none) (append-nil v)

all_grants : (K : ℕ) (gs : List Grant) → AllByRecursion (FitsGrant K) gs → map (shown_grant K) gs ≡ gs
all_grants K [] fits = refl
all_grants K (g ∷ gs) fits =
    let one : shown_grant K g ≡ g = ap (λ (v : List ℕ). record g { resource = v }) (all_shown K g.resource fits.0.resource.count) in
    rw (one, all_grants K gs fits.1) refl

all_limit : (K : ℕ) (maximum : Option (List ℕ)) → IfSome maximum (IsResource K) → option_map (shown_amounts K) maximum ≡ maximum
all_limit K None fits = refl
all_limit K (Some v) fits = ap Some (all_shown K v fits.count)

-- a reply shows all of itself
pub all_of_reply : {K : ℕ} (reply : Reply K) → FitsReply reply → shown K reply ≡ reply
all_of_reply {K} (Reply.RegisterMaster minimum maximum) fits = rw (all_shown K minimum fits.0.count, all_shown K maximum fits.1.count) refl
all_of_reply {K} (Reply.Allocate reply) fits = ap (λ (gs : List Grant). Reply.Allocate (record reply { grants = gs })) (all_grants K reply.grants fits.grants.each)
all_of_reply {K} (Reply.QueueInfo r) fits = rw (all_shown K r.guaranteed fits.guaranteed.count, all_limit K r.maximum fits.maximum, all_shown K r.used fits.used.count) refl
all_of_reply {K} (Reply.ClusterInfo r) fits = rw (all_shown K r.totals fits.totals.count, all_shown K r.used fits.used.count) refl
all_of_reply _ fits = refl
