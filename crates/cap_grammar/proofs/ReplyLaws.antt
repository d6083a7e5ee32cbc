-- A reply is read again from its spelling, so no two share one.
use Rattle.cap_grammar.proofs.Prelude.{List, Option, Some, ap, arith, refl, subst, sym, true, ℕ, ◌++◌, ◌<◌, ◌∙◌, ◌∷◌, ◌≡◌, to_be_bytes, w32, resources, IsBytes, Says, ◌>>=◌, a_head, shown, FitsReply, IsOfKind, IsReply, fault_reply, reply_body, reply_bytes, amounts_in, is_version, Head, Reply}
use Rattle.cap_grammar.specs.declared.answers.Answer as declared
use Rattle.cap_grammar.specs.declared.answers.Answer.TheVariants as answers
use Rattle.cap_grammar.proofs.FieldLaws.{some_is}
use Rattle.cap_grammar.proofs.ShownLaws.{body_shown, shown_of_kind, of_kind_shown, all_of_reply}
use Rattle.cap_grammar.proofs.VersionLaws.{spelled_among, head_again, headed}
use Rattle.cap_grammar.proofs.ReplyKinds.{reply_body_at, reply_body_again}

abbrev Answer : ℕ → Type 0
Answer K = Head × (ℕ × Reply K)

-- head, kind and reply
abbrev reply_at : (K : ℕ) → List ℕ → Option (Answer K)
reply_at K bytes = do
  h ← a_head.read bytes
  reply ← reply_body_at K h.0.0 h.0.1.0 h.1
  Some (record { version = h.0.0; call_id = h.0.1.1 }, (h.0.1.0, reply.0))

reply_again : {K : ℕ} (bytes : List ℕ) (head : Head) (kind : ℕ) (reply : Reply K) → IsReply bytes head kind reply → reply_at K bytes ≡ Some (head, (kind, shown (amounts_in head.version) reply))
reply_again {K} bytes head kind reply is =
    let le = spelled_among K head.version is.version_fits in
    let front = head_again K head kind (reply_body head.version reply) is.version_fits (omega (arith, is.is_kind.1)) is.id_fits in
    ap (reply_at K) is.spelled ∙ rw (front, (reply_body_again K head.version le kind reply is.of_kind is.fits).0) refl

pub one_reply : (K : ℕ) (bytes : List ℕ) (head head' : Head) (kind kind' : ℕ) (reply reply' : Reply K) → IsReply bytes head kind reply → IsReply bytes head' kind' reply' →
    (head ≡ head') × (kind ≡ kind') × (shown (amounts_in head.version) reply ≡ shown (amounts_in head.version) reply')
one_reply K bytes head head' kind kind' reply reply' is is' =
    let one : Answer K = (head, (kind, shown (amounts_in head.version) reply)) in
    let other : Answer K = (head', (kind', shown (amounts_in head'.version) reply')) in
    let same : one ≡ other = some_is one other (reply_at K bytes) (reply_again bytes head kind reply is) (reply_again bytes head' kind' reply' is') in
    let one_head : head ≡ head' = ap (λ (p : Answer K). p.0) same in
    let shows : shown (amounts_in head.version) reply ≡ shown (amounts_in head'.version) reply' = ap (λ (p : Answer K). p.1.1) same in
    (one_head, ap (λ (p : Answer K). p.1.0) same, subst (λ (h : Head). shown (amounts_in head.version) reply ≡ shown (amounts_in h.version) reply') (sym one_head) shows)

-- replies that show the same have one spelling
pub alike : (K : ℕ) (bytes : List ℕ) (head : Head) (kind : ℕ) (reply reply' : Reply K) → IsReply bytes head kind reply → FitsReply reply' → shown (amounts_in head.version) reply ≡ shown (amounts_in head.version) reply' → IsReply bytes head kind reply'
alike K bytes head kind reply reply' is fits same =
    let version = head.version in
    record {
      spelled = is.spelled ∙ ap (λ (body : List ℕ). version ∷ kind ∷ to_be_bytes w32 head.call_id ++ body) (sym (body_shown version reply) ∙ ap (reply_body version) same ∙ body_shown version reply');
      version_fits = is.version_fits;
      id_fits = is.id_fits;
      is_kind = is.is_kind;
      of_kind = of_kind_shown (amounts_in version) kind reply' (subst (IsOfKind kind) same (shown_of_kind (amounts_in version) kind reply is.of_kind));
      fits = fits;
    }

-- where all amounts are spelled there is one reply
pub none_lost : (K : ℕ) (bytes : List ℕ) (head head' : Head) (kind kind' : ℕ) (reply reply' : Reply K) → amounts_in head.version ≡ K → IsReply bytes head kind reply → IsReply bytes head' kind' reply' → reply ≡ reply'
none_lost K bytes head head' kind kind' reply reply' all is is' =
    let same : shown K reply ≡ shown K reply' = subst (λ n. shown n reply ≡ shown n reply') all (one_reply K bytes head head' kind kind' reply reply' is is').2 in
    sym (all_of_reply reply is.fits) ∙ same ∙ all_of_reply reply' is'.fits

-- a fault's reply is none to a request
pub no_fault : (K : ℕ) (status : ℕ) (head : Head) (kind : ℕ) (reply : Reply K) → IsReply (fault_reply status) head kind reply → ⊥
no_fault K status head kind reply is =
    let none : 0 ≡ kind = cc (is.spelled) in
    omega (arith, is.is_kind.0)

-- of two answers no bytes say both
pub one_answer : (bytes : List ℕ) (answer answer' : declared.Answer) → Says bytes answer → Says bytes answer' → answer ≡ answer'
one_answer bytes (answers.Reply head kind reply) (answers.Reply head' kind' reply') says says' =
    let e = one_reply resources bytes head head' kind kind' reply reply' says.0 says'.0 in
    let shows : shown (amounts_in head.version) reply' ≡ reply' = subst (λ (h : Head). shown (amounts_in h.version) reply' ≡ reply') (sym e.0) says'.1 in
    let same : reply ≡ reply' = sym says.1 ∙ e.2 ∙ shows in
    cc (e.0, e.1, same)
one_answer bytes (answers.Reply head kind reply) (answers.Fault status) says says' = absurd (no_fault resources status head kind reply (subst (λ (b : List ℕ). IsReply b head kind reply) says'.1 says.0))
one_answer bytes (answers.Fault status) (answers.Reply head kind reply) says says' = absurd (no_fault resources status head kind reply (subst (λ (b : List ℕ). IsReply b head kind reply) says.1 says'.0))
one_answer bytes (answers.Fault status) (answers.Fault status') says says' = let a = says.1 in let b = says'.1 in cc (a, b)

pub reply_is_bytes : (K : ℕ) (head : Head) (kind : ℕ) (r : Reply K) → is_version K head.version ≡ true → kind < 256 → IsOfKind kind r → FitsReply r → IsBytes (reply_bytes head kind r)
reply_is_bytes K head kind r is lt of_kind fits = headed K head kind (reply_body head.version r) is lt (reply_body_again K head.version (spelled_among K head.version is) kind r of_kind fits).1
