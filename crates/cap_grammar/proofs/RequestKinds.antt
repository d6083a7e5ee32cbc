-- The laws of each kind of request: what is read of a body is spelled so, what is spelled so is read, and is bytes.
use Rattle.cap_grammar.proofs.Prelude.{List, Option, Some, ap, arith, inl, inr, refl, subst, sym, ℕ, ◌++◌, ◌<◌, ◌∙◌, ◌≡◌, ◌≤◌, eqb-true, if◌then◌else◌, ◌==◌, asks_max, numbers_max, text_max, IsBytes, ask_of, lines, numbers, wish_of, an_ask, body_at, node_report, queue_state, registration, submission, wishes, Field, text_that, made_at, FitsAsk, FitsRequest, IsKind, kind_of, request_body, text, ask, list_bytes, is_host, is_path, is_place, is_rack, is_user, amounts_in, Request, amount_max}
use Rattle.cap_grammar.proofs.SpelledBytes.{a_host, a_rack, a_name, a_path}
use Rattle.cap_grammar.proofs.FieldLaws.{AreBytes, read_then, chosen, IsField, made_again, is_pair, is_nothing, is_u8, is_u16, is_u32, is_u64, is_bool, is_text_that, is_vector, is_made, is_counted}

-- ---- the fields of bodies

is_path_text : IsField (text_that is_path)
is_path_text = is_text_that is_path a_path

is_submission : IsField submission
unfolding submission
is_submission = is_pair is_path_text (is_text_that is_user a_name)

is_ask : (K n : ℕ) → n ≤ K → IsField (an_ask K n)
unfolding an_ask
is_ask K n le =
    is_made ask_of wish_of (FitsAsk K n)
    (record {
      back = λ x fits. refl;
      forth = λ a fits. refl;
      to = λ x h. record { priority = h.0; request = h.1.0; count = h.1.1.0; resource = h.1.1.1.0; place = h.1.1.1.1 };
      from = λ a h. (h.priority, (h.request, (h.count, (h.resource, h.place))));
    })
    (is_pair is_u32 (is_pair is_u64 (is_pair is_u32 (is_pair (is_vector K n amount_max le (omega arith)) (is_text_that is_place a_name)))))

is_numbers : IsField numbers
is_numbers = is_counted numbers_max (λ n few. omega (arith, few)) is_u16 is_u64

is_wishes : (K n : ℕ) → n ≤ K → IsField (wishes K n)
unfolding wishes
is_wishes K n le = is_pair is_u64 (is_pair is_u32 (is_pair (is_counted asks_max (λ n few. omega (arith, few)) is_u16 (is_ask K n le)) is_numbers))

is_registration : (K n : ℕ) → n ≤ K → IsField (registration K n)
unfolding registration
is_registration K n le = is_pair (is_text_that is_host a_host) (is_pair (is_text_that is_rack a_rack) (is_vector K n amount_max le (omega arith)))

is_node_report : IsField node_report
unfolding node_report
is_node_report = is_pair is_u64 (is_pair is_u32 is_numbers)

is_queue_state : IsField queue_state
unfolding queue_state
is_queue_state = is_pair is_path_text is_bool

is_lines : IsField lines
is_lines = is_counted text_max (λ n few. omega (arith, few)) is_u32 is_u8

-- ---- the body of a request

-- what is known of the body of a request of this kind that was read at the front of bytes
pub record IsBody {K : ℕ} (version kind : ℕ) (bytes : List ℕ) (r : Request K) (rest : List ℕ) : Type 0 where
  pub kind_is : kind_of r ≡ kind
  pub spelled : bytes ≡ request_body version r ++ rest
  pub fits : FitsRequest version r

-- what a field is where it is the body of a request that is made of it
takes : {K : ℕ} {A : Type 0} {f : Field A} {version kind : ℕ} {bytes : List ℕ} {r : Request K} {rest : List ℕ} → AreBytes bytes → (make : A → Request K) → IsField f
    → ((x : A) → f.Fits x → (kind_of (make x) ≡ kind) × (f.spell x ≡ request_body version (make x)) × FitsRequest version (make x)) → made_at make f.read bytes ≡ Some (r, rest) → IsBody version kind bytes r rest
takes {K} {A} {f} {version} {kind} {bytes} {r} {rest} at make is means e =
    read_then is bytes at _ _ e (λ x after t fits made_of.
    let m = means x t.1 in
    let same : (make x, after) ≡ (r, rest) = cc made_of in
    subst (λ (p : Request K × List ℕ). IsBody version kind bytes p.0 p.1) same (record { kind_is = m.0; spelled = t.0 ∙ ap (λ (s : List ℕ). s ++ after) m.1; fits = m.2 }))

-- the kind is this one, or another
either : {K : ℕ} {version kind : ℕ} {bytes : List ℕ} {r : Request K} {rest : List ℕ} {x y : Option (Request K × List ℕ)} (k : ℕ) → (x ≡ Some (r, rest) → IsBody version k bytes r rest) → (y ≡ Some (r, rest) → IsBody version kind bytes r rest)
    → (if kind == k then x else y) ≡ Some (r, rest) → IsBody version kind bytes r rest
either {K} {version} {kind} {bytes} {r} {rest} {x} {y} k this other e =
    elim (chosen (kind == k) x y (Some (r, rest)) e) [
      | inl t ↦ subst (λ n. IsBody version n bytes r rest) (sym (eqb-true kind k t.0)) (this t.1)
      | inr f ↦ other f.1
    ]

pub body_takes : (K version : ℕ) → amounts_in version ≤ K → (kind : ℕ) (bytes : List ℕ) (r : Request K) (rest : List ℕ) → AreBytes bytes → body_at K version kind bytes ≡ Some (r, rest) → IsBody version kind bytes r rest
unfolding body_at submission wishes an_ask registration node_report queue_state ask list_bytes
body_takes K version le kind bytes r rest at =
    either 1 (takes at (λ x. Request.Submit x.0 x.1) is_submission (λ x fits. (refl, refl, fits)))
    (either 2 (takes at Request.RegisterMaster is_u64 (λ n fits. (refl, refl, fits)))
    (either 3 (takes at (λ x. Request.Allocate x.0 x.1.0 x.1.1.0 x.1.1.1) (is_wishes K (amounts_in version) le) (λ x fits. (refl, refl, (fits.0, fits.1.0, fits.1.1.0, fits.1.1.1))))
    (either 4 (takes at Request.FinishMaster is_u64 (λ n fits. (refl, refl, fits)))
    (either 5 (takes at (λ x. Request.RegisterNode x.0 x.1.0 x.1.1) (is_registration K (amounts_in version) le) (λ x fits. (refl, refl, (fits.0, fits.1.0, fits.1.1))))
    (either 6 (takes at (λ x. Request.Heartbeat x.0 x.1.0 x.1.1) is_node_report (λ x fits. (refl, refl, (fits.0, fits.1.0, fits.1.1))))
    (either 7 (takes at Request.NodeGone is_u64 (λ n fits. (refl, refl, fits)))
    (either 8 (takes at Request.QueueInfo is_path_text (λ path fits. (refl, refl, fits)))
    (either 9 (takes at (λ x. Request.SetQueueState x.0 x.1) is_queue_state (λ x fits. (refl, refl, fits.0)))
    (either 10 (takes at (λ x. Request.ClusterInfo) is_nothing (λ x fits. (refl, refl, tt)))
    (either 11 (takes at Request.Refresh is_lines (λ text fits. (refl, refl, fits)))
    (λ e. absurd cc)))))))))))

pub body_again : (K version : ℕ) → amounts_in version ≤ K → (r : Request K) → FitsRequest version r → ((rest : List ℕ) → body_at K version (kind_of r) (request_body version r ++ rest) ≡ Some (r, rest)) × IsBytes (request_body version r)
unfolding body_at submission wishes an_ask registration node_report queue_state ask list_bytes
body_again K version le (Request.Submit path user) fits = made_again (λ x. Request.Submit x.0 x.1) is_submission (path, user) (fits.0, fits.1)
body_again K version le (Request.RegisterMaster app) fits = made_again Request.RegisterMaster is_u64 app fits
body_again K version le (Request.Allocate app response asks releases) fits = made_again (λ x. Request.Allocate x.0 x.1.0 x.1.1.0 x.1.1.1) (is_wishes K (amounts_in version) le) (app, (response, (asks, releases))) (fits.0, (fits.1, (fits.2, fits.3)))
body_again K version le (Request.FinishMaster app) fits = made_again Request.FinishMaster is_u64 app fits
body_again K version le (Request.RegisterNode host rack total) fits = made_again (λ x. Request.RegisterNode x.0 x.1.0 x.1.1) (is_registration K (amounts_in version) le) (host, (rack, total)) (fits.0, (fits.1, fits.2))
body_again K version le (Request.Heartbeat node response ended) fits = made_again (λ x. Request.Heartbeat x.0 x.1.0 x.1.1) is_node_report (node, (response, ended)) (fits.0, (fits.1, fits.2))
body_again K version le (Request.NodeGone node) fits = made_again Request.NodeGone is_u64 node fits
body_again K version le (Request.QueueInfo path) fits = made_again Request.QueueInfo is_path_text path fits
body_again K version le (Request.SetQueueState path running) fits = made_again (λ x. Request.SetQueueState x.0 x.1) is_queue_state (path, running) (fits, tt)
body_again K version le Request.ClusterInfo fits = made_again (λ x. Request.ClusterInfo) is_nothing tt tt
body_again K version le (Request.Refresh text) fits = made_again Request.Refresh is_lines text fits

pub kind_is_listed : {K : ℕ} (r : Request K) → IsKind (kind_of r)
kind_is_listed Request.ClusterInfo = (omega arith, omega arith)
kind_is_listed _ = (omega arith, omega arith)

pub kind_fits : {K : ℕ} (r : Request K) → kind_of r < 256
kind_fits r = omega (arith, (kind_is_listed r).1)
