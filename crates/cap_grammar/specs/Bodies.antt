-- What the body of each kind of request is put together from, and which bodies have lists.
use Rattle.std.specs.Prelude.{◌≡◌, ◌⊎◌, ℕ, List, drop, Option, None, Bool, true, nat_lt, ◌==◌, if◌then◌else◌}
use Rattle.std.specs.Int.{Width, w16, w32}
use Rattle.cap_vector.specs.Vector.{amount_max}
use Rattle.cap_base.specs.Limits.{asks_max, numbers_max, text_max}
use Rattle.cap_base.specs.Cascade.{holds_of}
use Rattle.cap_model.specs.Asks.{Ask}
use Rattle.cap_model.specs.declared.request.Request.{Request}
use Rattle.cap_grammar.specs.Descriptions.{Field, nothing, u8, u16, u32, u64, bool, text_that, vector, pair, counted, made}
use Rattle.cap_grammar.specs.Fields.{made_at, number_at}
use Rattle.cap_grammar.specs.Spelling.{FitsAsk}
use Rattle.cap_grammar.specs.Texts.{is_host, is_rack, is_path, is_user, is_place}
use Rattle.cap_grammar.specs.Versions.{amounts_in}

-- path of the leaf queue, and user
unfoldable pub submission : Field (List ℕ × List ℕ)
submission = pair (text_that is_path) (text_that is_user)

-- priority, request id, count, resource and place
abbrev pub Wish : Type 0
Wish = ℕ × (ℕ × (ℕ × (List ℕ × List ℕ)))

abbrev pub ask_of : Wish → Ask
ask_of x = record { key = record { priority = x.0; request = x.1.0 }; count = x.1.1.0; resource = x.1.1.1.0; place = x.1.1.1.1 }

abbrev pub wish_of : Ask → Wish
wish_of a = (a.key.priority, (a.key.request, (a.count, (a.resource, a.place))))

unfoldable pub an_ask : (K n : ℕ) → Field Ask
an_ask K n = made ask_of wish_of (FitsAsk K n) (pair u32 (pair u64 (pair u32 (pair (vector K n amount_max) (text_that is_place)))))

-- containers
abbrev pub numbers : Field (List ℕ)
numbers = counted u16 numbers_max u64

-- application, response id, asks and releases
unfoldable pub wishes : (K n : ℕ) → Field (ℕ × (ℕ × (List Ask × List ℕ)))
wishes K n = pair u64 (pair u32 (pair (counted u16 asks_max (an_ask K n)) numbers))

-- host, rack and total
unfoldable pub registration : (K n : ℕ) → Field (List ℕ × (List ℕ × List ℕ))
registration K n = pair (text_that is_host) (pair (text_that is_rack) (vector K n amount_max))

-- node, response id and ended containers
unfoldable pub node_report : Field (ℕ × (ℕ × List ℕ))
node_report = pair u64 (pair u32 numbers)

-- path, and whether the queue shall run
unfoldable pub queue_state : Field (List ℕ × Bool)
queue_state = pair (text_that is_path) bool

-- property lines
abbrev pub lines : Field (List ℕ)
lines = counted u32 text_max u8

-- the body of a request of this kind in this version, at the front of bytes
unfoldable pub body_at : (K version kind : ℕ) → List ℕ → Option (Request K × List ℕ)
body_at K version kind bytes =
    if kind == 1 then made_at (λ x. Request.Submit x.0 x.1) submission.read bytes else
    if kind == 2 then made_at Request.RegisterMaster u64.read bytes else
    if kind == 3 then made_at (λ x. Request.Allocate x.0 x.1.0 x.1.1.0 x.1.1.1) (wishes K (amounts_in version)).read bytes else
    if kind == 4 then made_at Request.FinishMaster u64.read bytes else
    if kind == 5 then made_at (λ x. Request.RegisterNode x.0 x.1.0 x.1.1) (registration K (amounts_in version)).read bytes else
    if kind == 6 then made_at (λ x. Request.Heartbeat x.0 x.1.0 x.1.1) node_report.read bytes else
    if kind == 7 then made_at Request.NodeGone u64.read bytes else
    if kind == 8 then made_at Request.QueueInfo (text_that is_path).read bytes else
    if kind == 9 then made_at (λ x. Request.SetQueueState x.0 x.1) queue_state.read bytes else
    if kind == 10 then made_at (λ x. Request.ClusterInfo) nothing.read bytes else
    if kind == 11 then made_at Request.Refresh lines.read bytes else
    None

-- a list that is not empty, with its length in a number of this width, begins at a position of the bytes
abbrev pub HasItemsAt : Width → ℕ → List ℕ → Type 0
HasItemsAt w i bytes = holds_of (λ n. nat_lt 0 n.0) (number_at w (drop i bytes)) ≡ true

-- memory is taken for the lists of a body of this kind, where they are not empty: asks and then releases, ended containers, or property lines
abbrev pub ListsItems : ℕ → List ℕ → Type 0
ListsItems kind body =
    ((kind ≡ 3) × (HasItemsAt w16 12 body ⊎ HasItemsAt w16 14 body)) ⊎ (((kind ≡ 6) × HasItemsAt w16 12 body) ⊎ ((kind ≡ 11) × HasItemsAt w32 0 body))
