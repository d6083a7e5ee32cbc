-- What a sight has that may be proposed: the asks of its registered applications.
use Rattle.std.specs.Prelude.{◌≡◌, ℕ, ◌<◌, List, Some}
use Rattle.std.specs.List.{All, slice_get}
use Rattle.std.specs.declared.cmp.Ordering.TheVariants.{Less}
use Rattle.cap_base.specs.Members.{IsIn}
use Rattle.cap_model.specs.Asks.{Ask, ask_key_cmp}
use Rattle.cap_model.specs.Flat.{ask_at}
use Rattle.cap_model.specs.Sight.{AppSight, Sight, seen_app, seen_node}

-- an ask of a registered application
pub record Offer : Type 0 where
  pub app : AppSight
  pub ask : Ask

-- the asks of an application: in order of key, and each is found by its key
pub record AreByKey (asks : List Ask) : Type 0 where
  pub rise : (i j : ℕ) (a b : Ask) → i < j → slice_get asks i ≡ Some a → slice_get asks j ≡ Some b → ask_key_cmp a.key b.key ≡ Less
  pub found : All (λ ask. ask_at ask.key asks ≡ Some ask) asks

module _ {K : ℕ} where
  -- the application is one of a sight, which finds it by its number
  abbrev pub IsSeenApp : Sight K → AppSight → Type 0
  IsSeenApp sight app = seen_app sight app.number ≡ Some app

  -- so is the ask
  pub record IsOffer (sight : Sight K) (o : Offer) : Type 0 where
    pub found : seen_app sight o.app.number ≡ Some o.app
    pub member : IsIn o.ask o.app.asks

  -- a sight whose applications have their asks by key, and whose nodes are found by their numbers
  pub record IsWhole (sight : Sight K) : Type 0 where
    pub asks : All (λ app. AreByKey app.asks) sight.apps
    pub nodes : All (λ node. seen_node sight node.number ≡ Some node) sight.nodes
