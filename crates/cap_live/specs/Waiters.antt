-- The applications of a cluster that wait.
use Rattle.std.specs.Prelude.{◌≡◌, ℕ, Some, true}
use Rattle.cap_base.specs.Members.{IsIn}
use Rattle.cap_model.specs.Flat.{app_at}
use Rattle.cap_asks.specs.Accounts.{HeldApp}
use Rattle.cap_asks.specs.Apps.{account_of, is_waiting}
use Rattle.cap_tree.specs.Waiting.{waiting_at}
use Rattle.cap_commit.specs.ClusterState.{AreOutOfReach, ClusterState}

-- an active application of a cluster, with its account, that waits for containers; no present node could take what its impossible asks want
pub record HasWaiter {K : ℕ} (cluster : ClusterState K) (held : HeldApp) : Type 0 where
  pub found : app_at cluster.flat held.app.number ≡ Some held.app
  pub account : account_of held.app.number cluster.accounts ≡ Some held.account
  pub waits : is_waiting held.app ≡ true
  pub impossible : AreOutOfReach cluster.flat.nodes.present held.impossible

-- it waits in the tree, so that the walk comes to it
abbrev pub IsServed : {K : ℕ} → ClusterState K → HeldApp → Type 0
IsServed cluster held = IsIn held.app.number (waiting_at held.account.position cluster.rows)
