-- The requests that a stored one and a lent one are.
use Rattle.std.specs.Prelude.{ℕ}
use Rattle.cap_model.specs.declared.request.Request.{Request}
use Rattle.cap_model.specs.declared.request.Request.TheVariants as request
use Rattle.cap_model.specs.declared.request_view.RequestView.{RequestView}
use Rattle.cap_model.specs.declared.request_view.RequestView.TheVariants as view
use Rattle.cap_model.specs.declared.stored.RequestForm.{RequestForm}
use Rattle.cap_model.specs.declared.stored.RequestForm.TheVariants as form

module _ {K : ℕ} where
  abbrev pub request_in : RequestForm K → Request K
  request_in (form.RegisterMaster app) = request.RegisterMaster app
  request_in (form.Allocate response app asks releases) = request.Allocate app response asks releases
  request_in (form.FinishMaster app) = request.FinishMaster app
  request_in (form.Heartbeat response node ended) = request.Heartbeat node response ended
  request_in (form.NodeGone node) = request.NodeGone node
  request_in form.ClusterInfo = request.ClusterInfo
  request_in (form.Long long) = long.value

  abbrev pub request_of : RequestView K → Request K
  request_of (view.Submit path user) = request.Submit path.now user.now
  request_of (view.RegisterMaster app) = request.RegisterMaster app
  request_of (view.Allocate app response asks releases) = request.Allocate app response asks.now releases.now
  request_of (view.FinishMaster app) = request.FinishMaster app
  request_of (view.RegisterNode host rack total) = request.RegisterNode host.now rack.now total.now
  request_of (view.Heartbeat node response ended) = request.Heartbeat node response ended.now
  request_of (view.NodeGone node) = request.NodeGone node
  request_of (view.QueueInfo path) = request.QueueInfo path.now
  request_of (view.SetQueueState path running) = request.SetQueueState path.now running
  request_of view.ClusterInfo = request.ClusterInfo
  request_of (view.Refresh text) = request.Refresh text.now
