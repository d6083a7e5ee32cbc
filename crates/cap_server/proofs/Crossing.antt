-- That a task of an epoch may go to its thread, and that what is left of one may come back.
use denote.RattleType.{RattleType}
use denote.Param.Send.{IsSend, sendable, enum_send, view_send, recorded_send, struct_send}
use denote.Enum.Declared as enum
use denote.Struct.Declared.{shape}
use Rattle.std.proofs.Crossing.{crosses}
use Rattle.cap_lanes.proofs.committer.Committer.TheSendSync as committer
use Rattle.cap_lanes.proofs.putter.Ended.TheSendSync as ended
use Rattle.cap_lanes.proofs.putter.Putter.TheSendSync as putter
use Rattle.cap_shared.proofs.Crossing.{Replica-send}
use Rattle.cap_shared.proofs.seat.Seat.TheSendSync as seat
use Rattle.cap_shared.specs.declared.seat.Naming as naming
use Rattle.cap_workers.specs.declared.lane.LaneNaming as lane_naming
use Rattle.cap_workers.proofs.mailbox.Posted.TheSendSync as posted
use Rattle.cap_workers.specs.contracts.committer.FinishedLanes as FinishedLanes
use Rattle.cap_workers.specs.contracts.committer.FinishedLanes.TheInside as finished_lanes
use Rattle.cap_workers.specs.contracts.committer.LaneCommitter as LaneCommitter
use Rattle.cap_workers.specs.contracts.committer.LaneCommitter.TheInside as lane_committer
use Rattle.cap_workers.specs.contracts.follower.Follower as Follower
use Rattle.cap_workers.specs.contracts.follower.Follower.TheInside as follower
use Rattle.cap_workers.specs.contracts.lane.EndedLane as EndedLane
use Rattle.cap_workers.specs.contracts.lane.EndedLane.TheInside as ended_lane
use Rattle.cap_workers.specs.contracts.lane.Lane as Lane
use Rattle.cap_workers.specs.contracts.lane.Lane.TheInside as lane
use Rattle.cap_workers.specs.contracts.scheduler.Scheduled as Scheduled
use Rattle.cap_workers.specs.contracts.scheduler.Scheduled.TheInside as scheduled
use Rattle.cap_workers.specs.contracts.scheduler.Scheduler as Scheduler
use Rattle.cap_workers.specs.contracts.seeing.Seeing as Seeing
use Rattle.cap_connections.proofs.connection.ClientConnection.TheSendSync as connection
use Rattle.cap_server.specs.contracts.task.Done as Done
use Rattle.cap_server.specs.contracts.task.Task as Task

module _ (J : RattleType) (lanes : lane_naming.Ghosts J.Denot) (epoch : naming.Ghosts J.Denot) where
  Follower-send : IsSend J → IsSend (Follower.the_row J epoch)
  Follower-send s =
      view_send (follower.the_row J epoch) _ _ _ _ (recorded_send (follower.the_field J epoch).row _ _ (follower.the_type J epoch).to_one (struct_send (shape (follower.the_type J epoch)) (
        (search (seat.the_send, crosses, sendable) depth 60),
        ((search (Replica-send, crosses, sendable) depth 60), tt),
      )))

  Lane-send : IsSend J → IsSend (Lane.the_row J lanes epoch)
  Lane-send s =
      view_send (lane.the_row J lanes epoch) _ _ _ _ (recorded_send (lane.the_field J lanes epoch).row _ _ (lane.the_type J lanes epoch).to_one (struct_send (shape (lane.the_type J lanes epoch)) (
        (search (putter.the_send, crosses, sendable) depth 60),
        ((search (crosses, sendable) depth 60), tt),
      )))

  EndedLane-send : IsSend J → IsSend (EndedLane.the_row J lanes epoch)
  EndedLane-send s =
      view_send (ended_lane.the_row J lanes epoch) _ _ _ _ (recorded_send (ended_lane.the_field J lanes epoch).row _ _ (ended_lane.the_type J lanes epoch).to_one (struct_send (shape (ended_lane.the_type J lanes epoch)) (
        (search (ended.the_send, crosses, sendable) depth 60),
        ((search (crosses, sendable) depth 60), tt),
      )))

  LaneCommitter-send : IsSend J → IsSend (LaneCommitter.the_row J lanes epoch)
  LaneCommitter-send s =
      view_send (lane_committer.the_row J lanes epoch) _ _ _ _ (recorded_send (lane_committer.the_field J lanes epoch).row _ _ (lane_committer.the_type J lanes epoch).to_one (struct_send (shape (lane_committer.the_type J lanes epoch)) (
        (search (committer.the_send, crosses, sendable) depth 60),
        ((search (seat.the_send, crosses, sendable) depth 60), ((search (EndedLane-send, crosses, sendable) depth 60), ((search (posted.the_send, crosses, sendable) depth 60), tt))),
      )))

  FinishedLanes-send : IsSend J → IsSend (FinishedLanes.the_row J lanes epoch)
  FinishedLanes-send s =
      view_send (finished_lanes.the_row J lanes epoch) _ _ _ _ (recorded_send (finished_lanes.the_field J lanes epoch).row _ _ (finished_lanes.the_type J lanes epoch).to_one (struct_send (shape (finished_lanes.the_type J lanes epoch)) (
        (search (LaneCommitter-send, crosses, sendable) depth 60),
        tt,
      )))

  -- as fields of others
  Seeing-field : IsSend J → IsSend (Seeing.the_field J epoch).row
  Seeing-field s = enum_send (enum.shape (Seeing.the_type J epoch)) (((search (Follower-send, crosses, sendable) depth 60), tt), (((search (seat.the_send, crosses, sendable) depth 60), tt), tt))

  Scheduler-field : IsSend J → IsSend (Scheduler.the_field J lanes epoch).row
  Scheduler-field s = struct_send (shape (Scheduler.the_type J lanes epoch)) (
    (search (crosses, sendable) depth 60),
    ((search (crosses, sendable) depth 60), (Seeing-field s, ((search (Lane-send, crosses, sendable) depth 60), tt))),
  )

  Scheduled-send : IsSend J → IsSend (Scheduled.the_row J lanes epoch)
  Scheduled-send s =
      view_send (scheduled.the_row J lanes epoch) _ _ _ _ (recorded_send (scheduled.the_field J lanes epoch).row _ _ (scheduled.the_type J lanes epoch).to_one (struct_send (shape (scheduled.the_type J lanes epoch)) (
        (search (crosses, sendable) depth 60),
        ((search (crosses, sendable) depth 60), (Seeing-field s, ((search (EndedLane-send, crosses, sendable) depth 60), tt))),
      )))

  pub Task-send : IsSend J → IsSend (Task.the_row J lanes epoch)
  Task-send s =
      recorded_send (Task.the_field J lanes epoch).row _ _ (Task.the_type J lanes epoch).to_one (enum_send (enum.shape (Task.the_type J lanes epoch)) (
        (Scheduler-field s, tt),
        (((search (LaneCommitter-send, crosses, sendable) depth 60), tt), tt),
      ))

  pub Done-send : IsSend J → IsSend (Done.the_row J lanes epoch)
  Done-send s =
      recorded_send (Done.the_field J lanes epoch).row _ _ (Done.the_type J lanes epoch).to_one (enum_send (enum.shape (Done.the_type J lanes epoch)) (
        ((search (connection.the_field_send, crosses, sendable) depth 60), ((search (seat.the_send, crosses, sendable) depth 60), tt)),
        (((search (seat.the_send, crosses, sendable) depth 60), tt), (((search (Scheduled-send, crosses, sendable) depth 60), tt), (((search (FinishedLanes-send, crosses, sendable) depth 60), tt), (tt, tt)))),
      ))
