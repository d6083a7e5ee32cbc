-- What the proofs here take from elsewhere.
pub use Rattle.std.proofs.Common.{Bool, List, [], ap, append_assoc, arith, false, length, length-append, nat_lt, refl, set, subst, suc, sym, true, vec_capacity, zero, ℕ, ⊎_elim, ◌++◌, ◌+◌, ◌<◌, ◌==◌, ◌∙◌, ◌∷◌, ◌≡◌, ◌≢◌, ◌≤◌}
pub use Rattle.std.proofs.lemmas.Bool.Decides.{nat_tests}
pub use Rattle.std.proofs.lemmas.List.{append-nil}
pub use Rattle.std.specs.Array.Iter.{array_into_iter_items}
pub use Rattle.std.specs.Prelude.{Err, MatchResult, Ok, Result, Some, if◌then◌else◌, slice_get}
pub use Rattle.atomic_table.proofs.Lists.{at_set, at_snoc}
pub use Rattle.atomic_table.specs.declared.badge.Badge.{Badge}
pub use Rattle.cap_lanes.specs.ChannelRule.{AllFit, Fits, Holds, IsPut, IsTaken, Knows, Sound, Tally, Tells, WorkersBelow, first_view, fresh, head_of, lane, lane_of, nobody, only_first, puts_by, rest_of, sender, taker, times, total, view_of, with_guest, without_first}
pub use Rattle.cap_lanes.specs.Ends.{Flags, IsOpen, IsSender, IsShut, lanes_id, put_in}
pub use Rattle.cap_lanes.specs.Items.{EndsLast, is_over, messages_of, proposals, puts_if, puts_in, tagged}
pub use Rattle.cap_lanes.specs.Sides.{Alike, AllOf, AllOver, CommitterSide, LanesId, WorkerSide, ends_of, put_by, worker_side}
pub use Rattle.cap_lanes.specs.declared.faults.PutFault.{PutFault}
pub use Rattle.cap_lanes.specs.declared.item.Item.{Item}
pub use Rattle.cap_lanes.specs.declared.item.Message.{Message}
pub use Rattle.cap_lanes.specs.declared.item.Message.TheVariants.{End, Put}
pub use Rattle.cap_lanes.specs.declared.view.Lane.{Lane}
pub use Rattle.cap_lanes.specs.declared.view.View.{View}
pub use Rattle.cap_model.specs.Admission.{NodeProposal}
pub use Rattle.crossbeam_channel.specs.Claims.{IsSeatAt, Pass, view}
pub use Rattle.crossbeam_channel.specs.Ends.{receives_on, sends_on}
pub use Rattle.crossbeam_channel.specs.Fifo.{Forks, Learns, Merges, Pops, Pushes}
pub use Rattle.crossbeam_channel.specs.declared.flavors.array.Doing.{Doing}
pub use Rattle.crossbeam_channel.specs.declared.flavors.array.Key.{Key}
pub use Rattle.crossbeam_channel.specs.declared.flavors.array.Rows.{Rows}
