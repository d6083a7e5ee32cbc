use Rattle.std.specs.Option.{option_to_list}
use Rattle.cap_workers.proofs.Prelude.{ℕ, ◌+◌, length, map, ap, ◌∙◌}
use Rattle.cap_workers.specs.Scheduling.{spell}
use Rattle.cap_workers.proofs.Leavers.{all_begin, more_followed, more_seats}
use Rattle.cap_workers.proofs.idle.close_epoch.Goals as goal

pub carry_on-requires-clause-begin : goal.carry_on-requires-clause-begin
carry_on-requires-clause-begin g c =
    all_begin c.close-closed.result.journal.items c.close_lanes.new.seats.items c.in_ok-leaving.leaving.items c.close-closed.ensures.fit (more_followed c.leave_all.new.seats.items c.close_lanes.new.seats.items c.in_ok-leaving.leaving.items c.in_ok-close_lanes.ensures.kept c.in_ok-leaving.ensures.followed)

pub returns-clause-closes : goal.returns-clause-closes
returns-clause-closes g c = record {
  run = c.close-closed.ensures.run;
  within = c.close-closed.ensures.limit;
  tags = c.close-closed.ensures.tags;
  seats = c.close_lanes.new.seats.items;
  all = c.in_ok-close_lanes.ensures.count ∙ ap (λ (n : ℕ). n + length (option_to_list c.args.lanes)) c.in_ok-leaving.ensures.seats ∙ c.requires;
  once = c.close-closed.ensures.apart;
  fit = c.close-closed.ensures.fit;
  honest = c.close-closed.ensures.honest;
  ends = c.in_ok-leaving.ended.items;
  work = more_seats g.J.Naming.opening g.J.Naming.limit c.leave_all.new.seats.items c.close_lanes.new.seats.items c.in_ok-leaving.ended.items (map spell c.args.scheduled.items) c.in_ok-close_lanes.ensures.kept c.in_ok-leaving.ensures.work;
  lanes = c.in_ok-close_lanes.ensures.end;
}
