use Rattle.std.proofs.Common.{List, ap, map, subst, sym, ◌∙◌}
use Rattle.cap_base.specs.Limits.{resources}
use Rattle.cap_model.specs.Flat.{Flat}
use Rattle.cap_workers.specs.Idle.{AllAre}
use Rattle.cap_workers.specs.Scheduling.{spell}
use Rattle.cap_workers.specs.declared.idle.IdleWorker.{IdleWorker}
use Rattle.cap_server.proofs.Epochs.{firsts_of, lasts_of, named}
use Rattle.cap_server.proofs.epoch.named_epoch.Goals as goal

pub work_all-requires-clause-lanes : goal.work_all-requires-clause-lanes
work_all-requires-clause-lanes g c κs within = named c.args.blanks.1 g.J.LaneNaming.lanes c.requires.lanes

pub returns-clause-run : goal.returns-clause-run
returns-clause-run g c = record {
  journal = c.in_ok-closed.closed.journal.items;
  epoch = record {
    seats = g.J.Naming.seats;
    spells = map spell c.in_ok-left.left.workers.items;
    began = firsts_of c.in_ok-left.left.workers.items ∙ c.in_ok-left.ensures.began;
    left = lasts_of c.in_ok-left.left.workers.items ∙ sym c.in_ok-closed.ensures.back ∙ sym (ap (map (λ w. w.worker)) c.parted-carried.ensures.workers);
    closes = rw (c.requires.opening, c.requires.limit, c.parted-carried.ensures.cluster) c.in_ok-closed.ensures.closes;
  };
  count = sym c.parted-carried.ensures.entries;
}

pub returns-clause-workers : goal.returns-clause-workers
returns-clause-workers g c =
    subst (λ (ws : List IdleWorker). AllAre c.parted-carried.result.0.cluster.flat ws) (sym c.parted-carried.ensures.workers)
    (subst (λ (x : Flat resources). AllAre x c.in_ok-closed.workers.items) (sym c.parted-carried.ensures.cluster) c.in_ok-closed.ensures.workers)
