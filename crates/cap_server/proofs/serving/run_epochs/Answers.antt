use Rattle.cap_server.proofs.Epochs.{through_more, through_none}
use Rattle.cap_server.proofs.serving.run_epochs.Goals as goal

pub loop-init : goal.loop-init
loop-init g c = record { leads = through_none c.args.state.now.limit _; workers = c.requires }

pub returns-then-is_over : goal.returns-then-is_over
returns-then-is_over g c = rw c.with_epoch-totals.ensures (through_more _ _ _ _ _ _ c.loop.invariant.leads c.in_ok-carried.ensures.run)

pub loop-preserved : goal.loop-preserved
loop-preserved g c = record {
  leads = rw c.with_epoch-totals.ensures (through_more _ _ _ _ _ _ c.loop.invariant.leads c.in_ok-carried.ensures.run);
  workers = c.in_ok-carried.ensures.workers;
}
