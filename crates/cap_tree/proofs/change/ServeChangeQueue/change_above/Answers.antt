use Rattle.cap_tree.specs.Measure.{Measure}
use Rattle.cap_tree.proofs.change.ServeChangeQueue.change_above.Goals as goal

pub serve_above-requires : goal.serve_above-requires
serve_above-requires g c = ((search), c.requires.fits Measure.waiting)
