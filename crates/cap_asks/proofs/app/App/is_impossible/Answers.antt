use Rattle.cap_asks.proofs.app.App.is_impossible.Goals as goal

pub returns : goal.returns
returns g c = rw (← c.self.view_is) c.are_impossible.ensures
