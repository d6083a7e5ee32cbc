use Rattle.std.proofs.Common.{map}
use Rattle.cap_copy.proofs.NextServed.{once}
use Rattle.cap_copy.proofs.Fitting.{seen_fits}
use Rattle.cap_copy.proofs.seen_tree.SeenTree.sort.Goals as goal

pub sort_waiting-requires-room-T-TreeItem : goal.sort_waiting-requires-room-T-TreeItem
sort_waiting-requires-room-T-TreeItem g c κs within = search seen_fits

pub sort_waiting-requires-room-T-Destruct : goal.sort_waiting-requires-room-T-Destruct
sort_waiting-requires-room-T-Destruct g c κs within = search seen_fits

pub sort_waiting-requires-room-T-Marked : goal.sort_waiting-requires-room-T-Marked
sort_waiting-requires-room-T-Marked g c κs within = search seen_fits

pub sort_waiting-requires-room-T-Served : goal.sort_waiting-requires-room-T-Served
sort_waiting-requires-room-T-Served g c κs within = search seen_fits

pub sort_waiting-requires : goal.sort_waiting-requires
sort_waiting-requires g c = record { once = once c.self.inside.root (map (λ e. e.0.items) c.self.inside.places.items) c.self.inside.links.items c.self.invariant }
