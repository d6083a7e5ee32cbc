-- What a snapshot keeps of the parts of a cluster.
use Rattle.std.specs.Prelude.{ℕ, zero, suc, ◌-◌, List, [], ◌∷◌, ◌++◌, map, length, count_by, filter, flat_map, if◌then◌else◌}
use Rattle.std.specs.List.{slice_get}
use Rattle.std.specs.Option.{option_map_or}
use Rattle.cap_base.specs.Cascade.{holds_of}
use Rattle.cap_model.specs.Asks.{Ask}
use Rattle.cap_model.specs.declared.ask.Key.{Key}
use Rattle.cap_model.specs.Flat.{App, Reservation, is_for}
use Rattle.cap_model.specs.Sight.{NodeSight}
use Rattle.cap_copy.specs.AskEntry.{AskEntry}

-- the applications whose masters have registered
abbrev pub registered_of : List App → List App
registered_of active = filter (λ app. app.registered) active

-- how many of these nodes hold reservations for a key of an application
abbrev pub reserved_on : List NodeSight → ℕ → Key → ℕ
reserved_on nodes app key = count_by (λ node. holds_of (is_for app key) node.reservation) nodes

-- an ask of the application of that number and index, which wants so many containers beyond those that these nodes keep room for
abbrev pub ask_entry : List NodeSight → ℕ → ℕ → Ask → AskEntry
ask_entry nodes app index ask = record { app = app; index = index; ask = ask; wanted = ask.count - reserved_on nodes app ask.key }

-- the asks of an application of that index, and of the one of that index among applications
abbrev pub asks_of : List NodeSight → ℕ → App → List AskEntry
asks_of nodes index app = map (ask_entry nodes app.number index) app.asks

abbrev pub asks_at : List NodeSight → List App → ℕ → List AskEntry
asks_at nodes apps index = option_map_or (asks_of nodes index) (slice_get apps index) []

-- the asks of applications in an order of their indexes
abbrev pub ask_entries : List NodeSight → List App → List ℕ → List AskEntry
ask_entries nodes apps order = flat_map (asks_at nodes apps) order

-- so many indexes, from 0 on
abbrev pub indexes : ℕ → List ℕ
indexes zero = []
indexes (suc n) = indexes n ++ n ∷ []

-- the asks of all applications, one after the other
abbrev pub asks_of_all : List NodeSight → List App → List AskEntry
asks_of_all nodes apps = ask_entries nodes apps (indexes (length apps))

-- an ask beside a reservation, which may be for it, and beside those that nodes hold
abbrev pub beside_one : Reservation → AskEntry → AskEntry
beside_one r e = if is_for e.app e.ask.key r then record e { wanted = e.wanted - 1 } else e

abbrev pub beside : List NodeSight → AskEntry → AskEntry
beside nodes e = record e { wanted = e.wanted - reserved_on nodes e.app e.ask.key }
