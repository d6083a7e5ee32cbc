use Rattle.cap_world.proofs.Prelude.{◌≡◌, List, ℕ, nat_eq, Some, refl, ap, ◌∙◌, sym, Connection, WorldState, connection_at, is_open_connection}
use Rattle.cap_world.proofs.Tables.{set_value_same}
use Rattle.cap_world.proofs.connections.feed.Goals as goal

pub returns-then-not-is_open : goal.returns-then-not-is_open
returns-then-not-is_open c workers =
    let w = c.in-Some.connection.now in
    let at : connection_at c.args.number c.args.connections.now.entries ≡ Some w = sym c.in-Some.ensures.value in
    let writes = c.get_mut.follows.holds w in (
      ap is_open_connection at ∙ sym c.is_open.ensures ∙ c.if-not-is_open.true,
      ap (λ (es : List (ℕ × Connection)). let s : WorldState = record { cluster = c.args.cluster.now.flat; connections = es; workers = workers } in s) (writes.0 ∙ set_value_same (nat_eq c.args.number) c.args.connections.now.entries w at),
      refl,
    )
