use Rattle.cap_nodes.proofs.Prelude.{◌≡◌, ◌-◌, ◌&&◌, find, nat_lt, is_kept_for}
use Rattle.cap_nodes.proofs.containers.Containers.next_for.Given as goal

-- the next one is the same from where the walk is
abbrev pub invariant-loop-container : goal.invariant-loop-container
invariant-loop-container g l =
    find (λ c. is_kept_for l.app l.key c && nat_lt l.from c.number) l.self.containers ≡ find (λ c. is_kept_for l.app l.key c && nat_lt l.after c.number) l.self.containers

abbrev pub decreases-loop-container : goal.decreases-loop-container
decreases-loop-container g l = l.self.next - l.after
