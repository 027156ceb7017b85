-- `state_points::print_random` meets its contract. The loop's invariant: as many states were asked as were passed. Assumes nothing.
use mathlib.Core.Path.{◌≡◌}
use Rattle.state_points.proofs.print_random.Given as goal

abbrev pub invariant-loop : goal.invariant-loop
invariant-loop g l = l.asked ≡ l.counter
