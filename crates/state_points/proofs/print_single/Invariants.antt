-- `state_points::print_single` meets its contract. The loop's invariant: as many states were asked as were passed. Assumes nothing.
use mathlib.Core.Path.{◌≡◌}
use Rattle.state_points.proofs.print_single.Given as goal

abbrev pub invariant-loop-question : goal.invariant-loop-question
invariant-loop-question g l = l.asked ≡ l.question-index
