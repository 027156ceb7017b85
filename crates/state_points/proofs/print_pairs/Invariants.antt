-- `state_points::print_pairs` meets its contract. The loops' invariants: as many states were asked as were passed. Assumes nothing.
use mathlib.Core.Path.{◌≡◌}
use Prim.Native.Nat.{◌+◌, ◌*◌}
use Rattle.state_points.proofs.print_pairs.Given as goal

abbrev pub invariant-loop-row : goal.invariant-loop-row
invariant-loop-row g l = l.asked ≡ 3 * 45 * l.row

abbrev pub invariant-loop-column : goal.invariant-loop-column
invariant-loop-column g l = l.asked ≡ 3 * (45 * l.row + l.column)

abbrev pub invariant-loop-fluid : goal.invariant-loop-fluid
invariant-loop-fluid g l = l.asked ≡ 3 * (45 * l.row + l.column) + l.fluid
