-- `streams::serve` lends the buffer, which is no larger than its program says. Assumes nothing.
use native.Mathlib.Omega.{arith}
use Rattle.streams.proofs.serve.Goals as goal

pub print-length-requires : goal.print-length-requires
print-length-requires g c = let fits = g.met.P.Program.room_fits in omega arith

pub shared_whole_as_front-write : goal.shared_whole_as_front-write
shared_whole_as_front-write g c = let fits = g.met.P.Program.room_fits in (omega arith, omega arith)
