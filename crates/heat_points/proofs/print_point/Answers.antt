-- `heat_points::print_point` asks for the bits of an answer, which has some: no answer is a NaN. Assumes nothing.
use Rattle.heat.proofs.Theorems.{answer_is_no_nan}
use Rattle.heat_points.proofs.print_point.Goals as goal

pub float_to_bits-heat : goal.float_to_bits-heat
float_to_bits-heat g c = answer_is_no_nan _ _ c.in-KilojoulesPerKilogramKelvin.ensures
