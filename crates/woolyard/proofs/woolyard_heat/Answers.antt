-- `woolyard::woolyard_heat` meets its contract: the double is written where the answer has one. Assumes nothing.
use Rattle.heat.proofs.Theorems.{answer_is_no_nan}
use Rattle.woolyard.proofs.woolyard_heat.Goals as goal

-- an answer is no NaN, so it has its bits
pub float_to_bits-heat : goal.float_to_bits-heat
float_to_bits-heat c =
    answer_is_no_nan _ _ (rw c.in-KilojoulesPerKilogramKelvin.is at c.ideal_heat_capacity-reply.ensures)
