-- docs/RULES.md, "The heat table": what `woolyard_heat_table` leaves with its caller: the number and the heat capacity of the one reply, as they are.
use Rattle.std.specs.Prelude.{ℕ}
use Rattle.heat_table.specs.Replies.{Replies}

abbrev pub HeatTableAnswers : (millikelvin number heat : ℕ) → Type 0
HeatTableAnswers millikelvin number heat = Replies millikelvin (record { number = number; heat = heat })
