-- g in two halves over naturals, g(z) = plus(z) - minus(z), and what the searches ask and promise of them. What `engine` promises is not
-- stated by this file: `proofs/Signed.antt` ties the halves to the g that the rules write.
use Rattle.std.specs.Prelude.{◌≡◌, ℕ, suc, ◌+◌, ◌*◌, ◌-◌, ◌≤◌, ◌<◌}
use Rattle.cubic.specs.Cubic.{N}
use Rattle.cubic.specs.Promise.{largest_b}

unfoldable pub plus : (a z : ℕ) → ℕ
plus a z = z * (z * z + N * a)

unfoldable pub minus : (a b z : ℕ) → ℕ
minus a b z = z * (N * z + b * (b + N)) + N * a * b

-- by how much each half grows from z to z + 1
unfoldable pub plus_step : (a z : ℕ) → ℕ
plus_step a z = 3 * (z * (z + 1)) + 1 + N * a

unfoldable pub minus_step : (b z : ℕ) → ℕ
minus_step b z = N * (2 * z + 1) + b * (b + N)

-- by how much g grows from z to z + 1, and 0 where it does not grow
unfoldable pub rise : (a b z : ℕ) → ℕ
rise a b z = plus_step a z - minus_step b z

-- a third of the grid: there the step of g is least, so g bends down below it and up from it on
abbrev pub bend : ℕ
bend = 33333

-- the farthest place at which g is worked out
abbrev pub farthest : ℕ
farthest = N + largest_b + 1

-- g is positive at `high` and everywhere above
unfoldable pub PositiveFrom : (a b high : ℕ) → Type 0
PositiveFrom a b high = (y : ℕ) → high ≤ y → minus a b y < plus a y

-- g is not positive at `low` and everywhere below
unfoldable pub NotPositiveTo : (a b low : ℕ) → Type 0
NotPositiveTo a b low = (y : ℕ) → y ≤ low → plus a y ≤ minus a b y

-- a crossing, by the halves of g
pub record Crosses (a b z : ℕ) : Type 0 where
  pub not_positive : plus a z ≤ minus a b z
  pub then_positive : minus a b (suc z) < plus a (suc z)

-- where the gas root lies, if it is at the bend or above
pub record GasSide (b z : ℕ) : Type 0 where
  pub from_bend : bend ≤ z
  pub to_top : z ≤ N + b

-- where a search from above may begin
pub record FallsFrom (a b high : ℕ) : Type 0 where
  pub past_bend : bend < high
  pub on_grid : high ≤ N + b + 1
  pub positive_here : minus a b high < plus a high
  pub positive : PositiveFrom a b high

-- a place of that search, by its values: the room is what g has above 1 at `high`, the slope that of the step below `high`
pub record Falling (a b high room slope : ℕ) : Type 0 where
  pub is_room : minus a b high + room + 1 ≡ plus a high
  pub is_slope : slope ≡ rise a b (high - 1)
  pub begins : FallsFrom a b high

-- where that search ends: at the crossing, if there is one from the bend on, and just below the bend if there is none
pub record FallsTo (a b z : ℕ) : Type 0 where
  pub positive : PositiveFrom a b (z + 1)
  pub found : bend ≤ z → plus a z ≤ minus a b z
  pub to_bend : bend ≤ z + 1

-- a place that such a search found, with nothing positive below it
pub record Alone (a b z : ℕ) : Type 0 where
  pub from_bend : bend ≤ z
  pub not_positive : NotPositiveTo a b z

-- where a search from below stands before the bend
pub record ClimbsFrom (a b low : ℕ) : Type 0 where
  pub before_bend : low < bend
  pub not_positive : NotPositiveTo a b low

-- where a search from below ends: at the crossing, if there is one below the bend, and at the bend if there is none
pub record ClimbsTo (a b z : ℕ) : Type 0 where
  pub not_positive : NotPositiveTo a b z
  pub found : z < bend → minus a b (z + 1) < plus a (z + 1)
  pub to_bend : z ≤ bend
