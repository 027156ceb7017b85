-- g against straight lines: what a bound on its steps says of its values, and where steps that rise take it.
-- One induction serves the search from above, the search from below, the starting point and the uniqueness of crossings. Assumes nothing.
use mathlib.Core.Path.{◌≡◌}
use Prim.Native.Nat.{ℕ, zero, suc, ◌+◌, ◌*◌, ◌-◌, ◌≤◌, ◌<◌}
use native.Mathlib.Nat.{add-zero, add-suc, add-sub_of_le}
use native.Mathlib.Omega.{arith}
use Rattle.cubic.specs.Sides.{plus, minus, plus_step, minus_step, bend, PositiveFrom, NotPositiveTo}
use Rattle.cubic.proofs.Shape.{plus_grows, minus_grows, Towards, upwards, downwards, towards_bend, away_from_bend}

-- Where one sequence grows by at most e more than another at each step, it gains at most k e on it in k steps.
module _ (f f_step h h_step : ℕ → ℕ) (f_grows : (z : ℕ) → f (suc z) ≡ f z + f_step z) (h_grows : (z : ℕ) → h (suc z) ≡ h z + h_step z) where
  gains : (e low k : ℕ) → ((y : ℕ) → low ≤ y → y < low + k → f_step y ≤ h_step y + e) → f (low + k) + h low ≤ f low + h (low + k) + k * e
  gains e low zero steps = rw add-zero (omega arith)
  gains e low (suc k) steps =
      rw add-suc
      (omega (arith, gains e low k (λ y from to. steps y from (omega arith)), f_grows (low + k), h_grows (low + k), steps (low + k) (omega arith) (omega arith)))

  gains_between : (e low high : ℕ) → low ≤ high → ((y : ℕ) → low ≤ y → y < high → f_step y ≤ h_step y + e) → f high + h low ≤ f low + h high + (high - low) * e
  gains_between e low high order steps =
      rw add-sub_of_le at (gains e low (high - low) (λ y from to. steps y from (omega arith)))

module _ (a b : ℕ) where
  -- g grows from low to high by at most e for each step, if e bounds the step at a place from which all of them lie towards the bend
  pub line : (e at low high : ℕ) → low ≤ high → ((y : ℕ) → low ≤ y → y < high → Towards at y) → plus_step a at ≤ minus_step b at + e → plus a high + minus a b low ≤ plus a low + minus a b high + (high - low) * e
  line e at low high order between bound =
      gains_between (plus a) (plus_step a) (minus a b) (minus_step b) (plus_grows a) (minus_grows a b) e low high order
      (λ y from to. towards_bend a b e (between y from to) bound)

  -- g grows from low to high, if it rises at a place that lies towards the bend from all of the steps
  rises : (at low high : ℕ) → low ≤ high → ((y : ℕ) → low ≤ y → y < high → Towards y at) → minus_step b at < plus_step a at → minus a b high + plus a low ≤ minus a b low + plus a high
  rises at low high order between rising =
      omega (
        arith,
        gains_between (minus a b) (minus_step b) (plus a) (plus_step a) (minus_grows a b) (plus_grows a) 0 low high order
            (λ y from to. omega (arith, away_from_bend a b (between y from to) rising)),
      )

  -- what lies above a positive value, not below a step from the bend on that rises, is positive
  pub positive_from : (z high : ℕ) → bend ≤ z → z ≤ high → minus_step b z < plus_step a z → minus a b high < plus a high → PositiveFrom a b high
  unfolding PositiveFrom
  positive_from z high limit order rising positive y above =
      omega (arith, rises z high y above (λ w from to. downwards limit (omega arith)) rising)

  -- what lies below a value that is not positive and precedes a rising step up to the bend is not positive
  pub not_positive_to : (z : ℕ) → z ≤ bend → minus_step b z < plus_step a z → plus a z ≤ minus a b z → NotPositiveTo a b z
  unfolding NotPositiveTo
  not_positive_to z limit rising not_positive y below =
      omega (arith, rises z y z below (λ w from to. upwards (omega arith) limit) rising)
