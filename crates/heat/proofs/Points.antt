-- Each point of specs/Points.antt is met: one test, which computes over the whole list, and one law that says what a point means that passes it.
-- Assumes nothing.
use mathlib.Core.Bool.{Bool, true, not, ◌&&◌}
use mathlib.Core.List.{List, [], ◌∷◌}
use Prim.Native.Nat.{ℕ, ◌*◌}
use lib.Dec.{T, T_not, leb, ltb, leb→le, ltb→lt}
use lib.Ieee.{Float, binary64, of_bits}
use lib.Ieee.Fits.{and_l, and_r}
use lib.Ieee.Positive.{num, den}
use Rattle.heat.specs.Printed.{Range, up_to_40, up_to_150, up_to_500, above_500}
use Rattle.heat.specs.Table.{Holds}
use Rattle.heat.specs.Points.{Point, answered, refused, Met, Every, none, next, points}
use Rattle.heat.proofs.Decided.{inside, told_inside, passes}
use Rattle.heat.proofs.Exactly.{in_range_is_answered, out_of_range_is_refused}

module _ (kelvin : Float) where
  abbrev above : ℕ → Bool
  above limit = ltb (limit * den kelvin) (num kelvin)

  abbrev to : ℕ → Bool
  to limit = leb (num kelvin) (limit * den kelvin)

  abbrev held : Range → Bool
  held up_to_40 = to 40
  held up_to_150 = above 40 && to 150
  held up_to_500 = above 150 && to 500
  held above_500 = above 500

  pub told_held : (range : Range) → T (held range) → Holds range kelvin
  told_held up_to_40 passed = leb→le _ _ passed
  told_held up_to_150 passed = (ltb→lt _ _ (and_l (above 40) (to 150) passed), leb→le _ _ (and_r (above 40) (to 150) passed))
  told_held up_to_500 passed = (ltb→lt _ _ (and_l (above 150) (to 500) passed), leb→le _ _ (and_r (above 150) (to 500) passed))
  told_held above_500 passed = ltb→lt _ _ passed

abbrev test : Point → Bool
test (answered pattern range) = inside (of_bits binary64 pattern) && held (of_bits binary64 pattern) range
test (refused pattern) = not (inside (of_bits binary64 pattern))

sound : (point : Point) → T (test point) → Met point
sound (answered pattern range) passed =
    let kelvin = of_bits binary64 pattern in
    in_range_is_answered kelvin (told_inside kelvin (and_l (inside kelvin) (held kelvin range) passed)) range (told_held kelvin range (and_r (inside kelvin) (held kelvin range) passed))
sound (refused pattern) passed =
    let kelvin = of_bits binary64 pattern in
    out_of_range_is_refused kelvin (λ in_range. T_not (inside kelvin) passed (passes kelvin in_range))

abbrev tests : List Point → Bool
tests [] = true
tests (point ∷ rest) = test point && tests rest

all_met : (list : List Point) → T (tests list) → Every Met list
all_met [] passed = none
all_met (point ∷ rest) passed = next (sound point (and_l (test point) (tests rest) passed)) (all_met rest (and_r (test point) (tests rest) passed))

pub every_point_is_met : Every Met points
unfolding of_bits points
every_point_is_met = all_met points tt
