-- docs/RULES.md, "Hydrogen's ideal heat capacity": the point at 40 K and the others where a slip would show, each end of a range and the double
-- past it, and what is no number in the range. A double is given by its bit pattern. That every point is met is `every_point_is_met`, in
-- proofs/Points.antt.
use Rattle.std.specs.Prelude.{◌≡◌, List, [], ◌∷◌, ◌++◌, ℕ}
use Rattle.std.specs.Float.{binary64}
use Rattle.std.specs.Float.Ieee.{of_bits}
use Rattle.heat.specs.declared.replies.HeatCapacity.{HeatCapacity}
use Rattle.heat.specs.declared.replies.HeatCapacity.TheVariants.{KilojoulesPerKilogramKelvin, OutOfRange}
use Rattle.heat.specs.Printed.{Range, up_to_40, up_to_150, up_to_500, above_500}
use Rattle.heat.specs.Table.{coefficients_of}
use Rattle.heat.specs.Evaluation.{evaluated}
use Rattle.heat.specs.Replies.{comes_back}
use Rattle.heat.specs.Promise.{Answers}

pub data Point : Type 0 where
  answered : (pattern : ℕ) → Range → Point
  refused : (pattern : ℕ) → Point

-- every reply that the contract allows there is this one
abbrev Replies : (pattern : ℕ) → HeatCapacity → Type 0
Replies pattern expected = (reply : HeatCapacity) → Answers (of_bits binary64 pattern) (comes_back reply) → reply ≡ expected

abbrev pub Met : Point → Type 0
Met (answered pattern range) = Replies pattern (KilojoulesPerKilogramKelvin (evaluated (coefficients_of range) (of_bits binary64 pattern)))
Met (refused pattern) = Replies pattern OutOfRange

pub data Every (Holds : Point → Type 0) : List Point → Type 0 where
  none : Every Holds []
  next : {point : Point} {points : List Point} → Holds point → Every Holds points → Every Holds (point ∷ points)

-- 14, 40, 150, 500 and 1000 K, each with the next double outside its range
abbrev ends : List Point
ends =
    refused 0x402b_ffff_ffff_ffff
    ∷ answered 0x402c_0000_0000_0000 up_to_40
    ∷ answered 0x4044_0000_0000_0000 up_to_40
    ∷ answered 0x4044_0000_0000_0001 up_to_150
    ∷ answered 0x4062_c000_0000_0000 up_to_150
    ∷ answered 0x4062_c000_0000_0001 up_to_500
    ∷ answered 0x407f_4000_0000_0000 up_to_500
    ∷ answered 0x407f_4000_0000_0001 above_500
    ∷ answered 0x408f_4000_0000_0000 above_500
    ∷ refused 0x408f_4000_0000_0001
    ∷ []

-- a NaN, a signalling one, the NaN with all bits set, both infinities, 0, -0, the smallest double above 0, the largest one, -40 and -1000
abbrev outside : List Point
outside =
    refused 0x7ff8_0000_0000_0000
    ∷ refused 0x7ff0_0000_0000_0001
    ∷ refused 0xffff_ffff_ffff_ffff
    ∷ refused 0x7ff0_0000_0000_0000
    ∷ refused 0xfff0_0000_0000_0000
    ∷ refused 0x0000_0000_0000_0000
    ∷ refused 0x8000_0000_0000_0000
    ∷ refused 0x0000_0000_0000_0001
    ∷ refused 0x7fef_ffff_ffff_ffff
    ∷ refused 0xc044_0000_0000_0000
    ∷ refused 0xc08f_4000_0000_0000
    ∷ []

unfoldable pub points : List Point
points = ends ++ outside
