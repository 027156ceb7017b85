-- `searches::newton::first_place` meets its contract: whatever the guess is, g is positive for good from the place that is answered. Assumes nothing.
use native.Mathlib.Nat.{pos_of_ne-zero}
use native.Mathlib.Omega.{arith}
use Rattle.cubic.specs.Sides.{GasSide}
use Rattle.cubic.proofs.Falls.{from_top, from_start, slope_below}
use Rattle.searches.proofs.newton.first_place.Goals as goal

pub place_at-requires : goal.place_at-requires
place_at-requires c = from_top _ _ (omega arith) (omega arith)

pub place_at-requires-then-above-below : goal.place_at-requires-then-above-below
place_at-requires-then-above-below c = from_top _ _ (omega arith) (omega arith)

pub returns-else-above-below : goal.returns-else-above-below
returns-else-above-below c =
    let known : GasSide c.args.cubic.b c.nearer-guess.result = c.nearer-guess.ensures c.args.cubic.within in
    record {
      is_room = omega arith;
      is_slope = slope_below _ _ c.nearer-guess.result c.rise-slope.ensures;
      begins = from_start _ _ _ known.from_bend (omega (arith, known)) c.rise-slope.ensures (pos_of_ne-zero c.if-slope-eq0.false) (omega arith);
    }
