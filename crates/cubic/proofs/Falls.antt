-- The search from above: where it may begin, and what a turn of it may conclude. Assumes nothing.
use mathlib.Core.Path.{◌≡◌}
use Prim.Native.Nat.{ℕ, suc, ◌+◌, ◌-◌, ◌/◌, ◌≤◌, ◌<◌}
use native.Mathlib.Nat.{add-sub_cancel}
use native.Mathlib.Numerals.{add-one}
use native.Mathlib.Omega.{arith}
use native.Mathlib.Decide.{dec_le}
use Rattle.cubic.specs.Cubic.{N}
use Rattle.cubic.specs.Sides.{plus, minus, rise, bend, PositiveFrom, Crosses, FallsFrom, Falling, FallsTo}
use Rattle.cubic.proofs.Shape.{above_grid, downwards}
use Rattle.cubic.proofs.Lines.{positive_from}
use Rattle.cubic.proofs.Roots.{positive_above}
use Rattle.cubic.proofs.Room.{Allows, jump, gentle, steep}

module _ (a b : ℕ) where
  -- above N + b g is positive for good
  pub from_top : {top : ℕ} → N + b < top → top ≤ N + b + 1 → FallsFrom a b top
  unfolding PositiveFrom
  from_top {top} above within =
      record {
        past_bend = omega arith;
        on_grid = within;
        positive_here = above_grid a b top above;
        positive = λ y higher. above_grid a b y (omega arith);
      }

  -- and so it is above a start from the bend on at which it rises to a positive value
  pub from_start : {slope : ℕ} (start : ℕ) → bend ≤ start → start < N + b + 1 → slope ≡ rise a b start → 0 < slope → minus a b (start + 1) < plus a (start + 1) → FallsFrom a b (start + 1)
  unfolding rise
  from_start start limit within is_slope some positive =
      record {
        past_bend = omega arith;
        on_grid = omega arith;
        positive_here = positive;
        positive = positive_from a b start (start + 1) limit (omega arith) (omega arith) positive;
      }

  -- a crossing from the bend on is where the search from above ends
  pub ends_at_crossing : {z : ℕ} → bend ≤ z → Crosses a b z → FallsTo a b z
  ends_at_crossing {z} limit crosses =
      record {
        positive = positive_above a b limit crosses;
        found = λ h. crosses.not_positive;
        to_bend = omega arith;
      }

  -- where g is positive at the bend and rises from it, no crossing is left from the bend on
  pub none_from_bend : {slope : ℕ} → slope ≡ rise a b bend → 0 < slope → minus a b bend < plus a bend → FallsTo a b (bend - 1)
  unfolding rise
  none_from_bend is_slope some positive =
      record {
        positive = positive_from a b bend bend (omega arith) (omega arith) (omega arith) positive;
        found = λ h. omega arith;
        to_bend = omega arith;
      }

  -- the step below the next place is the one at this place
  pub slope_below : {slope : ℕ} (z : ℕ) → slope ≡ rise a b z → slope ≡ rise a b (z + 1 - 1)
  slope_below z is_slope = rw (add-sub_cancel z 1) is_slope

module _ {a b high room slope : ℕ} where
  stays_positive : (z : ℕ) → bend ≤ z → Allows room slope (high - z) → Falling a b high room slope → PositiveFrom a b z
  unfolding PositiveFrom
  stays_positive z limit allows turn y above = by_order (dec_le high y)
    where
      by_order : Dec (high ≤ y) → minus a b y < plus a y
      by_order (yes h) = turn.begins.positive y h
      by_order (no f) =
          omega (arith, turn.is_room, gentle a b (high - 1) y high turn.is_slope allows (omega arith) (omega arith) (λ w from to. downwards (omega arith) (omega arith)))

  pub fall_misses : Allows room slope (high - bend) → Falling a b high room slope → FallsTo a b (bend - 1)
  fall_misses allows turn = record { positive = stays_positive bend (omega arith) allows turn; found = λ h. omega arith; to_bend = omega arith }

  pub fall_finds : room < slope → Falling a b high room slope → FallsTo a b (high - 1)
  fall_finds small turn =
      let after : suc (high - 1) ≡ high = omega (arith, turn.begins.past_bend) in
      record {
        positive = rw (add-one, after) turn.begins.positive;
        found = λ h. omega (arith, turn.is_room, rw after at (steep a b (high - 1) turn.is_slope small));
        to_bend = omega (arith, turn.begins.past_bend);
      }

  pub fall_goes_on : room / slope < high - bend → Falling a b high room slope → FallsFrom a b (high - room / slope)
  unfolding PositiveFrom
  fall_goes_on near turn =
      let positive : PositiveFrom a b (high - room / slope) = stays_positive (high - room / slope) (omega arith) (jump (omega arith)) turn in
      record {
        past_bend = omega arith;
        on_grid = omega (arith, turn.begins.on_grid);
        positive_here = positive (high - room / slope) (omega arith);
        positive = positive;
      }
