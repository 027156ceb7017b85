-- The search from below: what a turn of it may conclude. Assumes nothing.
use mathlib.Core.Path.{◌≡◌}
use Prim.Native.Nat.{ℕ, ◌+◌, ◌-◌, ◌/◌, ◌≤◌, ◌<◌}
use native.Mathlib.Numerals.{add-one}
use native.Mathlib.Omega.{arith}
use native.Mathlib.Decide.{dec_le}
use Rattle.cubic.specs.Sides.{plus, minus, rise, bend, NotPositiveTo, Crosses, ClimbsFrom, ClimbsTo}
use Rattle.cubic.proofs.Shape.{upwards}
use Rattle.cubic.proofs.Roots.{not_positive_up_to}
use Rattle.cubic.proofs.Room.{Allows, flat, jump, gentle, steep}

module _ (a b : ℕ) where
  pub not_positive_at : {low : ℕ} → ClimbsFrom a b low → plus a low ≤ minus a b low
  unfolding NotPositiveTo
  not_positive_at {low} begins = begins.not_positive low (omega arith)

  -- a crossing below the bend is where the search from below ends
  pub ends_at_crossing : {z : ℕ} → z < bend → Crosses a b z → ClimbsTo a b z
  ends_at_crossing {z} limit crosses =
      record {
        not_positive = not_positive_up_to a b (omega arith) crosses;
        found = λ h. rw add-one crosses.then_positive;
        to_bend = omega arith;
      }

-- A turn of the search from below, by its values: the room is what g has below 0 at `low`, the slope that of the step above `low`.
pub record Climbing (a b low room slope : ℕ) : Type 0 where
  pub is_room : plus a low + room ≡ minus a b low
  pub is_slope : slope ≡ rise a b low
  pub begins : ClimbsFrom a b low

module _ {a b low room slope : ℕ} where
  stays_not_positive : (z : ℕ) → z ≤ bend → Allows room slope (z - low) → Climbing a b low room slope → NotPositiveTo a b z
  unfolding NotPositiveTo
  stays_not_positive z limit allows turn y below = by_order (dec_le y low)
    where
      by_order : Dec (y ≤ low) → plus a y ≤ minus a b y
      by_order (yes h) = turn.begins.not_positive y h
      by_order (no f) =
          omega (arith, turn.is_room, gentle a b low low y turn.is_slope allows (omega arith) (omega arith) (λ w from to. upwards from (omega arith)))

  pub climb_misses : Allows room slope (bend - low) → Climbing a b low room slope → ClimbsTo a b bend
  climb_misses allows turn = record { not_positive = stays_not_positive bend (omega arith) allows turn; found = λ h. omega arith; to_bend = omega arith }

  pub climb_finds : room < slope → Climbing a b low room slope → ClimbsTo a b low
  climb_finds small turn =
      record {
        not_positive = turn.begins.not_positive;
        found = λ h. rw add-one (omega (arith, turn.is_room, steep a b low turn.is_slope small));
        to_bend = omega (arith, turn.begins.before_bend);
      }

  pub climb_goes_on : room / slope < bend - low → Climbing a b low room slope → ClimbsFrom a b (low + room / slope)
  climb_goes_on near turn =
      record {
        before_bend = omega arith;
        not_positive = stays_not_positive (low + room / slope) (omega arith) (jump (omega arith)) turn;
      }

-- where g does not rise above `low`, no room needs to be worked out
pub climb_flat : {a b low slope : ℕ} → slope ≡ 0 → slope ≡ rise a b low → ClimbsFrom a b low → ClimbsTo a b bend
climb_flat {a} {b} {low} none is_slope begins =
    climb_misses {room = minus a b low - plus a low} (flat none) (record { is_room = omega (arith, not_positive_at a b begins); is_slope = is_slope; begins = begins })
