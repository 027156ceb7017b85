-- How far a turn of a search may go, over plain numbers. Both searches come from outside towards the bend, so the slope at their place
-- bounds every step on the way (`Lines.antt`). The room is what g has left before its sign changes: `gentle` says how far it lasts and
-- `steep` where it ends. `Falls.antt` and `Climbs.antt` read the two from above and from below. Assumes nothing.
use mathlib.Core.Path.{◌≡◌, ap}
use Prim.Native.Nat.{ℕ, suc, ◌+◌, ◌*◌, ◌-◌, ◌/◌, ◌≤◌, ◌<◌}
use native.Mathlib.Nat.{mul-le-mul_right, div-mul-le_self, le-div_iff_mul-le, pos_of_ne-zero}
use native.Mathlib.Omega.{arith}
use Rattle.cubic.specs.Sides.{plus, minus, rise}
use Rattle.cubic.proofs.Shape.{plus_grows, minus_grows, Towards}
use Rattle.cubic.proofs.Lines.{line}

-- a turn may go k places: g does not rise there at all, or the slope goes at least k times into the room
pub data Allows (room slope k : ℕ) : Type 0 where
  flat : slope ≡ 0 → Allows room slope k
  jump : k ≤ room / slope → Allows room slope k

-- over as many places or fewer the slope takes no more than the room
spends : {room slope k : ℕ} → Allows room slope k → (j : ℕ) → j ≤ k → j * slope ≤ room
spends {room} {slope} {k} (flat none) j fewer = omega (arith, ap (λ (t : ℕ). j * t) none)
spends {room} {slope} {k} (jump within) j fewer =
    omega (arith, mul-le-mul_right slope fewer, mul-le-mul_right slope within, div-mul-le_self room slope)

-- a slope that goes into the room takes the search some places on
pub moves : {room slope : ℕ} → (slope ≡ 0 → ⊥) → slope ≤ room → 0 < room / slope
moves some fits = (le-div_iff_mul-le (pos_of_ne-zero some)).1 (omega arith)

module _ (a b : ℕ) where
  -- from low to high, within the places allowed, g grows by at most the room
  pub gentle : {room slope k : ℕ} (at low high : ℕ) → slope ≡ rise a b at → Allows room slope k → low ≤ high → high - low ≤ k → ((y : ℕ) → low ≤ y → y < high → Towards at y) → plus a high + minus a b low ≤ plus a low + minus a b high + room
  unfolding rise
  gentle {slope = slope} at low high is_slope allows order few between =
      omega (arith, spends allows (high - low) few, line a b slope at low high order between (omega arith))

  -- from z to the next place, where the slope does not go into the room, g grows by more than the room
  pub steep : {room slope : ℕ} (z : ℕ) → slope ≡ rise a b z → room < slope → plus a z + minus a b (suc z) + room < plus a (suc z) + minus a b z
  unfolding rise
  steep z is_slope small = omega (arith, plus_grows a z, minus_grows a b z)
