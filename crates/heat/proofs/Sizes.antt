-- How large the result of an operation on doubles is: at most the power of two that the exact result is at most, rounding or not. So a short
-- chain of operations on small numbers meets no infinity, and hence no NaN. For either format. Assumes nothing.
use mathlib.Core.Path.{◌≡◌, sym, ap, ◌∙◌, subst}
use mathlib.Core.Bool.{Bool, true, false, cond, ◌&&◌, beq}
use Prim.Native.Nat.{ℕ, suc, ◌+◌, ◌-◌, ◌*◌, ◌/◌, ◌^◌, ◌≤◌, ◌<◌, compare}
use native.Mathlib.Nat.{le_trans, le_of_eq, lt_of_le_of_lt, mul-one, mul_comm, mul_assoc, mul_left_comm, mul_right_comm, mul-le-mul, mul-le-mul_right, le_of_mul-le-mul_right, mul-pos, div-one, mod-one}
use native.Mathlib.Numerals.{lt-add-one}
use native.Mathlib.Omega.{arith}
use lib.Dec.{T, ltb, lit<}
use lib.Pow.{pow_pos, pow-lt, pow-add}
use lib.Ieee.{Float, nan, inf, fin, Format, prec, emax, low, down, size, nearest, round, sum, add, mul, unlike}
use lib.Ieee.Digits.{size-le, back}
use lib.Ieee.Exact.{HasValue, units_val}
use lib.Ieee.Fits.{two, down_pos, round_is}
use lib.Ieee.Nearest.{closest, closest_mono, div_mono}
use lib.Ieee.Order.{kept, drop}
use lib.Ieee.Scale.{grid, finite}
use lib.Ieee.Positive.{num, den}

-- finite, and of a size of at most 2 ^ k
pub record Bounded (k : ℕ) (x : Float) : Type 0 where
  pub is_finite : T (finite x)
  pub is_small : num x ≤ 2 ^ k * den x

closest_whole : (n : ℕ) → closest n 1 ≡ n
closest_whole n = ap (λ (r : ℕ). nearest (n / 1) (compare (r * 2) 1)) (mod-one n) ∙ div-one n

module _ (f : Format) where
  -- ---- a fraction of at most 2 ^ top units of the format's smallest value is rounded to at most 2 ^ top units
  few_dropped : (digits precision top : ℕ) → 2 ≤ precision → digits ≤ top + 1 → digits - precision ≤ top
  few_dropped digits precision top enough h = omega arith

  drops : (top n d : ℕ) → 0 < d → n ≤ 2 ^ top * d → drop (prec f) n d ≤ top
  drops top n d D h =
      let whole : n / d ≤ 2 ^ top = le_trans (div_mono n d (2 ^ top) 1 D (lit< tt) (le_trans (le_of_eq (mul-one n)) h)) (le_of_eq (div-one (2 ^ top))) in
      few_dropped (size (n / d)) (prec f) top (two f) (size-le (n / d) (top + 1) (lt_of_le_of_lt whole (pow-lt (lt-add-one top))))

  rounds_below : (top n d : ℕ) → 0 < d → n ≤ 2 ^ top * d → kept (prec f) n d * 2 ^ drop (prec f) n d ≤ 2 ^ top
  rounds_below top n d D h =
      let j = drop (prec f) n d in
      let both : 2 ^ (top - j) * 2 ^ j ≡ 2 ^ top = sym (pow-add 2 (top - j) j) ∙ ap (λ (k : ℕ). 2 ^ k) (back top j (drops top n d D h)) in
      let same : 2 ^ (top - j) * (d * 2 ^ j) ≡ 2 ^ top * d = mul_left_comm (2 ^ (top - j)) d (2 ^ j) ∙ ap (λ (x : ℕ). d * x) both ∙ mul_comm d (2 ^ top) in
      let cross : n * 1 ≤ 2 ^ (top - j) * (d * 2 ^ j) = le_trans (le_of_eq (mul-one n)) (le_trans h (le_of_eq (sym same))) in
      let near : kept (prec f) n d ≤ 2 ^ (top - j) = le_trans (closest_mono n (d * 2 ^ j) (2 ^ (top - j)) 1 (mul-pos D (pow_pos j)) (lit< tt) cross) (le_of_eq (closest_whole (2 ^ (top - j)))) in
      le_trans (mul-le-mul_right (2 ^ j) near) (le_of_eq both)

  of_value : (k g : ℕ) (s : Bool) (x : Float) → g ≤ 2 ^ (k + low f) → HasValue x s g (2 ^ low f) → Bounded k x
  of_value k g s nan h value = absurd value
  of_value k g s (inf t) h value = absurd value
  of_value k g s (fin t m e) h value =
      let units : 2 ^ (k + low f) * down e ≡ 2 ^ k * down e * 2 ^ low f = simp (pow-add, mul_assoc, mul_comm, mul_left_comm) in
      record {
        is_finite = tt;
        is_small = le_of_mul-le-mul_right (le_trans (le_of_eq value.1) (le_trans (mul-le-mul_right (down e) h) (le_of_eq units))) (pow_pos (low f));
      }

  below_overflow : (k l e : ℕ) → k ≤ e → k + l < l + suc e
  below_overflow k l e h = omega arith

  pub round_bounded : (k : ℕ) (s : Bool) (a d : ℕ) → 0 < d → k ≤ emax f → a ≤ 2 ^ k * d → Bounded k (round f s a d)
  round_bounded k s a d D room h =
      let units : 2 ^ k * d * 2 ^ low f ≡ 2 ^ (k + low f) * d = simp (pow-add, mul_assoc, mul_comm, mul_left_comm) in
      let small : grid f a d ≤ 2 ^ (k + low f) = rounds_below (k + low f) (a * 2 ^ low f) d D (le_trans (mul-le-mul_right (2 ^ low f) h) (le_of_eq units)) in
      of_value k (grid f a d) s (round f s a d) small
      (subst (λ (x : Float). HasValue x s (grid f a d) (2 ^ low f)) (sym (round_is f s a d))
      (units_val f s _ _ (lt_of_le_of_lt small (pow-lt (below_overflow k (low f) (emax f) room)))))

  -- ---- a product, and a sum
  pub mul_bounded : (i j : ℕ) (x y : Float) → i + j ≤ emax f → Bounded i x → Bounded j y → Bounded (i + j) (mul f x y)
  unfolding mul
  mul_bounded i j nan y room p q = absurd p.is_finite
  mul_bounded i j (inf s) y room p q = absurd p.is_finite
  mul_bounded i j (fin s m e) nan room p q = absurd q.is_finite
  mul_bounded i j (fin s m e) (inf t) room p q = absurd q.is_finite
  mul_bounded i j (fin s m e) (fin t n d) room p q =
      let powers : 2 ^ i * down e * (2 ^ j * down d) ≡ 2 ^ (i + j) * (down e * down d) = simp (pow-add, mul_assoc, mul_comm, mul_left_comm) in
      round_bounded (i + j) (unlike s t) _ _ (mul-pos (down_pos e) (down_pos d)) room (le_trans (mul-le-mul p.is_small q.is_small) (le_of_eq powers))

  sum_bounded : (k : ℕ) (s : Bool) (a : ℕ) (t : Bool) (b c : ℕ) → 0 < c → k + 1 ≤ emax f → a ≤ 2 ^ k * c → b ≤ 2 ^ k * c → Bounded (k + 1) (sum f s a t b c)
  unfolding sum
  sum_bounded k s a t b c C room A B = go (beq s t) (ltb a b) (s && ltb b a)
    where
      double : 2 ^ (k + 1) * c ≡ 2 ^ k * c * 2
      double = ap (λ (x : ℕ). x * c) (pow-add 2 k 1) ∙ mul_right_comm (2 ^ k) 2 c

      go : (same less sign : Bool) → Bounded (k + 1) (cond same (round f s (a + b) c) (cond less (round f t (b - a) c) (round f sign (a - b) c)))
      go true less sign = round_bounded (k + 1) s (a + b) c C room (omega (arith, double, A, B))
      go false true sign = round_bounded (k + 1) t (b - a) c C room (omega (arith, double, A, B))
      go false false sign = round_bounded (k + 1) sign (a - b) c C room (omega (arith, double, A, B))

  pub add_bounded : (k : ℕ) (x y : Float) → k + 1 ≤ emax f → Bounded k x → Bounded k y → Bounded (k + 1) (add f x y)
  unfolding add
  add_bounded k nan y room p q = absurd p.is_finite
  add_bounded k (inf s) y room p q = absurd p.is_finite
  add_bounded k (fin s m e) nan room p q = absurd q.is_finite
  add_bounded k (fin s m e) (inf t) room p q = absurd q.is_finite
  add_bounded k (fin s m e) (fin t n d) room p q =
      let first : 2 ^ k * down e * down d ≡ 2 ^ k * (down e * down d) = mul_assoc (2 ^ k) (down e) (down d) in
      let second : 2 ^ k * down d * down e ≡ 2 ^ k * (down e * down d) = mul_assoc (2 ^ k) (down d) (down e) ∙ ap (λ (x : ℕ). 2 ^ k * x) (mul_comm (down d) (down e)) in
      sum_bounded k s _ t _ _ (mul-pos (down_pos e) (down_pos d)) room
      (le_trans (mul-le-mul_right (down d) p.is_small) (le_of_eq first))
      (le_trans (mul-le-mul_right (down e) q.is_small) (le_of_eq second))
