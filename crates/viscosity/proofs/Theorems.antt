-- What is proved of the excess viscosity factor, beside its contract: every density has exactly one reply, a refused one carries zero, and the
-- factor is above zero and grows with the density. Assumes nothing.
use mathlib.Core.Path.{◌≡◌, refl, sym, ap, ◌∙◌}
use mathlib.Core.Logic.{⊎_elim}
use Prim.Native.Nat.{ℕ, ◌≤◌, ◌<◌}
use native.Mathlib.Nat.{le_of_lt, le_of_eq, eq-or-lt_of_le}
use native.Mathlib.Decide.{dec_le}
use native.Mathlib.Omega.{arith}
use Rattle.std.specs.Prelude.{Result, Ok, Err}
use Rattle.viscosity.specs.declared.replies.OutOfRange.{OutOfRange}
use Rattle.viscosity.specs.declared.replies.ExcessFigures.{ExcessFigures}
use Rattle.viscosity.specs.Factor.{squared, Factor, thinnest, densest, InRange}
use Rattle.viscosity.specs.Replies.{answered, figures_of, Replies, answers, refuses}
use Rattle.viscosity.specs.Inside.{added, taken}
use Rattle.viscosity.proofs.Halves.{between}
use Rattle.viscosity.proofs.Growth.{above_one, quartic_grows}
use Rattle.viscosity.proofs.Squares.{squared_above_one, squared_grows}
use Rattle.viscosity.proofs.Factors.{fourth_above_one, factor_of, factor_once}

abbrev number_in : ExcessFigures → ℕ
number_in figures = figures.number

abbrev factor_in : ExcessFigures → ℕ
factor_in figures = figures.factor

-- ---- the contract fixes the reply, and every density has one
pub factor_determined : {thousandths : ℕ} {figures other : ExcessFigures} → Replies thousandths figures → Replies thousandths other → figures ≡ other
factor_determined (answers factor inside is told) (answers other inside' is' told') = told ∙ ap answered (factor_once is is') ∙ sym told'
factor_determined (answers factor inside is told) (refuses outside told') = absurd (outside inside)
factor_determined (refuses outside told) (answers other inside is told') = absurd (outside inside)
factor_determined (refuses outside told) (refuses outside' told') = told ∙ sym told'

pub figures_determine_reply : (reply other : Result ℕ OutOfRange) → figures_of reply ≡ figures_of other → reply ≡ other
figures_determine_reply (Ok factor) (Ok other) same = ap Ok (ap factor_in same)
figures_determine_reply (Ok factor) (Err out) same = absurd (omega (arith, ap number_in same))
figures_determine_reply (Err out) (Ok other) same = absurd (omega (arith, ap number_in same))
figures_determine_reply (Err out) (Err out') same = refl

pub reply_determined : (thousandths : ℕ) (reply other : Result ℕ OutOfRange) → Replies thousandths (figures_of reply) → Replies thousandths (figures_of other) → reply ≡ other
reply_determined thousandths reply other p q = figures_determine_reply reply other (factor_determined p q)

pub figures_determined : (reply : Result ℕ OutOfRange) {figures other : ExcessFigures} → figures ≡ figures_of reply → other ≡ figures_of reply → figures ≡ other
figures_determined reply p q = p ∙ sym q

pub every_density_has_a_reply : (thousandths : ℕ) → (reply : Result ℕ OutOfRange) × Replies thousandths (figures_of reply)
every_density_has_a_reply thousandths = by_ends (dec_le thinnest thousandths) (dec_le thousandths densest)
  where
    by_ends : Dec (thinnest ≤ thousandths) → Dec (thousandths ≤ densest) → (reply : Result ℕ OutOfRange) × Replies thousandths (figures_of reply)
    by_ends (yes from) (yes to) =
        (Ok _, answers _ (record { not_thinner = from; not_denser = to }) (factor_of thousandths refl refl refl) refl)
    by_ends (yes from) (no above) = (Err (record {}), refuses (λ inside. above inside.not_denser) refl)
    by_ends (no below) to = (Err (record {}), refuses (λ inside. below inside.not_thinner) refl)

pub refused_carries_zero : {thousandths : ℕ} {figures : ExcessFigures} → Replies thousandths figures → (figures.number ≡ 0 → ⊥) → figures.factor ≡ 0
refused_carries_zero (answers factor inside is told) refused = absurd (refused (ap number_in told))
refused_carries_zero (refuses outside told) refused = ap factor_in told

-- ---- the factor, at any density by the formula
pub factor_is_positive : {thousandths factor : ℕ} → Factor thousandths factor → 0 < factor
factor_is_positive p = omega (arith, p.is_factor, fourth_above_one (between p.is_y))

-- the denser, the more, from each density to the next and from any to a larger one
pub factor_grows : {thousandths denser factor more : ℕ} → thousandths < denser → Factor thousandths factor → Factor denser more → factor < more
factor_grows less p q =
    let at_less = between p.is_y in
    let above = above_one at_less in
    let squares = squared_grows (omega arith) (quartic_grows less at_less (between q.is_y)) in
    omega (arith, p.is_factor, q.is_factor, squared_grows (omega (arith, squared_above_one above)) squares)

-- ---- the range, and why it is one
-- at 0, where there is no excess, the formula has one
pub formula_at_zero : Factor 0 95222
unfolding added taken squared
formula_at_zero = factor_of 0 refl refl refl

pub at_thinnest : Factor thinnest 223950
unfolding added taken squared
at_thinnest = factor_of thinnest refl refl refl

pub at_densest : Factor densest 157192927
unfolding added taken squared
at_densest = factor_of densest refl refl refl

pub factor_in_range : {thousandths factor : ℕ} → InRange thousandths → Factor thousandths factor → (223950 ≤ factor) × (factor ≤ 157192927)
factor_in_range inside p = (never_falls inside.not_thinner at_thinnest p, never_falls inside.not_denser p at_densest)
  where
    never_falls : {thousandths denser factor more : ℕ} → thousandths ≤ denser → Factor thousandths factor → Factor denser more → factor ≤ more
    never_falls up_to_lem p q =
        ⊎_elim (λ same. le_of_eq (factor_once p (rw same q))) (λ less. le_of_lt (factor_grows less p q)) (eq-or-lt_of_le up_to_lem)
