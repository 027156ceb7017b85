-- docs/RULES.md, "The walk": what comes back of a walk, and when. Where it is cut short the count is the limit and everything else zero; any other
-- refusal brings its number and zeros.
use Rattle.std.specs.Prelude.{◌≡◌, cond, ℕ, eqb, Result, Ok, Err}
use Rattle.refusals.specs.Checks.{Tells}
use Rattle.refusals.specs.Numbers.{number_of_refusal}
use Rattle.refusals.specs.declared.Refusal.{Refusal}
use Rattle.slow_engine.specs.declared.Walked.{Walked}
use Rattle.walks.specs.declared.replies.WalkRefusal.{WalkRefusal}
use Rattle.walks.specs.declared.replies.WalkFigures.{WalkFigures}
use Rattle.walks.specs.Checks.{GasRootByWalk, all_checks}

abbrev pub answered_with : (gas values : ℕ) → WalkFigures
answered_with gas values = record { number = 0; gas_root = gas; values = values }

abbrev pub refused_with : (refusal values : ℕ) → WalkFigures
refused_with refusal values = record { number = refusal; gas_root = 0; values = values }

-- a state that is refused is not walked in
abbrev pub refused : Refusal → WalkRefusal
refused refusal = record { refusal = refusal; values = 0 }

abbrev pub figures_of : Result Walked WalkRefusal → WalkFigures
figures_of (Ok walked) = answered_with walked.gas walked.values
figures_of (Err walk) = refused_with (number_of_refusal walk.refusal) walk.values

abbrev pub count_with : (limit refusal : ℕ) → ℕ
count_with limit refusal = cond (eqb refusal 11) limit 0

abbrev pub RefusedAs : (limit refusal : ℕ) → WalkFigures → Type 0
RefusedAs limit refusal figures = figures ≡ refused_with refusal (count_with limit refusal)

pub record Answered (number millikelvin pascals : ℕ) (figures : WalkFigures) : Type 0 where
  pub gas : ℕ
  pub values : ℕ
  pub by_walk : GasRootByWalk number millikelvin pascals gas values
  pub is_figures : figures ≡ answered_with gas values

abbrev pub Replies : (number millikelvin pascals limit : ℕ) → WalkFigures → Type 0
Replies number millikelvin pascals limit =
    Tells (all_checks number millikelvin pascals limit) (RefusedAs limit) (Answered number millikelvin pascals)
