-- What is told of a walk in each of its three cases: a refused state, a limit that is too low, a limit that suffices. Assumes nothing.
use mathlib.Core.Path.{◌≡◌, refl, sym, ◌∙◌}
use mathlib.Core.Logic.{inl}
use Prim.Native.Nat.{ℕ, ◌≤◌, ◌<◌}
use native.Mathlib.Omega.{arith}
use borrow.Author.Tests.{ne_eqb}
use Rattle.refusals.specs.Checks.{NoneOf, FirstOf, refuses, answers}
use Rattle.refusals.proofs.Lists.{number_on_list, none_both, first_front, first_behind}
use Rattle.cubic.proofs.Theorems.{gas_root_unique, gas_root_exists}
use Rattle.fluid.specs.Checks.{state_checks}
use Rattle.fluid.specs.declared.coefficients.Reached.{Reached}
use Rattle.fluid.specs.Promise.{Reaches}
use Rattle.fluid.proofs.Theorems.{reached_once}
use Rattle.std.specs.Prelude.{Result, Ok, Err}
use Rattle.slow_engine.specs.declared.Walked.{Walked}
use Rattle.walks.specs.declared.replies.WalkRefusal.{WalkRefusal}
use Rattle.walks.specs.Checks.{GasRootByWalk, CutShort, walk_checks}
use Rattle.walks.specs.Replies.{answered_with, refused_with, figures_of, Replies}
use Rattle.walks.specs.Inside.{WalksDown}

module _ (number millikelvin pascals : ℕ) where
  -- the gas root of a state is one, and so is the way to it
  pub walked_once : {gas values gas' values' : ℕ} → GasRootByWalk number millikelvin pascals gas values → GasRootByWalk number millikelvin pascals gas' values' → (gas ≡ gas') × (values ≡ values')
  walked_once {gas} {values} {gas'} {values'} p q =
      let same_reached : p.reached ≡ q.reached = reached_once number millikelvin pascals p.reached q.reached p.reaches q.reaches in
      let same_gas : gas ≡ gas' = gas_root_unique _ _ (rw same_reached at p.is_gas) q.is_gas in
      (same_gas, p.is_way ∙ rw (same_reached, same_gas) (sym q.is_way))

  module _ (limit : ℕ) where
    pub tells_of_state : (refusal : ℕ) → FirstOf (state_checks number millikelvin pascals) refusal → Replies number millikelvin pascals limit (refused_with refusal 0)
    tells_of_state refusal first =
        let other = number_on_list 11 (state_checks number millikelvin pascals) refusal refl first in
        refuses refusal (first_front (state_checks number millikelvin pascals) (walk_checks number millikelvin pascals limit) refusal first) (rw (ne_eqb refusal 11 other) refl)

    module _ {gas values : ℕ} (none : NoneOf (state_checks number millikelvin pascals)) (by_walk : GasRootByWalk number millikelvin pascals gas values) where
      pub tells_limit : limit < values → Replies number millikelvin pascals limit (refused_with 11 limit)
      tells_limit below =
          refuses 11
          (first_behind (state_checks number millikelvin pascals) (walk_checks number millikelvin pascals limit) 11 none (inl (record { gas = gas; values = values; by_walk = by_walk; limit_below = below }, refl)))
          refl

      pub tells_root : values ≤ limit → Replies number millikelvin pascals limit (answered_with gas values)
      tells_root suffices =
          let long_enough : CutShort number millikelvin pascals limit → ⊥ = λ cut. omega (arith, cut.limit_below, (walked_once cut.by_walk by_walk).1) in
          answers (none_both (state_checks number millikelvin pascals) (walk_checks number millikelvin pascals limit) none (long_enough, tt))
          (record { gas = gas; values = values; by_walk = by_walk; is_figures = refl })

    -- as the slow engine ended
    pub tells_as_walked : (reply : Result Walked WalkRefusal) (reached : Reached) → NoneOf (state_checks number millikelvin pascals) → Reaches number millikelvin pascals reached → WalksDown reached.reduced.a reached.reduced.b limit reply → Replies number millikelvin pascals limit (figures_of reply)
    tells_as_walked (Ok walk) reached none reaches walked =
        tells_root none (record { reached = reached; reaches = reaches; is_gas = walked.is_gas; is_way = walked.is_way }) (omega (arith, walked.is_way, walked.suffices))
    tells_as_walked (Err walk) reached none reaches walked =
        let gas = gas_root_exists reached.reduced.a reached.reduced.b in
        rw (walked.0, walked.1.is_limit)
        (tells_limit none (record { reached = reached; reaches = reaches; is_gas = gas.1; is_way = refl }) (walked.1.too_few gas.0 gas.1))
