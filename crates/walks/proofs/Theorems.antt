-- What is proved of the walk to a state's gas root beside its contract: the contract fixes the reply, the count is the way from N + b down to the root,
-- 11 is told exactly where the limit is below that, and a limit of N + 1 always suffices. Assumes nothing.
use mathlib.Core.Path.{◌≡◌, refl, sym, ap, ap₂, ◌∙◌}
use mathlib.Core.Logic.{◌⊎◌, inl, inr, ◌↔◌}
use Prim.Native.Nat.{ℕ, ◌+◌, ◌-◌, ◌≤◌, ◌<◌}
use native.Mathlib.Omega.{arith}
use native.Mathlib.Decide.{dec_le}
use borrow.Author.Tests.{ne_eqb}
use Rattle.std.specs.Prelude.{Result, Ok, Err}
use Rattle.refusals.specs.Checks.{NoneOf, FirstOf}
use Rattle.refusals.specs.declared.Refusal.TheVariants.{WalkCutShort}
use Rattle.refusals.specs.Numbers.{number_of_refusal}
use Rattle.refusals.proofs.Theorems.{number_determines_refusal, never_zero, First, first_or_none, tells_once, not_answered_is_refused, zero_is_answered}
use Rattle.cubic.specs.Cubic.{N}
use Rattle.cubic.proofs.Theorems.{gas_root_exists}
use Rattle.slow_engine.specs.declared.Walked.{Walked}
use Rattle.slow_engine.specs.Promise.{way}
use Rattle.slow_engine.proofs.Theorems.{longest_way}
use Rattle.fluid.specs.Checks.{state_checks}
use Rattle.fluid.specs.declared.coefficients.Reached.{Reached}
use Rattle.fluid.specs.Promise.{Reaches}
use Rattle.fluid.proofs.Accepting.{state_decided}
use Rattle.fluid.proofs.Theorems.{reached_once, reached_exists}
use Rattle.walks.specs.declared.replies.WalkRefusal.{WalkRefusal}
use Rattle.walks.specs.declared.replies.WalkFigures.{WalkFigures}
use Rattle.walks.specs.Checks.{GasRootByWalk, all_checks}
use Rattle.walks.specs.Replies.{answered_with, refused_with, refused, figures_of, Answered, Replies}
use Rattle.walks.proofs.Walking.{walked_once, tells_of_state, tells_limit, tells_root}

abbrev number_in : WalkFigures → ℕ
number_in figures = figures.number

abbrev root_in : WalkFigures → ℕ
root_in figures = figures.gas_root

abbrev values_in : WalkFigures → ℕ
values_in figures = figures.values

-- figures have one reply, and a reply one set of figures
pub figures_determine_walk_reply : (r s : Result Walked WalkRefusal) → figures_of r ≡ figures_of s → r ≡ s
figures_determine_walk_reply (Ok walk) (Ok walk') same = ap₂ (λ gas values. Ok (record { gas = gas; values = values })) (ap root_in same) (ap values_in same)
figures_determine_walk_reply (Ok walk) (Err walk') same = absurd (never_zero walk'.refusal (sym (ap number_in same)))
figures_determine_walk_reply (Err walk) (Ok walk') same = absurd (never_zero walk.refusal (ap number_in same))
figures_determine_walk_reply (Err walk) (Err walk') same =
    ap₂ (λ refusal values. Err (record { refusal = refusal; values = values })) (number_determines_refusal walk.refusal walk'.refusal (ap number_in same)) (ap values_in same)

pub walk_figures_determined : (reply : Result Walked WalkRefusal) {f g : WalkFigures} → f ≡ figures_of reply → g ≡ figures_of reply → f ≡ g
walk_figures_determined reply p q = p ∙ sym q

module _ (number millikelvin pascals : ℕ) where
  answered_once : (f g : WalkFigures) → Answered number millikelvin pascals f → Answered number millikelvin pascals g → f ≡ g
  answered_once f g p q =
      let same = walked_once number millikelvin pascals p.by_walk q.by_walk in
      p.is_figures ∙ ap₂ answered_with same.0 same.1 ∙ sym q.is_figures

  module _ (limit : ℕ) where
    pub told_once : (f g : WalkFigures) → Replies number millikelvin pascals limit f → Replies number millikelvin pascals limit g → f ≡ g
    told_once = tells_once (all_checks number millikelvin pascals limit) (λ refusal f g p q. p ∙ sym q) answered_once

    pub walk_determined : (r s : Result Walked WalkRefusal) → Replies number millikelvin pascals limit (figures_of r) → Replies number millikelvin pascals limit (figures_of s) → r ≡ s
    walk_determined r s p q = figures_determine_walk_reply r s (told_once (figures_of r) (figures_of s) p q)

  -- an accepted state has a gas root, and so a way to it
  pub way_exists : NoneOf (state_checks number millikelvin pascals) → (gas : ℕ) × ((values : ℕ) × GasRootByWalk number millikelvin pascals gas values)
  way_exists none =
      let state = reached_exists number millikelvin pascals none in
      let gas = gas_root_exists state.0.reduced.a state.0.reduced.b in
      (gas.0, (way state.0.reduced.b gas.0, record { reached = state.0; reaches = state.1; is_gas = gas.1; is_way = refl }))

  -- no walk is longer than N + 1 values
  way_at_most : {gas values : ℕ} → GasRootByWalk number millikelvin pascals gas values → values ≤ N + 1
  way_at_most {gas} by_walk = omega (arith, by_walk.is_way, longest_way by_walk.reached.reduced.a by_walk.reached.reduced.b gas by_walk.is_gas)

  module _ (limit : ℕ) (figures : WalkFigures) (replies : Replies number millikelvin pascals limit figures) where
    module _ (none : NoneOf (state_checks number millikelvin pascals)) where
      -- with a limit that suffices the reply is the root and the count, and with less it is the limit
      module _ {gas values : ℕ} (by_walk : GasRootByWalk number millikelvin pascals gas values) where
        pub root_where_limit_suffices : values ≤ limit → figures ≡ answered_with gas values
        root_where_limit_suffices suffices = told_once limit figures (answered_with gas values) replies (tells_root number millikelvin pascals limit none by_walk suffices)

        pub limit_where_it_is_too_low : limit < values → figures ≡ refused_with 11 limit
        limit_where_it_is_too_low below = told_once limit figures (refused_with 11 limit) replies (tells_limit number millikelvin pascals limit none by_walk below)

        -- 11 is told exactly where the limit is below the count
        pub cut_short_exactly : figures.number ≡ 11 ↔ limit < values
        cut_short_exactly = (λ is_11. by_limit is_11 (dec_le values limit), λ below. ap number_in (limit_where_it_is_too_low below))
          where
            by_limit : figures.number ≡ 11 → Dec (values ≤ limit) → limit < values
            by_limit is_11 (yes suffices) = absurd (omega (arith, ap number_in (root_where_limit_suffices suffices)))
            by_limit is_11 (no f) = omega arith

      pub a_limit_that_always_suffices : 100001 ≤ limit → figures.number ≡ 0
      a_limit_that_always_suffices enough =
          let exists = way_exists none in
          ap number_in (root_where_limit_suffices exists.1.1 (omega (arith, way_at_most exists.1.1)))

      pub no_value_no_root : limit ≡ 0 → figures ≡ refused_with 11 0
      no_value_no_root is_0 =
          let exists = way_exists none in
          rw is_0 at (limit_where_it_is_too_low exists.1.1 (omega (arith, exists.1.1.is_way)))

    answered : figures.number ≡ 0 → Answered number millikelvin pascals figures
    answered is_0 = (zero_is_answered number_in (all_checks number millikelvin pascals limit) refl (λ refusal told. ap number_in told) is_0 replies).1

    -- the count of an answered walk is the way from N + b down to its root
    pub count_is_the_way : (reached : Reached) → Reaches number millikelvin pascals reached → figures.number ≡ 0 → figures.values ≡ N + reached.reduced.b - figures.gas_root + 1
    count_is_the_way reached reaches is_0 =
        let given = answered is_0 in
        let same : given.by_walk.reached ≡ reached = reached_once number millikelvin pascals given.by_walk.reached reached given.by_walk.reaches reaches in
        let counted : given.values ≡ way reached.reduced.b given.gas = rw same at given.by_walk.is_way in
        rw given.is_figures counted

    -- the state's own refusals come first, with zeros
    pub state_is_told_first : (refusal : ℕ) → FirstOf (state_checks number millikelvin pascals) refusal → figures ≡ refused_with refusal 0
    state_is_told_first refusal first = told_once limit figures (refused_with refusal 0) replies (tells_of_state number millikelvin pascals limit refusal first)

    -- and the limit is all that a refusal brings beside its number
    pub refused_walk_carries_zeros : (figures.number ≡ 0 → ⊥) → (figures.gas_root ≡ 0) × ((figures.number ≡ 11 → ⊥) → figures.values ≡ 0)
    refused_walk_carries_zeros refused =
        let told = not_answered_is_refused (λ given. refused (ap number_in given.is_figures)) replies in
        (ap root_in told.1, λ other. ap values_in told.1 ∙ rw (ne_eqb told.0 11 (λ is_11. other (ap number_in told.1 ∙ is_11))) refl)

  -- and every walk has one
  pub every_walk_has_a_reply : (limit : ℕ) → (reply : Result Walked WalkRefusal) × Replies number millikelvin pascals limit (figures_of reply)
  every_walk_has_a_reply limit = by_checks (first_or_none (state_checks number millikelvin pascals) (state_decided number millikelvin pascals))
    where
      by_limit : {gas values : ℕ} → NoneOf (state_checks number millikelvin pascals) → GasRootByWalk number millikelvin pascals gas values → Dec (values ≤ limit) → (reply : Result Walked WalkRefusal) × Replies number millikelvin pascals limit (figures_of reply)
      by_limit {gas} {values} none by_walk (yes suffices) = (Ok (record { gas = gas; values = values }), tells_root number millikelvin pascals limit none by_walk suffices)
      by_limit none by_walk (no f) = (Err (record { refusal = WalkCutShort; values = limit }), tells_limit number millikelvin pascals limit none by_walk (omega arith))

      by_checks : First (state_checks number millikelvin pascals) ⊎ NoneOf (state_checks number millikelvin pascals) → (reply : Result Walked WalkRefusal) × Replies number millikelvin pascals limit (figures_of reply)
      by_checks (inl first) = (Err (refused first.0), tells_of_state number millikelvin pascals limit (number_of_refusal first.0) first.1)
      by_checks (inr none) =
          let exists = way_exists none in
          by_limit none exists.1.1 (dec_le exists.1.0 limit)
