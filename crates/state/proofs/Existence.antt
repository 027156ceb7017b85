-- Every call has a reply where each of its checks can be decided: one is the first that applies, or none does and there is an answer. Assumes
-- nothing.
use mathlib.Core.Path.{◌≡◌, refl}
use mathlib.Core.Logic.{◌⊎◌, inl, inr}
use mathlib.Core.List.{List, ◌++◌}
use Prim.Native.Nat.{ℕ}
use Rattle.std.specs.Prelude.{Result, Ok, Err}
use Rattle.refusals.specs.declared.Refusal.{Refusal}
use Rattle.refusals.specs.Checks.{Check, NoneOf, refuses, answers}
use Rattle.refusals.proofs.Lists.{none_front}
use Rattle.refusals.proofs.Theorems.{EachDecided, First, first_or_none}
use Rattle.cubic.specs.Cubic.{Kind, ONE, SPLIT, IsKind}
use Rattle.cubic.proofs.Theorems.{kind_exists}
use Rattle.fluid.specs.Checks.{state_checks}
use Rattle.roots.proofs.Theorems.{roots_exist}
use Rattle.densities.specs.Densities.{density}
use Rattle.replies.specs.declared.Answer.{Answer}
use Rattle.replies.specs.declared.Answer.TheVariants.{One, Split}
use Rattle.replies.specs.Figures.{answered_with, figures_of}
use Rattle.state.specs.Replies.{Answered, Told}

-- two roots with their densities are the figures of a reply
reported : (gas dense : ℕ) (weighs : ℕ → ℕ) (kind : Kind) → IsKind gas dense kind → (reply : Result Answer Refusal) × (figures_of reply ≡ answered_with kind gas dense (weighs gas) (weighs dense))
reported gas dense weighs ONE same = (Ok (One gas (weighs gas)), rw same refl)
reported gas dense weighs SPLIT apart = (Ok (Split gas dense (weighs gas) (weighs dense)), refl)

module _ (number millikelvin pascals : ℕ) where
  answer : NoneOf (state_checks number millikelvin pascals) → (reply : Result Answer Refusal) × Answered number millikelvin pascals (figures_of reply)
  answer none =
      let roots = roots_exist number millikelvin pascals none in
      let kind = kind_exists roots.0.gas roots.0.dense in
      let told = reported roots.0.gas roots.0.dense (density roots.0.fluid millikelvin pascals) kind.0 kind.1 in
      (told.0, record { found = roots.0; roots = roots.1; kind = kind.0; is_kind = kind.1; is_figures = told.1 })

  -- whatever checks stand behind a state's own
  pub told : (more : List Check) → EachDecided (state_checks number millikelvin pascals ++ more) → (reply : Result Answer Refusal) × Told number millikelvin pascals more (figures_of reply)
  told more decided = by_checks (first_or_none (state_checks number millikelvin pascals ++ more) decided)
    where
      by_checks : First (state_checks number millikelvin pascals ++ more) ⊎ NoneOf (state_checks number millikelvin pascals ++ more) → (reply : Result Answer Refusal) × Told number millikelvin pascals more (figures_of reply)
      by_checks (inl first) = (Err first.0, refuses _ first.1 refl)
      by_checks (inr none) =
          let found = answer (none_front (state_checks number millikelvin pascals) more none) in
          (found.0, answers none found.1)
