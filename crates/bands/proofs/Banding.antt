-- What is told of a band in each of its three cases: a refused state, scalings that are not allowed, and the gas roots at both ends. Assumes nothing.
use mathlib.Core.Path.{refl}
use mathlib.Core.Logic.{inl}
use Prim.Native.Nat.{ℕ}
use Rattle.refusals.specs.Checks.{NoneOf, FirstOf, refuses, answers}
use Rattle.refusals.proofs.Lists.{none_both, first_front, first_behind}
use Rattle.fluid.specs.Checks.{state_checks}
use Rattle.bands.specs.Scalings.{ScaledGasRoot, NotAllowed, scaling_checks, Allowed}
use Rattle.bands.specs.Replies.{answered_with, refused_with, Replies}
use Rattle.bands.proofs.Scaling.{allowed_is_not_refused}

module _ (number millikelvin pascals lower upper : ℕ) where
  pub tells_of_state : (refusal : ℕ) → FirstOf (state_checks number millikelvin pascals) refusal → Replies number millikelvin pascals lower upper (refused_with refusal)
  tells_of_state refusal first = refuses refusal (first_front (state_checks number millikelvin pascals) (scaling_checks lower upper) refusal first) refl

  module _ (none : NoneOf (state_checks number millikelvin pascals)) where
    pub tells_of_scalings : NotAllowed lower upper → Replies number millikelvin pascals lower upper (refused_with 13)
    tells_of_scalings not_allowed = refuses 13 (first_behind (state_checks number millikelvin pascals) (scaling_checks lower upper) 13 none (inl (not_allowed, refl))) refl

    pub tells_ends : {at_lower at_upper : ℕ} → Allowed lower upper → ScaledGasRoot number millikelvin pascals lower at_lower → ScaledGasRoot number millikelvin pascals upper at_upper → Replies number millikelvin pascals lower upper (answered_with at_lower at_upper)
    tells_ends allowed is_at_lower is_at_upper =
        answers (none_both (state_checks number millikelvin pascals) (scaling_checks lower upper) none (allowed_is_not_refused allowed, tt))
        (record { is_answered = refl; is_at_lower = is_at_lower; is_at_upper = is_at_upper })
