-- A claim beside a call for its side (docs/RULES.md, "Sides"): it stands exactly where the call is answered with its root, and so for both sides of
-- a ONE state or for neither. In a SPLIT state that g crosses at the root is not enough. Assumes nothing.
use mathlib.Core.Path.{◌≡◌, refl, sym, ap, subst, ◌∙◌}
use mathlib.Core.Logic.{◌↔◌}
use Prim.Native.Nat.{ℕ, zero, suc}
use Rattle.refusals.proofs.Theorems.{none_is_answered, zero_is_answered}
use Rattle.cubic.specs.Cubic.{Crossing, ONE, SPLIT, IsKind}
use Rattle.std.specs.Prelude.{Result}
use Rattle.refusals.specs.declared.Refusal.{Refusal}
use Rattle.replies.specs.declared.Answer.{Answer}
use Rattle.replies.specs.declared.Figures.{Figures}
use Rattle.replies.specs.declared.sides.SideFigures.{SideFigures}
use Rattle.replies.specs.Figures.{number_of_kind, figures_of}
use Rattle.replies.specs.Sides.{gas, dense, for_side, side_figures_of}
use Rattle.roots.specs.declared.Found.{Found}
use Rattle.roots.specs.Promise.{HasRoots}
use Rattle.state.specs.Replies.{Answered, Replies, RepliesForSide}
use Rattle.state.proofs.Theorems.{one_has_equal_sides, every_side_has_a_reply}
use Rattle.claims.specs.Claims.{Claim, claim_of, SideRoot, side_checks, Stands}
use Rattle.claims.proofs.Verdicts.{side_root_once}

abbrev number_in : Figures → ℕ
number_in figures = figures.number

abbrev root_for : (side : ℕ) → Figures → ℕ
root_for side whole = for_side side whole.gas_root whole.dense_root

module _ (claim : Claim) {told : SideFigures} (replies : RepliesForSide claim.fluid claim.millikelvin claim.pascals claim.side told) where
  told_number : told.number ≡ replies.whole.number
  told_number = ap (λ (f : SideFigures). f.number) replies.is_told

  -- an answered call tells the side's root
  told_root : Answered claim.fluid claim.millikelvin claim.pascals replies.whole → SideRoot claim told.root
  told_root given =
      record {
        found = given.found;
        roots = given.roots;
        is_root = ap (λ (f : SideFigures). f.root) replies.is_told ∙ ap (root_for claim.side) given.is_figures;
      }

  pub stands_exactly_as_told : Stands claim ↔ ((told.number ≡ 0) × (claim.root ≡ told.root))
  stands_exactly_as_told = (answered, stands)
    where
      answered : Stands claim → (told.number ≡ 0) × (claim.root ≡ told.root)
      answered stands =
          let given = none_is_answered (side_checks claim) stands.accepted replies.holds in
          (told_number ∙ ap number_in given.is_figures, side_root_once stands.is_own (told_root given))

      stands : (told.number ≡ 0) × (claim.root ≡ told.root) → Stands claim
      stands (is_0, same) =
          let given = zero_is_answered number_in (side_checks claim) refl (λ refusal refused. ap number_in refused) (sym told_number ∙ is_0) replies.holds in
          record { accepted = given.0; is_own = subst (SideRoot claim) (sym same) (told_root given.1) }

module _ (fluid millikelvin pascals root : ℕ) where
  abbrev for : (side : ℕ) → Claim
  for side = claim_of fluid millikelvin pascals side root

  pub stands_for_both_sides_of_one : (reply : Result Answer Refusal) → Replies fluid millikelvin pascals (figures_of reply) → (figures_of reply).kind ≡ number_of_kind ONE → Stands (for gas) ↔ Stands (for dense)
  stands_for_both_sides_of_one reply replies is_one =
      let of_gas = every_side_has_a_reply fluid millikelvin pascals gas in
      let of_dense = every_side_has_a_reply fluid millikelvin pascals dense in
      let same = ap side_figures_of (one_has_equal_sides fluid millikelvin pascals reply of_gas.0 of_dense.0 replies is_one of_gas.1 of_dense.1) in
      let gas_told = stands_exactly_as_told (for gas) of_gas.1 in
      let dense_told = stands_exactly_as_told (for dense) of_dense.1 in
      (λ stands. dense_told.1 (rw same at (gas_told.0 stands)), λ stands. gas_told.1 (rw (sym same) at (dense_told.0 stands)))

-- g crosses at both roots of a SPLIT state, and neither stands for the other's side
module _ {fluid millikelvin pascals : ℕ} {found : Found} (roots : HasRoots fluid millikelvin pascals found) (split : IsKind found.gas found.dense SPLIT) where
  pub crossing_is_not_enough : (side : ℕ) → let other = for_side side found.dense found.gas in Crossing roots.reduced.a roots.reduced.b other × (Stands (claim_of fluid millikelvin pascals side other) → ⊥)
  crossing_is_not_enough zero =
      (roots.is_dense.crossing, λ stands. split (side_root_once (record { found = found; roots = roots; is_root = refl }) stands.is_own))
  crossing_is_not_enough (suc side) =
      (roots.is_gas.crossing, λ stands. split (side_root_once stands.is_own (record { found = found; roots = roots; is_root = refl })))
