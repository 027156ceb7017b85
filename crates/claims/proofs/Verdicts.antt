-- One claim: its side has one root, so that the claim stands or is refused and never both; and every claim is one of the two. Assumes nothing.
use mathlib.Core.Path.{◌≡◌, refl, sym, subst, ◌∙◌}
use mathlib.Core.Logic.{◌⊎◌, inl, inr}
use Prim.Native.Nat.{ℕ}
use native.Mathlib.Decide.{ℕ_discrete}
use Rattle.std.specs.Prelude.{Result, Ok, Err}
use Rattle.refusals.specs.declared.Refusal.{Refusal}
use Rattle.refusals.specs.declared.Refusal.TheVariants.{RootDiffers}
use Rattle.refusals.specs.Checks.{NoneOf, FirstOf}
use Rattle.refusals.proofs.Lists.{none_both, none_front, none_or_first, first_front, first_behind}
use Rattle.refusals.proofs.Theorems.{First, first_or_none}
use Rattle.fluid.specs.Checks.{state_checks}
use Rattle.replies.specs.Sides.{for_side}
use Rattle.roots.proofs.Theorems.{roots_once, roots_exist}
use Rattle.calls.specs.declared.Form.TheVariants.{Side}
use Rattle.calls.specs.Checks.{form_checks}
use Rattle.calls.proofs.Theorems.{call_decided}
use Rattle.claims.specs.Claims as claims
use Rattle.claims.specs.Claims.{Claim, SideRoot, side_checks, Stands, root_checks, claim_checks}
use Rattle.claims.specs.Inside.{Judges}

module _ {claim : Claim} where
  pub side_root_once : {root other : ℕ} → SideRoot claim root → SideRoot claim other → root ≡ other
  side_root_once p q =
      let same : p.found ≡ q.found = roots_once claim.fluid claim.millikelvin claim.pascals p.found q.found p.roots q.roots in
      p.is_root ∙ rw same (sym q.is_root)

  -- the checks of the side's call come before the root is looked at
  pub refused_before_root : {refusal : ℕ} → FirstOf (side_checks claim) refusal → FirstOf (claim_checks claim) refusal
  refused_before_root {refusal} first = first_front (side_checks claim) (root_checks claim) refusal first

  pub refused_by_root : NoneOf (side_checks claim) → claims.RootDiffers claim → FirstOf (claim_checks claim) 14
  refused_by_root none differs = first_behind (side_checks claim) (root_checks claim) 14 none (inl (differs, refl))

  standing_is_not_refused : Stands claim → NoneOf (claim_checks claim)
  standing_is_not_refused stands =
      none_both (side_checks claim) (root_checks claim) stands.accepted (λ differs. differs.differs (side_root_once stands.is_own differs.is_own), tt)

  pub never_both : {refusal : ℕ} → Stands claim → FirstOf (claim_checks claim) refusal → ⊥
  never_both {refusal} stands first = none_or_first (claim_checks claim) refusal (standing_is_not_refused stands) first

pub every_claim_has_a_verdict : (claim : Claim) → (verdict : Result (Unit {0}) Refusal) × Judges claim verdict
every_claim_has_a_verdict claim = by_checks (first_or_none (side_checks claim) (call_decided (Side claim.side) claim.fluid claim.millikelvin claim.pascals))
  where
    by_checks : First (side_checks claim) ⊎ NoneOf (side_checks claim) → (verdict : Result (Unit {0}) Refusal) × Judges claim verdict
    by_checks (inl first) = (Err first.0, refused_before_root first.1)
    by_checks (inr none) =
        let state = roots_exist claim.fluid claim.millikelvin claim.pascals (none_front (state_checks claim.fluid claim.millikelvin claim.pascals) (form_checks (Side claim.side)) none) in
        let own = for_side claim.side state.0.gas state.0.dense in
        let is_own : SideRoot claim own = record { found = state.0; roots = state.1; is_root = refl } in
        by_root own is_own (ℕ_discrete claim.root own)
      where
        by_root : (own : ℕ) → SideRoot claim own → Dec (claim.root ≡ own) → (verdict : Result (Unit {0}) Refusal) × Judges claim verdict
        by_root own is_own (yes same) = (Ok tt, record { accepted = none; is_own = subst (SideRoot claim) (sym same) is_own })
        by_root own is_own (no f) = (Err RootDiffers, refused_by_root none (record { own = own; is_own = is_own; differs = f }))
