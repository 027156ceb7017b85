-- docs/RULES.md, "Claims": a claim, when it stands, and what it is checked for, in order.
use Rattle.std.specs.Prelude.{◌≡◌, List, [], ◌∷◌, ◌++◌, ℕ}
use Rattle.refusals.specs.Checks.{Check, ◌if◌, NoneOf}
use Rattle.fluid.specs.Checks.{state_checks}
use Rattle.replies.specs.Sides.{for_side}
use Rattle.roots.specs.declared.Found.{Found}
use Rattle.roots.specs.Promise.{HasRoots}
use Rattle.calls.specs.declared.Form.TheVariants.{Side}
use Rattle.calls.specs.Checks.{form_checks}

-- a state, a side of it, and the root that another program gave for that side
pub record Claim : Type 0 where
  pub fluid : ℕ
  pub millikelvin : ℕ
  pub pascals : ℕ
  pub side : ℕ
  pub root : ℕ

abbrev pub claim_of : (fluid millikelvin pascals side root : ℕ) → Claim
claim_of fluid millikelvin pascals side root =
    record { fluid = fluid; millikelvin = millikelvin; pascals = pascals; side = side; root = root }

-- the root that the claim's state has for the claim's side
pub record SideRoot (claim : Claim) (root : ℕ) : Type 0 where
  pub found : Found
  pub roots : HasRoots claim.fluid claim.millikelvin claim.pascals found
  pub is_root : root ≡ for_side claim.side found.gas found.dense

-- what a call for the side is checked for
abbrev pub side_checks : Claim → List Check
side_checks claim =
    state_checks claim.fluid claim.millikelvin claim.pascals ++ form_checks (Side claim.side)

-- its state is accepted, its side is one of the two, and its root is that side's own
pub record Stands (claim : Claim) : Type 0 where
  pub accepted : NoneOf (side_checks claim)
  pub is_own : SideRoot claim claim.root

pub record RootDiffers (claim : Claim) : Type 0 where
  pub own : ℕ
  pub is_own : SideRoot claim own
  pub differs : claim.root ≡ own → ⊥

abbrev pub root_checks : Claim → List Check
root_checks claim = 14 if RootDiffers claim ∷ []

abbrev pub claim_checks : Claim → List Check
claim_checks claim = side_checks claim ++ root_checks claim
