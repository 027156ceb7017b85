-- What two calls tell of one state is the same. `Sharing.antt` and `Theorems.antt` draw on it. Assumes nothing.
use mathlib.Core.Path.{◌≡◌, sym, ◌∙◌}
use mathlib.Core.List.{List, ◌++◌}
use Prim.Native.Nat.{ℕ}
use Rattle.refusals.specs.Checks.{Check, Tells}
use Rattle.refusals.proofs.Theorems.{tells_once}
use Rattle.cubic.proofs.Theorems.{kind_determined}
use Rattle.fluid.specs.Checks.{state_checks}
use Rattle.roots.proofs.Theorems.{roots_once}
use Rattle.replies.specs.declared.Figures.{Figures}
use Rattle.state.specs.Replies.{NumberAndZeros, Answered, Told}

module _ (number millikelvin pascals : ℕ) where
  answered_once : (f g : Figures) → Answered number millikelvin pascals f → Answered number millikelvin pascals g → f ≡ g
  answered_once f g p q =
      let same_found : p.found ≡ q.found = roots_once number millikelvin pascals p.found q.found p.roots q.roots in
      let same_kind : p.kind ≡ q.kind = kind_determined _ _ _ _ (rw same_found at p.is_kind) q.is_kind in
      p.is_figures ∙ rw (same_found, same_kind) (sym q.is_figures)

  -- whatever the list of checks is
  pub told_once : (checks : List Check) (f g : Figures) → Tells checks NumberAndZeros (Answered number millikelvin pascals) f → Tells checks NumberAndZeros (Answered number millikelvin pascals) g → f ≡ g
  told_once checks = tells_once checks (λ refusal f g p q. p ∙ sym q) answered_once

  -- a call's own behind the state's
  pub same_told : (more : List Check) (f g : Figures) → Told number millikelvin pascals more f → Told number millikelvin pascals more g → f ≡ g
  same_told more = told_once (state_checks number millikelvin pascals ++ more)
