-- From what the crates below promise to what a call promises: an accepted state is within every bound that they ask, and its two roots with
-- their densities are what the definitions name. Assumes nothing.
use mathlib.Core.Path.{◌≡◌, refl, sym, ap, ◌∙◌}
use mathlib.Core.List.{List, ◌++◌}
use Prim.Native.Nat.{ℕ, zero, suc}
use native.Mathlib.Omega.{arith}
use lib.ListN.{length}
use Rattle.refusals.specs.Checks.{Check, refuses, answers, with_value, with_number, Gives}
use Rattle.refusals.proofs.Lists.{none_front}
use Rattle.books.specs.Layouts.{Layout, slot_checks}
use Rattle.books.specs.Bytes.{in_bytes}
use Rattle.cubic.specs.Cubic.{Crossing, Kind, ONE, SPLIT}
use Rattle.cubic.proofs.Theorems.{crossing_from_b, crossing_on_grid, kind_exists}
use Rattle.fluid.specs.declared.choice.Fluid.{Fluid}
use Rattle.fluid.specs.declared.coefficients.Reduced.{Reduced}
use Rattle.fluid.specs.Figures.{Accepted}
use Rattle.fluid.specs.Checks.{state_checks}
use Rattle.fluid.specs.Reduced.{Reduces}
use Rattle.fluid.proofs.Accepting.{accepts}
use Rattle.fluid.proofs.Theorems.{some_temperature, b_at_least_one, b_at_most}
use Rattle.densities.specs.Densities.{density}
use Rattle.densities.specs.Promise.{Weighable}
use Rattle.roots.specs.declared.Found.{Found}
use Rattle.roots.specs.Promise.{HasRoots}
use Rattle.calls.specs.declared.Form.{Form}
use Rattle.calls.specs.Checks.{form_checks}
use Rattle.calls.specs.Promise.{FindsWithBook}
use Rattle.replies.specs.declared.Figures.{Figures}
use Rattle.replies.specs.Figures.{answered_with, refused_with}
use Rattle.replies.specs.Sides.{for_side, SideOf}
use Rattle.state.specs.Replies.{Told}
use Rattle.state.specs.Book.{book_after, CalledAs}
use Rattle.state.specs.Inside.{Weighty, Reported}

module _ {fluid : Fluid} {millikelvin pascals : ℕ} {reduced : Reduced} (accepted : Accepted fluid millikelvin pascals) (reduces : Reduces fluid millikelvin pascals reduced) where
  weighable : {z : ℕ} → Crossing reduced.a reduced.b z → Weighable millikelvin pascals z
  weighable {z} crossing =
      omega (
        arith,
        some_temperature accepted,
        b_at_least_one accepted reduces,
        b_at_most accepted reduces,
        crossing_from_b _ _ z crossing,
        crossing_on_grid _ _ z crossing,
      )

-- the root for a side is one of the two, and its density the one of theirs for that side
weighed_for : (weighs : ℕ → ℕ) (side of_gas of_dense : ℕ) → weighs (for_side side of_gas of_dense) ≡ for_side side (weighs of_gas) (weighs of_dense)
weighed_for weighs zero of_gas of_dense = refl
weighed_for weighs (suc side) of_gas of_dense = refl

module _ {millikelvin pascals : ℕ} (found : Found) where
  pub reported_for : (side root grams : ℕ) → root ≡ for_side side found.gas found.dense → grams ≡ density found.fluid millikelvin pascals root → SideOf side (Reported found millikelvin pascals) (record { number = 0; root = root; density = grams })
  reported_for side root grams is_root is_density =
      let kind = kind_exists found.gas found.dense in
      record { whole = _; holds = record { kind = kind.0; is_kind = kind.1; is_figures = refl }; is_told = rw (is_density, is_root, weighed_for (density found.fluid millikelvin pascals) side found.gas found.dense) refl }

-- an answered call writes its gas root, whichever kind it has
pub written : (layout : Layout) (book : List ℕ) (slot : ℕ) (kind : Kind) {gas dense gas_density dense_density : ℕ} {figures : Figures} → figures ≡ answered_with kind gas dense gas_density dense_density → book_after layout book slot figures ≡ layout.put book slot gas
written layout book slot ONE same = ap (book_after layout book slot) same
written layout book slot SPLIT same = ap (book_after layout book slot) same

-- whatever checks stand behind a state's own
module _ (number millikelvin pascals : ℕ) (more : List Check) where
  pub refused : (refusal : ℕ) → Gives (state_checks number millikelvin pascals ++ more) (HasRoots number millikelvin pascals) (with_number refusal) → Told number millikelvin pascals more (refused_with refusal)
  refused refusal first = refuses refusal first refl

  module _ (found : Found) (finds : Gives (state_checks number millikelvin pascals ++ more) (HasRoots number millikelvin pascals) (with_value found)) where
    pub weighty : Weighty millikelvin pascals found
    weighty =
        let roots = finds.1 in
        let passes = none_front (state_checks number millikelvin pascals) more finds.0 in
        let accepted = accepts found.fluid roots.is_number millikelvin pascals passes in
        record {
          gas_fits = weighable accepted roots.reduces roots.is_gas.crossing;
          dense_fits = weighable accepted roots.reduces roots.is_dense.crossing;
        }

    pub answered : {figures : Figures} → Reported found millikelvin pascals figures → Told number millikelvin pascals more figures
    answered reported =
        answers finds.0
        (record { found = found; roots = finds.1; kind = reported.kind; is_kind = reported.is_kind; is_figures = reported.is_figures })

-- with a book
module _ (form : Form) (number millikelvin pascals slot : ℕ) (book after : List ℕ) where
  abbrev checks : List Check
  checks = form_checks form ++ slot_checks in_bytes slot (length book)

  pub refused_with_book : (refusal : ℕ) → FindsWithBook form number millikelvin pascals slot book (with_number refusal) after → CalledAs in_bytes form number millikelvin pascals slot book (refused_with refusal) after
  refused_with_book refusal found = record { replies = refused number millikelvin pascals checks refusal found.finds; leaves = found.leaves }

  module _ (found : Found) (finds : FindsWithBook form number millikelvin pascals slot book (with_value found) after) where
    pub weighty_with_book : Weighty millikelvin pascals found
    weighty_with_book = weighty number millikelvin pascals checks found finds.finds

    pub answered_with_book : {figures : Figures} → Reported found millikelvin pascals figures → CalledAs in_bytes form number millikelvin pascals slot book figures after
    answered_with_book reported =
        record {
          replies = answered number millikelvin pascals checks found finds.finds reported;
          leaves = finds.leaves ∙ sym (written in_bytes book slot reported.kind reported.is_figures);
        }
