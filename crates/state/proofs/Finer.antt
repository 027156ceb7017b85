-- Before each side of a range had its number, a temperature out of range was refused by 2 and a pressure by 3. Those
-- checks stand here for one theorem: what is told now is finer than what they told, and otherwise the same. Assumes nothing.
use mathlib.Core.Path.{◌≡◌, refl, sym, ap, ◌∙◌}
use mathlib.Core.Logic.{◌⊎◌, inl, inr, ⊎_elim, ◌↔◌}
use mathlib.Core.List.{List, [], ◌∷◌, ◌++◌}
use Prim.Native.Nat.{ℕ, ◌+◌, ◌≤◌, ◌<◌}
use native.Mathlib.Omega.{arith}
use lib.ListN.{length}
use Rattle.refusals.specs.Checks.{Check, ◌if◌, FirstOf, Tells, refuses, answers}
use Rattle.books.specs.Layouts.{Layout, slot_checks}
use Rattle.fluid.specs.declared.choice.Fluid.{Fluid}
use Rattle.fluid.specs.Figures.{number_of, coldest, hottest, lowest, highest}
use Rattle.fluid.specs.Checks.{OfFluid, state_checks}
use Rattle.fluid.proofs.Accepting.{fluid_or_none}
use Rattle.calls.specs.declared.Form.TheVariants.{Whole}
use Rattle.replies.specs.declared.Figures.{Figures}
use Rattle.replies.specs.Figures.{refused_with}
use Rattle.state.specs.Replies.{NumberAndZeros, Answered, Replies}
use Rattle.state.specs.Book.{book_after, CalledAs}
use Rattle.state.proofs.Determined.{told_once}

abbrev pub TemperatureOut : (number millikelvin : ℕ) → Type 0
TemperatureOut number millikelvin = OfFluid number (λ fluid. (millikelvin < coldest fluid) ⊎ (hottest < millikelvin))

abbrev pub checks_before : (number millikelvin pascals : ℕ) → List Check
checks_before number millikelvin pascals =
    1 if ((fluid : Fluid) → number ≡ number_of fluid → ⊥)
    ∷ 2 if TemperatureOut number millikelvin
    ∷ 3 if ((pascals < lowest) ⊎ (highest < pascals))
    ∷ []

-- what was told, with any checks behind a state's own
abbrev pub ToldBefore : (number millikelvin pascals : ℕ) (more : List Check) → Figures → Type 0
ToldBefore number millikelvin pascals more =
    Tells (checks_before number millikelvin pascals ++ more) NumberAndZeros (Answered number millikelvin pascals)

pub record CalledBefore (layout : Layout) (number millikelvin pascals slot : ℕ) (book : List ℕ) (figures : Figures) (after : List ℕ) : Type 0 where
  pub replies : ToldBefore number millikelvin pascals (slot_checks layout slot (length book)) figures
  pub leaves : after ≡ book_after layout book slot figures

-- what is told of a state now, and what was told of it
pub record Finer (now before : Figures) : Type 0 where
  pub temperature : (now.number ≡ 21) ⊎ (now.number ≡ 22) ↔ before.number ≡ 2
  pub pressure : (now.number ≡ 31) ⊎ (now.number ≡ 32) ↔ before.number ≡ 3
  pub otherwise : (before.number ≡ 2 → ⊥) → (before.number ≡ 3 → ⊥) → now ≡ before
  pub book : (layout : Layout) (book : List ℕ) (slot : ℕ) → book_after layout book slot now ≡ book_after layout book slot before

bounds : {n m : ℕ} → (n ≡ m) ⊎ (n ≡ m + 1) → (m ≤ n) × (n ≤ m + 1)
bounds = ⊎_elim (λ lower. (omega arith, omega arith)) (λ upper. (omega arith, omega arith))

finer_temperature : {refusal : ℕ} → (refusal ≡ 21) ⊎ (refusal ≡ 22) → Finer (refused_with refusal) (refused_with 2)
finer_temperature side =
    record {
      temperature = (λ told. refl, λ was. side);
      pressure = (λ told. omega (arith, bounds side, bounds told), λ was. absurd (omega arith));
      otherwise = λ not_2 not_3. absurd (not_2 refl);
      book = λ layout book slot. refl;
    }

finer_pressure : {refusal : ℕ} → (refusal ≡ 31) ⊎ (refusal ≡ 32) → Finer (refused_with refusal) (refused_with 3)
finer_pressure side =
    record {
      temperature = (λ told. omega (arith, bounds told, bounds side), λ was. absurd (omega arith));
      pressure = (λ told. refl, λ was. side);
      otherwise = λ not_2 not_3. absurd (not_3 refl);
      book = λ layout book slot. refl;
    }

as_it_was : {figures : Figures} → (figures.number ≡ 2 → ⊥) → (figures.number ≡ 3 → ⊥) → figures.number < 21 → Finer figures figures
as_it_was not_2 not_3 below =
    record {
      temperature = (λ told. omega (arith, bounds told), λ was. absurd (not_2 was));
      pressure = (λ told. omega (arith, bounds told), λ was. absurd (not_3 was));
      otherwise = λ not_2 not_3. refl;
      book = λ layout book slot. refl;
    }

neither_side : {number millikelvin : ℕ} → (OfFluid number (λ fluid. millikelvin < coldest fluid) → ⊥) → (hottest < millikelvin → ⊥) → TemperatureOut number millikelvin → ⊥
neither_side not_cold not_hot out =
    ⊎_elim (λ cold. not_cold (record { fluid = out.fluid; is_number = out.is_number; holds = cold })) not_hot out.holds

-- to each reply there was one that it is finer than
pub record Earlier (number millikelvin pascals : ℕ) (more : List Check) (now : Figures) : Type 0 where
  pub before : Figures
  pub told : ToldBefore number millikelvin pascals more before
  pub finer : Finer now before

-- behind a state's own checks only the slot's may stand
module _ (number millikelvin pascals : ℕ) (more : List Check) (only_4 : (refusal : ℕ) → FirstOf more refusal → refusal ≡ 4) where
  refused : (refusal : ℕ) → FirstOf (state_checks number millikelvin pascals ++ more) refusal → Earlier number millikelvin pascals more (refused_with refusal)
  refused refusal (inl unknown) =
      let is_1 = unknown.1 in
      record { before = _; told = refuses refusal (inl unknown) refl; finer = as_it_was (λ is_2. omega arith) (λ is_3. omega arith) (omega arith) }
  refused refusal (inr (known, inl cold)) =
      let out : TemperatureOut number millikelvin = record { fluid = cold.0.fluid; is_number = cold.0.is_number; holds = inl cold.0.holds } in
      record { before = _; told = refuses 2 (inr (known, inl (out, refl))) refl; finer = finer_temperature (inl cold.1) }
  refused refusal (inr (known, inr (not_cold, inl hot))) = by_fluid (fluid_or_none number)
    where
      by_fluid : ((fluid : Fluid) × (number ≡ number_of fluid)) ⊎ ((fluid : Fluid) → number ≡ number_of fluid → ⊥) → Earlier number millikelvin pascals more (refused_with refusal)
      by_fluid (inl (fluid, is_number)) =
          let out : TemperatureOut number millikelvin = record { fluid = fluid; is_number = is_number; holds = inr hot.0 } in
          record { before = _; told = refuses 2 (inr (known, inl (out, refl))) refl; finer = finer_temperature (inr hot.1) }
      by_fluid (inr none) = absurd (known none)
  refused refusal (inr (known, inr (not_cold, inr (not_hot, inl low)))) =
      record { before = _; told = refuses 3 (inr (known, inr (neither_side not_cold not_hot, inl (inl low.0, refl)))) refl; finer = finer_pressure (inl low.1) }
  refused refusal (inr (known, inr (not_cold, inr (not_hot, inr (not_low, inl high))))) =
      record { before = _; told = refuses 3 (inr (known, inr (neither_side not_cold not_hot, inl (inr high.0, refl)))) refl; finer = finer_pressure (inr high.1) }
  refused refusal (inr (known, inr (not_cold, inr (not_hot, inr (not_low, inr (not_high, later)))))) =
      let is_4 = only_4 refusal later in
      record {
        before = _;
        told = refuses refusal (inr (known, inr (neither_side not_cold not_hot, inr (⊎_elim not_low not_high, later)))) refl;
        finer = as_it_was (λ is_2. omega arith) (λ is_3. omega arith) (omega arith);
      }

  pub earlier : {now : Figures} → Tells (state_checks number millikelvin pascals ++ more) NumberAndZeros (Answered number millikelvin pascals) now → Earlier number millikelvin pascals more now
  earlier (refuses refusal first zeros) = rw zeros (refused refusal first)
  earlier {now} (answers (known, (not_cold, (not_hot, (not_low, (not_high, none))))) answered) =
      let is_0 : now.number ≡ 0 = ap (λ (f : Figures). f.number) answered.is_figures in
      record {
        before = now;
        told = answers (known, (neither_side not_cold not_hot, (⊎_elim not_low not_high, none))) answered;
        finer = as_it_was (λ is_2. omega arith) (λ is_3. omega arith) (omega arith);
      }

  compared : {now before : Figures} → Tells (state_checks number millikelvin pascals ++ more) NumberAndZeros (Answered number millikelvin pascals) now → ToldBefore number millikelvin pascals more before → Finer now before
  compared {now} {before} told told_before =
      let found = earlier told in
      let same : found.before ≡ before = told_once number millikelvin pascals (checks_before number millikelvin pascals ++ more) found.before before found.told told_before in
      rw same at found.finer

-- 21 or 22 is told exactly where 2 was, 31 or 32 exactly where 3 was, and everything else as it was; the book is left as it was left
module _ {number millikelvin pascals : ℕ} {now before : Figures} where
  pub finer_than_before : {layout : Layout} {slot : ℕ} {book after after' : List ℕ} → CalledAs layout Whole number millikelvin pascals slot book now after → CalledBefore layout number millikelvin pascals slot book before after' → Finer now before × (after ≡ after')
  finer_than_before {layout} {slot} {book} called called_before =
      let finer : Finer now before = compared number millikelvin pascals (slot_checks layout slot (length book)) only_4 called.replies called_before.replies in
      (finer, called.leaves ∙ finer.book layout book slot ∙ sym called_before.leaves)
    where
      only_4 : (refusal : ℕ) → FirstOf (slot_checks layout slot (length book)) refusal → refusal ≡ 4
      only_4 refusal (inl here) = here.1
      only_4 refusal (inr later) = absurd later.1

  pub finer_without_book : Replies number millikelvin pascals now → ToldBefore number millikelvin pascals [] before → Finer now before
  finer_without_book = compared number millikelvin pascals [] (λ refusal first. absurd first)
