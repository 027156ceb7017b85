-- What is so of a sheet is told as the contracts say, and what is told is one. Assumes nothing.
use mathlib.Core.Path.{◌≡◌, refl, sym, ap, ◌∙◌}
use mathlib.Core.Logic.{inl, inr}
use mathlib.Core.Bool.{Bool, true, false, cond}
use mathlib.Core.List.{List, [], ◌∷◌, ◌++◌}
use mathlib.Core.Option.{Option, some, map, some-injective}
use Prim.Native.Nat.{ℕ, ◌≤◌, ◌<◌}
use native.Mathlib.Omega.{arith}
use lib.Dec.{eqb}
use lib.ListN.{length, get_elem?}
use Rattle.refusals.specs.Checks.{Check, ◌if◌, NoneOf, Tells, refuses, answers}
use Rattle.refusals.proofs.Lists.{none_both}
use Rattle.refusals.proofs.Theorems.{tells_once}
use Rattle.sheets.specs.declared.State.{State}
use Rattle.sheets.specs.Grammar.{Pair, Good, states_from, sum_of_counts}
use Rattle.sheets.specs.Reading.{FaultAt}
use Rattle.sheets.proofs.Faults.{good_has_no_fault, fault_once}
use Rattle.sheets.proofs.Theorems.{written_once}
use Rattle.readings.specs.Figures.{sheet_answered, line_answered}
use Rattle.readings.specs.Readers.{most_bytes, TooLong, NoLine, sheet_checks, Refused, FromLists, TellsSheet, TellsLine}

pub not_long : (bytes : List ℕ) → length bytes ≤ most_bytes → TooLong bytes → ⊥
not_long bytes fits long = omega arith

place_once : (sections : ℕ) (bytes : List ℕ) (is_6 : Bool) (place place' : ℕ) → cond is_6 (FaultAt sections bytes place) (place ≡ 0) → cond is_6 (FaultAt sections bytes place') (place' ≡ 0) → place ≡ place'
place_once sections bytes true place place' fault fault' = fault_once bytes place place' fault fault'
place_once sections bytes false place place' none none' = none ∙ sym none'

module _ {sections : ℕ} (bytes : List ℕ) where
  pub good_passes : (lists : List (List Pair)) → length bytes ≤ most_bytes → Good sections bytes lists → NoneOf (sheet_checks sections bytes)
  good_passes lists fits good = (not_long bytes fits, (λ no_sheet. no_sheet lists good, tt))

  -- what is told of a good sheet of no more bytes than allowed, and of one of its lines
  module _ (lists : List (List Pair)) (fits : length bytes ≤ most_bytes) (good : Good sections bytes lists) where
    pub good_told : TellsSheet sections bytes (sheet_answered (sum_of_counts lists))
    good_told = answers (good_passes lists fits good) (record { lists = lists; good = good; is_told = refl })

    pub good_line_told : (k : ℕ) {state : State} → k < sum_of_counts lists → get_elem? (states_from 0 lists) k ≡ some state → TellsLine sections bytes k (line_answered state)
    good_line_told k below is_state =
        answers
        (none_both (sheet_checks sections bytes) (16 if NoLine sections bytes k ∷ []) (good_passes lists fits good)
        (λ no_line. omega (arith, no_line.few, ap sum_of_counts (written_once bytes no_line.lists lists no_line.good good)), tt))
        (record { lists = lists; good = good; is_told = ap (map line_answered) is_state })

  -- 7 and 6 are told alike, whatever else is checked
  module _ {Figures : Type 0} {more : List Check} {told : (number place : ℕ) → Figures} {Answers : Figures → Type 0} where
    pub long_told : TooLong bytes → Tells (sheet_checks sections bytes ++ more) (Refused sections bytes told) Answers (told 7 0)
    long_told long = refuses 7 (inl (long, refl)) (record { place = 0; is_place = refl; is_told = refl })

    pub fault_told : (place : ℕ) → length bytes ≤ most_bytes → FaultAt sections bytes place → Tells (sheet_checks sections bytes ++ more) (Refused sections bytes told) Answers (told 6 place)
    fault_told place fits fault =
        refuses 6 (inr (not_long bytes fits, inl (λ lists good. good_has_no_fault bytes lists place good fault, refl)))
        (record { place = place; is_place = fault; is_told = refl })

  -- a refusal has one place
  pub refused_once : {Figures : Type 0} (told : (number place : ℕ) → Figures) (refusal : ℕ) (figures other : Figures) → Refused sections bytes told refusal figures → Refused sections bytes told refusal other → figures ≡ other
  refused_once told refusal figures other one two =
      one.is_told ∙ ap (told refusal) (place_once sections bytes (eqb refusal 6) one.place two.place one.is_place two.is_place) ∙ sym two.is_told

  module _ {Figures : Type 0} (checks : List Check) (told : (number place : ℕ) → Figures) (of_lists : List (List Pair) → Option Figures) where
    answered_once : (figures other : Figures) → FromLists sections bytes of_lists figures → FromLists sections bytes of_lists other → figures ≡ other
    answered_once figures other one two =
        some-injective figures other
        (sym one.is_told ∙ ap of_lists (written_once bytes one.lists two.lists one.good two.good) ∙ two.is_told)

    pub told_once : (figures other : Figures) → Tells checks (Refused sections bytes told) (FromLists sections bytes of_lists) figures → Tells checks (Refused sections bytes told) (FromLists sections bytes of_lists) other → figures ≡ other
    told_once = tells_once checks (refused_once told) answered_once
