-- From what is found in a pass over the sheet to what the contracts say of it. Assumes nothing.
use mathlib.Core.Path.{◌≡◌, refl, sym, ap, ◌∙◌}
use mathlib.Core.Logic.{inl}
use mathlib.Core.List.{List, [], ◌∷◌}
use mathlib.Core.Option.{some}
use Rattle.std.specs.Prelude.{Option, Ok, Err, Some, None}
use Rattle.std.specs.List.{slice_get}
use Rattle.std.proofs.lemmas.Option.{none-some, same_Some, slice_get_within}
use Prim.Native.Nat.{ℕ, zero, suc, ◌≤◌, ◌<◌}
use native.Mathlib.Omega.{arith}
use lib.ListN.{length, get_elem?}
use Rattle.refusals.specs.Checks.{◌if◌, refuses}
use Rattle.refusals.proofs.Lists.{first_behind}
use Rattle.sheets.specs.declared.State.{State}
use Rattle.sheets.specs.declared.Fault.{Fault}
use Rattle.sheets.specs.declared.Fault.TheVariants.{Malformed, TooLong}
use Rattle.sheets.specs.Grammar.{all_sections, sum_of_counts}
use Rattle.sheets.proofs.Written.{Written, read_good, states_counted}
use Rattle.readings.specs.Figures.{sheet_figures, line_figures}
use Rattle.readings.specs.Readers.{NoLine, sheet_checks}
use Rattle.readings.specs.Replies.{ReadsAs, LineReadsAs}
use Rattle.readings.proofs.Answers.{good_passes, good_told, good_line_told, long_told, fault_told}
use Rattle.reader.specs.Inside.{Counted, Surveys}

listed : (states : List State) (k : ℕ) {state : State} → slice_get states k ≡ Some state → get_elem? states k ≡ some state
listed [] k is = absurd (none-some _ is)
listed (other ∷ states) zero is = ap some (same_Some _ _ is)
listed (other ∷ states) (suc k) is = listed states k is

unlisted : (states : List State) (k : ℕ) → slice_get states k ≡ None → length states ≤ k
unlisted [] k none = omega arith
unlisted (state ∷ states) zero none = absurd (none-some state (sym none))
unlisted (state ∷ states) (suc k) none = omega (arith, unlisted states k none)

module _ (bytes : List ℕ) (k : ℕ) where
  module _ {count : ℕ} {wanted : Option State} (found : Counted bytes k count wanted) where
    written : Written all_sections bytes found.states
    written = read_good bytes found.states found.reads

    is_sum : count ≡ sum_of_counts written.lists
    is_sum = found.is_count ∙ ap length written.are_states ∙ states_counted 0 written.lists

    pub counted : ReadsAs bytes (sheet_figures (Ok count))
    counted = rw is_sum (good_told bytes written.lists found.fits written.good)

    line_found : (state : State) → wanted ≡ Some state → LineReadsAs bytes k (line_figures (Ok (Some state)))
    line_found state is_state =
        let below : k < length found.states = slice_get_within found.states k state (sym found.is_wanted ∙ is_state) in
        good_line_told bytes written.lists found.fits written.good k (omega (arith, is_sum, found.is_count, below))
        (ap (λ (l : List State). get_elem? l k) (sym written.are_states) ∙ listed found.states k (sym found.is_wanted ∙ is_state))

    line_missing : wanted ≡ None → LineReadsAs bytes k (line_figures (Ok None))
    line_missing none =
        let above : length found.states ≤ k = unlisted found.states k (sym found.is_wanted ∙ none) in
        refuses 16
        (first_behind (sheet_checks all_sections bytes) (16 if NoLine all_sections bytes k ∷ []) 16 (good_passes bytes written.lists found.fits written.good)
        (inl (record { lists = written.lists; good = written.good; few = omega (arith, is_sum, found.is_count, above) }, refl)))
        (record { place = 0; is_place = refl; is_told = refl })

    pub line_told : (line : Option State) → wanted ≡ line → LineReadsAs bytes k (line_figures (Ok line))
    line_told (Some state) is_state = line_found state is_state
    line_told None none = line_missing none

  -- a fault refuses the sheet and each of its lines
  pub refused : (fault : Fault) → Surveys bytes k (Err fault) → ReadsAs bytes (sheet_figures (Err fault))
  refused (Malformed place) found = fault_told bytes place found.0 found.1
  refused TooLong long = long_told bytes long

  pub line_refused : (fault : Fault) → Surveys bytes k (Err fault) → LineReadsAs bytes k (line_figures (Err fault))
  line_refused (Malformed place) found = fault_told bytes place found.0 found.1
  line_refused TooLong long = long_told bytes long
