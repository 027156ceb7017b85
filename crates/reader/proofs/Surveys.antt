-- The pass over a whole sheet that counts its state lines and keeps line k. Assumes nothing.
use mathlib.Core.Path.{◌≡◌, refl, sym, ap, ◌∙◌}
use mathlib.Core.Logic.{◌⊎◌, inl, inr}
use mathlib.Core.List.{List, [], ◌∷◌, ◌++◌}
use Prim.Native.Nat.{ℕ, zero, suc, ◌+◌, ◌*◌, ◌≤◌}
use native.Mathlib.Omega.{arith}
use lib.ListN.{length, length-append}
use Rattle.sheets.specs.declared.State.{State}
use Rattle.sheets.specs.declared.Cursor.{Cursor}
use Rattle.sheets.specs.declared.Fault.{Fault}
use Rattle.sheets.specs.declared.Fault.TheVariants.{Malformed, TooLong}
use Rattle.std.specs.Prelude.{Option, Ok, Err, Some, None}
use Rattle.std.specs.List.{slice_get}
use Rattle.sheets.specs.Grammar.{all_sections, most_states}
use Rattle.sheets.specs.Reading.{start, Comes}
use Rattle.readings.proofs.Nexts.{NextIn, CameAs}
use Rattle.reader.specs.Inside.{Counted, Surveys}
use Rattle.sheets.proofs.Passed.{Passed, none_passed, one_passed, all_passed}

pub record Walked (bytes : List ℕ) (k : ℕ) (cursor : Cursor) (count : ℕ) (wanted : Option State) : Type 0 where
  pub states : List State
  pub passed : Passed all_sections bytes cursor states
  pub is_count : count ≡ length states
  pub is_wanted : wanted ≡ slice_get states k

pub begins : (bytes : List ℕ) (k : ℕ) → Walked bytes k start 0 None
begins bytes k = record { states = []; passed = none_passed bytes; is_count = refl; is_wanted = refl }

-- line k is the one behind k others, and no other
line_here : (passed : List State) (state : State) → Some state ≡ slice_get (passed ++ (state ∷ [])) (length passed)
line_here [] state = refl
line_here (other ∷ passed) state = line_here passed state

line_elsewhere : (passed : List State) (state : State) (k : ℕ) → (length passed ≡ k → ⊥) → slice_get passed k ≡ slice_get (passed ++ (state ∷ [])) k
line_elsewhere [] state zero not_here = absurd (not_here refl)
line_elsewhere [] state (suc k) not_here = refl
line_elsewhere (other ∷ passed) state zero not_here = refl
line_elsewhere (other ∷ passed) state (suc k) not_here = line_elsewhere passed state k (λ same. not_here (ap suc same))

module _ {bytes : List ℕ} {k : ℕ} {cursor : Cursor} {count : ℕ} {wanted : Option State} (walked : Walked bytes k cursor count wanted) where
  -- a sheet has no more state lines than its sections have room for
  pub few : count ≤ most_states * all_sections
  few = omega (arith, walked.is_count, walked.passed.room.states, walked.passed.room.begun)

  module _ (state : State) (after : Cursor) (comes : Comes all_sections bytes cursor (Ok (Some (record { state = state; after = after })))) where
    walks_with : (found : Option State) → found ≡ slice_get (walked.states ++ (state ∷ [])) k → Walked bytes k after (count + 1) found
    walks_with found is_found =
        record {
          states = walked.states ++ (state ∷ []);
          passed = one_passed bytes walked.states state after walked.passed comes;
          is_count = omega (arith, walked.is_count, length-append walked.states (state ∷ []));
          is_wanted = is_found;
        }

    pub walks_here : (found : Option State) → count ≡ k → found ≡ Some state → Walked bytes k after (count + 1) found
    walks_here found here is_found = walks_with found (is_found ∙ line_here walked.states state ∙ ap (λ (n : ℕ). slice_get (walked.states ++ (state ∷ [])) n) (sym walked.is_count ∙ here))

    pub walks_past : (found : Option State) → (count ≡ k → ⊥) → found ≡ wanted → Walked bytes k after (count + 1) found
    walks_past found not_here is_found =
        walks_with found (is_found ∙ walked.is_wanted ∙ line_elsewhere walked.states state k (λ same. not_here (walked.is_count ∙ same)))

    -- whichever it is
    pub walks_on : (found : Option State) → ((count ≡ k) × (found ≡ Some state)) ⊎ ((count ≡ k → ⊥) × (found ≡ wanted)) → Walked bytes k after (count + 1) found
    walks_on found (inl here) = walks_here found here.0 here.1
    walks_on found (inr past) = walks_past found past.0 past.1

  pub found_all : NextIn all_sections bytes cursor (Ok None) → Counted bytes k count wanted
  found_all next =
      record {
        fits = next.fits;
        states = walked.states;
        reads = all_passed bytes walked.states (Ok None) walked.passed next.comes;
        is_count = walked.is_count;
        is_wanted = walked.is_wanted;
      }

  pub found_fault : (fault : Fault) → CameAs all_sections bytes cursor (Err fault) → Surveys bytes k (Err fault)
  found_fault (Malformed place) next =
      (next.fits, record { before = walked.states; reads = all_passed bytes walked.states (Err (Malformed place)) walked.passed next.comes })
  found_fault TooLong long = long
