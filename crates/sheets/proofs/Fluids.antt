-- The fluid of a state line is the number of its section. Assumes nothing.
use mathlib.Core.List.{List, [], ◌∷◌, ◌++◌}
use Prim.Native.Nat.{ℕ, suc, ◌+◌, ◌≤◌, ◌<◌}
use native.Mathlib.Omega.{arith}
use lib.ListN.{length}
use Rattle.sheets.specs.declared.State.{State}
use Rattle.sheets.specs.Grammar.{Pair, of_fluid, states_from}

module _ (Holds : ℕ → Type 0) where
  abbrev pub EachFluid : List State → Type 0
  EachFluid [] = Unit {0}
  EachFluid (state ∷ states) = Holds state.fluid × EachFluid states

  in_both : (states more : List State) → EachFluid states → EachFluid more → EachFluid (states ++ more)
  in_both [] more each each_more = each_more
  in_both (state ∷ states) more each each_more = (each.0, in_both states more each.1 each_more)

  in_section : (fluid : ℕ) (pairs : List Pair) → Holds fluid → EachFluid (of_fluid fluid pairs)
  in_section fluid [] holds = tt
  in_section fluid (pair ∷ pairs) holds = (holds, in_section fluid pairs holds)

  pub each_fluid : (first : ℕ) (lists : List (List Pair)) → ((fluid : ℕ) → first ≤ fluid → fluid < first + length lists → Holds fluid) → EachFluid (states_from first lists)
  each_fluid first [] holds = tt
  each_fluid first (pairs ∷ lists) holds =
      in_both (of_fluid first pairs) (states_from (suc first) lists) (in_section first pairs (holds first (omega arith) (omega arith)))
      (each_fluid (suc first) lists (λ fluid from to. holds fluid (omega arith) (omega arith)))
