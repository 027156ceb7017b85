-- The three sections of a sheet, put one behind another. Assumes nothing.
use mathlib.Core.Path.{refl, sym}
use mathlib.Core.List.{List, [], ◌∷◌, ◌++◌}
use Prim.Native.Nat.{ℕ, ◌+◌, ◌≤◌}
use native.Mathlib.Omega.{arith}
use lib.ListN.{length}
use Rattle.buffers.specs.Puts.{Holds}
use Rattle.buffers.proofs.Underway.{Underway, none_put, part_fits, part_held, last_fits, last_held}
use Rattle.sheets.specs.Grammar.{Pair, section, sheet}
use Rattle.measures.proofs.Sections.{three_sections}

module _ (first second third : List Pair) (before : List ℕ) (room : length (sheet (first ∷ second ∷ third ∷ [])) ≤ length before) where
  begun : Underway (sheet (first ∷ second ∷ third ∷ [])) before 0 (sheet (first ∷ second ∷ third ∷ [])) before 0
  begun = none_put (sheet (first ∷ second ∷ third ∷ [])) before 0 (omega arith)

  pub first_room : 0 + length (section first) ≤ length before
  first_room = part_fits begun (section first) (section second ++ section third) (sym (three_sections first second third))

  module _ {with_first : List ℕ} {first_end : ℕ} (first_holds : Holds (section first) before 0 with_first first_end) where
    first_put : Underway (sheet (first ∷ second ∷ third ∷ [])) before 0 (section second ++ section third) with_first first_end
    first_put = part_held begun (section first) (section second ++ section third) (sym (three_sections first second third)) first_holds

    pub second_room : first_end + length (section second) ≤ length with_first
    second_room = part_fits first_put (section second) (section third) refl

    module _ {with_Second : List ℕ} {second_end : ℕ} (second_holds : Holds (section second) with_first first_end with_Second second_end) where
      second_put : Underway (sheet (first ∷ second ∷ third ∷ [])) before 0 (section third) with_Second second_end
      second_put = part_held first_put (section second) (section third) refl second_holds

      pub third_room : second_end + length (section third) ≤ length with_Second
      third_room = last_fits second_put

      pub all_put : {after : List ℕ} {next : ℕ} → Holds (section third) with_Second second_end after next → Holds (sheet (first ∷ second ∷ third ∷ [])) before 0 after next
      all_put third_holds = last_held second_put third_holds
