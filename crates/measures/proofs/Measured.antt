-- What `measure` tells, step by step: each law has what its tests and measures promise for its premises, so that no step of the program has to be named.
-- Assumes nothing.
use mathlib.Core.Path.{◌≡◌}
use mathlib.Core.Bool.{Bool, true, false}
use mathlib.Core.Logic.{inl, inr}
use mathlib.Core.List.{List}
use Prim.Native.Nat.{ℕ, ◌+◌, ◌≤◌, ◌<◌}
use native.Mathlib.Omega.{arith}
use lib.ListN.{length}
use Rattle.std.specs.Prelude.{Ok, Err}
use Rattle.sheets.specs.Grammar.{sheet}
use Rattle.readings.specs.Readers.{most_bytes}
use Rattle.measures.specs.declared.reply.WriteRefusal.TheVariants.{ListsUnfit, TooManyDigits, NoRoom}
use Rattle.measures.specs.declared.lists.Lists.{Lists}
use Rattle.measures.specs.Columns.{Columns, paired, lists_of, fluids_lent}
use Rattle.measures.specs.Checks.{Some, Unfit, HasTooManyDigits}
use Rattle.measures.specs.Inside.{Decides, MakesSection, EachMakesSection, SectionLength}
use Rattle.measures.specs.Replies.{figures_of, Told}
use Rattle.measures.proofs.Sections.{three_long}
use Rattle.measures.proofs.Telling.{tells_unfit, tells_digits, tells_no_room, tells_length, makes_sections}

module _ (lists : Lists) where
  abbrev fluids : List Columns
  fluids = fluids_lent lists

  module _ (unfit : Bool) (tested : Decides (Some Unfit fluids) unfit) where
    pub unfit_told : (room : ℕ) → unfit ≡ true → Told fluids room (figures_of (Err ListsUnfit))
    unfit_told room is_so = tells_unfit fluids (rw is_so at tested)

    module _ (fit : unfit ≡ false) (many : Bool) (digits_tested : Decides (Some HasTooManyDigits fluids) many) where
      pub digits_told : (room : ℕ) → many ≡ true → Told fluids room (figures_of (Err TooManyDigits))
      digits_told room is_so = tells_digits fluids (rw fit at tested) (rw is_so at digits_tested)

      module _ (few : many ≡ false) where
        three_sections : EachMakesSection fluids
        three_sections = makes_sections fluids (rw fit at tested) (rw few at digits_tested)

        pub hydrogen_makes_section : MakesSection lists.hydrogen.millikelvin.now lists.hydrogen.pascals.now
        hydrogen_makes_section = three_sections.0

        pub oxygen_makes_section : MakesSection lists.oxygen.millikelvin.now lists.oxygen.pascals.now
        oxygen_makes_section = three_sections.1.0

        pub nitrogen_makes_section : MakesSection lists.nitrogen.millikelvin.now lists.nitrogen.pascals.now
        nitrogen_makes_section = three_sections.1.1.0

        module _ (hydrogen oxygen nitrogen room : ℕ) (first : SectionLength lists.hydrogen.millikelvin.now lists.hydrogen.pascals.now hydrogen) (second : SectionLength lists.oxygen.millikelvin.now lists.oxygen.pascals.now oxygen) (third : SectionLength lists.nitrogen.millikelvin.now lists.nitrogen.pascals.now nitrogen) where
          whole : hydrogen + oxygen + nitrogen ≡ length (sheet (lists_of fluids))
          whole = omega (arith, three_long (paired lists.hydrogen.millikelvin.now lists.hydrogen.pascals.now) (paired lists.oxygen.millikelvin.now lists.oxygen.pascals.now) (paired lists.nitrogen.millikelvin.now lists.nitrogen.pascals.now), first.is_length, second.is_length, third.is_length)

          pub room_told : room < hydrogen + oxygen + nitrogen → Told fluids room (figures_of (Err NoRoom))
          room_told small = tells_no_room fluids (rw fit at tested) (rw few at digits_tested) whole (inl small)

          pub longest_told : most_bytes < hydrogen + oxygen + nitrogen → Told fluids room (figures_of (Err NoRoom))
          longest_told long = tells_no_room fluids (rw fit at tested) (rw few at digits_tested) whole (inr long)

          pub length_told : hydrogen + oxygen + nitrogen ≤ room → hydrogen + oxygen + nitrogen ≤ most_bytes → Told fluids room (figures_of (Ok (hydrogen + oxygen + nitrogen)))
          length_told has_room short = tells_length fluids (rw fit at tested) (rw few at digits_tested) whole has_room short

pub ruleset measuring = (unfit_told, digits_told, hydrogen_makes_section, oxygen_makes_section, nitrogen_makes_section, room_told, longest_told, length_told)
