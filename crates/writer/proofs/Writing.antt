-- What `write` does, step by step: each law has what was told of the lists and what was put before for its premises, so that no step of the program has to be
-- named. Assumes nothing.
use mathlib.Core.List.{List}
use Prim.Native.Nat.{ℕ}
use lib.ListN.{length}
use Rattle.std.specs.Prelude.{Ok}
use Rattle.buffers.specs.Puts.{Holds}
use Rattle.sheets.specs.Grammar.{Pair, section}
use Rattle.measures.specs.declared.lists.Lists.{Lists}
use Rattle.measures.specs.Columns.{Columns, paired, fluids_lent}
use Rattle.measures.specs.Replies.{figures_of, Told}
use Rattle.measures.proofs.Telling.{Passes, told_length}
use Rattle.writer.specs.Inside.{SectionFits}
use Rattle.writer.specs.Replies.{left, Writes}
use Rattle.writer.proofs.Telling.{writes_sheet}
use Rattle.writer.proofs.Sheets.{first_room, second_room, third_room, all_put}

module _ (lists : Lists) where
  abbrev fluids : List Columns
  fluids = fluids_lent lists

  abbrev hydrogen : List Pair
  hydrogen = paired lists.hydrogen.millikelvin.now lists.hydrogen.pascals.now

  abbrev oxygen : List Pair
  oxygen = paired lists.oxygen.millikelvin.now lists.oxygen.pascals.now

  abbrev nitrogen : List Pair
  nitrogen = paired lists.nitrogen.millikelvin.now lists.nitrogen.pascals.now

  module _ (before : List ℕ) {long : ℕ} (told : Told fluids (length before) (figures_of (Ok long))) where
    passes : Passes fluids (length before) long
    passes = told_length fluids told

    pub hydrogen_fits : SectionFits lists.hydrogen.millikelvin.now lists.hydrogen.pascals.now before 0
    hydrogen_fits = record { lists = passes.sections.0; room = first_room hydrogen oxygen nitrogen before passes.has_room }

    module _ {with_first : List ℕ} {first_end : ℕ} (first_holds : Holds (section hydrogen) before 0 with_first first_end) where
      pub oxygen_fits : SectionFits lists.oxygen.millikelvin.now lists.oxygen.pascals.now with_first first_end
      oxygen_fits = record { lists = passes.sections.1.0; room = second_room hydrogen oxygen nitrogen before passes.has_room first_holds }

      module _ {with_second : List ℕ} {second_end : ℕ} (second_holds : Holds (section oxygen) with_first first_end with_second second_end) where
        pub nitrogen_fits : SectionFits lists.nitrogen.millikelvin.now lists.nitrogen.pascals.now with_second second_end
        nitrogen_fits =
            record { lists = passes.sections.1.1.0; room = third_room hydrogen oxygen nitrogen before passes.has_room first_holds second_holds }

        pub sheet_left : {after : List ℕ} {next : ℕ} → Holds (section nitrogen) with_second second_end after next → Writes fluids before (left (figures_of (Ok long)) after)
        sheet_left third_holds =
            writes_sheet fluids passes (all_put hydrogen oxygen nitrogen before passes.has_room first_holds second_holds third_holds)
