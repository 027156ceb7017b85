-- Every state of a section is counted once: it is ONE or SPLIT, or refused under one number. Assumes nothing.
use mathlib.Core.Path.{◌≡◌, refl}
use mathlib.Core.Logic.{inl, inr}
use mathlib.Core.Bool.{Bool, true, false, cond}
use mathlib.Core.List.{List, [], ◌∷◌}
use Prim.Native.Nat.{ℕ, suc, ◌+◌, ◌<◌}
use native.Mathlib.Omega.{arith}
use lib.ListN.{length}
use Rattle.refusals.specs.Checks.{FirstOf, refuses, answers}
use Rattle.cubic.specs.Cubic.{Kind, ONE, SPLIT}
use Rattle.fluid.specs.Checks.{state_checks}
use Rattle.densities.specs.Densities.{density}
use Rattle.fluid.proofs.Fluids.{fluid_of, number_of_fluid}
use Rattle.replies.specs.declared.Figures.{Figures}
use Rattle.replies.specs.Figures.{answered_with, refused_with}
use Rattle.state.specs.Replies.{Replies}
use Rattle.sheets.specs.Grammar.{all_sections, Pair}
use Rattle.std.specs.Prelude.{filter}
use Rattle.tallies.specs.Entries.{Entry, how_many, of_kind, of_number}
use Rattle.reports.specs.Sheets.{Entered}

abbrev one_if : Bool → ℕ
one_if t = cond t 1 0

more_by_one : (test : Entry → Bool) (entry : Entry) (entries : List Entry) → how_many test (entry ∷ entries) ≡ one_if (test entry) + how_many test entries
more_by_one test entry entries = either (test entry)
  where
    either : (t : Bool) → length (cond t (entry ∷ filter test entries) (filter test entries)) ≡ one_if t + how_many test entries
    either true = omega arith
    either false = omega arith

abbrev times : Entry → ℕ
times entry = one_if (of_kind ONE entry) + one_if (of_kind SPLIT entry) + one_if (of_number 21 entry) + one_if (of_number 22 entry) + one_if (of_number 31 entry) + one_if (of_number 32 entry)

abbrev pub all_counts : List Entry → ℕ
all_counts entries = how_many (of_kind ONE) entries + how_many (of_kind SPLIT) entries + how_many (of_number 21) entries + how_many (of_number 22) entries + how_many (of_number 31) entries + how_many (of_number 32) entries

times_of_kind : (line : ℕ) (kind : Kind) (gas dense gas_density dense_density : ℕ) → times (record { line = line; figures = answered_with kind gas dense gas_density dense_density }) ≡ 1
times_of_kind line ONE gas dense gas_density dense_density = refl
times_of_kind line SPLIT gas dense gas_density dense_density = refl

-- a sheet names no fluid that there is not, so that 1 is not given
refused_under_one : (line fluid millikelvin pascals refusal : ℕ) → fluid < all_sections → FirstOf (state_checks fluid millikelvin pascals) refusal → times (record { line = line; figures = refused_with refusal }) ≡ 1
refused_under_one line fluid millikelvin pascals refusal inside (inl (none, is)) = absurd (none (fluid_of fluid) (number_of_fluid fluid (omega (arith, inside))))
refused_under_one line fluid millikelvin pascals refusal inside (inr (some, inl (cold, is))) = rw is refl
refused_under_one line fluid millikelvin pascals refusal inside (inr (some, inr (warm, inl (hot, is)))) = rw is refl
refused_under_one line fluid millikelvin pascals refusal inside (inr (some, inr (warm, inr (cool, inl (low, is))))) = rw is refl
refused_under_one line fluid millikelvin pascals refusal inside (inr (some, inr (warm, inr (cool, inr (not_low, inl (high, is)))))) = rw is refl
refused_under_one line fluid millikelvin pascals refusal inside (inr (some, inr (warm, inr (cool, inr (not_low, inr (not_high, never)))))) = absurd never

counted_once : (line fluid millikelvin pascals : ℕ) (figures : Figures) → fluid < all_sections → Replies fluid millikelvin pascals figures → times (record { line = line; figures = figures }) ≡ 1
counted_once line fluid millikelvin pascals figures inside (refuses refusal first zeros) = rw zeros (refused_under_one line fluid millikelvin pascals refusal inside first)
counted_once line fluid millikelvin pascals figures inside (answers none answer) =
    let found = answer.found in
    rw answer.is_figures
    (times_of_kind line answer.kind found.gas found.dense (density found.fluid millikelvin pascals found.gas) (density found.fluid millikelvin pascals found.dense))

pub each_counted_once : (fluid line : ℕ) (pairs : List Pair) (entries : List Entry) → fluid < all_sections → Entered fluid line pairs entries → all_counts entries ≡ length pairs
each_counted_once fluid line [] entries inside none = rw none refl
each_counted_once fluid line (pair ∷ pairs) entries inside (figures, others, replies, later, are) =
    let entry : Entry = record { line = line; figures = figures } in
    rw are
    (omega (
      arith,
      counted_once line fluid pair.millikelvin pair.pascals figures inside replies,
      each_counted_once fluid (suc line) pairs others inside later,
      more_by_one (of_kind ONE) entry others,
      more_by_one (of_kind SPLIT) entry others,
      more_by_one (of_number 21) entry others,
      more_by_one (of_number 22) entry others,
      more_by_one (of_number 31) entry others,
      more_by_one (of_number 32) entry others,
    ))
