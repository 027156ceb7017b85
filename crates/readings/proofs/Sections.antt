-- What readers make of a sheet of more sections than they want, and of fewer, asked for the whole sheet or for one of its lines. Assumes nothing.
use mathlib.Core.Path.{◌≡◌, refl, sym, ap, ◌∙◌}
use mathlib.Core.List.{List, [], ◌∷◌, ◌++◌}
use Prim.Native.Nat.{ℕ, zero, suc, ◌≤◌, ◌<◌}
use native.Mathlib.Omega.{arith}
use lib.ListN.{length, take, drop, take-append-drop, length-drop}
use lib.Seq.{length-take-le}
use Rattle.sheets.specs.Grammar.{all_sections, Pair, sheet, EachSection, Good}
use Rattle.sheets.specs.Reading.{FaultAt}
use Rattle.sheets.proofs.Readable.{fault_at_next_count, fault_at_end}
use Rattle.readings.specs.Figures.{Reading, LineReading, sheet_figures, line_figures}
use Rattle.sheets.specs.declared.Fault.TheVariants.{Malformed}
use Rattle.std.specs.Prelude.{Err}
use Rattle.readings.specs.Readers.{most_bytes, TellsSheet, TellsLine}
use Rattle.readings.proofs.Answers.{fault_told}
use Rattle.readings.proofs.Theorems.{reading_determined, line_determined}

each_taken : (count : ℕ) (lists : List (List Pair)) → EachSection lists → EachSection (take count lists)
each_taken zero lists each = tt
each_taken (suc count) [] each = tt
each_taken (suc count) (pairs ∷ lists) each = (each.0, each_taken count lists each.1)

-- readers of so many sections refuse by 6 at this place, the sheet and each of its lines
pub record RefuseAt (wanted : ℕ) (bytes : List ℕ) (place : ℕ) : Type 0 where
  pub whole : (reading : Reading) → TellsSheet wanted bytes (sheet_figures reading) → reading ≡ Err (Malformed place)
  pub each_line : (k : ℕ) (reading : LineReading) → TellsLine wanted bytes k (line_figures reading) → reading ≡ Err (Malformed place)

module _ (bytes : List ℕ) (fits : length bytes ≤ most_bytes) (lists : List (List Pair)) where
  at_fault : {wanted place : ℕ} → FaultAt wanted bytes place → RefuseAt wanted bytes place
  at_fault {wanted} {place} fault =
      record {
        whole = λ reading told. reading_determined bytes reading (Err (Malformed place)) told (fault_told bytes place fits fault);
        each_line = λ k reading told. line_determined bytes k reading (Err (Malformed place)) told (fault_told bytes place fits fault);
      }

  module _ (wanted written : ℕ) (good : Good written bytes lists) where
    -- the fault is the first count line that is not wanted
    pub more_than_wanted : wanted < written → RefuseAt wanted bytes (length (sheet (take wanted lists)))
    more_than_wanted more = at_fault (behind (drop wanted lists) refl)
      where
        first : List (List Pair)
        first = take wanted lists

        behind : (rest : List (List Pair)) → drop wanted lists ≡ rest → FaultAt wanted bytes (length (sheet first))
        behind [] none = absurd (omega (arith, ap length none, length-drop wanted lists, good.has_sections))
        behind (pairs ∷ rest) some =
            fault_at_next_count wanted bytes first pairs rest (each_taken wanted lists good.writable)
            (length-take-le wanted lists (omega (arith, good.has_sections)))
            (good.written ∙ ap sheet (sym (take-append-drop wanted lists) ∙ ap (λ (l : List (List Pair)). first ++ l) some))

    -- the fault is the line that is missing at the end
    pub fewer_than_wanted : written < wanted → RefuseAt wanted bytes (length bytes)
    fewer_than_wanted fewer = at_fault (fault_at_end wanted bytes lists good.writable (omega (arith, good.has_sections)) good.written)

  -- Readers from before nitrogen wanted two sections.
  pub old_readers_refuse_at_the_third_count : Good all_sections bytes lists → RefuseAt 2 bytes (length (sheet (take 2 lists)))
  old_readers_refuse_at_the_third_count good = more_than_wanted 2 all_sections good (omega arith)

  pub two_sections_lack_a_line : Good 2 bytes lists → RefuseAt all_sections bytes (length bytes)
  two_sections_lack_a_line good = fewer_than_wanted all_sections 2 good (omega arith)
