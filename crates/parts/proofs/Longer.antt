-- How many bytes came: a reader that met no fault has counted them, and 7 is met only behind the most. Assumes nothing.
use mathlib.Core.Path.{◌≡◌, refl, sym, ap, subst, ◌∙◌}
use mathlib.Core.Logic.{◌⊎◌, inl, inr}
use mathlib.Core.Bool.{Bool, true, false, cond}
use mathlib.Core.List.{List, [], ◌∷◌}
use Prim.Native.Nat.{ℕ, suc, ◌+◌, ◌-◌, ◌≤◌, ◌<◌}
use native.Mathlib.Omega.{arith}
use lib.Dec.{eqb, ltb, leb}
use lib.ListN.{length, take, drop, take-append-drop, length-drop}
use lib.Seq.{length-take-le}
use borrow.Author.Tests.{leb-true}
use Rattle.sheets.specs.declared.Cursor.{Cursor}
use Rattle.sheets.specs.declared.Digest.{Digest}
use Rattle.sheets.specs.declared.Digest.TheVariants.{Empty, First, AfterSpace, Second, Bad}
use Rattle.sheets.specs.declared.Fault.TheVariants.{Malformed, TooLong}
use Rattle.std.specs.Prelude.{Ok, Err, Some, None}
use Rattle.sheets.specs.declared.Line.{Line}
use Rattle.sheets.specs.declared.Line.TheVariants.{Count, Told}
use Rattle.sheets.specs.Grammar.{all_sections, most_states, line_end}
use Rattle.sheets.specs.Digests.{takes}
use Rattle.sheets.specs.Lines.{faulty, counted, stated, ended, wants_line}
use Rattle.readings.specs.Readers.{most_bytes}
use Rattle.parts.specs.declared.Standing.{Standing}
use Rattle.parts.specs.Bytes.{Reader, longest_line, Outcome, quiet, at_start, total, behind_line, holds, reads, takes_byte, taking}
use Rattle.parts.proofs.Bytes.{both, stays}
use Rattle.parts.proofs.Texts.{passes_most, stops}

-- the next line begins behind this one
abbrev Behind : (next : ℕ) → Line → Type 0
Behind next (Count after) = after.place ≡ next
Behind next (Told (Ok (Some told))) = told.after.place ≡ next
Behind next (Told (Err (Malformed place))) = Unit {0}
Behind next (Told (Ok None)) = ⊥
Behind next (Told (Err TooLong)) = ⊥

module _ (cursor : Cursor) (next : ℕ) where
  counted_behind : (count : ℕ) → Behind next (counted all_sections cursor next count)
  counted_behind count = left_or_not (eqb cursor.left 0) (leb all_sections cursor.begun) (ltb most_states count)
    where
      left_or_not : (none full many : Bool) → Behind next (cond none (cond full (faulty cursor.place) (cond many (faulty cursor.place) (Count (record { begun = suc cursor.begun; left = count; place = next })))) (faulty cursor.place))
      left_or_not true true many = tt
      left_or_not true false true = tt
      left_or_not true false false = refl
      left_or_not false full many = tt

  stated_behind : (millikelvin pascals : ℕ) → Behind next (stated cursor next millikelvin pascals)
  stated_behind millikelvin pascals = left_or_not (eqb cursor.left 0)
    where
      left_or_not : (none : Bool) → Behind next (cond none (faulty cursor.place) (Told (Ok (Some (record { state = record { fluid = cursor.begun - 1; millikelvin = millikelvin; pascals = pascals }; after = record { begun = cursor.begun; left = cursor.left - 1; place = next } })))))
      left_or_not true = tt
      left_or_not false = refl

  ended_behind : (digest : Digest) → Behind next (ended all_sections cursor next digest)
  ended_behind Empty = tt
  ended_behind (First count) = counted_behind count
  ended_behind (AfterSpace number) = tt
  ended_behind (Second first second) = stated_behind first second
  ended_behind Bad = tt

-- so many bytes came: all are counted where no fault was met, and there are too many where 7 was
abbrev pub Counts : (count : ℕ) → Reader → Type 0
Counts count (Ok standing) = total standing ≡ count
Counts count (Err (Malformed place)) = Unit {0}
Counts count (Err TooLong) = most_bytes < count

line_counts : (line : Line) (state_lines count : ℕ) → Behind count line → Counts count (behind_line line state_lines).after
line_counts (Count after) state_lines count behind = omega (arith, behind)
line_counts (Told (Ok (Some told))) state_lines count behind = omega (arith, behind)
line_counts (Told (Err (Malformed place))) state_lines count behind = tt
line_counts (Told (Ok None)) state_lines count behind = absurd behind
line_counts (Told (Err TooLong)) state_lines count behind = absurd behind

byte_counts : (reader : Reader) (byte count : ℕ) → Counts count reader → Counts (suc count) (takes_byte reader byte).after
byte_counts (Err (Malformed place)) byte count counts = tt
byte_counts (Err TooLong) byte count counts = omega arith
byte_counts (Ok standing) byte count counts = most_or_not (leb most_bytes (total standing)) refl
  where
    many_or_not : (t : Bool) → Counts (suc count) (cond t (quiet (Err (Malformed standing.cursor.place))) (quiet (Ok (record { cursor = standing.cursor; digest = takes standing.digest byte; held = suc standing.held; state_lines = standing.state_lines })))).after
    many_or_not true = tt
    many_or_not false = omega (arith, counts)

    end_or_not : (t : Bool) → Counts (suc count) (cond t (behind_line (ended all_sections standing.cursor (suc (total standing)) standing.digest) standing.state_lines) (holds standing byte)).after
    end_or_not true =
        subst (λ (n : ℕ). Counts n (behind_line (ended all_sections standing.cursor (suc (total standing)) standing.digest) standing.state_lines).after) (ap suc counts)
        (line_counts (ended all_sections standing.cursor (suc (total standing)) standing.digest) standing.state_lines (suc (total standing)) (ended_behind standing.cursor (suc (total standing)) standing.digest))
    end_or_not false = many_or_not (leb longest_line standing.held)

    wanted_or_not : (t : Bool) → Counts (suc count) (cond t (reads standing byte) (quiet (Err (Malformed standing.cursor.place)))).after
    wanted_or_not true = end_or_not (eqb byte line_end)
    wanted_or_not false = tt

    most_or_not : (t : Bool) → leb most_bytes (total standing) ≡ t → Counts (suc count) (cond t (quiet (Err TooLong)) (cond (wants_line all_sections standing.cursor) (reads standing byte) (quiet (Err (Malformed standing.cursor.place))))).after
    most_or_not true e = let many = leb-true most_bytes (total standing) e in omega (arith, counts)
    most_or_not false e = wanted_or_not (wants_line all_sections standing.cursor)

bytes_count : (bytes : List ℕ) (reader : Reader) (count : ℕ) → Counts count reader → Counts (count + length bytes) (taking reader bytes).after
unfolding taking
bytes_count [] reader count counts = subst (λ (n : ℕ). Counts n reader) (omega arith) counts
bytes_count (byte ∷ bytes) reader count counts =
    subst (λ (n : ℕ). Counts n (taking (takes_byte reader byte).after bytes).after) (omega arith)
    (bytes_count bytes (takes_byte reader byte).after (suc count) (byte_counts reader byte count counts))

pub from_start_counts : (bytes : List ℕ) → Counts (length bytes) (taking at_start bytes).after
from_start_counts bytes = subst (λ (n : ℕ). Counts n (taking at_start bytes).after) (omega arith) (bytes_count bytes at_start 0 refl)

-- this fault was met within the most bytes, and stands
pub record MetBefore (bytes : List ℕ) (after : Reader) : Type 0 where
  pub place : ℕ
  pub met : (taking at_start (take most_bytes bytes)).after ≡ Err (Malformed place)
  pub stands : after ≡ Err (Malformed place)

pub longer : (bytes : List ℕ) → most_bytes < length bytes → ((taking at_start bytes).after ≡ Err TooLong) ⊎ MetBefore bytes (taking at_start bytes).after
longer bytes long = by_reader (taking at_start first).after refl (from_start_counts first)
  where
    first : List ℕ
    first = take most_bytes bytes

    rest : List ℕ
    rest = drop most_bytes bytes

    then_rest : (taking at_start bytes).after ≡ (taking (taking at_start first).after rest).after
    then_rest = ap (λ (l : List ℕ). (taking at_start l).after) (sym (take-append-drop most_bytes bytes)) ∙ ap (λ (o : Outcome). o.after) (both at_start first rest)

    passed : (standing : Standing) (bytes' : List ℕ) → 0 < length bytes' → most_bytes ≤ total standing → taking (Ok standing) bytes' ≡ quiet (Err TooLong)
    passed standing [] some most = absurd (omega arith)
    passed standing (byte ∷ bytes') some most = stops standing byte bytes' (Err TooLong) tt (passes_most standing byte most)

    by_reader : (reader : Reader) → (taking at_start first).after ≡ reader → Counts (length first) (taking at_start first).after → ((taking at_start bytes).after ≡ Err TooLong) ⊎ MetBefore bytes (taking at_start bytes).after
    by_reader (Ok standing) is counts =
        let counted_all : total standing ≡ length first = subst (Counts (length first)) is counts in
        inl (then_rest
        ∙ ap (λ (r : Reader). (taking r rest).after) is
        ∙ ap (λ (o : Outcome). o.after) (passed standing rest (omega (arith, length-drop most_bytes bytes)) (omega (arith, counted_all, length-take-le most_bytes bytes (omega arith)))))
    by_reader (Err (Malformed place)) is counts =
        inr (record { place = place; met = is; stands = then_rest ∙ ap (λ (r : Reader). (taking r rest).after) is ∙ ap (λ (o : Outcome). o.after) (stays (Err (Malformed place)) tt rest) })
    by_reader (Err TooLong) is counts =
        let many : most_bytes < length first = subst (Counts (length first)) is counts in
        absurd (omega (arith, many, length-take-le most_bytes bytes (omega arith)))
