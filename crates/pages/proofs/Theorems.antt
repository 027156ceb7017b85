-- The page is fixed by its report, and each of its lines has as many bytes as the others. Assumes nothing.
use mathlib.Core.Path.{◌≡◌, sym, ◌∙◌}
use mathlib.Core.List.{List, [], ◌∷◌, ◌++◌}
use Prim.Native.Nat.{ℕ, ◌-◌, ◌≤◌}
use native.Mathlib.Omega.{arith}
use lib.ListN.{length, length-append, length-replicate}
use Rattle.tallies.specs.declared.Report.{Report}
use Rattle.sheets.specs.Grammar.{space, digits}
use Rattle.sheets.proofs.Numerals.{digits_at_most}
use Rattle.buffers.specs.Puts.{most_digits}
use Rattle.pages.specs.Quoted.{ascii}
use Rattle.pages.specs.Columns.{label_columns, cell_columns, spaces, left_aligned, right_aligned, line_text, line_bytes}
use Rattle.pages.specs.Pages.{heading, Row, kinds, refusals, densities, row_text, rows_text, page_text, page_bytes}
use Rattle.pages.specs.Filling.{rows_bytes}

-- Two buffers that meet the contract of `pages::page` are equal.
pub page_determined : (report : Report) (buffer buffer' : List ℕ) → buffer ≡ page_text report → buffer' ≡ page_text report → buffer ≡ buffer'
page_determined report buffer buffer' one other = one ∙ sym other

-- An aligned text has just its columns.
module _ (columns : ℕ) (text : List ℕ) (short : length text ≤ columns) where
  pub left_aligned_long : length (left_aligned columns text) ≡ columns
  unfolding left_aligned
  left_aligned_long = omega (arith, length-append text (spaces (columns - length text)), length-replicate (columns - length text) space)

  pub right_aligned_long : length (right_aligned columns text) ≡ columns
  unfolding right_aligned
  right_aligned_long = omega (arith, length-append (spaces (columns - length text)) text, length-replicate (columns - length text) space)

module _ (label hydrogen oxygen nitrogen : List ℕ) where
  pub line_long : length label ≤ label_columns → length hydrogen ≤ cell_columns → length oxygen ≤ cell_columns → length nitrogen ≤ cell_columns → length (line_text label hydrogen oxygen nitrogen) ≡ line_bytes
  line_long short first second third =
      simp length-append
      (omega (arith, left_aligned_long label_columns label short, right_aligned_long cell_columns hydrogen first, right_aligned_long cell_columns oxygen second, right_aligned_long cell_columns nitrogen third))

-- The heading is a line of the page, and so is every row, whatever its numbers are: no number outgrows its cell.
pub heading_long : length heading ≡ line_bytes
unfolding heading
heading_long = line_long (ascii "gas densities in g/m3") (ascii "hydrogen") (ascii "oxygen") (ascii "nitrogen") (omega arith) (omega arith) (omega arith) (omega arith)

pub row_long : (label : List ℕ) (hydrogen oxygen nitrogen : ℕ) → length label ≤ label_columns → length (row_text label hydrogen oxygen nitrogen) ≡ line_bytes
unfolding row_text
row_long label hydrogen oxygen nitrogen short =
    line_long label (digits most_digits hydrogen) (digits most_digits oxygen) (digits most_digits nitrogen) short (fits hydrogen) (fits oxygen) (fits nitrogen)
  where
    fits : (number : ℕ) → length (digits most_digits number) ≤ cell_columns
    fits number = omega (arith, digits_at_most most_digits number)

abbrev EachShort : List Row → Type 0
EachShort [] = Unit {0}
EachShort (row ∷ rows) = (length (ascii row.label) ≤ label_columns) × EachShort rows

rows_long : (report : Report) (rows : List Row) → EachShort rows → length (rows_text report rows) ≡ rows_bytes rows
rows_long report [] short = omega arith
rows_long report (row ∷ rows) short =
    simp length-append
    (omega (arith, row_long (ascii row.label) (row.figure report.hydrogen) (row.figure report.oxygen) (row.figure report.nitrogen) short.0, rows_long report rows short.1))

-- So every page has as many bytes as the buffer.
pub page_long : (report : Report) → length (page_text report) ≡ page_bytes
page_long report =
    let first = rows_text report kinds in
    let second = rows_text report refusals in
    let third = rows_text report densities in
    omega (arith, heading_long, rows_long report kinds (omega arith), rows_long report refusals (omega arith), rows_long report densities (omega arith), length-append heading (first ++ (second ++ third)), length-append first (second ++ third), length-append second third)
