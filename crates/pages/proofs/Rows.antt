-- Rows of a table, one behind another. Which row is put is said by an equation, so that another one is refused there. Assumes nothing.
use mathlib.Core.Path.{◌≡◌, refl}
use mathlib.Core.List.{List, [], ◌∷◌}
use Prim.Native.Nat.{ℕ, ◌+◌, ◌≤◌}
use native.Mathlib.Omega.{arith}
use lib.ListN.{length}
use Rattle.tallies.specs.declared.Section.{Section}
use Rattle.tallies.specs.declared.Report.{Report}
use Rattle.buffers.proofs.Holding.{holds_nothing, after_long}
use Rattle.pages.specs.Quoted.{ascii}
use Rattle.pages.specs.Pages.{Row}
use Rattle.pages.specs.Filling.{Fills, RowFills, RowsFill}
use Rattle.pages.proofs.Filling.{both_fill}

module _ {report : Report} {text before between : List ℕ} {at middle : ℕ} where
  -- behind the last
  pub no_rows : {columns : ℕ} → Fills columns text before at between middle → RowsFill report [] between middle between middle
  no_rows last =
      let fits : at + length text ≤ length before = omega (arith, last.within, last.wide) in
      let inside : middle + 0 ≤ length between = omega (arith, last.holds.reaches, after_long fits last.holds) in
      record { fills = record { within = inside; wide = refl; holds = holds_nothing between middle } }

-- which figures are put is said by a fact about each number that is the figure of a section
module _ {report : Report} {IsFigure : Section → ℕ → Type 0} {label before between : List ℕ} {at middle : ℕ} {row : Row} {rows : List Row} {after : List ℕ} {next : ℕ} where
  pub row_before : RowFills IsFigure label report before at between middle → label ≡ ascii row.label → ((section : Section) (number : ℕ) → IsFigure section number → number ≡ row.figure section) → RowsFill report rows between middle after next → RowsFill report (row ∷ rows) before at after next
  row_before one is_label is_figure behind =
      let hydrogen = is_figure report.hydrogen one.hydrogen one.of_hydrogen in
      let oxygen = is_figure report.oxygen one.oxygen one.of_oxygen in
      let nitrogen = is_figure report.nitrogen one.nitrogen one.of_nitrogen in
      record { fills = both_fill (rw (is_label, hydrogen, oxygen, nitrogen) at one.fills) behind.fills }
