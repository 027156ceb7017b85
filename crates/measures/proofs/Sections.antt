-- A section of two lists, state by state: which states are left, and what they are written to. Assumes nothing.
use mathlib.Core.Path.{◌≡◌, refl, sym, ap}
use mathlib.Core.List.{List, [], ◌∷◌, ◌++◌, append-nil}
use Prim.Native.Nat.{ℕ, suc, ◌+◌, ◌≤◌, ◌<◌}
use native.Mathlib.Omega.{arith}
use lib.ListN.{length, get_or, drop, length-append, drop_of_length-le}
use lib.Seq.{drop-cons}
use Rattle.sheets.specs.Grammar.{line_end, space, decimal, Pair, WritablePair, pair_text, line, state_lines, section, sheet}
use Rattle.measures.specs.Columns.{paired}
use Rattle.measures.specs.Inside.{MakesSection, state_line}

pub paired_long : (millikelvin pascals : List ℕ) → length pascals ≡ length millikelvin → length (paired millikelvin pascals) ≡ length millikelvin
paired_long [] pascals equal = refl
paired_long (temperature ∷ millikelvin) [] equal = absurd (omega arith)
paired_long (temperature ∷ millikelvin) (pressure ∷ pascals) equal = ap suc (paired_long millikelvin pascals (omega arith))

-- two numbers, the space between them and the line's end
pub state_line_long : (temperature pressure : ℕ) → length (state_line temperature pressure) ≡ length (decimal temperature) + length (decimal pressure) + 2
unfolding pair_text
state_line_long temperature pressure =
    omega (arith, length-append (decimal temperature ++ (space ∷ decimal pressure)) (line_end ∷ []), length-append (decimal temperature) (space ∷ decimal pressure))

pub count_line_long : (count : ℕ) → length (line (decimal count)) ≡ length (decimal count) + 1
count_line_long count = length-append (decimal count) (line_end ∷ [])

module _ (millikelvin pascals : List ℕ) where
  -- the states behind the first so many
  abbrev pub left_pairs : (taken : ℕ) → List Pair
  left_pairs taken = paired (drop taken millikelvin) (drop taken pascals)

module _ {millikelvin pascals : List ℕ} (lists : MakesSection millikelvin pascals) where
  -- the count comes before all of them
  pub count_first : line (decimal (length millikelvin)) ++ state_lines (left_pairs millikelvin pascals 0) ≡ section (paired millikelvin pascals)
  unfolding section
  count_first =
      ap (λ (count : ℕ). line (decimal count) ++ state_lines (paired millikelvin pascals)) (sym (paired_long millikelvin pascals lists.equal))

  module _ {taken : ℕ} where
    pub none_left : length millikelvin ≤ taken → state_lines (left_pairs millikelvin pascals taken) ≡ []
    unfolding state_lines
    none_left over = rw (drop_of_length-le millikelvin over) refl

    module _ (below : taken < length millikelvin) where
      one_left : left_pairs millikelvin pascals taken ≡ record { millikelvin = get_or millikelvin taken 0; pascals = get_or pascals taken 0 } ∷ left_pairs millikelvin pascals (suc taken)
      one_left =
          let paired_too : taken < length pascals = omega (arith, lists.equal) in
          rw (drop-cons millikelvin taken 0 below, drop-cons pascals taken 0 paired_too) refl

      -- the line of the next state, and then those of the others
      pub line_first : state_lines (left_pairs millikelvin pascals taken) ≡ state_line (get_or millikelvin taken 0) (get_or pascals taken 0) ++ state_lines (left_pairs millikelvin pascals (suc taken))
      unfolding state_lines
      line_first = ap state_lines one_left

-- the same of lists that are taken apart
pub no_lines : (pascals : List ℕ) → state_lines (paired [] pascals) ≡ []
unfolding state_lines
no_lines pascals = refl

pub first_line : (temperature pressure : ℕ) (millikelvin pascals : List ℕ) → state_lines (paired (temperature ∷ millikelvin) (pressure ∷ pascals)) ≡ state_line temperature pressure ++ state_lines (paired millikelvin pascals)
unfolding state_lines
first_line temperature pressure millikelvin pascals = refl

module _ {temperature pressure : ℕ} {millikelvin pascals : List ℕ} (lists : MakesSection (temperature ∷ millikelvin) (pressure ∷ pascals)) where
  pub next_writable : WritablePair (record { millikelvin = temperature; pascals = pressure })
  next_writable = lists.writable.0

  pub others_make_section : MakesSection millikelvin pascals
  others_make_section = record { few = omega (arith, lists.few); equal = omega (arith, lists.equal); writable = lists.writable.1 }

-- three sections are a sheet
module _ (first second third : List Pair) where
  pub three_sections : section first ++ (section second ++ section third) ≡ sheet (first ∷ second ∷ third ∷ [])
  unfolding sheet
  three_sections = ap (λ (l : List ℕ). section first ++ (section second ++ l)) (sym (append-nil (section third)))

  pub three_long : length (section first) + length (section second) + length (section third) ≡ length (sheet (first ∷ second ∷ third ∷ []))
  three_long =
      omega (arith, ap length three_sections, length-append (section first) (section second ++ section third), length-append (section second) (section third))
