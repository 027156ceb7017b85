-- Three full sections can pass the most bytes of a sheet, and are then refused by 7; a sheet of exactly the most bytes is answered. All lines
-- but one are the longest. Assumes nothing.
use mathlib.Core.Path.{◌≡◌, refl, ap, subst}
use mathlib.Core.List.{List, [], ◌∷◌}
use Prim.Native.Nat.{ℕ, zero, suc, ◌+◌, ◌*◌}
use native.Mathlib.Omega.{arith}
use lib.ListN.{length, replicate, length-replicate, length-append}
use Rattle.sheets.specs.Grammar.{all_sections, most_states, digits, decimal, Pair, pair_text, line, state_lines, section, sheet, EachWritable, EachSection, Good, sum_of_counts}
use Rattle.sheets.proofs.Written.{none_written}
use Rattle.sheets.specs.declared.Fault.TheVariants.{TooLong}
use Rattle.std.specs.Prelude.{Ok, Err}
use Rattle.readings.specs.Figures.{sheet_answered, sheet_figures}
use Rattle.readings.specs.Replies.{ReadsAs}
use Rattle.readings.proofs.Answers.{good_told, long_told}

abbrev longest : Pair
longest = record { millikelvin = 9999999999; pascals = 9999999999 }

lines_long : (count : ℕ) → length (state_lines (replicate count longest)) ≡ 22 * count
unfolding state_lines pair_text decimal digits
lines_long zero = refl
lines_long (suc count) = omega (arith, length-append (line (pair_text longest)) (state_lines (replicate count longest)), lines_long count)

lines_writable : (count : ℕ) → EachWritable (replicate count longest)
lines_writable zero = tt
lines_writable (suc count) = (omega arith, lines_writable count)

-- a section's count line and its state lines, and the sections behind it
section_long : (pairs : List Pair) (lists : List (List Pair)) → length (sheet (pairs ∷ lists)) ≡ length (line (decimal (length pairs))) + length (state_lines pairs) + length (sheet lists)
unfolding section sheet
section_long pairs lists =
    omega (arith, length-append (section pairs) (sheet lists), length-append (line (decimal (length pairs))) (state_lines pairs))

count_long : (count : ℕ) → length (line (decimal (length (replicate count longest)))) ≡ length (line (decimal count))
count_long count = ap (λ (n : ℕ). length (line (decimal n))) (length-replicate count longest)

abbrev full : List Pair
full = replicate most_states longest

full_long : (lists : List (List Pair)) → length (sheet (full ∷ lists)) ≡ 22005 + length (sheet lists)
unfolding decimal digits
full_long lists = omega (arith, section_long full lists, count_long most_states, lines_long most_states)

full_writable : (lists : List (List Pair)) → EachSection lists → EachSection (full ∷ lists)
full_writable lists each = (record { count = omega (arith, length-replicate most_states longest); states = lines_writable most_states }, each)

abbrev pub full_sheet : List (List Pair)
full_sheet = full ∷ full ∷ full ∷ []

pub full_sheet_is_good : Good all_sections (sheet full_sheet) full_sheet
full_sheet_is_good =
    record { has_sections = refl; writable = full_writable (full ∷ full ∷ []) (full_writable (full ∷ []) (full_writable [] tt)); written = refl }

pub full_sheet_has_66015_bytes : length (sheet full_sheet) ≡ 66015
full_sheet_has_66015_bytes = omega (arith, full_long (full ∷ full ∷ []), full_long (full ∷ []), full_long [], ap length none_written)

pub full_sheet_is_refused_by_7 : ReadsAs (sheet full_sheet) (sheet_figures (Err TooLong))
full_sheet_is_refused_by_7 = long_told (sheet full_sheet) (omega (arith, full_sheet_has_66015_bytes))

-- one short line, `10 10`, and the longest
abbrev last : List Pair
last = record { millikelvin = 10; pascals = 10 } ∷ replicate 978 longest

last_long : length (sheet (last ∷ [])) ≡ 21526
unfolding state_lines pair_text decimal digits
last_long =
    omega (arith, section_long last [], ap length none_written, ap (λ (n : ℕ). length (line (decimal (suc n)))) (length-replicate 978 longest), length-append (line (pair_text (record { millikelvin = 10; pascals = 10 }))) (state_lines (replicate 978 longest)), lines_long 978)

abbrev pub largest_sheet : List (List Pair)
largest_sheet = full ∷ full ∷ last ∷ []

pub largest_sheet_is_good : Good all_sections (sheet largest_sheet) largest_sheet
largest_sheet_is_good =
    record {
      has_sections = refl;
      writable =
          full_writable (full ∷ last ∷ []) (full_writable (last ∷ [])
          (record { count = omega (arith, length-replicate 978 longest); states = (omega arith, lines_writable 978) }, tt));
      written = refl;
    }

pub largest_sheet_has_65536_bytes : length (sheet largest_sheet) ≡ 65536
largest_sheet_has_65536_bytes = omega (arith, full_long (full ∷ last ∷ []), full_long (last ∷ []), last_long)

pub largest_sheet_is_answered : ReadsAs (sheet largest_sheet) (sheet_figures (Ok 2979))
largest_sheet_is_answered =
    let count : sum_of_counts largest_sheet ≡ 2979 = omega (arith, length-replicate most_states longest, length-replicate 978 longest) in
    subst (λ (n : ℕ). ReadsAs (sheet largest_sheet) (sheet_answered n)) count (good_told (sheet largest_sheet) largest_sheet (omega (arith, largest_sheet_has_65536_bytes)) largest_sheet_is_good)
