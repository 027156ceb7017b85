-- A sheet is written from one choice of lists only: a number's digits give the number, a line's end shows where it ends, and a section's count
-- how many lines are its own. Assumes nothing.
use mathlib.Core.Path.{◌≡◌, refl, sym, ap, ap₂, ◌∙◌}
use mathlib.Core.List.{List, [], ◌∷◌, ◌++◌, append_assoc, foldl}
use Prim.Native.Nat.{ℕ, ◌+◌, ◌≤◌}
use native.Mathlib.Nat.{suc_inj, suc-ne-zero}
use native.Mathlib.Omega.{arith}
use lib.ListN.{length, drop}
use lib.Seq.{append_snoc, drop-append-add}
use Rattle.sheets.specs.declared.Digest.{Digest}
use Rattle.sheets.specs.declared.Digest.TheVariants.{Empty, First, AfterSpace, Second, Bad}
use Rattle.sheets.specs.Grammar.{most_states, line_end, decimal, Writable, Pair, WritablePair, pair_text, line, state_lines, section, sheet, EachWritable, EachSection}
use Rattle.sheets.specs.Digests.{takes}
use Rattle.sheets.proofs.Texts.{first_read, pair_read}
use Rattle.sheets.proofs.Splits.{Endless, endless_decimal, endless_pair, lines_apart}

abbrev first_number : Digest → ℕ
first_number Empty = 0
first_number (First number) = number
first_number (AfterSpace number) = number
first_number (Second first second) = first
first_number Bad = 0

abbrev second_number : Digest → ℕ
second_number Empty = 0
second_number (First number) = 0
second_number (AfterSpace number) = 0
second_number (Second first second) = second
second_number Bad = 0

pub decimal_once : (number number' : ℕ) → Writable number → Writable number' → decimal number ≡ decimal number' → number ≡ number'
decimal_once number number' writable writable' same =
    ap first_number (sym (first_read number writable) ∙ ap (foldl takes Empty) same ∙ first_read number' writable')

pair_once : (pair pair' : Pair) → WritablePair pair → WritablePair pair' → pair_text pair ≡ pair_text pair' → pair ≡ pair'
pair_once pair pair' writable writable' same =
    ap₂ (λ (t p : ℕ). record { millikelvin = t; pascals = p }) (ap first_number digests) (ap second_number digests)
  where
    digests : Second pair.millikelvin pair.pascals ≡ Second pair'.millikelvin pair'.pascals
    digests = sym (pair_read pair writable) ∙ ap (foldl takes Empty) same ∙ pair_read pair' writable'

-- two lines, each before what follows it
record Apart (text text' rest rest' : List ℕ) : Type 0 where
  same_text : text ≡ text'
  same_rest : rest ≡ rest'

apart : (text text' rest rest' : List ℕ) → Endless text → Endless text' → line text ++ rest ≡ line text' ++ rest' → Apart text text' rest rest'
apart text text' rest rest' endless endless' same = record { same_text = same_text; same_rest = same_rest }
  where
    ended : text ++ (line_end ∷ rest) ≡ text' ++ (line_end ∷ rest')
    ended = sym (append_snoc text line_end rest) ∙ same ∙ append_snoc text' line_end rest'

    same_text : text ≡ text'
    same_text = lines_apart text text' rest rest' endless endless' ended

    same_rest : rest ≡ rest'
    same_rest =
        sym (drop-append-add text (line_end ∷ rest) 1)
        ∙ ap₂ (λ (t l : List ℕ). drop (length t + 1) l) same_text ended
        ∙ drop-append-add text' (line_end ∷ rest') 1

record Together (pairs pairs' : List Pair) (rest rest' : List ℕ) : Type 0 where
  same_pairs : pairs ≡ pairs'
  same_rest : rest ≡ rest'

states_once : (pairs pairs' : List Pair) (rest rest' : List ℕ) → EachWritable pairs → EachWritable pairs' → length pairs ≡ length pairs' → state_lines pairs ++ rest ≡ state_lines pairs' ++ rest' → Together pairs pairs' rest rest'
unfolding state_lines
states_once [] [] rest rest' each each' long same = record { same_pairs = refl; same_rest = same }
states_once [] (pair' ∷ pairs') rest rest' each each' long same = absurd (suc-ne-zero (length pairs') (sym long))
states_once (pair ∷ pairs) [] rest rest' each each' long same = absurd (suc-ne-zero (length pairs) long)
states_once (pair ∷ pairs) (pair' ∷ pairs') rest rest' each each' long same =
    let first =
    apart (pair_text pair) (pair_text pair') (state_lines pairs ++ rest) (state_lines pairs' ++ rest') (endless_pair pair) (endless_pair pair')
    (sym (append_assoc (line (pair_text pair)) (state_lines pairs) rest) ∙ same ∙ append_assoc (line (pair_text pair')) (state_lines pairs') rest') in
    let others = states_once pairs pairs' rest rest' each.1 each'.1 (suc_inj long) first.same_rest in
    record {
      same_pairs = ap₂ (λ (p : Pair) (l : List Pair). p ∷ l) (pair_once pair pair' each.0 each'.0 first.same_text) others.same_pairs;
      same_rest = others.same_rest;
    }

pub sheet_once : (lists lists' : List (List Pair)) → EachSection lists → EachSection lists' → length lists ≡ length lists' → sheet lists ≡ sheet lists' → lists ≡ lists'
unfolding section sheet
sheet_once [] [] each each' long same = refl
sheet_once [] (pairs' ∷ lists') each each' long same = absurd (suc-ne-zero (length lists') (sym long))
sheet_once (pairs ∷ lists) [] each each' long same = absurd (suc-ne-zero (length lists) long)
sheet_once (pairs ∷ lists) (pairs' ∷ lists') each each' long same =
    let count =
    apart (decimal (length pairs)) (decimal (length pairs')) (state_lines pairs ++ sheet lists) (state_lines pairs' ++ sheet lists')
    (endless_decimal (length pairs)) (endless_decimal (length pairs'))
    (sym (append_assoc (line (decimal (length pairs))) (state_lines pairs) (sheet lists)) ∙ same ∙ append_assoc (line (decimal (length pairs'))) (state_lines pairs') (sheet lists')) in
    let few : length pairs ≤ most_states = each.0.count in
    let few' : length pairs' ≤ most_states = each'.0.count in
    let own =
    states_once pairs pairs' (sheet lists) (sheet lists') each.0.states each'.0.states
    (decimal_once (length pairs) (length pairs') (omega arith) (omega arith) count.same_text) count.same_rest in
    ap₂ (λ (l : List Pair) (s : List (List Pair)). l ∷ s) own.same_pairs (sheet_once lists lists' each.1 each'.1 (suc_inj long) own.same_rest)
