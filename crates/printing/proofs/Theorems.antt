-- What the program prints is fixed by its input: two texts that meet the contract of `printing::print` are equal. Assumes nothing.
use mathlib.Core.Path.{◌≡◌, sym, ap₂, subst, ◌∙◌}
use mathlib.Core.List.{List, [], ◌∷◌, ◌++◌}
use Prim.Native.Nat.{ℕ}
use Rattle.sheets.specs.declared.State.{State}
use Rattle.std.specs.Prelude.{Ok, Err}
use Rattle.readings.specs.Figures.{Reading}
use Rattle.sheets.specs.Grammar.{Pair, states_from}
use Rattle.sheets.proofs.Theorems.{written_once}
use Rattle.readings.proofs.Theorems.{reading_determined}
use Rattle.wording.proofs.Theorems.{state_once, fault_once}
use Rattle.printing.specs.Prints.{LinesText, ReadingText, Prints}

lines_once : (states : List State) (text text' : List ℕ) → LinesText states text → LinesText states text' → text ≡ text'
lines_once [] text text' one other = one ∙ sym other
lines_once (state ∷ states) text text' one other =
    one.4 ∙ ap₂ (λ (l m : List ℕ). l ++ m) (state_once state one.0 other.0 one.2 other.2) (lines_once states one.1 other.1 one.3 other.3) ∙ sym other.4

reading_once : (bytes : List ℕ) (reading : Reading) (text text' : List ℕ) → ReadingText bytes reading text → ReadingText bytes reading text' → text ≡ text'
reading_once bytes (Ok count) text text' one other =
    let same = written_once bytes one.lists other.lists one.good other.good in
    lines_once (states_from 0 other.lists) text text' (subst (λ (lists : List (List Pair)). LinesText (states_from 0 lists) text) same one.are_lines) other.are_lines
reading_once bytes (Err fault) text text' one other = fault_once (Err fault) text text' one other

pub print_determined : (bytes text text' : List ℕ) → Prints bytes text → Prints bytes text' → text ≡ text'
print_determined bytes text text' one other =
    let same = reading_determined bytes one.reading other.reading one.reads_as other.reads_as in
    reading_once bytes other.reading text text' (subst (λ (reading : Reading). ReadingText bytes reading text) same one.is_text) other.is_text
