-- Numbers put into a buffer, one behind another. Assumes nothing.
use mathlib.Core.Path.{◌≡◌, sym, ap, ◌∙◌}
use mathlib.Core.List.{List, [], ◌∷◌, ◌++◌}
use Prim.Native.Nat.{ℕ, suc, ◌+◌, ◌≤◌, ◌<◌}
use native.Mathlib.Numerals.{add-one}
use native.Mathlib.Omega.{arith}
use lib.ListN.{length, get_or, drop}
use lib.Seq.{drop-cons}
use Rattle.sheets.specs.Grammar.{space, digits}
use Rattle.buffers.specs.Puts.{most_digits, Holds, Puts}
use Rattle.buffers.proofs.Holding.{put_with_room}
use Rattle.buffers.proofs.Underway.{Underway, none_put, part_held, part_put, last_fits, last_held}
use Rattle.texts.specs.Texts.{spaced, numbers_text}

-- the space is said by an equation, so that another one is refused there
pub spaced_put : (number : ℕ) {at middle next : ℕ} {gap before between after : List ℕ} → at + length (spaced number) ≤ length before → Puts gap before at between middle → Puts (digits most_digits number) between middle after next → gap ≡ space ∷ [] → Holds (spaced number) before at after next
spaced_put number {at} {gap = gap} {before = before} room puts_gap puts_number is_gap =
    let begun = part_put (none_put (spaced number) before at room) gap (digits most_digits number) (ap (λ (l : List ℕ). l ++ digits most_digits number) (sym is_gap)) puts_gap in
    last_held begun (put_with_room puts_number (last_fits begun))

-- what the loop keeps: the numbers that are left are what is left to put
pub record SoFar (numbers before : List ℕ) (at taken : ℕ) (buffer : List ℕ) (end : ℕ) : Type 0 where
  pub within : taken ≤ length numbers
  pub underway : Underway (numbers_text numbers) before at (numbers_text (drop taken numbers)) buffer end

module _ {numbers before : List ℕ} {at taken : ℕ} {buffer : List ℕ} {end : ℕ} (so_far : SoFar numbers before at taken buffer end) where
  module _ (left : taken < length numbers) where
    one_left : {number : ℕ} → number ≡ get_or numbers taken 0 → numbers_text (drop taken numbers) ≡ spaced number ++ numbers_text (drop (suc taken) numbers)
    one_left is_number =
        ap numbers_text (drop-cons numbers taken 0 left) ∙ ap (λ (n : ℕ). spaced n ++ numbers_text (drop (suc taken) numbers)) (sym is_number)

    -- the number is said by an equation, so that another one is refused there
    pub one_more_taken : {number next : ℕ} {after : List ℕ} → Holds (spaced number) buffer end after next → number ≡ get_or numbers taken 0 → SoFar numbers before at (taken + 1) after next
    one_more_taken {number} holds is_number =
        record {
          within = omega arith;
          underway = rw (add-one taken) (part_held so_far.underway (spaced number) (numbers_text (drop (suc taken) numbers)) (one_left is_number) holds);
        }
