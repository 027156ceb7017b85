-- A text that is put part by part: what was put, and what is left, make the whole. So a part that is left has room, and no length has to be worked out. Assumes
-- nothing.
use mathlib.Core.Path.{◌≡◌, refl, sym, ap, subst, ◌∙◌}
use mathlib.Core.List.{List, [], ◌++◌, append_assoc, append-nil}
use Prim.Native.Nat.{ℕ, ◌+◌, ◌≤◌}
use native.Mathlib.Omega.{arith}
use lib.ListN.{length, length-append}
use Rattle.buffers.specs.Puts.{Holds, Puts}
use Rattle.buffers.proofs.Holding.{holds_nothing, after_long, both, put_with_room}

pub record Underway (whole before : List ℕ) (at : ℕ) (left buffer : List ℕ) (end : ℕ) : Type 0 where
  pub room : at + length whole ≤ length before
  pub done : List ℕ
  pub holds : Holds done before at buffer end
  pub is_whole : done ++ left ≡ whole

pub none_put : (whole before : List ℕ) (at : ℕ) → at + length whole ≤ length before → Underway whole before at whole before at
none_put whole before at room = record { room = room; done = []; holds = holds_nothing before at; is_whole = refl }

module _ {whole before left buffer : List ℕ} {at end : ℕ} (underway : Underway whole before at left buffer end) where
  whole_long : length underway.done + length left ≡ length whole
  whole_long = sym (length-append underway.done left) ∙ ap length underway.is_whole

  done_fits : at + length underway.done ≤ length before
  done_fits = omega (arith, underway.room, whole_long)

  pub buffer_long : length buffer ≡ length before
  buffer_long = after_long done_fits underway.holds

  -- what is left is a part and a rest
  module _ (text rest : List ℕ) (is_left : left ≡ text ++ rest) where
    pub part_fits : end + length text ≤ length buffer
    part_fits = omega (arith, underway.room, underway.holds.reaches, whole_long, buffer_long, ap length is_left, length-append text rest)

    module _ {after : List ℕ} {next : ℕ} where
      pub part_held : Holds text buffer end after next → Underway whole before at rest after next
      part_held holds =
          record {
            room = underway.room;
            done = underway.done ++ text;
            holds = both done_fits underway.holds holds;
            is_whole = append_assoc underway.done text rest ∙ ap (λ (l : List ℕ). underway.done ++ l) (sym is_left) ∙ underway.is_whole;
          }

      pub part_put : Puts text buffer end after next → Underway whole before at rest after next
      part_put puts = part_held (put_with_room puts part_fits)

  pub all_put : left ≡ [] → Holds whole before at buffer end
  all_put none =
      subst (λ (l : List ℕ). Holds l before at buffer end)
      (sym (append-nil underway.done) ∙ ap (λ (l : List ℕ). underway.done ++ l) (sym none) ∙ underway.is_whole) underway.holds

-- the last part
module _ {whole before left buffer : List ℕ} {at end : ℕ} (underway : Underway whole before at left buffer end) where
  pub last_fits : end + length left ≤ length buffer
  last_fits = part_fits underway left [] (sym (append-nil left))

  pub last_held : {after : List ℕ} {next : ℕ} → Holds left buffer end after next → Holds whole before at after next
  last_held holds = all_put (part_held underway left [] (sym (append-nil left)) holds) refl
