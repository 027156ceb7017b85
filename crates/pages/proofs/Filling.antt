-- Texts that fill columns of a buffer, one behind another. Assumes nothing.
use mathlib.Core.Path.{◌≡◌, refl, sym, ap, ◌∙◌}
use mathlib.Core.List.{List, [], ◌∷◌, ◌++◌}
use Prim.Native.Nat.{ℕ, ◌+◌, ◌-◌, ◌≤◌}
use native.Mathlib.Nat.{add-sub_of_le, sub-add_cancel}
use native.Mathlib.Omega.{arith}
use lib.ListN.{length, take, length-append, length-replicate, replicate-append-replicate}
use lib.Seq.{take_at}
use Rattle.sheets.specs.Grammar.{space, line_end}
use Rattle.buffers.specs.Puts.{Puts}
use Rattle.buffers.proofs.Holding.{after_long, both, put_with_room}
use Rattle.pages.specs.Columns.{label_columns, cell_columns, spaces, left_aligned, right_aligned, line_bytes}
use Rattle.pages.specs.Filling.{Fills}

-- a text that is put where it has room
pub put_fills : (columns : ℕ) {text before after : List ℕ} {at next : ℕ} → at + columns ≤ length before → length text ≡ columns → Puts text before at after next → Fills columns text before at after next
put_fills columns within wide puts = record { within = within; wide = wide; holds = put_with_room puts (omega arith) }

pub both_fill : {columns others : ℕ} {text other before between after : List ℕ} {at middle next : ℕ} → Fills columns text before at between middle → Fills others other between middle after next → Fills (columns + others) (text ++ other) before at after next
both_fill {text = text} {other = other} {before = before} {at = at} one two =
    let fits : at + length text ≤ length before = omega (arith, one.within, one.wide) in
    record {
      within = omega (arith, one.wide, one.holds.reaches, two.within, after_long fits one.holds);
      wide = omega (arith, one.wide, two.wide, length-append text other);
      holds = both fits one.holds two.holds;
    }

pub same_fills : {columns : ℕ} {text same before after : List ℕ} {at next : ℕ} → Fills columns text before at after next → text ≡ same → Fills columns same before at after next
same_fills fills is_same = rw is_same at fills

-- the first of more spaces
pub first_spaces : (many more : ℕ) → many ≤ more → take many (spaces more) ≡ spaces many
first_spaces many more few =
    ap (λ (n : ℕ). take many (spaces n)) (sym (add-sub_of_le few))
    ∙ ap (take many) (sym (replicate-append-replicate many (more - many) space))
    ∙ take_at (spaces many) (spaces (more - many)) many (length-replicate many space)

-- a text and the spaces that are left, before it or behind it
module _ {columns : ℕ} {text before between after : List ℕ} {at middle next : ℕ} (short : length text ≤ columns) where
  pub left_fills : Fills (length text) text before at between middle → Fills (columns - length text) (spaces (columns - length text)) between middle after next → Fills columns (left_aligned columns text) before at after next
  unfolding left_aligned
  left_fills label gap = rw (add-sub_of_le short) at (both_fill label gap)

  pub right_fills : Fills (columns - length text) (spaces (columns - length text)) before at between middle → Fills (length text) text between middle after next → Fills columns (right_aligned columns text) before at after next
  unfolding right_aligned
  right_fills gap cell = rw (sub-add_cancel short) at (both_fill gap cell)

-- a label, three cells and the line's end; the last byte is said by an equation, so that another one is refused there
pub line_fills : {label hydrogen oxygen nitrogen last before labelled one two three after : List ℕ} {at first second third end next : ℕ} → Fills label_columns label before at labelled first → Fills cell_columns hydrogen labelled first one second → Fills cell_columns oxygen one second two third → Fills cell_columns nitrogen two third three end → Puts last three end after next → last ≡ line_end ∷ [] → end + 1 ≤ length three → Fills line_bytes (label ++ (hydrogen ++ (oxygen ++ (nitrogen ++ (line_end ∷ []))))) before at after next
line_fills label hydrogen oxygen nitrogen puts is_last within =
    both_fill label (both_fill hydrogen (both_fill oxygen (both_fill nitrogen (put_fills 1 within refl (rw is_last at puts)))))
