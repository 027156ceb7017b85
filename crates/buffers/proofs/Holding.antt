-- Texts put into a buffer, one behind another, are one text. Assumes nothing.
use mathlib.Core.Path.{◌≡◌, sym, ap, ap₂, ◌∙◌}
use mathlib.Core.List.{List, [], ◌++◌, append_assoc}
use Prim.Native.Nat.{ℕ, ◌+◌, ◌≤◌}
use native.Mathlib.Nat.{add-zero}
use native.Mathlib.Omega.{arith}
use lib.ListN.{length, take, drop, length-append, length-drop, take-append-drop}
use lib.Seq.{length-take-le, take_at, drop-append-add, drop-drop}
use Rattle.buffers.specs.Puts.{holding, Holds, Puts, has_room, no_room}

pub puts_same : {text same before : List ℕ} {at : ℕ} {after : List ℕ} {next : ℕ} → text ≡ same → Puts text before at after next → Puts same before at after next
puts_same is_same puts = rw is_same at puts

-- a text that has room is put
pub put_with_room : {text before : List ℕ} {at : ℕ} {after : List ℕ} {next : ℕ} → Puts text before at after next → at + length text ≤ length before → Holds text before at after next
put_with_room (has_room room holds) fits = holds
put_with_room (no_room none same stays) fits = absurd (omega arith)

-- nothing changes where nothing is put
pub holds_nothing : (before : List ℕ) (at : ℕ) → Holds [] before at before at
holds_nothing before at = record { is_after = rw (add-zero at) (sym (take-append-drop at before)); reaches = sym (add-zero at) }

module _ (text before : List ℕ) (at : ℕ) (fits : at + length text ≤ length before) where
  front_long : length (take at before ++ text) ≡ at + length text
  front_long = omega (arith, length-append (take at before) text, length-take-le at before (omega arith))

  holding_long : length (holding text before at) ≡ length before
  holding_long =
      omega (arith, length-append (take at before) (text ++ drop (at + length text) before), length-append text (drop (at + length text) before), length-take-le at before (omega arith), length-drop (at + length text) before)

  -- another text behind it
  holding_both : (other : List ℕ) → holding other (holding text before at) (at + length text) ≡ holding (text ++ other) before at
  holding_both other =
      ap (λ (l : List ℕ). holding other l (at + length text)) (sym (append_assoc (take at before) text rest))
      ∙ ap₂ (λ (l m : List ℕ). l ++ (other ++ m)) (take_at (take at before ++ text) rest (at + length text) front_long) behind
      ∙ append_assoc (take at before) text (other ++ drop (at + length (text ++ other)) before)
      ∙ ap (λ (l : List ℕ). take at before ++ l) (sym (append_assoc text other (drop (at + length (text ++ other)) before)))
    where
      rest : List ℕ
      rest = drop (at + length text) before

      same_place : at + length text + length other ≡ at + length (text ++ other)
      same_place = omega (arith, length-append text other)

      behind : drop (at + length text + length other) ((take at before ++ text) ++ rest) ≡ drop (at + length (text ++ other)) before
      behind =
          ap (λ (n : ℕ). drop (n + length other) ((take at before ++ text) ++ rest)) (sym front_long)
          ∙ drop-append-add (take at before ++ text) rest (length other)
          ∙ drop-drop (length other) (at + length text) before
          ∙ ap (λ (n : ℕ). drop n before) same_place

module _ {text before after : List ℕ} {at next : ℕ} (fits : at + length text ≤ length before) (holds : Holds text before at after next) where
  pub after_long : length after ≡ length before
  after_long = ap length holds.is_after ∙ holding_long text before at fits

  -- the text stands behind what was there up to the place
  pub up_to_end : take next after ≡ take at before ++ text
  up_to_end =
      ap₂ (λ (n : ℕ) (l : List ℕ). take n l) holds.reaches (holds.is_after ∙ sym (append_assoc (take at before) text (drop (at + length text) before)))
      ∙ take_at (take at before ++ text) (drop (at + length text) before) (at + length text) (front_long text before at fits)

pub both : {text other before between after : List ℕ} {at middle next : ℕ} → at + length text ≤ length before → Holds text before at between middle → Holds other between middle after next → Holds (text ++ other) before at after next
both {text} {other} {before} {at = at} fits one two =
    record {
      is_after =
          two.is_after
          ∙ ap₂ (λ (l : List ℕ) (n : ℕ). holding other l n) one.is_after one.reaches
          ∙ holding_both text before at fits other;
      reaches = omega (arith, one.reaches, two.reaches, length-append text other);
    }
