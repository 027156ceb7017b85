-- What is put into a buffer is fixed. Assumes nothing.
use mathlib.Core.Path.{◌≡◌, sym, ◌∙◌}
use mathlib.Core.List.{List}
use Prim.Native.Nat.{ℕ}
use native.Mathlib.Omega.{arith}
use Rattle.buffers.specs.Puts.{Puts, has_room, no_room}

-- Both the buffer and the place that is answered.
pub put_determined : (text before : List ℕ) (at : ℕ) (after after' : List ℕ) (next next' : ℕ) → Puts text before at after next → Puts text before at after' next' → (after ≡ after') × (next ≡ next')
put_determined text before at after after' next next' (has_room room holds) (has_room room' holds') =
    (holds.is_after ∙ sym holds'.is_after, holds.reaches ∙ sym holds'.reaches)
put_determined text before at after after' next next' (has_room room holds) (no_room none same stays) = absurd (omega arith)
put_determined text before at after after' next next' (no_room none same stays) (has_room room holds) = absurd (omega arith)
put_determined text before at after after' next next' (no_room none same stays) (no_room none' same' stays') = (same ∙ sym same', stays ∙ sym stays')
