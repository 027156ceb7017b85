-- What is proved beside the contracts: what a call came to is fixed by what it answered, and only an answer below 0 is a failure. Of what is read and written no
-- more can be said than the contracts say: the system decides it. Assumes nothing.
use mathlib.Core.Path.{◌≡◌, refl, sym, ◌∙◌}
use mathlib.Core.Bool.{Bool, true, false}
use mathlib.Core.List.{List}
use Prim.Native.Nat.{ℕ}
use lib.IntN.{ℤ, negsuc}
use Rattle.streams.specs.declared.Call.{Call}
use Rattle.streams.specs.Streams.{call_of}
use Rattle.streams.specs.Faults.{fault_text}
use Rattle.buffers.specs.Puts.{Puts}
use Rattle.buffers.proofs.Theorems.{put_determined}

pub call_determined : (got : ℤ) (interrupted : Bool) (most : ℕ) (call call' : Call) → call ≡ call_of got interrupted most → call' ≡ call_of got interrupted most → call ≡ call'
call_determined got interrupted most call call' is is' = is ∙ sym is'

-- a call that failed is never taken for the end of the input
pub failure_is_told : (got most : ℕ) → call_of (negsuc got) false most ≡ Call.Failed
unfolding call_of
failure_is_told got most = refl

-- and one that a signal interrupted is made again
pub interrupted_goes_on : (got most : ℕ) → call_of (negsuc got) true most ≡ Call.Interrupted
unfolding call_of
interrupted_goes_on got most = refl

-- the line on standard error is fixed by what failed and why, and by the room
pub fault_line_determined : (what why before after after' : List ℕ) (next next' : ℕ) → Puts (fault_text what why) before 0 after next → Puts (fault_text what why) before 0 after' next' → (after ≡ after') × (next ≡ next')
fault_line_determined what why before after after' next next' p q = put_determined (fault_text what why) before 0 after after' next next' p q
