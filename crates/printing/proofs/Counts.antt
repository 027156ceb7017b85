-- What was put at the start of a buffer, and is within it, is a part of it. What a text holds is no longer than a line. Assumes nothing.
use mathlib.Core.Path.{sym}
use mathlib.Core.List.{List}
use Prim.Native.Nat.{ℕ, ◌≤◌}
use native.Mathlib.Omega.{arith}
use lib.ListN.{length}
use lib.Seq.{length-take-le}
use Rattle.io.specs.Counts.{IsPrefixLen}
use Rattle.texts.specs.declared.Text.{Text}
use Rattle.texts.specs.Buffer.{longest_line, bytes_of, Sized}

pub counts : (buffer : List ℕ) (next : ℕ) → next ≤ length buffer → IsPrefixLen next buffer
counts buffer next inside = (inside, sym (length-take-le next buffer inside))

pub text_short : {text : Text} → Sized text → length (bytes_of text) ≤ longest_line
text_short {text} sized = omega (arith, sized.short, length-take-le text.length text.bytes sized.inside)
