-- `digests::scan` meets its contract. The loop's invariant: to scan what is left, from the digest so far, gives what to scan the whole
-- gives. The measure is how many bytes are left. Assumes nothing.
use mathlib.Core.Path.{◌≡◌}
use Prim.Native.Nat.{◌-◌}
use lib.ListN.{length, drop}
use Rattle.sheets.specs.Digests.{scans}
use Rattle.digests.proofs.scan.Given as goal

abbrev pub invariant-loop-end : goal.invariant-loop-end
invariant-loop-end l = scans l.end l.digest (drop l.end l.bytes) ≡ scans l.place l.initial.digest (drop l.place l.bytes)

abbrev pub decreases-loop-end : goal.decreases-loop-end
decreases-loop-end l = length l.bytes - l.end
