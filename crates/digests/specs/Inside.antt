-- What private functions promise. Nothing public is stated by this file.
use Rattle.std.specs.Prelude.{◌≡◌, List, ℕ, ◌+◌, ◌≤◌, length, drop, Some}
use Rattle.sheets.specs.declared.Digest.{Digest}
use Rattle.sheets.specs.Digests.{grows, takes, scans}
use Rattle.digests.specs.declared.Run.{Run}
use Rattle.digests.specs.declared.Onward.{Onward}

-- a digest whose number goes on wherever a number does
abbrev pub Growing : (digest : ℕ → Digest) → Type 0
Growing digest = (number byte next : ℕ) → grows number byte ≡ Some next → takes (digest number) byte ≡ digest next

-- the digits that are taken leave a scan with such a digest as it was
pub record Runs (rest : List ℕ) (number : ℕ) (run : Run) : Type 0 where
  pub within : run.digits ≤ length rest
  pub same : (place : ℕ) (digest : ℕ → Digest) → Growing digest → scans (place + run.digits) (digest run.number) (drop run.digits rest) ≡ scans place (digest number) rest

pub record GoesOn (rest : List ℕ) (digest : Digest) (onward : Onward) : Type 0 where
  pub within : onward.taken ≤ length rest
  pub same : (place : ℕ) → scans (place + onward.taken) onward.digest (drop onward.taken rest) ≡ scans place digest rest
