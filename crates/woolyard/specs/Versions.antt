-- docs/RULES.md, "What C gets": the number of what C sees of the archive. It goes up by one with each landing that changes that.
use Rattle.std.specs.Prelude.{ℕ}

abbrev pub abi : ℕ
abi = 1
