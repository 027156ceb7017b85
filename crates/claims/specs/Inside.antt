-- What the private functions promise. Nothing public is stated by this file.
use Rattle.std.specs.Prelude.{◌≡◌, Result, Ok, Err}
use Rattle.refusals.specs.Checks.{FirstOf}
use Rattle.refusals.specs.Numbers.{number_of_refusal}
use Rattle.refusals.specs.declared.Refusal.{Refusal}
use Rattle.claims.specs.declared.reply.ClaimsRefusal.{ClaimsRefusal}
use Rattle.claims.specs.declared.reply.ClaimsRefusal.TheVariants.{LengthsDiffer}
use Rattle.claims.specs.Claims.{Claim, Stands, claim_checks}
use Rattle.claims.specs.Lists.{FiveLists, UnequalLengths, OneLength}

abbrev pub Judges : Claim → Result (Unit {0}) Refusal → Type 0
Judges claim (Ok done) = Stands claim
Judges claim (Err refusal) = FirstOf (claim_checks claim) (number_of_refusal refusal)

-- lists of one length are claims
abbrev pub Gathers : FiveLists → Result FiveLists ClaimsRefusal → Type 0
Gathers lists (Ok claims) = (claims ≡ lists) × OneLength lists
Gathers lists (Err refusal) = (refusal ≡ LengthsDiffer) × UnequalLengths lists
