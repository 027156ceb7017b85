-- docs/RULES.md, "Claims": what comes back of a list of claims, and when: 8 before all, then the first claim that is refused, by its number in the
-- list, or that all stand.
use Rattle.std.specs.Prelude.{◌≡◌, List, [], ◌∷◌, ℕ, ◌<◌, Result, Ok, Err}
use Rattle.refusals.specs.Checks.{Check, ◌if◌, FirstOf, Tells}
use Rattle.refusals.specs.Numbers.{number_of_refusal}
use Rattle.claims.specs.declared.reply.ClaimsRefusal.{ClaimsRefusal}
use Rattle.claims.specs.declared.reply.ClaimsFigures.{ClaimsFigures}
use Rattle.claims.specs.Claims.{claim_checks}
use Rattle.claims.specs.Lists.{FiveLists, count, UnequalLengths, claim_at, StandBefore}

abbrev pub answered : ClaimsFigures
answered = record { number = 0; claim = 0 }

abbrev pub refused_with : (refusal claim : ℕ) → ClaimsFigures
refused_with refusal claim = record { number = refusal; claim = claim }

abbrev pub figures_of : Result (Unit {0}) ClaimsRefusal → ClaimsFigures
figures_of (Ok done) = answered
figures_of (Err (ClaimsRefusal.Claim claim refusal)) = refused_with (number_of_refusal refusal) claim
figures_of (Err ClaimsRefusal.LengthsDiffer) = refused_with 8 0

-- this refusal is the first that applies to this claim, and every claim before it stands; of those behind it nothing is said
pub record FirstRefused (lists : FiveLists) (claims claim refusal : ℕ) : Type 0 where
  pub within : claim < claims
  pub before : StandBefore lists claim
  pub is_first : FirstOf (claim_checks (claim_at lists claim)) refusal

-- what is told of the first so many claims
pub data Checked (lists : FiveLists) (claims : ℕ) (figures : ClaimsFigures) : Type 0 where
  all_stand : StandBefore lists claims → figures ≡ answered → Checked lists claims figures
  one_refused : (claim refusal : ℕ) → FirstRefused lists claims claim refusal → figures ≡ refused_with refusal claim → Checked lists claims figures

abbrev pub length_checks : FiveLists → List Check
length_checks lists = 8 if UnequalLengths lists ∷ []

-- lists of unequal lengths have no claim to name
abbrev pub NumberAndZero : (refusal : ℕ) → ClaimsFigures → Type 0
NumberAndZero refusal figures = figures ≡ refused_with refusal 0

abbrev pub Replies : FiveLists → ClaimsFigures → Type 0
Replies lists = Tells (length_checks lists) NumberAndZero (Checked lists (count lists))
