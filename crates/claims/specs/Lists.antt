-- docs/RULES.md, "Claims": a list of claims, which comes as five lists of numbers.
use Rattle.std.specs.Prelude.{◌≡◌, ◌⊎◌, List, ℕ, ◌<◌, length, get_or}
use Rattle.claims.specs.Claims.{Claim, claim_of, Stands}

pub record FiveLists : Type 0 where
  pub fluids : List ℕ
  pub millikelvin : List ℕ
  pub pascals : List ℕ
  pub sides : List ℕ
  pub roots : List ℕ

abbrev pub lists_of : (fluids millikelvin pascals sides roots : List ℕ) → FiveLists
lists_of fluids millikelvin pascals sides roots =
    record { fluids = fluids; millikelvin = millikelvin; pascals = pascals; sides = sides; roots = roots }

-- how many claims there are: as many as the first list has numbers
abbrev pub count : FiveLists → ℕ
count lists = length lists.fluids

-- one of the others has not as many
abbrev pub UnequalLengths : FiveLists → Type 0
UnequalLengths lists =
    (length lists.millikelvin ≡ count lists → ⊥)
    ⊎ (length lists.pascals ≡ count lists → ⊥)
    ⊎ (length lists.sides ≡ count lists → ⊥)
    ⊎ (length lists.roots ≡ count lists → ⊥)

-- each of them has
pub record OneLength (lists : FiveLists) : Type 0 where
  pub of_millikelvin : length lists.millikelvin ≡ count lists
  pub of_pascals : length lists.pascals ≡ count lists
  pub of_sides : length lists.sides ≡ count lists
  pub of_roots : length lists.roots ≡ count lists

-- claim k, counted from 0, has number k of each list
abbrev pub claim_at : FiveLists → (k : ℕ) → Claim
claim_at lists k =
    claim_of (get_or lists.fluids k 0) (get_or lists.millikelvin k 0) (get_or lists.pascals k 0) (get_or lists.sides k 0) (get_or lists.roots k 0)

-- every claim before claim k stands
pub record StandBefore (lists : FiveLists) (k : ℕ) : Type 0 where
  pub stands : (earlier : ℕ) → earlier < k → Stands (claim_at lists earlier)
