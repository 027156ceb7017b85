-- A list of claims: what is told of the first so many, one claim more at a time; that it is one thing; that lengths are all equal or are not; and what is told
-- of all claims. Assumes nothing.
use mathlib.Core.Path.{◌≡◌, refl, sym, ◌∙◌}
use mathlib.Core.Logic.{◌⊎◌, inl, inr}
use mathlib.Core.List.{List}
use Prim.Native.Nat.{ℕ, zero, suc, ◌+◌, ◌<◌}
use native.Mathlib.Numerals.{add-one}
use native.Mathlib.Omega.{arith}
use native.Mathlib.Decide.{ℕ_discrete, dec_lt}
use lib.ListN.{length}
use Rattle.std.specs.Prelude.{Result, Ok, Err}
use Rattle.refusals.specs.declared.Refusal.{Refusal}
use Rattle.refusals.specs.Checks.{refuses, answers}
use Rattle.refusals.proofs.Theorems.{first_once}
use Rattle.claims.specs.declared.reply.ClaimsRefusal.{ClaimsRefusal}
use Rattle.claims.specs.declared.reply.ClaimsFigures.{ClaimsFigures}
use Rattle.claims.specs.Claims.{Stands, claim_checks}
use Rattle.claims.specs.Lists.{FiveLists, count, UnequalLengths, OneLength, claim_at, StandBefore}
use Rattle.claims.specs.Replies.{refused_with, figures_of, FirstRefused, Checked, all_stand, one_refused, Replies}
use Rattle.claims.specs.Inside.{Judges}
use Rattle.claims.proofs.Verdicts.{never_both, every_claim_has_a_verdict}

module _ {lists : FiveLists} where
  pub none_before : StandBefore lists 0
  none_before = record { stands = λ earlier below. absurd (omega arith) }

  pub one_more : {claim : ℕ} → StandBefore lists claim → Stands (claim_at lists claim) → StandBefore lists (claim + 1)
  one_more {claim} before is_standing = record { stands = λ earlier below. by_place earlier below (ℕ_discrete earlier claim) }
    where
      by_place : (earlier : ℕ) → earlier < claim + 1 → Dec (earlier ≡ claim) → Stands (claim_at lists earlier)
      by_place earlier below (yes same) = rw same is_standing
      by_place earlier below (no f) = before.stands earlier (omega arith)

  -- a claim that is refused is the first that is
  refused_after : {claims claim refusal other refusal' : ℕ} → FirstRefused lists claims claim refusal → FirstRefused lists claims other refusal' → other < claim → ⊥
  refused_after first first' below = never_both (first.before.stands _ below) first'.is_first

  refused_once : {claims claim refusal other refusal' : ℕ} → FirstRefused lists claims claim refusal → FirstRefused lists claims other refusal' → refused_with refusal claim ≡ refused_with refusal' other
  refused_once {claim = claim} {refusal} {other} {refusal'} first first' = by_places (dec_lt other claim) (dec_lt claim other)
    where
      by_places : Dec (other < claim) → Dec (claim < other) → refused_with refusal claim ≡ refused_with refusal' other
      by_places (yes below) above = absurd (refused_after first first' below)
      by_places (no f) (yes above) = absurd (refused_after first' first above)
      by_places (no f) (no g) =
          let same : other ≡ claim = omega arith in
          let same_refusal : refusal ≡ refusal' = first_once (claim_checks (claim_at lists claim)) refusal refusal' first.is_first (rw same at first'.is_first) in
          rw (same, same_refusal) refl

  pub checked_once : {claims : ℕ} (figures other : ClaimsFigures) → Checked lists claims figures → Checked lists claims other → figures ≡ other
  checked_once figures other (all_stand stand is_answered) (all_stand stand' is_answered') = is_answered ∙ sym is_answered'
  checked_once figures other (all_stand stand is_answered) (one_refused claim refusal first is_refused) = absurd (never_both (stand.stands claim first.within) first.is_first)
  checked_once figures other (one_refused claim refusal first is_refused) (all_stand stand is_answered) = absurd (never_both (stand.stands claim first.within) first.is_first)
  checked_once figures other (one_refused claim refusal first is_refused) (one_refused claim' refusal' first' is_refused') = is_refused ∙ refused_once first first' ∙ sym is_refused'

-- whatever the numbers are, the first so many claims are told something
pub checked : (lists : FiveLists) (claims : ℕ) → (reply : Result (Unit {0}) ClaimsRefusal) × Checked lists claims (figures_of reply)
checked lists zero = (Ok tt, all_stand none_before refl)
checked lists (suc claims) =
    let so_far = checked lists claims in
    let last = every_claim_has_a_verdict (claim_at lists claims) in
    with_last so_far.0 so_far.1 last.0 last.1
  where
    with_last : (reply : Result (Unit {0}) ClaimsRefusal) → Checked lists claims (figures_of reply) → (verdict : Result (Unit {0}) Refusal) → Judges (claim_at lists claims) verdict → (next : Result (Unit {0}) ClaimsRefusal) × Checked lists (suc claims) (figures_of next)
    with_last reply (all_stand stand is_answered) (Ok done) stands = (Ok tt, all_stand (rw (add-one claims) at (one_more stand stands)) refl)
    with_last reply (all_stand stand is_answered) (Err refusal) is_first =
        (Err (ClaimsRefusal.Claim claims refusal), one_refused claims _ (record { within = omega arith; before = stand; is_first = is_first }) refl)
    with_last reply (one_refused claim refusal first is_refused) verdict judges =
        (reply, one_refused claim refusal (record { within = omega (arith, first.within); before = first.before; is_first = first.is_first }) is_refused)

-- ---- lengths
module _ {lists : FiveLists} where
  pub one_length_is_not_unequal : OneLength lists → UnequalLengths lists → ⊥
  one_length_is_not_unequal one (inl other) = other one.of_millikelvin
  one_length_is_not_unequal one (inr (inl other)) = other one.of_pascals
  one_length_is_not_unequal one (inr (inr (inl other))) = other one.of_sides
  one_length_is_not_unequal one (inr (inr (inr other))) = other one.of_roots

pub one_length_or_not : (lists : FiveLists) → OneLength lists ⊎ UnequalLengths lists
one_length_or_not lists = by_tests (same lists.millikelvin) (same lists.pascals) (same lists.sides) (same lists.roots)
  where
    same : (list : List ℕ) → Dec (length list ≡ count lists)
    same list = ℕ_discrete (length list) (count lists)

    by_tests : Dec (length lists.millikelvin ≡ count lists) → Dec (length lists.pascals ≡ count lists) → Dec (length lists.sides ≡ count lists) → Dec (length lists.roots ≡ count lists) → OneLength lists ⊎ UnequalLengths lists
    by_tests (yes p) (yes q) (yes r) (yes s) = inl (record { of_millikelvin = p; of_pascals = q; of_sides = r; of_roots = s })
    by_tests (yes p) (yes q) (yes r) (no f) = inr (inr (inr (inr f)))
    by_tests (yes p) (yes q) (no f) other = inr (inr (inr (inl f)))
    by_tests (yes p) (no f) other other' = inr (inr (inl f))
    by_tests (no f) other other' other'' = inr (inl f)

-- ---- what is told of all claims
module _ {lists : FiveLists} where
  pub tells_unequal : UnequalLengths lists → Replies lists (figures_of (Err ClaimsRefusal.LengthsDiffer))
  tells_unequal unequal = refuses 8 (inl (unequal, refl)) refl

  pub tells_checked : {figures : ClaimsFigures} → OneLength lists → Checked lists (count lists) figures → Replies lists figures
  tells_checked one told = answers (one_length_is_not_unequal one, tt) told
