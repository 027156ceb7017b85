-- What is told in each of the four cases; and that lists to which neither 8 nor 9 applies make sections. Assumes nothing.
use mathlib.Core.Path.{◌≡◌, refl, sym, ap}
use mathlib.Core.Logic.{◌⊎◌, inl, inr, ⊎_elim}
use mathlib.Core.List.{List, [], ◌∷◌}
use Prim.Native.Nat.{ℕ, ◌≤◌, ◌<◌}
use native.Mathlib.Omega.{arith}
use native.Mathlib.Decide.{ℕ_discrete}
use lib.ListN.{length}
use Rattle.std.specs.Prelude.{Ok, Err}
use Rattle.refusals.specs.Checks.{NoneOf, refuses, answers}
use Rattle.refusals.proofs.Theorems.{zero_is_answered}
use Rattle.sheets.specs.Grammar.{most_states, sheet, EachWritable, EachSection}
use Rattle.readings.specs.Readers.{most_bytes}
use Rattle.measures.specs.declared.reply.WriteRefusal.TheVariants.{ListsUnfit, TooManyDigits, NoRoom}
use Rattle.measures.specs.declared.reply.WriteFigures.{WriteFigures}
use Rattle.measures.specs.Columns.{Columns, paired, lists_of}
use Rattle.measures.specs.Checks as checks
use Rattle.measures.specs.Checks.{Some, Unfit, HasTooManyDigits, write_checks}
use Rattle.measures.specs.Replies.{figures_of, Told}
use Rattle.measures.specs.Inside.{MakesSection, EachMakesSection}
use Rattle.measures.proofs.Sections.{paired_long}

module _ (fluids : List Columns) {room : ℕ} where
  pub tells_unfit : Some Unfit fluids → Told fluids room (figures_of (Err ListsUnfit))
  tells_unfit unfit = refuses 8 (inl (unfit, refl)) refl

  module _ (fit : Some Unfit fluids → ⊥) where
    pub tells_digits : Some HasTooManyDigits fluids → Told fluids room (figures_of (Err TooManyDigits))
    tells_digits many = refuses 9 (inr (fit, inl (many, refl))) refl

    module _ (few : Some HasTooManyDigits fluids → ⊥) {long : ℕ} (is_length : long ≡ length (sheet (lists_of fluids))) where
      pub tells_no_room : (room < long) ⊎ (most_bytes < long) → Told fluids room (figures_of (Err NoRoom))
      tells_no_room no_room = refuses 10 (inr (fit, inr (few, inl (rw is_length at no_room, refl)))) refl

      pub tells_length : long ≤ room → long ≤ most_bytes → Told fluids room (figures_of (Ok long))
      tells_length has_room short =
          answers (fit, (few, (⊎_elim (λ no_room. omega arith) (λ too_long. omega arith), tt))) (ap (λ (n : ℕ). record { number = 0; length = n }) is_length)

-- a fluid's lists
each_writable : (millikelvin pascals : List ℕ) → (Some checks.TooManyDigits millikelvin → ⊥) → (Some checks.TooManyDigits pascals → ⊥) → EachWritable (paired millikelvin pascals)
each_writable [] pascals few_first few_second = tt
each_writable (temperature ∷ millikelvin) [] few_first few_second = tt
each_writable (temperature ∷ millikelvin) (pressure ∷ pascals) few_first few_second =
    let first : checks.TooManyDigits temperature → ⊥ = λ many. few_first (inl many) in
    let second : checks.TooManyDigits pressure → ⊥ = λ many. few_second (inl many) in
    (record { temperature = omega arith; pressure = omega arith }, each_writable millikelvin pascals (λ some. few_first (inr some)) (λ some. few_second (inr some)))

makes_section : (millikelvin pascals : List ℕ) → (Unfit (record { millikelvin = millikelvin; pascals = pascals }) → ⊥) → (HasTooManyDigits (record { millikelvin = millikelvin; pascals = pascals }) → ⊥) → MakesSection millikelvin pascals
makes_section millikelvin pascals fit few =
    let not_many : most_states < length millikelvin → ⊥ = λ many. fit (inl many) in
    record {
      few = omega arith;
      equal = equal_or_not (ℕ_discrete (length millikelvin) (length pascals));
      writable = each_writable millikelvin pascals (λ some. few (inl some)) (λ some. few (inr some));
    }
  where
    equal_or_not : Dec (length millikelvin ≡ length pascals) → length pascals ≡ length millikelvin
    equal_or_not (yes same) = sym same
    equal_or_not (no unequal) = absurd (fit (inr (inr unequal)))

-- and those of all fluids
pub makes_sections : (fluids : List Columns) → (Some Unfit fluids → ⊥) → (Some HasTooManyDigits fluids → ⊥) → EachMakesSection fluids
makes_sections [] fit few = tt
makes_sections (columns ∷ fluids) fit few = (
  makes_section columns.millikelvin columns.pascals (λ unfit. fit (inl unfit)) (λ many. few (inl many)),
  makes_sections fluids (λ some. fit (inr some)) (λ some. few (inr some)),
)

pub each_section : (fluids : List Columns) → EachMakesSection fluids → EachSection (lists_of fluids)
each_section [] sections = tt
each_section (columns ∷ fluids) sections = (
  record {
    count = omega (arith, sections.0.few, paired_long columns.millikelvin columns.pascals sections.0.equal);
    states = sections.0.writable;
  },
  each_section fluids sections.1,
)

-- a length is told of lists to which no check applies
pub record Passes (fluids : List Columns) (room long : ℕ) : Type 0 where
  pub none : NoneOf (write_checks fluids room)
  pub is_length : long ≡ length (sheet (lists_of fluids))
  pub sections : EachMakesSection fluids
  pub has_room : length (sheet (lists_of fluids)) ≤ room

abbrev pub number_in : WriteFigures → ℕ
number_in figures = figures.number

abbrev pub length_in : WriteFigures → ℕ
length_in figures = figures.length

module _ (fluids : List Columns) where
  pub told_length : {room long : ℕ} → Told fluids room (figures_of (Ok long)) → Passes fluids room long
  told_length {room} {long} told =
      let passed = zero_is_answered number_in (write_checks fluids room) refl (λ refusal is_told. ap number_in is_told) refl told in
      let not_small : room < length (sheet (lists_of fluids)) → ⊥ = λ small. passed.0.1.1.0 (inl small) in
      record {
        none = passed.0;
        is_length = ap length_in passed.1;
        sections = makes_sections fluids passed.0.0 passed.0.1.0;
        has_room = omega arith;
      }
