-- Many bytes, one after another: what parts of them leave and answer, the whole does; and behind a fault nothing changes. Assumes nothing.
use mathlib.Core.Path.{◌≡◌, refl, sym, ap, ◌∙◌}
use mathlib.Core.List.{List, [], ◌∷◌, ◌++◌, append_assoc, append-nil}
use Prim.Native.Nat.{ℕ, suc}
use native.Mathlib.Numerals.{add-one}
use native.Mathlib.Omega.{arith}
use lib.ListN.{take, drop}
use lib.Seq.{take-add}
use Rattle.sheets.specs.declared.State.{State}
use Rattle.parts.specs.Bytes.{Reader, Outcome, quiet, takes_byte, then, taking}
use Rattle.std.specs.Prelude.{Ok, Err}

pub then_assoc : (one two three : Outcome) → then one (then two three) ≡ then (then one two) three
then_assoc one two three =
    ap (λ (l : List State). record { after = three.after; states = l }) (sym (append_assoc one.states two.states three.states))

pub both : (reader : Reader) (first second : List ℕ) → taking reader (first ++ second) ≡ then (taking reader first) (taking (taking reader first).after second)
unfolding taking
both reader [] second = refl
both reader (byte ∷ first) second =
    ap (then (takes_byte reader byte)) (both (takes_byte reader byte).after first second)
    ∙ then_assoc (takes_byte reader byte) (taking (takes_byte reader byte).after first) (taking (taking (takes_byte reader byte).after first).after second)

-- behind bytes that answer nothing, what follows is all there is
pub behind_quiet : (reader : Reader) {between : Reader} (first second : List ℕ) → taking reader first ≡ quiet between → taking reader (first ++ second) ≡ taking between second
behind_quiet reader first second is = both reader first second ∙ ap (λ (o : Outcome). then o (taking o.after second)) is

-- what stands, whatever comes
abbrev pub Stays : Reader → Type 0
Stays (Ok standing) = ⊥
Stays (Err fault) = Unit {0}

pub stays : (reader : Reader) → Stays reader → (bytes : List ℕ) → taking reader bytes ≡ quiet reader
unfolding taking
stays (Ok standing) never bytes = absurd never
stays (Err fault) is_fault [] = refl
stays (Err fault) is_fault (byte ∷ bytes) = stays (Err fault) is_fault bytes

-- a fault that bytes met is met by any that begin with them
pub met_stays : (reader : Reader) {fault : Reader} (first second : List ℕ) → Stays fault → taking reader first ≡ quiet fault → taking reader (first ++ second) ≡ quiet fault
met_stays reader {fault} first second is_fault is = behind_quiet reader first second is ∙ stays fault is_fault second

-- by the first byte, and what that leaves
pub first_byte : (reader : Reader) (byte : ℕ) (bytes : List ℕ) {outcome : Outcome} → takes_byte reader byte ≡ outcome → taking reader (byte ∷ bytes) ≡ then outcome (taking outcome.after bytes)
unfolding taking
first_byte reader byte bytes is = ap (λ (o : Outcome). then o (taking o.after bytes)) is

-- one byte
pub one_byte : (reader : Reader) (byte : ℕ) → taking reader (byte ∷ []) ≡ takes_byte reader byte
unfolding taking
one_byte reader byte = then_nothing (takes_byte reader byte)
  where
    then_nothing : (outcome : Outcome) → then outcome (quiet outcome.after) ≡ outcome
    then_nothing outcome = ap (λ (l : List State). record { after = outcome.after; states = l }) (append-nil outcome.states)

no_first : (one two : List State) → one ++ two ≡ [] → one ≡ []
no_first [] two none = refl
no_first (state ∷ one) two none = let never : ◌≡◌ {A = ℕ} 1 0 = cc in absurd (omega arith)

-- where bytes answer nothing, none of their beginnings does
pub quiet_before : (reader : Reader) (first second : List ℕ) → (taking reader (first ++ second)).states ≡ [] → (taking reader first).states ≡ []
quiet_before reader first second none =
    no_first (taking reader first).states (taking (taking reader first).after second).states (sym (ap (λ (o : Outcome). o.states) (both reader first second)) ∙ none)

pub quiet_but_last : (reader : Reader) (before : ℕ) (bytes : List ℕ) → (taking reader (take (suc before) bytes)).states ≡ [] → (taking reader (take before bytes)).states ≡ []
quiet_but_last reader before bytes none =
    quiet_before reader (take before bytes) (take 1 (drop before bytes))
    (ap (λ (l : List ℕ). (taking reader l).states) (sym (take-add before 1 bytes) ∙ ap (λ (n : ℕ). take n bytes) (add-one before)) ∙ none)
