-- What a call came to, by what std tells of it. Assumes nothing.
use mathlib.Core.Path.{◌≡◌, refl, sym, ◌∙◌}
use mathlib.Core.Bool.{true, false, cond, true≢false}
use Prim.Native.Nat.{ℕ, ◌≤◌, ◌<◌, min}
use native.Mathlib.Omega.{arith}
use native.Mathlib.Decide.{dec_le}
use lib.Dec.{ltb}
use lib.IntN.{pos, negsuc}
use borrow.Author.Tests.{ne_eqb}
use Rattle.std.proofs.lemmas.Bool.{cond_above, cond_below}
use Rattle.std.specs.Prelude.{Result, Ok, Err}
use Rattle.std.specs.IoError.{error_kind}
use Rattle.std.specs.declared.io.Error.{Error}
use Rattle.std.specs.declared.io.ErrorKind.{ErrorKind}
use Rattle.streams.specs.declared.Call.{Call}
use Rattle.streams.specs.Streams.{call_of, CameTo}

never : {A : Type 0} → true ≡ false → A
never same = absurd (true≢false same)

nothing : (most : ℕ) → call_of (pos 0) false most ≡ Call.Nothing
unfolding call_of
nothing most = refl

counted_call : (count most : ℕ) → (count ≡ 0 → ⊥) → call_of (pos count) false most ≡ cond (ltb most count) (Call.Bytes most) (Call.Bytes count)
unfolding call_of
counted_call count most some = simp (ne_eqb count 0 some)

least : (count most : ℕ) → cond (ltb most count) (Call.Bytes most) (Call.Bytes count) ≡ Call.Bytes (min count most)
least count most = by_order (dec_le count most)
  where
    by_order : Dec (count ≤ most) → cond (ltb most count) (Call.Bytes most) (Call.Bytes count) ≡ Call.Bytes (min count most)
    by_order (yes fewer) = let is : min count most ≡ count = omega arith in rw is (sym (cond_above most count _ _ _ fewer refl))
    by_order (no over) = let more : most < count = omega arith in let is : min count most ≡ most = omega arith in rw is (sym (cond_below most count _ _ more))

interrupted_call : (most : ℕ) → call_of (negsuc 0) true most ≡ Call.Interrupted
unfolding call_of
interrupted_call most = refl

failed_call : (most : ℕ) → call_of (negsuc 0) false most ≡ Call.Failed
unfolding call_of
failed_call most = refl

module _ {answer : Result ℕ Error} (most : ℕ) where
  of_count : {count : ℕ} {call : Call} → answer ≡ Ok count → call ≡ call_of (pos count) false most → CameTo answer most call
  of_count is came = rw is (false, (λ told. never (sym told), λ none. absurd none), came)

  pub came_to_nothing : {count : ℕ} → answer ≡ Ok count → count ≡ 0 → CameTo answer most Call.Nothing
  came_to_nothing is none = of_count is (rw none (sym (nothing most)))

  pub came_to_bytes : {count moved : ℕ} → answer ≡ Ok count → (count ≡ 0 → ⊥) → moved ≡ min count most → CameTo answer most (Call.Bytes moved)
  came_to_bytes {count} is some moves = of_count is (rw moves (sym (counted_call count most some ∙ least count most)))

  pub came_to_interrupted : {why : Error} → answer ≡ Err why → error_kind why ≡ ErrorKind.Interrupted → CameTo answer most Call.Interrupted
  came_to_interrupted is signal = rw is (true, (λ told. signal, λ told. refl), sym (interrupted_call most))

  pub came_to_failed : {why : Error} → answer ≡ Err why → (error_kind why ≡ ErrorKind.Interrupted → ⊥) → CameTo answer most Call.Failed
  came_to_failed is other = rw is (false, (λ told. never (sym told), λ told. absurd (other told)), sym (failed_call most))
