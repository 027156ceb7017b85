-- What comes next from a cursor, and what is told of it. Assumes nothing.
use mathlib.Core.Path.{◌≡◌, refl, sym, ap, subst, ◌∙◌}
use mathlib.Core.Logic.{inl, inr}
use mathlib.Core.List.{List, [], ◌∷◌}
use Prim.Native.Nat.{ℕ, ◌≤◌}
use native.Mathlib.Omega.{arith}
use lib.ListN.{length}
use Rattle.refusals.specs.Checks.{◌if◌, refuses, answers}
use Rattle.refusals.proofs.Theorems.{tells_once}
use Rattle.sheets.specs.declared.Cursor.{Cursor}
use Rattle.sheets.specs.Reading.{Next, Comes}
use Rattle.sheets.specs.declared.Fault.TheVariants as Fault
use Rattle.std.specs.Prelude.{Ok, Err}
use Rattle.sheets.proofs.Walks.{comes_determined, never_too_long}
use Rattle.readings.specs.Figures.{NextFigures, next_refused, next_figures}
use Rattle.readings.specs.Readers.{most_bytes, TooLong, Came, TellsNext}
use Rattle.readings.proofs.Figures.{same_next}
use Rattle.readings.proofs.Answers.{not_long}

pub record NextIn (sections : ℕ) (bytes : List ℕ) (cursor : Cursor) (next : Next) : Type 0 where
  pub fits : length bytes ≤ most_bytes
  pub comes : Comes sections bytes cursor next

-- what each case of the answer is told for
abbrev pub CameAs : (sections : ℕ) (bytes : List ℕ) (cursor : Cursor) → Next → Type 0
CameAs sections bytes cursor (Ok told) = NextIn sections bytes cursor (Ok told)
CameAs sections bytes cursor (Err (Fault.Malformed place)) = NextIn sections bytes cursor (Err (Fault.Malformed place))
CameAs sections bytes cursor (Err Fault.TooLong) = TooLong bytes

module _ {sections : ℕ} (bytes : List ℕ) (cursor : Cursor) where
  pub long_next : TooLong bytes → TellsNext sections bytes cursor (next_figures (Err Fault.TooLong))
  long_next long = refuses 7 (inl (long, refl)) refl

  pub told_next : (next : Next) → length bytes ≤ most_bytes → Comes sections bytes cursor next → TellsNext sections bytes cursor (next_figures next)
  told_next next fits comes = answers (not_long bytes fits, tt) (record { next = next; comes = comes; is_told = refl })

  as_came : (next : Next) → length bytes ≤ most_bytes → Comes sections bytes cursor next → CameAs sections bytes cursor next
  as_came (Ok told) fits comes = record { fits = fits; comes = comes }
  as_came (Err (Fault.Malformed place)) fits comes = record { fits = fits; comes = comes }
  as_came (Err Fault.TooLong) fits comes = absurd (never_too_long bytes comes)

  pub next_came : {told : Next} (next : Next) → told ≡ next → TellsNext sections bytes cursor (next_figures told) → CameAs sections bytes cursor next
  next_came {told} next same (refuses refusal (inl long) is_told) =
      subst (CameAs sections bytes cursor) (same_next (Err Fault.TooLong) told (sym (is_told ∙ ap (λ (n : ℕ). next_refused n 0) long.1)) ∙ same) long.0
  next_came {told} next same (refuses refusal (inr later) is_told) = absurd later.1
  next_came {told} next same (answers none came) =
      let short = none.0 in
      subst (CameAs sections bytes cursor) (same_next came.next told (sym came.is_told) ∙ same) (as_came came.next (omega arith) came.comes)

  came_once : (figures other : NextFigures) → Came sections bytes cursor figures → Came sections bytes cursor other → figures ≡ other
  came_once figures other one two = one.is_told ∙ ap next_figures (comes_determined bytes one.comes two.comes) ∙ sym two.is_told

  pub next_once : (next next' : Next) → TellsNext sections bytes cursor (next_figures next) → TellsNext sections bytes cursor (next_figures next') → next ≡ next'
  next_once next next' told told' =
      same_next next next' (tells_once (7 if TooLong bytes ∷ []) (λ refusal figures other one two. one ∙ sym two) came_once (next_figures next) (next_figures next') told told')
