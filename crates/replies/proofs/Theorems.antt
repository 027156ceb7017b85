-- Figures have one reply, a reply has one set of figures, and a refused one has zeros; the whole reply's and a side's. Assumes nothing.
use mathlib.Core.Path.{◌≡◌, refl, sym, ap, ap₂, ◌∙◌}
use Prim.Native.Nat.{ℕ, zero, suc}
use native.Mathlib.Omega.{arith}
use Rattle.refusals.proofs.Theorems.{refusal_of, refusal_of_number, number_determines_refusal, never_zero}
use Rattle.cubic.specs.Cubic.{ONE}
use Rattle.std.specs.Prelude.{Result, Ok, Err}
use Rattle.refusals.specs.declared.Refusal.{Refusal}
use Rattle.replies.specs.declared.Answer.{Answer}
use Rattle.replies.specs.declared.Answer.TheVariants.{One, Split}
use Rattle.replies.specs.declared.Figures.{Figures}
use Rattle.replies.specs.declared.sides.SideAnswer.{SideAnswer}
use Rattle.replies.specs.declared.sides.SideFigures.{SideFigures}
use Rattle.replies.specs.Figures.{number_of_kind, refused_with, figures_of}
use Rattle.replies.specs.Sides.{gas, dense, for_side, figures_for, SideOf, side_refused_with, side_figures_of}

-- the way back from figures to their reply
of_kind : (kind : ℕ) → Figures → Result Answer Refusal
of_kind zero figures = Err (refusal_of figures.number)
of_kind (suc zero) figures = Ok (One figures.gas_root figures.gas_density)
of_kind (suc (suc kind)) figures = Ok (Split figures.gas_root figures.dense_root figures.gas_density figures.dense_density)

reply_of : Figures → Result Answer Refusal
reply_of figures = of_kind figures.kind figures

reply_back : (reply : Result Answer Refusal) → reply_of (figures_of reply) ≡ reply
unfolding reply_of of_kind
reply_back (Ok (One root density)) = refl
reply_back (Ok (Split _ _ _ _)) = refl
reply_back (Err refusal) = ap Err (refusal_of_number refusal)

pub figures_determine_reply : (r s : Result Answer Refusal) → figures_of r ≡ figures_of s → r ≡ s
figures_determine_reply r s same = sym (reply_back r) ∙ ap reply_of same ∙ reply_back s

-- two figures of a reply that keep what `Figures::from` promises are equal
pub figures_determined : (reply : Result Answer Refusal) {f g : Figures} → f ≡ figures_of reply → g ≡ figures_of reply → f ≡ g
figures_determined reply p q = p ∙ sym q

-- a refused reply carries its number and zeros
pub refused_carries_zeros : (reply : Result Answer Refusal) → ((figures_of reply).number ≡ 0 → ⊥) → figures_of reply ≡ refused_with (figures_of reply).number
refused_carries_zeros (Ok (One root grams)) refused = absurd (refused refl)
refused_carries_zeros (Ok (Split _ _ _ _)) refused = absurd (refused refl)
refused_carries_zeros (Err refusal) refused = refl

-- ---- a side's reply
abbrev number_of : SideFigures → ℕ
number_of figures = figures.number

pub figures_determine_side_reply : (r s : Result SideAnswer Refusal) → side_figures_of r ≡ side_figures_of s → r ≡ s
figures_determine_side_reply (Ok answer) (Ok answer') same =
    ap₂ (λ (root density : ℕ). Ok (record { root = root; density = density })) (ap (λ (f : SideFigures). f.root) same) (ap (λ (f : SideFigures). f.density) same)
figures_determine_side_reply (Ok answer) (Err refusal) same = absurd (never_zero refusal (sym (ap number_of same)))
figures_determine_side_reply (Err refusal) (Ok answer) same = absurd (never_zero refusal (ap number_of same))
figures_determine_side_reply (Err refusal) (Err refusal') same =
    ap Err (number_determines_refusal refusal refusal' (ap number_of same))

pub side_figures_determined : (reply : Result SideAnswer Refusal) {f g : SideFigures} → f ≡ side_figures_of reply → g ≡ side_figures_of reply → f ≡ g
side_figures_determined reply p q = p ∙ sym q

pub refused_side_carries_zeros : (reply : Result SideAnswer Refusal) → ((side_figures_of reply).number ≡ 0 → ⊥) → side_figures_of reply ≡ side_refused_with (side_figures_of reply).number
refused_side_carries_zeros (Ok answer) refused = absurd (refused refl)
refused_side_carries_zeros (Err refusal) refused = refl

-- two figures that keep what `for_side` promises are equal
pub figure_for_side_determined : (side of_gas of_dense : ℕ) {figure other : ℕ} → figure ≡ for_side side of_gas of_dense → other ≡ for_side side of_gas of_dense → figure ≡ other
figure_for_side_determined side of_gas of_dense p q = p ∙ sym q

-- a ONE reply has the same for both sides
pub one_for_both_sides : (reply : Result Answer Refusal) → (figures_of reply).kind ≡ number_of_kind ONE → figures_for gas (figures_of reply) ≡ figures_for dense (figures_of reply)
one_for_both_sides (Ok (One root grams)) is_one = refl
one_for_both_sides (Ok (Split _ _ _ _)) is_one = absurd (omega arith)
one_for_both_sides (Err refusal) is_one = absurd (omega arith)

equal_for_both : (side figure : ℕ) → for_side side figure figure ≡ figure
equal_for_both zero figure = refl
equal_for_both (suc side) figure = refl

refused_for_side : (side refusal : ℕ) → side_refused_with refusal ≡ figures_for side (refused_with refusal)
refused_for_side side refusal = rw (equal_for_both side 0) refl

-- a side of every reply is the reply to a caller who names that side
pub side_shown : (side : ℕ) (reply : Result Answer Refusal) → (shown : Result SideAnswer Refusal) × (side_figures_of shown ≡ figures_for side (figures_of reply))
side_shown side (Ok (One root grams)) = (Ok (record { root = root; density = grams }), rw (equal_for_both side root, equal_for_both side grams) refl)
side_shown side (Ok (Split gas dense gas_density dense_density)) = (Ok (record { root = for_side side gas dense; density = for_side side gas_density dense_density }), refl)
side_shown side (Err refusal) = (Err refusal, refused_for_side side _)

-- where one whole reply is possible, a side is told one thing; what holds of the whole reply may be said otherwise; and a refused one has its sides
pub side_once : {side : ℕ} {Holds : Figures → Type 0} {told other : SideFigures} → ((f g : Figures) → Holds f → Holds g → f ≡ g) → SideOf side Holds told → SideOf side Holds other → told ≡ other
side_once {side} once p q = p.is_told ∙ ap (figures_for side) (once p.whole q.whole p.holds q.holds) ∙ sym q.is_told

pub side_as : {side : ℕ} {Holds Other : Figures → Type 0} {told : SideFigures} → ((whole : Figures) → Holds whole → Other whole) → SideOf side Holds told → SideOf side Other told
side_as so p = record { whole = p.whole; holds = so p.whole p.holds; is_told = p.is_told }

pub side_refused : (side refusal : ℕ) {Holds : Figures → Type 0} → Holds (refused_with refusal) → SideOf side Holds (side_refused_with refusal)
side_refused side refusal holds = record { whole = refused_with refusal; holds = holds; is_told = refused_for_side side refusal }
