-- What is proved of what is laid before a caller: replies that are equal leave the same number and the same values, and a refused state leaves zeros. Assumes nothing.
use mathlib.Core.Path.{◌≡◌, sym, ap, ap₂, ◌∙◌}
use mathlib.Core.List.{List, ◌∷◌, []}
use Prim.Native.Nat.{ℕ}
use Rattle.std.specs.Prelude.{Result, Option, Some, None}
use Rattle.refusals.specs.declared.Refusal.{Refusal}
use Rattle.replies.specs.declared.Answer.{Answer}
use Rattle.replies.specs.Figures.{figures_of}
use Rattle.replies.specs.declared.sides.SideAnswer.{SideAnswer}
use Rattle.replies.specs.Sides.{side_figures_of}
use Rattle.replies.proofs.Theorems.{refused_carries_zeros, refused_side_carries_zeros}
use Rattle.state.proofs.Theorems as state
use Rattle.sheets.specs.declared.State.{State}
use Rattle.reports.specs.Sheets.{Reported}
use Rattle.reports.specs.Sheets as reports
use Rattle.kept_reports.specs.Rows.{rows_of}
use Rattle.laying.specs.States.{five_of, Laid, StateAnswers}
use Rattle.laying.specs.Sides.{two_of, SideLaid}
use Rattle.laying.specs.Lines.{LineAnswered, AnswersBrought}
use Rattle.laying.specs.Reports.{ReportLaid}

-- One law for all calls: what two replies that are equal tell is equal.
pub told_alike : {Told Laid : Type 0} (number_of_lem : Told → ℕ) (Laid-of : Told → Laid) {reply other : Told} {number number' : ℕ} {laid laid' : Laid} → reply ≡ other → number ≡ number_of_lem reply → number' ≡ number_of_lem other → laid ≡ Laid-of reply → laid' ≡ Laid-of other → (number ≡ number') × (laid ≡ laid')
told_alike number_of_lem Laid-of same is_number is_number' is_laid is_laid' =
    (is_number ∙ ap number_of_lem same ∙ sym is_number', is_laid ∙ ap Laid-of same ∙ sym is_laid')

pub same_laid : {reply other : Result Answer Refusal} {number number' : ℕ} {figures figures' : List ℕ} → reply ≡ other → Laid reply number figures → Laid other number' figures' → (number ≡ number') × (figures ≡ figures')
same_laid same p q =
    told_alike (λ (r : Result Answer Refusal). (figures_of r).number) (λ (r : Result Answer Refusal). five_of (figures_of r)) same p.is_number q.is_number p.is_figures q.is_figures

pub same_side_laid : {reply other : Result SideAnswer Refusal} {number number' : ℕ} {figures figures' : List ℕ} → reply ≡ other → SideLaid reply number figures → SideLaid other number' figures' → (number ≡ number') × (figures ≡ figures')
same_side_laid same p q =
    told_alike (λ (r : Result SideAnswer Refusal). (side_figures_of r).number) (λ (r : Result SideAnswer Refusal). two_of (side_figures_of r)) same p.is_number q.is_number p.is_figures q.is_figures

-- a refused state's figures are zeros
pub refused_lays_zeros : {reply : Result Answer Refusal} {number : ℕ} {figures : List ℕ} → Laid reply number figures → (number ≡ 0 → ⊥) → figures ≡ 0 ∷ 0 ∷ 0 ∷ 0 ∷ 0 ∷ []
refused_lays_zeros {reply} laid refused =
    laid.is_figures ∙ ap five_of (refused_carries_zeros reply (λ answered. refused (laid.is_number ∙ answered)))

pub refused_side_lays_zeros : {reply : Result SideAnswer Refusal} {number : ℕ} {figures : List ℕ} → SideLaid reply number figures → (number ≡ 0 → ⊥) → figures ≡ 0 ∷ 0 ∷ []
refused_side_lays_zeros {reply} laid refused =
    laid.is_figures ∙ ap two_of (refused_side_carries_zeros reply (λ answered. refused (laid.is_number ∙ answered)))

module _ (fluid millikelvin pascals : ℕ) where
  pub state_determined : (number number' : ℕ) (figures figures' : List ℕ) → StateAnswers fluid millikelvin pascals number figures → StateAnswers fluid millikelvin pascals number' figures' → (number ≡ number') × (figures ≡ figures')
  state_determined number number' figures figures' p q =
      same_laid (state.reply_determined fluid millikelvin pascals p.reply q.reply p.replies q.replies) p.laid q.laid

-- a line that ended, or none
same_line : {state : State} {answer answer' : List ℕ} → LineAnswered state answer → LineAnswered state answer' → answer ≡ answer'
same_line {state} p q =
    let same = state_determined state.fluid state.millikelvin state.pascals p.number q.number p.figures q.figures p.answers q.answers in
    p.is_answer
    ∙ ap₂ (λ (n : ℕ) (l : List ℕ). state.fluid ∷ state.millikelvin ∷ state.pascals ∷ n ∷ l) same.0 same.1
    ∙ sym q.is_answer

pub same_brought : (brought : Option State) {answer answer' : List ℕ} → AnswersBrought brought answer → AnswersBrought brought answer' → answer ≡ answer'
same_brought (Some state) p q = same_line p q
same_brought None p q = p ∙ sym q

pub same_report_laid : {reply reply' : Reported} {number number' place place' : ℕ} {rows rows' : List (List ℕ)} → reply ≡ reply' → ReportLaid reply number rows place → ReportLaid reply' number' rows' place' → ((number ≡ number') × (rows ≡ rows')) × (place ≡ place')
same_report_laid same p q = (
  (
    p.is_number ∙ ap (λ (r : Reported). (reports.figures_of r).number) same ∙ sym q.is_number,
    p.is_rows ∙ ap (λ (r : Reported). rows_of (reports.figures_of r).report) same ∙ sym q.is_rows,
  ),
  p.is_place ∙ ap (λ (r : Reported). (reports.figures_of r).place) same ∙ sym q.is_place,
)
