-- docs/RULES.md, "The report", of a sheet that arrives in parts: what a part does to it, for any reader and any report at all, and what is said of a
-- sheet that is over.
use Rattle.std.specs.Prelude.{◌≡◌, List, [], ◌∷◌, ℕ, Ok, Err}
use Rattle.replies.specs.declared.Figures.{Figures}
use Rattle.state.specs.Replies.{Replies}
use Rattle.sheets.specs.declared.State.{State}
use Rattle.readings.specs.Figures.{Reading}
use Rattle.parts.specs.Bytes as parts
use Rattle.parts.specs.Takes.{over}
use Rattle.tallies.specs.declared.Report.{Report}
use Rattle.tallies.specs.Steps.{plus, adds_to, empty_report}
use Rattle.reports.specs.declared.Running.{Running}
use Rattle.reports.specs.declared.Reporting.{Reporting}
use Rattle.reports.specs.Sheets.{Reported}

-- Before a state line stand the state lines so far, its own count line, and one for each section before its own; it is the next one.
abbrev pub line_of : (state_lines fluid : ℕ) → ℕ
line_of state_lines fluid = plus (plus state_lines fluid) 2

-- one state line more, with the reply to it
abbrev pub adds : Running → State → Figures → Running
adds running state figures =
    record {
      state_lines = plus running.state_lines 1;
      report = adds_to running.report state.fluid (record { line = line_of running.state_lines state.fluid; figures = figures });
    }

pub record AddsOne (before : Running) (state : State) (after : Running) : Type 0 where
  pub figures : Figures
  pub replies : Replies state.fluid state.millikelvin state.pascals figures
  pub is_after : after ≡ adds before state figures

-- state lines, one after another
abbrev pub AddsAll : List State → (before after : Running) → Type 0
AddsAll [] before after = after ≡ before
AddsAll (state ∷ states) before after = (between : Running) × AddsOne before state between × AddsAll states between after

-- all bytes of a part are taken, and the states that they bring are added
pub record TakesPart (before : Reporting) (part : List ℕ) (after : Reporting) : Type 0 where
  pub is_reader : after.reader ≡ (parts.taking before.reader part).after
  pub adds_all : AddsAll (parts.taking before.reader part).states before.running after.running

-- any parts, one after another
abbrev pub TakesAll : (before : Reporting) (parts : List (List ℕ)) (after : Reporting) → Type 0
TakesAll before [] after = after ≡ before
TakesAll before (part ∷ parts) after = (between : Reporting) × TakesPart before part between × TakesAll between parts after

-- before the first byte
abbrev pub nothing_yet : Running
nothing_yet = record { state_lines = 0; report = empty_report }

abbrev pub at_start : Reporting
at_start = record { reader = parts.at_start; running = nothing_yet }

-- what is said of a sheet is said of its report
abbrev pub said_of : Reading → Report → Reported
said_of (Ok count) report = Ok report
said_of (Err fault) report = Err fault

abbrev pub over_here : Reporting → Reported
over_here reporting = said_of (over reporting.reader) reporting.running.report
