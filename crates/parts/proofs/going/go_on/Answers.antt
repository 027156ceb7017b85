-- `parts::going::go_on` meets its contract: each return is one of the cases of what a scan takes. Assumes nothing.
use mathlib.Core.Path.{sym, ap, ◌∙◌}
use native.Mathlib.Omega.{arith}
use Rattle.std.specs.Prelude.{Err}
use Rattle.sheets.specs.declared.Fault.TheVariants.{Malformed, TooLong}
use Rattle.sheets.specs.declared.Line.{Line}
use Rattle.parts.specs.Inside.{behind_of}
use Rattle.parts.proofs.Texts.{passes_most, not_wanted}
use Rattle.parts.proofs.Stretches.{stops_at_first, too_many, too_long, holds_all, end_too_long, line_ends}
use Rattle.parts.proofs.going.go_on.Goals as goal

pub returns-then-place-ge-MOST_BYTES : goal.returns-then-place-ge-MOST_BYTES
returns-then-place-ge-MOST_BYTES c =
    rw c.nothing.ensures (stops_at_first _ _ _ c.requires _ c.scan-line.ensures (Err TooLong) tt (λ byte. passes_most c.args.standing byte (omega arith)))

pub returns-then-place-held : goal.returns-then-place-held
returns-then-place-held c =
    rw c.nothing-then-place-held.ensures (stops_at_first _ _ _ c.requires _ c.scan-line.ensures (Err TooLong) tt (λ byte. passes_most c.args.standing byte (omega arith)))

pub returns-then-not-wants_line : goal.returns-then-not-wants_line
returns-then-not-wants_line c =
    let none = sym c.wants_line.ensures ∙ c.if-not-wants_line.true in
    rw c.nothing-then-not-wants_line.ensures (stops_at_first _ _ _ c.requires _ c.scan-line.ensures (Err (Malformed _)) tt (λ byte. not_wanted c.args.standing byte (omega arith) none))

pub returns-then-spare-room : goal.returns-then-spare-room
returns-then-spare-room c =
    rw c.nothing-then-spare-room.ensures
    (too_many _ _ _ c.requires _ c.scan-line.ensures (sym c.wants_line.ensures ∙ c.if-not-wants_line.false) (omega (arith, c.saturating_sub-spare.ensures)) (omega (arith, c.saturating_sub-spare.ensures)))

pub returns-then-room-text : goal.returns-then-room-text
returns-then-room-text c =
    rw c.nothing-then-room-text.ensures
    (too_long _ _ _ c.requires _ c.scan-line.ensures (sym c.wants_line.ensures ∙ c.if-not-wants_line.false) (omega arith) (grind (arith, c.saturating_sub-spare.ensures)))

pub returns-then-next-end : goal.returns-then-next-end
returns-then-next-end c =
    rw c.nothing-then-next-end.ensures
    (holds_all _ _ _ c.requires _ c.scan-line.ensures (sym c.wants_line.ensures ∙ c.if-not-wants_line.false) (omega arith) (grind (arith, c.saturating_sub-spare.ensures)) (omega arith) c.if-next-end.true)

pub returns-then-room-text-2 : goal.returns-then-room-text-2
returns-then-room-text-2 c =
    rw c.nothing-then-room-text-2.ensures
    (end_too_long _ _ _ c.requires _ c.scan-line.ensures (sym c.wants_line.ensures ∙ c.if-not-wants_line.false) (omega arith) (grind (arith, c.saturating_sub-spare.ensures)) (omega arith) c.if-next-end.false (omega arith))

pub returns : goal.returns
returns c =
    line_ends _ _ _ c.requires _ c.scan-line.ensures (sym c.wants_line.ensures ∙ c.if-not-wants_line.false) (omega arith) (grind (arith, c.saturating_sub-spare.ensures)) (omega arith) c.if-next-end.false (omega arith) _
    (c.behind.ensures ∙ ap (λ (met : Line). behind_of met c.args.standing.state_lines c.scan-line.result.next) c.ended_line-met.ensures)
