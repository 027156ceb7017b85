-- How large the text of a sheet is at most. Nothing is printed by this file.
use Rattle.std.specs.Prelude.{ℕ, ◌*◌}
use Rattle.sheets.specs.Grammar.{all_sections, most_states}
use Rattle.texts.specs.Buffer.{longest_line}

-- as many lines as a sheet may have
abbrev pub longest_text : ℕ
longest_text = longest_line * (most_states * all_sections)
