-- docs/RULES.md, "The heat table": between whole kelvins the straight line between neighbours, rounded down.
use Rattle.std.specs.Prelude.{◌≡◌, ℕ, ◌+◌, ◌*◌, ◌≤◌, ◌<◌}
use Rattle.heat_table.specs.Entries.{Entry}

-- The straight line from the entry below to the entry above, past thousandths of the way along and ahead thousandths before its end, is a thousandth
-- of below * ahead + above * past: either end counts as much as the other is far. It is rounded down.
pub record OnLine (below above past heat : ℕ) : Type 0 where
  pub ahead : ℕ
  pub is_ahead : past + ahead ≡ 1000
  pub at_most : heat * 1000 ≤ below * ahead + above * past
  pub next_is_more : below * ahead + above * past < (heat + 1) * 1000

-- The heat capacity at a temperature. A line has both its ends, so a whole kelvin is on the line below it and on the one above, where there are
-- both. Either gives its entry, and so 1,000,000 mK has the last one (`at_whole_kelvins_the_entry`).
pub record HeatAt (millikelvin heat : ℕ) : Type 0 where
  pub kelvin : ℕ
  pub past : ℕ
  pub is_past : 1000 * kelvin + past ≡ millikelvin
  pub below : ℕ
  pub is_below : Entry kelvin below
  pub above : ℕ
  pub is_above : Entry (kelvin + 1) above
  pub on_line : OnLine below above past heat

-- it lies between the two entries, ends included, whichever of the two is larger
pub data Between (below above heat : ℕ) : Type 0 where
  rising : below ≤ heat → heat ≤ above → Between below above heat
  falling : above ≤ heat → heat ≤ below → Between below above heat
