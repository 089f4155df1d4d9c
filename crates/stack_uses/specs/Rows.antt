-- Rows of which the newest of a name counts. Assumes nothing.
use Rattle.std.specs.Prelude.{ℕ, List, ℤ, Some, None, Err, Option, Result}
use Rattle.stack.specs.declared.Absent.{Absent}
use Rattle.stack.specs.Lookup.{place_of}
use Rattle.stack.specs.Tables.{Table, newest_first}
use Rattle.stack.specs.Acts.{absent, item, top, replace, cut}
use Rattle.stack_uses.specs.declared.rows.Row.{Row}

-- the place of the topmost row of a name, counted from the bottom
abbrev pub topmost : ℕ → List Row → Option ℕ
topmost = place_of (λ row. row.name)

abbrev pub revalued : ℤ → ℕ → Option Row → Table Row → Result (Table Row) Absent
revalued value i None t = Err absent
revalued value i (Some row) t = replace i (record { name = row.name; constant = row.constant; value = value }) t

abbrev pub revalued_at : ℤ → Option ℕ → Table Row → Result (Table Row) Absent
revalued_at value None t = Err absent
revalued_at value (Some i) t = revalued value i (item i t) t

abbrev pub assigned : ℕ → ℤ → Table Row → Result (Table Row) Absent
assigned name value t = revalued_at value (topmost name (newest_first t)) t

abbrev pub left_at : Option ℕ → Table Row → Table Row
left_at None rows = rows
left_at (Some held) rows = cut held rows

abbrev pub left : Table ℕ → Table Row → Table Row
left regions rows = left_at (top regions) rows
