-- What passes the check. Assumes nothing.
use Rattle.std.specs.Prelude.{◌≡◌, ℕ, ◌≤◌}
use Rattle.procedure.specs.Formed.{Formed}
use Rattle.procedure.specs.Table.{Table}
use Rattle.checker.specs.declared.answer.Sheet.{Sheet}
use Rattle.checker.specs.Allowed.{Allowed}
use Rattle.checker.specs.Measure.{sheet_of, Limited}

-- With a working table of w places t passes and s is its sheet: t has the form of a procedure, which is allowed and within the
-- limits, and s says what it takes.
abbrev pub Passes : Table → ℕ → Sheet → Type 0
Passes t w s = (256 ≤ w) × Formed t × ((p : Allowed t) × Limited p × (s ≡ sheet_of p))
