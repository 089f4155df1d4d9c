-- What a statement costs in steps. Assumes nothing.
use Rattle.std.specs.Prelude.{ℕ, suc, ◌+◌, ◌-◌, min, max, cond, ℤ, pos, negsuc, int_le}
use Rattle.procedure.specs.declared.node.Node.{Node}
use Rattle.checker.specs.declared.answer.Sheet.{Sheet}
use Rattle.checker.specs.Answer.{sheet}

-- how far hi lies above lo
abbrev pub above : ℤ → ℤ → ℕ
above (pos a) (pos b) = b - a
above (pos a) (negsuc b) = 0
above (negsuc a) (pos b) = b + suc a
above (negsuc a) (negsuc b) = a - b

-- how often a FOR goes through its body: hi - lo + 1, or 0 if lo is above hi
abbrev pub turns_of : Node → ℕ
turns_of x = cond (int_le x.lo x.hi) (suc (above x.lo x.hi)) 0

-- costs are counted exactly, or held just above the limit of 1,000,000,000 steps
abbrev pub exact : ℕ → ℕ
exact n = n

abbrev pub held : ℕ → ℕ
held n = min n 1000000001

-- the sheet of what is done in turn: costs add up, and of rows and frames the most counts
abbrev pub in_turn : (ℕ → ℕ) → Sheet → Sheet → Sheet
in_turn cost first rest =
    sheet (cost (first.ceiling + rest.ceiling)) (max first.rows rest.rows) (max first.frames rest.frames)
