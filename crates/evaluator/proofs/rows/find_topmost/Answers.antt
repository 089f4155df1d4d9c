-- No place, or the row at the place.
use Rattle.std.proofs.Common.{rules, Some, None}
use Rattle.evaluator.proofs.Topmost.{topmost_at}
use Rattle.evaluator.proofs.rows.find_topmost.Goals as goal

pub returns-in_err-place : goal.returns-in_err-place
returns-in_err-place c = let none = topmost_at c.args.name c.args.rows.now None c.in_err-place.ensures.place in search rules

pub returns : goal.returns
returns c = let some = topmost_at c.args.name c.args.rows.now (Some c.in_ok-place.place) c.in_ok-place.ensures.place in search rules
