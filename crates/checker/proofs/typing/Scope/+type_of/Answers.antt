-- What an operator gives is one level of the definition.
use Rattle.std.proofs.Common.{rules}
use Rattle.checker.proofs.Unrolled.{typed_unrolled}
use Rattle.checker.proofs.typing.Scope.+type_of.Goals as goal

pub returns-in_ok-operand-in-Unary : goal.returns-in_ok-operand-in-Unary
returns-in_ok-operand-in-Unary t c = search (rules, typed_unrolled)

pub returns-in_ok-right-in-Binary : goal.returns-in_ok-right-in-Binary
returns-in_ok-right-in-Binary t c = search (rules, typed_unrolled)
