-- To hold a number leaves it in or out of the range.
use Rattle.std.proofs.Common.{rules}
use Rattle.files.specs.Number.{number_written}
use Rattle.files.proofs.Decimal.{within_held}
use Rattle.files.proofs.number.read_number.Goals as goal

pub returns-then-contains : goal.returns-then-contains
returns-then-contains c = search (rules, within_held c.args.low c.args.high (number_written c.args.word.now) (search rules) (search rules))

pub returns-else-contains : goal.returns-else-contains
returns-else-contains c = search (rules, within_held c.args.low c.args.high (number_written c.args.word.now) (search rules) (search rules))
