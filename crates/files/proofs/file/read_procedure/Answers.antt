-- No line yet, and one line more.
use Rattle.std.proofs.Common.{rules}
use Rattle.files.proofs.Reading.{lines-few, none_read, line_added}
use Rattle.files.proofs.file.read_procedure.Goals as goal

pub loop-i-init : goal.loop-i-init
loop-i-init c = search (rules, none_read, lines-few c.args.text.now)

pub loop-i-preserved : goal.loop-i-preserved
loop-i-preserved c = search (rules, line_added)
