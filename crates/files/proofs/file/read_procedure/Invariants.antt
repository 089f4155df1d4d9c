-- What the lines so far said, and what is left.
use Rattle.std.proofs.Common.{vec_items}
use Rattle.std.specs.Iterator.Adapters.{enumerate_source, enumerate_count}
use Rattle.files.specs.Scan.{lines_left}
use Rattle.files.proofs.Reading.{Sofar}
use Rattle.files.proofs.file.read_procedure.Given as goal

abbrev pub invariant-loop-i : goal.invariant-loop-i
invariant-loop-i l =
    (goal.iterator-loop-i).can_next l.i-iterator
    × (goal.iterator-loop-i).is_finite l.i-iterator
    × Sofar l.text (vec_items l.nodes) (enumerate_count l.i-iterator) (lines_left (enumerate_source l.i-iterator))
