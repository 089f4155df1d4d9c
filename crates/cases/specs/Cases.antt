-- What a line of a file of cases says. Assumes nothing.
use Rattle.std.specs.Prelude.{◌≡◌, ◌≢◌, ◌++◌, codes}
use Rattle.files.specs.Scan.{Bytes}
use Rattle.files.specs.Line.{line_read}
use Rattle.cases.specs.declared.CaseLine.{CaseLine}
use Rattle.cases.specs.declared.CaseLine.TheVariants.{Begins, Holds}

-- a line that begins with `case ` begins a case; any other is a line of a procedure file
abbrev pub Says : CaseLine → Bytes → Type 0
Says (Begins shown) line = line ≡ codes "case " ++ shown.now
Says (Holds read) line = ((shown : Bytes) → line ≢ codes "case " ++ shown) × (read ≡ line_read line)
