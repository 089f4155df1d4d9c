-- How faults are told. Assumes nothing.
use Rattle.std.specs.Prelude.{◌++◌, codes, decimal}
use Rattle.std.specs.Fmt.{signed_decimal}
use Rattle.files.specs.declared.line.Field.{Field}
use Rattle.files.specs.declared.line.LineFault.{LineFault}
use Rattle.files.specs.declared.line.LineFault.TheVariants.{Missing, NoNumber, OutOfRange, Extra}
use Rattle.files.specs.declared.number.NumberFault.{NumberFault}
use Rattle.files.specs.declared.number.NumberFault.TheVariants.{NoNumber as NoNumeral, OutOfRange as OutsideRange}
use Rattle.files.specs.declared.file.FaultyLine.{FaultyLine}
use Rattle.files.specs.declared.file.FileFault.{FileFault}
use Rattle.files.specs.declared.file.FileFault.TheVariants.{Line, OutOfMemory}
use Rattle.files.specs.Scan.{Bytes}
use Rattle.files.specs.Line.{described}

-- told behind the word
abbrev pub number_fault_text : NumberFault → Bytes
number_fault_text NoNumeral = codes "is no decimal number"
number_fault_text OutsideRange = codes "is out of range"

-- as `number 3 (a)`
abbrev pub field_text : Field → Bytes
field_text f = codes "number " ++ (decimal (described f).place ++ (codes " (" ++ ((described f).word ++ codes ")")))

abbrev pub line_fault_text : LineFault → Bytes
line_fault_text (Missing f) = field_text f ++ codes " is missing: write eight numbers, kind name a b c next lo hi"
line_fault_text (NoNumber f) =
    field_text f ++ codes " is not a decimal number: write digits 0 to 9, with - in front if it is below 0"
line_fault_text (OutOfRange f) =
    field_text f ++ (codes " is out of range: write a number from " ++ (signed_decimal (described f).low ++ (codes " to " ++ signed_decimal (described f).high)))
line_fault_text Extra =
    codes "something follows the eighth number: write one node a line, and a comment behind #"

abbrev pub faulty_line_text : FaultyLine → Bytes
faulty_line_text l = codes "line " ++ (decimal l.number ++ (codes ": " ++ line_fault_text l.fault))

abbrev pub file_fault_text : FileFault → Bytes
file_fault_text (Line l) = faulty_line_text l
file_fault_text OutOfMemory = codes "there is too little memory to read the procedure"
