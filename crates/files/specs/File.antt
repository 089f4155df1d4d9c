-- The procedure that a file writes, or its first line that is no node. Assumes nothing.
use Rattle.std.specs.Prelude.{◌≡◌, ℕ, ◌+◌, List, [], ◌∷◌, ◌++◌, Ok, Err, vec_items, Option, Result, Vec}
use Rattle.std.specs.Option.{option_to_list}
use Rattle.std.specs.declared.alloc.Global.{Global}
use Rattle.procedure.specs.declared.node.Node.{Node}
use Rattle.files.specs.declared.line.LineFault.{LineFault}
use Rattle.files.specs.declared.file.FaultyLine.{FaultyLine}
use Rattle.files.specs.declared.file.FileFault.{FileFault}
use Rattle.files.specs.declared.file.FileFault.TheVariants.{Line, OutOfMemory}
use Rattle.files.specs.Scan.{Bytes, lines_of}
use Rattle.procedure.specs.Sequence.{and_then}
use Rattle.files.specs.Line.{line_read}

-- a fault with the number of its line
abbrev pub at_line : {T : Type 0} → ℕ → Result T LineFault → Result T FaultyLine
at_line number (Ok x) = Ok x
at_line number (Err fault) = Err (record { number = number; fault = fault })

-- the nodes of lines, of which the first has the number
abbrev pub lines_read : ℕ → List Bytes → Result (List Node) FaultyLine
lines_read number [] = Ok []
lines_read number (line ∷ lines) =
    and_then (at_line number (line_read line)) λ node.
    and_then (lines_read (number + 1) lines) λ nodes.
    Ok (option_to_list node ++ nodes)

-- lines are counted from 1
abbrev pub procedure_read : Bytes → Result (List Node) FaultyLine
procedure_read text = lines_read 1 (lines_of text)

-- an answer is what the text says, where there is memory for it
abbrev pub Reads : Result (Vec Node Global) FileFault → Result (List Node) FaultyLine → Type 0
Reads (Ok nodes) said = said ≡ Ok (vec_items nodes)
Reads (Err (Line fault)) said = said ≡ Err fault
Reads (Err OutOfMemory) said = Unit {0}

-- the same of one line, whose node, if any, comes behind the nodes before it
abbrev pub Adds : Result (Unit {0}) FileFault → Result (Option Node) FaultyLine → List Node → List Node → Type 0
Adds (Ok _) said before after = and_then said (λ node. Ok (before ++ option_to_list node)) ≡ Ok after
Adds (Err (Line fault)) said before after = said ≡ Err fault
Adds (Err OutOfMemory) said before after = Unit {0}
