-- The node that a line writes, or why it is none. Assumes nothing.
use Rattle.std.specs.Prelude.{ℕ, List, [], ◌∷◌, ℤ, pos, negsuc, ◌≤ℤ◌, Some, None, Ok, Err, codes, Option, Result, unsigned_abs}
use Rattle.procedure.specs.Sequence.{and_then}
use Rattle.procedure.specs.declared.node.Node.{Node}
use Rattle.files.specs.declared.number.NumberFault.{NumberFault}
use Rattle.files.specs.declared.number.NumberFault.TheVariants.{NoNumber as NoNumeral, OutOfRange as Outside}
use Rattle.files.specs.declared.line.Field.{Field}
use Rattle.files.specs.declared.line.Field.TheVariants.{Kind, Name, PartA, PartB, PartC, Next, Lo, Hi}
use Rattle.files.specs.declared.line.LineFault.{LineFault}
use Rattle.files.specs.declared.line.LineFault.TheVariants.{Missing, NoNumber, OutOfRange, Extra}
use Rattle.files.specs.Scan.{Bytes, words_of_line, first, later}
use Rattle.files.specs.Number.{number_written, number_within}

-- a field's place among the numbers of a line, its name, and the least and the greatest number that it can be
pub record Description : Type 0 where
  pub place : ℕ
  pub word : Bytes
  pub low : ℤ
  pub high : ℤ

abbrev pub described : Field → Description
described Kind = record { place = 1; word = codes "kind"; low = pos 0; high = pos 255 }
described Name = record { place = 2; word = codes "name"; low = pos 0; high = pos 65535 }
described PartA = record { place = 3; word = codes "a"; low = pos 0; high = pos 65535 }
described PartB = record { place = 4; word = codes "b"; low = pos 0; high = pos 65535 }
described PartC = record { place = 5; word = codes "c"; low = pos 0; high = pos 65535 }
described Next = record { place = 6; word = codes "next"; low = pos 0; high = pos 65535 }
described Lo = record { place = 7; word = codes "lo"; low = negsuc 2147483647; high = pos 2147483647 }
described Hi = record { place = 8; word = codes "hi"; low = negsuc 2147483647; high = pos 2147483647 }

abbrev pub Within : Field → ℤ → Type 0
Within f z = ((described f).low ≤ℤ z) × (z ≤ℤ (described f).high)

-- the fault of a number, told of a field
abbrev pub told_of : Field → Result ℤ NumberFault → Result ℤ LineFault
told_of f (Ok z) = Ok z
told_of f (Err NoNumeral) = Err (NoNumber f)
told_of f (Err Outside) = Err (OutOfRange f)

-- the number that a word writes for a field
abbrev pub field_number : Field → Bytes → Result ℤ LineFault
field_number f word = told_of f (number_within (described f).low (described f).high (number_written word))

-- the number of a field from the word in its place, if there is one
abbrev pub integer : Field → Option Bytes → Result ℤ LineFault
integer f None = Err (Missing f)
integer f (Some word) = field_number f word

-- the same for a field that is never below 0
abbrev pub natural : Field → Option Bytes → Result ℕ LineFault
natural f place = and_then (integer f place) (λ z. Ok (unsigned_abs z))

-- behind the eighth number stands nothing
abbrev pub nothing : Option Bytes → Result (Unit {0}) LineFault
nothing None = Ok (tt {0})
nothing (Some word) = Err Extra

-- one reads the first word, and then the next step has what it gave and the later words
abbrev pub taking : {X T : Type 0} → (Option Bytes → Result X LineFault) → List Bytes → (X → List Bytes → Result T LineFault) → Result T LineFault
taking one words next = and_then (one (first words)) (λ x. next x (later words))

-- the node that words write, from left to right
abbrev pub node_of : List Bytes → Result Node LineFault
node_of words =
    taking (natural Kind) words λ kind words.
    taking (natural Name) words λ name words.
    taking (natural PartA) words λ a words.
    taking (natural PartB) words λ b words.
    taking (natural PartC) words λ c words.
    taking (natural Next) words λ next words.
    taking (integer Lo) words λ lo words.
    taking (integer Hi) words λ hi words.
    taking nothing words λ _ _.
    Ok (record { kind = kind; name = name; a = a; b = b; c = c; next = next; lo = lo; hi = hi })

-- a line with no words is passed over
abbrev pub words_read : List Bytes → Result (Option Node) LineFault
words_read [] = Ok None
words_read (w ∷ ws) = and_then (node_of (w ∷ ws)) (λ node. Ok (Some node))

abbrev pub line_read : Bytes → Result (Option Node) LineFault
line_read line = words_read (words_of_line line)
