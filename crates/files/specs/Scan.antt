-- What a text is cut into: its lines, and the words of a line. Assumes nothing.
use Rattle.std.specs.Prelude.{◌≡◌, ℕ, Bool, cond, ◌||◌, List, [], ◌∷◌, Some, None, Option, ◌==◌}
use Rattle.std.specs.Iterator.{YieldsFirstRef}
use denote.Ref.{Bor}
use Rattle.files.specs.declared.scan.Separator.{Separator}
use Rattle.files.specs.declared.scan.Separator.TheVariants.{Blank, LineEnd, CommentSign}
use Rattle.files.specs.declared.scan.Pieces.{Pieces}
use Rattle.files.specs.declared.scan.Lines.{Lines}
use Rattle.files.specs.declared.scan.Words.{Words}

abbrev pub Bytes : Type 0
Bytes = List ℕ

-- space, tab and carriage return are blanks; byte 10 ends a line; `#` begins a comment
abbrev pub cuts : Separator → ℕ → Bool
cuts Blank b = b == 32 || (b == 9 || b == 13)
cuts LineEnd b = b == 10
cuts CommentSign b = b == 35

-- what stands before the first separator
abbrev pub before : Separator → Bytes → Bytes
before s [] = []
before s (b ∷ bs) = cond (cuts s b) [] (b ∷ before s bs)

-- what stands behind the first separator
abbrev pub behind : Separator → Bytes → Bytes
behind s [] = []
behind s (b ∷ bs) = cond (cuts s b) bs (behind s bs)

-- a byte in front of the first piece
abbrev pub onto : ℕ → List Bytes → List Bytes
onto b [] = (b ∷ []) ∷ []
onto b (p ∷ ps) = (b ∷ p) ∷ ps

-- a separator ends a piece, and is no part of it; the last piece needs none
abbrev pub pieces : Separator → Bytes → List Bytes
pieces s [] = []
pieces s (b ∷ bs) = cond (cuts s b) ([] ∷ pieces s bs) (onto b (pieces s bs))

-- the pieces that are not empty
abbrev pub filled : List Bytes → List Bytes
filled [] = []
filled ([] ∷ ps) = filled ps
filled ((b ∷ p) ∷ ps) = (b ∷ p) ∷ filled ps

abbrev pub lines_of : Bytes → List Bytes
lines_of text = pieces LineEnd text

abbrev pub words_of : Bytes → List Bytes
words_of text = filled (pieces Blank text)

-- the words of a line stand before its comment
abbrev pub words_of_line : Bytes → List Bytes
words_of_line line = words_of (before CommentSign line)

-- what a scanner has still to give
abbrev pub pieces_left : Pieces → List Bytes
pieces_left p = pieces p.separator p.rest.now

-- the first piece left is given, and the others are cut at the same sign
abbrev pub GivesPiece : Pieces → Option (Bor Bytes) → Pieces → Type 0
GivesPiece p r q = YieldsFirstRef pieces_left p r q × (q.separator ≡ p.separator)

abbrev pub lines_left : Lines → List Bytes
lines_left l = pieces_left l.pieces

abbrev pub words_left : Words → List Bytes
words_left w = filled (pieces_left w.pieces)

abbrev pub first : {X : Type 0} → List X → Option X
first [] = None
first (x ∷ xs) = Some x

abbrev pub later : {X : Type 0} → List X → List X
later [] = []
later (x ∷ xs) = xs
