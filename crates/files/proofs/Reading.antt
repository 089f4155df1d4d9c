-- A procedure read line by line. Assumes nothing.
use Rattle.std.proofs.Common.{◌≡◌, ℕ, ◌+◌, ◌≤◌, List, [], ◌∷◌, ◌++◌, length, Some, Ok, Err, Option, Result, sym, refl, ◌∙◌, append_assoc, arith}
use Rattle.std.specs.Option.{option_to_list}
use Rattle.std.proofs.lemmas.Bool.{cond_both}
use Rattle.procedure.specs.declared.node.Node.{Node}
use Rattle.files.specs.declared.file.FaultyLine.{FaultyLine}
use Rattle.files.specs.declared.scan.Separator.{Separator}
use Rattle.files.specs.declared.scan.Separator.TheVariants.{LineEnd}
use Rattle.files.specs.Scan.{Bytes, cuts, onto, pieces, lines_of, first}
use Rattle.procedure.specs.Sequence.{and_then}
use Rattle.files.specs.Line.{line_read}
use Rattle.files.specs.File.{at_line, lines_read, procedure_read}

onto-few : (b : ℕ) (ps : List Bytes) → length (onto b ps) ≤ length ps + 1
onto-few b [] = omega arith
onto-few b (p ∷ ps) = omega arith

-- a text has at most as many pieces as bytes
pub pieces-few : (s : Separator) (bs : Bytes) → length (pieces s bs) ≤ length bs
pieces-few s [] = omega arith
pieces-few s (b ∷ bs) =
    cond_both (cuts s b) ([] ∷ pieces s bs) (onto b (pieces s bs)) (λ ps. length ps ≤ length (b ∷ bs)) (λ _. omega (arith, pieces-few s bs)) (λ _. omega (arith, onto-few b (pieces s bs), pieces-few s bs))

pub lines-few : (text : Bytes) → length (lines_of text) ≤ length text
lines-few text = pieces-few LineEnd text

-- the text says: these nodes, and then what the lines to come say, of which so many were read before
pub record Sofar (text : Bytes) (nodes : List Node) (number : ℕ) (lines : List Bytes) : Type 0 where
  pub said : and_then (lines_read (number + 1) lines) (λ more. Ok (nodes ++ more)) ≡ procedure_read text

pub none_read : (text : Bytes) (nodes : List Node) (number : ℕ) (lines : List Bytes) → nodes ≡ [] → number ≡ 0 → lines ≡ lines_of text → Sofar text nodes number lines
none_read text nodes number lines none zero all = record { said = rw (none, zero, all) (whole (procedure_read text)) }
  where
    whole : (r : Result (List Node) FaultyLine) → and_then r (λ more. Ok ([] ++ more)) ≡ r
    whole (Ok more) = refl
    whole (Err fault) = refl

-- the fault of the next line is the fault of the text
pub line_fault : {text : Bytes} {nodes : List Node} {number : ℕ} (lines : List Bytes) (line : Bytes) (fault : FaultyLine) → Sofar text nodes number lines → Some line ≡ first lines
    → at_line (number + 1) (line_read line) ≡ Err fault → procedure_read text ≡ Err fault
line_fault [] line fault sofar next is = let no : ◌≡◌ {A = ℕ} 0 1 = cc in absurd (omega arith)
line_fault {number = number} (l ∷ lines) line fault sofar next is =
    let same : at_line (number + 1) (line_read l) ≡ Err fault = cc in
    sym sofar.said ∙ rw same refl

module _ {text : Bytes} {nodes : List Node} {number : ℕ} (lines : List Bytes) (line : Bytes) (left : List Bytes) (sofar : Sofar text nodes number lines) (next : lines ≡ line ∷ left) where
  pub line_added : (after : List Node) → and_then (at_line (number + 1) (line_read line)) (λ node. Ok (nodes ++ option_to_list node)) ≡ Ok after → Sofar text after (number + 1) left
  line_added after is =
      let said : and_then (lines_read (number + 1) (line ∷ left)) (λ more. Ok (nodes ++ more)) ≡ procedure_read text = rw next at sofar.said in
      record { said = joined (at_line (number + 1) (line_read line)) (lines_read (number + 1 + 1) left) is ∙ said }
    where
      joined : (said : Result (Option Node) FaultyLine) (rest : Result (List Node) FaultyLine) → and_then said (λ node. Ok (nodes ++ option_to_list node)) ≡ Ok after → and_then rest (λ more. Ok (after ++ more)) ≡ and_then (and_then said (λ node. and_then rest (λ more. Ok (option_to_list node ++ more)))) (λ more. Ok (nodes ++ more))
      joined (Err e) rest is = let no : ◌≡◌ {A = ℕ} 0 1 = cc in absurd (omega arith)
      joined (Ok found) (Err e) is = refl
      joined (Ok found) (Ok more) is = let here : nodes ++ option_to_list found ≡ after = cc in rw (← here, append_assoc) refl
