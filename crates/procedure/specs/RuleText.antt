-- How the rules of the form are told. Assumes nothing.
use Rattle.std.specs.Prelude.{ℕ, List, ◌++◌, codes}
use Rattle.procedure.specs.declared.rules.Rule.{Rule}
use Rattle.procedure.specs.declared.rules.Rule.TheVariants.{Rooted, Listed, Sorted, Ordered, NamedOnce, Shallow}

abbrev pub rule_word : Rule → List ℕ
rule_word Rooted = codes "rooted"
rule_word Listed = codes "listed"
rule_word Sorted = codes "sorted"
rule_word Ordered = codes "ordered"
rule_word NamedOnce = codes "named once"
rule_word Shallow = codes "shallow"

abbrev pub rule_sentence : Rule → List ℕ
rule_sentence Rooted = codes "node 0 is a procedure, and no other node is"
rule_sentence Listed = codes "the kind of a node is one of the listed kinds"
rule_sentence Sorted = codes "each field has a value of its sort, and is 0 where its kind does not use it"
rule_sentence Ordered = codes "an operand has a smaller number than its operator, and all else that a node names a greater one"
rule_sentence NamedOnce = codes "every node but 0 is named exactly once"
rule_sentence Shallow = codes "an expression is at most 32 levels deep, and statements nest to 32 levels"

-- a rule as it is printed
abbrev pub rule_text : Rule → List ℕ
rule_text r = rule_word r ++ (codes ": " ++ rule_sentence r)
