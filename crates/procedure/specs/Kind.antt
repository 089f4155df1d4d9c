-- Which number is which kind of node. Assumes nothing.
use Rattle.std.specs.Prelude.{ℕ, cond, List, Some, None, codes, Option, ◌==◌}
use Rattle.procedure.specs.declared.kind.Kind.{Kind}
use Rattle.procedure.specs.declared.kind.Kind.TheVariants.{Procedure, Declaration, Statement, Expression}
use Rattle.procedure.specs.declared.kind.DeclarationKind.TheVariants.{Parameter, Variable, Constant}
use Rattle.procedure.specs.declared.kind.StatementKind.TheVariants.{Null, Assignment, If, For, Block, Get, Put}
use Rattle.procedure.specs.declared.kind.ExpressionKind.TheVariants.{Numeral, Name, Unary, Binary}

-- the kind of a number, where the number is listed
abbrev pub kind_of : ℕ → Option Kind
kind_of n =
    cond (n == 1) (Some (Expression Numeral))
    (cond (n == 2) (Some (Expression Name))
    (cond (n == 3) (Some (Expression Unary))
    (cond (n == 4) (Some (Expression Binary))
    (cond (n == 10) (Some (Declaration Parameter))
    (cond (n == 11) (Some (Declaration Variable))
    (cond (n == 12) (Some (Declaration Constant))
    (cond (n == 20) (Some (Statement Null))
    (cond (n == 21) (Some (Statement Assignment))
    (cond (n == 22) (Some (Statement If))
    (cond (n == 23) (Some (Statement For))
    (cond (n == 24) (Some (Statement Block))
    (cond (n == 25) (Some (Statement Get))
    (cond (n == 26) (Some (Statement Put))
    (cond (n == 30) (Some Procedure) None))))))))))))))

-- the word for a kind
abbrev pub kind_word : Kind → List ℕ
kind_word Procedure = codes "procedure"
kind_word (Declaration Parameter) = codes "parameter"
kind_word (Declaration Variable) = codes "variable"
kind_word (Declaration Constant) = codes "constant"
kind_word (Statement Null) = codes "null"
kind_word (Statement Assignment) = codes "assignment"
kind_word (Statement If) = codes "IF"
kind_word (Statement For) = codes "FOR"
kind_word (Statement Block) = codes "block"
kind_word (Statement Get) = codes "GET"
kind_word (Statement Put) = codes "PUT"
kind_word (Expression Numeral) = codes "numeral"
kind_word (Expression Name) = codes "name"
kind_word (Expression Unary) = codes "unary"
kind_word (Expression Binary) = codes "binary"
