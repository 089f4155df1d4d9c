-- What the check says of small procedures, as their tables. Assumes nothing.
use Rattle.std.specs.Prelude.{◌≡◌, ℕ, [], ◌∷◌, pos, Ok}
use Rattle.procedure.specs.declared.node.Node.{Node}
use Rattle.procedure.specs.declared.refusal.Reason.TheVariants.{Unmarked, Unknown, Overlong}
use Rattle.procedure.specs.Sequence.{refused_at}
use Rattle.procedure.specs.Table.{Table}
use Rattle.checker.specs.Answer.{sheet}
use Rattle.checker.specs.Walk.{checked}

-- nodes by their kinds; the last number of a declaration or a statement is the next of its list
abbrev procedure : ℕ → ℕ → Node
procedure first body = record { kind = 30; name = 17; a = first; b = body; c = 0; next = 0; lo = pos 0; hi = pos 0 }

abbrev parameter : ℕ → ℕ → ℕ → Node
parameter x mark next = record { kind = 10; name = x; a = 0; b = 0; c = 0; next = next; lo = pos mark; hi = pos 0 }

abbrev variable : ℕ → ℕ → ℕ → ℕ → Node
variable x mark initial next = record { kind = 11; name = x; a = initial; b = 0; c = 0; next = next; lo = pos mark; hi = pos 0 }

abbrev constant : ℕ → ℕ → ℕ → ℕ → Node
constant x mark initial next = record { kind = 12; name = x; a = initial; b = 0; c = 0; next = next; lo = pos mark; hi = pos 0 }

abbrev name : ℕ → Node
name x = record { kind = 2; name = x; a = 0; b = 0; c = 0; next = 0; lo = pos 0; hi = pos 0 }

abbrev null : ℕ → Node
null next = record { kind = 20; name = 0; a = 0; b = 0; c = 0; next = next; lo = pos 0; hi = pos 0 }

abbrev for : ℕ → ℕ → ℕ → ℕ → ℕ → Node
for x low high body next = record { kind = 23; name = x; a = body; b = 0; c = 0; next = next; lo = pos low; hi = pos high }

abbrev integer : ℕ
integer = 1

abbrev boolean : ℕ
boolean = 2

-- procedure P (X : in out INTEGER) is BOOLEAN : constant INTEGER := X; begin null; end P;
abbrev pub boolean_of_integer : Table
boolean_of_integer = procedure 1 4 ∷ parameter 18 integer 2 ∷ constant boolean integer 3 0 ∷ name 18 ∷ null 0 ∷ []

-- procedure P (X : in out BOOLEAN) is BOOLEAN : BOOLEAN := X; begin null; end P;
abbrev pub boolean_of_boolean : Table
boolean_of_boolean = procedure 1 4 ∷ parameter 18 boolean 2 ∷ variable boolean boolean 3 0 ∷ name 18 ∷ null 0 ∷ []

-- procedure P is T : INTEGER := T; begin null; end P;
abbrev pub variable_of_itself : Table
variable_of_itself = procedure 1 3 ∷ variable 18 integer 2 0 ∷ name 18 ∷ null 0 ∷ []

-- procedure P is begin for I in 1 .. high loop null; end loop; end P;
abbrev pub loop_to : ℕ → Table
loop_to high = procedure 0 1 ∷ for 18 1 high 2 0 ∷ null 0 ∷ []

pub record CheckExamples : Type 0 where
  pub predefined_name_declared : checked boolean_of_integer 256 ≡ Ok (sheet 3 2 0)
  pub mark_inside_its_own_declaration : checked boolean_of_boolean 256 ≡ refused_at Unmarked 2
  pub name_inside_its_own_declaration : checked variable_of_itself 256 ≡ refused_at Unknown 2
  pub ceiling_at_the_limit : checked (loop_to 499999999) 256 ≡ Ok (sheet 1000000000 1 1)
  pub ceiling_above_the_limit : checked (loop_to 500000000) 256 ≡ refused_at Overlong 0
