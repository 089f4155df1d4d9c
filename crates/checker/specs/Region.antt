-- Regions and the declarations that are open. Assumes nothing.
use Rattle.std.specs.Prelude.{◌≡◌, ℕ, zero, suc, ◌≤◌, Bool, true, false, cond, List, [], ◌∷◌, length, Ok, Err, ◌==◌, nat_lt}
use Rattle.procedure.specs.declared.refusal.Reason.TheVariants.{Cramped}
use Rattle.procedure.specs.Sequence.{Answer, and_then, want}
use Rattle.stack.specs.Stacks.{table}
use Rattle.stack.specs.Tables.{newest_first, Kept}
use Rattle.checker.specs.declared.names.Declaration.{Declaration}
use Rattle.checker.specs.declared.open_declarations.OpenDeclarations.{OpenDeclarations}

-- the open declarations, the newest first
abbrev pub Environment : Type 0
Environment = List Declaration

-- whether a name is among the newest k
abbrev pub is_taken : ℕ → ℕ → Environment → Bool
is_taken x zero declared = false
is_taken x (suc k) [] = false
is_taken x (suc k) (d ∷ outer) = cond (d.name == x) true (is_taken x k outer)

-- one declaration more, whose node is at: 256 may be open
abbrev pub put : Declaration → Environment → ℕ → Answer Environment
put d declared at = and_then (want (nat_lt (length declared) 256) Cramped at) λ _. Ok (d ∷ declared)

-- what is open, by the stack that holds it
abbrev pub opened : OpenDeclarations → Environment
opened o = newest_first (table o.stack)

-- what a call answers, with what is open after it
abbrev pub with_opened : Answer (Unit {0}) → Environment → Answer Environment
with_opened (Ok u) declared = Ok declared
with_opened (Err e) declared = Err e

-- the declarations that were open still are, below what more may be open
abbrev pub Grown : OpenDeclarations → OpenDeclarations → Type 0
Grown o p = (o.stack.held ≤ p.stack.held) × Kept o.stack.held o.stack.places.now p.stack.places.now

-- a region was left: as many are open as before, and the same
abbrev pub Left : OpenDeclarations → OpenDeclarations → Type 0
Left o p = (p.stack.held ≡ o.stack.held) × Kept o.stack.held o.stack.places.now p.stack.places.now
