-- Which predefined name denotes which type. Assumes nothing.
use Rattle.std.specs.Prelude.{ℕ, cond, Some, None, Option, ◌==◌}
use Rattle.procedure.specs.declared.types.«Type».{«Type» as TypeT}
use Rattle.procedure.specs.declared.types.«Type».TheVariants.{Integer, Boolean}

-- the type that a predefined name denotes, where it denotes one
abbrev pub type_of : ℕ → Option TypeT
type_of n = cond (n == 1) (Some Integer) (cond (n == 2) (Some Boolean) None)
