-- What a name means where it is used. Assumes nothing.
use Rattle.std.specs.Prelude.{ℕ, true, cond, ◌||◌, List, [], ◌∷◌, Some, None, Option, ◌==◌}
use Rattle.procedure.specs.declared.types.«Type».TheVariants.{Integer, Boolean}
use Rattle.checker.specs.declared.names.Declaration.{Declaration}
use Rattle.checker.specs.declared.names.Meaning.{Meaning}
use Rattle.checker.specs.declared.names.Meaning.TheVariants.{Mark, Object}

-- INTEGER and BOOLEAN are types, TRUE and FALSE are BOOLEAN constants, and all other predefined names mean nothing
abbrev pub predefined : ℕ → Option Meaning
predefined x =
    cond (x == 1) (Some (Mark Integer))
    (cond (x == 2) (Some (Mark Boolean))
    (cond (x == 15 || x == 16) (Some (Object Boolean true)) None))

-- a name means its innermost open declaration, else what is predefined; the newest declaration stands first
abbrev pub means : List Declaration → ℕ → Option Meaning
means [] x = predefined x
means (d ∷ outer) x = cond (d.name == x) (Some (Object d.of_type d.constant)) (means outer x)

-- inside its own declaration a name means nothing, even if an outer one exists
abbrev pub means_inside : Option ℕ → List Declaration → ℕ → Option Meaning
means_inside None declared x = means declared x
means_inside (Some own) declared x = cond (own == x) None (means declared x)
