-- Looking up by name. Assumes nothing.
use Rattle.std.specs.Prelude.{ℕ, cond, List, [], ◌∷◌, length, Some, None, Option, ◌==◌}

-- the place of the newest item of a name, counted from the bottom, where the newest stands first
abbrev pub place_of : {T : Type 0} → (T → ℕ) → ℕ → List T → Option ℕ
place_of named name [] = None
place_of named name (x ∷ older) = cond (named x == name) (Some (length older)) (place_of named name older)
