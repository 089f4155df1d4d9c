-- The limits of a procedure. Assumes nothing.
use Rattle.std.specs.Prelude.{ℕ}

-- the most nodes of a procedure
abbrev pub node_limit : ℕ
node_limit = 1024

-- the last of the names, which run from 1
abbrev pub last_name : ℕ
last_name = 272

-- the most levels of an expression, and of nested statements
abbrev pub level_limit : ℕ
level_limit = 32
