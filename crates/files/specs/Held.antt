-- Numbers held just outside the range of 32-bit numbers, as they are read digit by digit. Assumes nothing.
use Rattle.std.specs.Prelude.{ℕ, min, ℤ, pos, negsuc}

-- 2147483649 is more than the magnitude of any 32-bit number
abbrev pub held : ℕ → ℕ
held n = min n 2147483649

-- `negsuc n` is -(n + 1)
abbrev pub held_number : ℤ → ℤ
held_number (pos n) = pos (held n)
held_number (negsuc n) = negsuc (min n 2147483648)
