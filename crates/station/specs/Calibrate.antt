-- The operands of `station calibrate`: what a word writes, and what the calibrator is handed. Assumes nothing.
use Rattle.std.specs.Prelude.{ℕ, List, ℤ, pos, negsuc, Result}
use Rattle.files.specs.Number.{number_within, number_written}
use Rattle.files.specs.declared.number.NumberFault.{NumberFault}

-- the number that a word writes, where there is one from low to the greatest
abbrev pub number_from : ℤ → List ℕ → Result ℤ NumberFault
number_from low word = number_within low (pos 2147483647) (number_written word)

-- a number below 0 becomes one that is above every limit
abbrev pub unsigned_of : ℤ → ℕ
unsigned_of (pos n) = n
unsigned_of (negsuc n) = 4294967295
