-- What owners of ports learn. Assumes nothing.
use Rattle.std.specs.Prelude.{ℕ, min, List, [], ◌∷◌, ◌++◌, length, take, drop, ℤ, Ok, Err, Option, Result, slice_set}
use Rattle.procedure.specs.declared.refusal.Refusal.{Refusal}
use Rattle.port.specs.Client.{counted}
use Rattle.port.specs.Meaning.{Meaning, first}

-- the places ys after the first of the numbers was written to the first of them
abbrev pub passed : List ℤ → List ℤ → List ℤ
passed [] ys = ys
passed (x ∷ xs) ys = slice_set ys 0 x

-- of a port that may not have been made: the first number taken after a client counted up to n,
abbrev pub first_counted : ℕ → Result Meaning Refusal → Result (Option ℤ) Refusal
first_counted n (Ok m) = Ok (first (counted n m).taken)
first_counted n (Err e) = Err e

-- how many numbers waited,
abbrev pub waited : Result Meaning Refusal → Result ℕ Refusal
waited (Ok m) = Ok (length m.waiting)
waited (Err e) = Err e

-- and the places xs after the front of what waited was read into them
abbrev pub read_front : Result Meaning Refusal → List ℤ → List ℤ
read_front (Ok m) xs = take (min (length xs) (length m.waiting)) m.waiting ++ drop (min (length xs) (length m.waiting)) xs
read_front (Err e) xs = xs
