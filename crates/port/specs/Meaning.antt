-- What a port means, and what get and put answer and make of it. Assumes nothing.
use Rattle.std.specs.Prelude.{ℕ, zero, suc, List, [], ◌∷◌, ◌++◌, ℤ, Some, None, Ok, Err, Option, Result}
use Rattle.stack.specs.declared.Full.{Full}

-- the numbers that wait and the numbers taken, each the first one first, and how many more find a place
pub record Meaning : Type 0 where
  pub waiting : List ℤ
  pub taken : List ℤ
  pub places_left : ℕ

-- nothing is taken yet
abbrev pub at_start : List ℤ → ℕ → Meaning
at_start xs n = record { waiting = xs; taken = []; places_left = n }

abbrev pub first : List ℤ → Option ℤ
first [] = None
first (x ∷ xs) = Some x

abbrev pub rest : List ℤ → List ℤ
rest [] = []
rest (x ∷ xs) = xs

abbrev pub get_answer : Meaning → Option ℤ
get_answer m = first m.waiting

abbrev pub after_get : Meaning → Meaning
after_get m = record { waiting = rest m.waiting; taken = m.taken; places_left = m.places_left }

-- where n places are left: the answer to a put, the numbers taken after a put of x, and the places left then
abbrev pub accepted : ℕ → Result (Unit {0}) Full
accepted zero = Err (record {})
accepted (suc n) = Ok tt

abbrev pub added : ℕ → ℤ → List ℤ → List ℤ
added zero x xs = xs
added (suc n) x xs = xs ++ x ∷ []

abbrev pub one_less : ℕ → ℕ
one_less zero = zero
one_less (suc n) = n

abbrev pub put_answer : Meaning → Result (Unit {0}) Full
put_answer m = accepted m.places_left

abbrev pub after_put : ℤ → Meaning → Meaning
after_put x m = record { waiting = m.waiting; taken = added m.places_left x m.taken; places_left = one_less m.places_left }
