-- What clients make of a port. Assumes nothing.
use Rattle.std.specs.Prelude.{ℕ, min, length, drop, pos}
use Rattle.port.specs.Meaning.{Meaning, after_put}

-- after n gets
abbrev pub after_gets : ℕ → Meaning → Meaning
after_gets n m = record { waiting = drop n m.waiting; taken = m.taken; places_left = m.places_left }

-- after up to n gets, and a put of how many numbers they answered
abbrev pub counted : ℕ → Meaning → Meaning
counted n m = after_put (pos (min n (length m.waiting))) (after_gets n m)
