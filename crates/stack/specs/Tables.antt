-- A table of places, of which the lowest hold the items of a stack, and the items as a list from either end. Assumes nothing.
use Rattle.std.specs.Prelude.{◌≡◌, ℕ, zero, suc, ◌-◌, ◌≤◌, List, [], ◌∷◌, length, take, Some, None, Option}
use Rattle.std.specs.List.{slice_get}

pub record Table (T : Type 0) : Type 0 where
  pub places : List T
  pub held : ℕ

module _ {T : Type 0} where
  -- no more items than places
  abbrev pub Within : Table T → Type 0
  Within t = t.held ≤ length t.places

  -- how many more items find a place
  abbrev pub room : Table T → ℕ
  room t = length t.places - t.held

  abbrev pub oldest_first : Table T → List T
  oldest_first t = take t.held t.places

  -- the item, if there is one, and then the others
  abbrev pub before : Option T → List T → List T
  before (Some x) xs = x ∷ xs
  before None xs = xs

  -- the items of the lowest n places, the highest first
  unfoldable pub newest : ℕ → List T → List T
  newest zero xs = []
  newest (suc n) xs = before (slice_get xs n) (newest n xs)

  abbrev pub newest_first : Table T → List T
  newest_first t = newest t.held t.places

  -- the lowest n places, and so the lowest of any fewer, hold what they held
  abbrev pub Kept : ℕ → List T → List T → Type 0
  Kept n xs ys = (k : ℕ) → k ≤ n → newest k ys ≡ newest k xs
