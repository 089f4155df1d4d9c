-- The laws of the two views: what each act does to them. Assumes nothing.
use Rattle.std.specs.Prelude.{◌≡◌, ℕ, ◌-◌, ◌<◌, ◌≤◌, List, [], ◌∷◌, ◌++◌, reverse, length, take, drop, Some, slice_set}
use Rattle.std.specs.List.{slice_get}
use Rattle.stack.specs.Tables.{Table, Within, oldest_first, newest_first, Kept}
use Rattle.stack.specs.Acts.{item, top, stacked, taken_off, replaced, cut}

module _ (T : Type 0) where
  abbrev pub NewestIsReversedOldest : Type 0
  NewestIsReversedOldest = (t : Table T) → newest_first t ≡ reverse (oldest_first t)

  abbrev pub AsLongAsHeld : Type 0
  AsLongAsHeld = (t : Table T) → Within t → (length (oldest_first t) ≡ t.held) × (length (newest_first t) ≡ t.held)

  abbrev pub ActsStayWithin : Type 0
  ActsStayWithin = (t : Table T) → Within t
      → ((x : T) → t.held < length t.places → Within (stacked x t)) × Within (taken_off t)
      × ((i : ℕ) (x : T) → Within (replaced i x t)) × ((n : ℕ) → Within (cut n t))

  abbrev pub PutAddsNewest : Type 0
  PutAddsNewest = (x : T) (t : Table T) → t.held < length t.places
      → (oldest_first (stacked x t) ≡ oldest_first t ++ x ∷ []) × (newest_first (stacked x t) ≡ x ∷ newest_first t)

  abbrev pub LastPutFirstOff : Type 0
  LastPutFirstOff = (x : T) (t : Table T) → t.held < length t.places
      → (top (stacked x t) ≡ Some x) × (newest_first (taken_off (stacked x t)) ≡ newest_first t)

  abbrev pub TakingOffTakesNewest : Type 0
  TakingOffTakesNewest = (x : T) (t : Table T) → Within t → top t ≡ Some x
      → (oldest_first t ≡ oldest_first (taken_off t) ++ x ∷ []) × (newest_first t ≡ x ∷ newest_first (taken_off t))

  abbrev pub CutLeavesOldest : Type 0
  CutLeavesOldest = (n : ℕ) (t : Table T) → Within t
      → (oldest_first (cut n t) ≡ take n (oldest_first t)) × (newest_first (cut n t) ≡ drop (t.held - n) (newest_first t))

  abbrev pub ReplaceWritesOne : Type 0
  ReplaceWritesOne = (i : ℕ) (x : T) (t : Table T) → i < t.held → Within t
      → (oldest_first (replaced i x t) ≡ slice_set (oldest_first t) i x)
      × (newest_first (replaced i x t) ≡ slice_set (newest_first t) (t.held - 1 - i) x)

  abbrev pub TopIsNewest : Type 0
  TopIsNewest = (t : Table T) → Within t → top t ≡ slice_get (newest_first t) 0

  abbrev pub ReadFromEitherEnd : Type 0
  ReadFromEitherEnd = (k : ℕ) (t : Table T) → k < t.held → Within t → slice_get (newest_first t) k ≡ item (t.held - 1 - k) t

  abbrev pub LowerAreKept : Type 0
  LowerAreKept = (n i : ℕ) (x : T) (xs : List T) → n ≤ i → (take n (slice_set xs i x) ≡ take n xs) × Kept n xs (slice_set xs i x)
