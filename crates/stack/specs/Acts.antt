-- What each act answers and makes of the table. Places that it does not name are left. Assumes nothing.
use Rattle.std.specs.Prelude.{◌≡◌, ℕ, ◌+◌, ◌-◌, ◌<◌, ◌≤◌, min, cond, List, length, Ok, Err, Option, Result, nat_lt, slice_set}
use Rattle.std.specs.List.{slice_get}
use Rattle.stack.specs.declared.Absent.{Absent}
use Rattle.stack.specs.declared.Full.{Full}
use Rattle.stack.specs.Tables.{Table, oldest_first}

-- the refusals, which hold nothing
abbrev pub full : Full
full = record {}

abbrev pub absent : Absent
absent = record {}

module _ {T : Type 0} where
  -- the lowest n places are held, or all where there are fewer
  abbrev pub holding : ℕ → List T → Table T
  holding n xs = record { places = xs; held = min n (length xs) }

  -- the item at i, counted from the bottom
  abbrev pub item : ℕ → Table T → Option T
  item i t = slice_get (oldest_first t) i

  abbrev pub top : Table T → Option T
  top t = item (t.held - 1) t

  -- x on top, at the lowest place that was not held
  abbrev pub stacked : T → Table T → Table T
  stacked x t = record { places = slice_set t.places t.held x; held = t.held + 1 }

  abbrev pub put : T → Table T → Result (Table T) Full
  put x t = cond (nat_lt t.held (length t.places)) (Ok (stacked x t)) (Err full)

  -- without its top; one that holds nothing stays as it is
  abbrev pub taken_off : Table T → Table T
  taken_off t = record { places = t.places; held = t.held - 1 }

  abbrev pub replaced : ℕ → T → Table T → Table T
  replaced i x t = record { places = slice_set t.places i x; held = t.held }

  abbrev pub replace : ℕ → T → Table T → Result (Table T) Absent
  replace i x t = cond (nat_lt i t.held) (Ok (replaced i x t)) (Err absent)

  -- the lowest n items are left, or all where there are fewer
  abbrev pub cut : ℕ → Table T → Table T
  cut n t = record { places = t.places; held = min n t.held }

  -- what was answered, with the table after it
  abbrev pub with_table : {E : Type 0} → Result (Unit {0}) E → Table T → Result (Table T) E
  with_table (Ok done) t = Ok t
  with_table (Err refusal) t = Err refusal

  -- from t to u, by what was answered: a refusal alters nothing
  abbrev pub Put : T → Table T → Table T → Result (Unit {0}) Full → Type 0
  Put x t u (Ok done) = (t.held < length t.places) × (u ≡ stacked x t)
  Put x t u (Err refusal) = (t.held ≡ length t.places) × (u ≡ t)

  abbrev pub Replaced : ℕ → T → Table T → Table T → Result (Unit {0}) Absent → Type 0
  Replaced i x t u (Ok done) = (i < t.held) × (u ≡ replaced i x t)
  Replaced i x t u (Err refusal) = (t.held ≤ i) × (u ≡ t)
