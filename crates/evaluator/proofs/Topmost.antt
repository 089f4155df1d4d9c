-- The topmost row, by the place of its name.
use Rattle.std.proofs.Common.{◌≡◌, ℕ, List, length, get_or, Some, None, Option, sym, refl, subst, arith}
use Rattle.stack.specs.Lookup.{place_of}
use Rattle.stack.specs.Tables.{newest}
use Rattle.stack.proofs.Lookup.{place_answers}
use Rattle.evaluator.specs.declared.rows.Row.{Row}
use Rattle.evaluator.specs.Rows.{topmost}

module _ (x : ℕ) (rows : List Row) where
  abbrev pub TopmostAt : Option ℕ → Type 0
  TopmostAt None = topmost x (newest (length rows) rows) ≡ None
  TopmostAt (Some i) = (d : Row) → topmost x (newest (length rows) rows) ≡ Some (record { place = i; row = get_or rows i d })

  pub topmost_at : (o : Option ℕ) → o ≡ place_of (λ row. row.name) x (newest (length rows) rows) → TopmostAt o
  topmost_at o e =
      subst TopmostAt (sym e)
      (place_answers (λ row. row.name) x (topmost x) None (λ i r. Some (record { place = i; row = r })) refl (λ r older. refl) (length rows) rows (omega arith))
