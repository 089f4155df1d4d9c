-- One get after another, each answering a number, and the one that finds none waiting.
use Rattle.std.proofs.Common.{◌≡◌, ℕ, ◌+◌, ◌<◌, ◌≤◌, min, List, ◌++◌, length, get_or, take, drop, set, ℤ, pos, Some, None, Option, sym, ap, ◌∙◌, arith}
use Rattle.std.proofs.lemmas.List.{append_assoc, length-take-le, set_at, take_more, drop_all, drop_more, at_drop_more, at_drop_all}
use Rattle.port.specs.Client.{after_gets}
use Rattle.port.specs.Meaning.{Meaning, first, get_answer, after_get}

-- i gets led from m to n, and each answered a number
pub record Read (i : ℕ) (m n : Meaning) : Type 0 where
  pub leaves : n ≡ after_gets i m
  pub waited : i ≤ length m.waiting

first_some : (xs : List ℤ) (i : ℕ) (x : ℤ) → first (drop i xs) ≡ Some x → i < length xs
first_some xs i x e = grind (arith, at_drop_all first xs i)

-- a get that answers r and leaves o, after i of them
module _ {i : ℕ} {m n o : Meaning} {r : Option ℤ} (so : Read i m n) (answers : r ≡ get_answer n) (leaves : o ≡ after_get n) where
  pub first-left : first (drop i m.waiting) ≡ r
  first-left = sym (ap get_answer so.leaves) ∙ sym answers

  pub read_more : (x : ℤ) → r ≡ Some x → Read (i + 1) m o
  read_more x e =
      let h = first_some m.waiting i x (first-left ∙ e) in
      record { leaves = leaves ∙ ap after_get so.leaves ∙ rw (drop_more m.waiting i (pos 0) h); waited = omega arith }

  pub read_all : r ≡ None → (k : ℕ) → i ≤ k → (i ≡ min k (length m.waiting)) × (o ≡ after_gets k m)
  read_all e k l =
      let h : length m.waiting ≤ i = grind (arith, at_drop_more first m.waiting i (pos 0), first-left, e) in
      (omega (arith, so.waited), leaves ∙ ap after_get so.leaves ∙ rw (drop_all i m.waiting h, drop_all k m.waiting (omega arith)))

-- the places xs, of which the first i hold numbers of ws, after one more is written
pub holds_more : (ws xs : List ℤ) (i : ℕ) (x : ℤ) → first (drop i ws) ≡ Some x → i < length xs
    → set (take i ws ++ drop i xs) i x ≡ take (i + 1) ws ++ drop (i + 1) xs
holds_more ws xs i x e l =
    let h = first_some ws i x e in
    let d = drop_more ws i (pos 0) h in
    let same : get_or ws i (pos 0) ≡ x = cc in
    rw (drop_more xs i (pos 0) l, set_at (take i ws) _ _ x i (length-take-le i ws (omega arith)), take_more ws i (pos 0) h, same, append_assoc)
