-- A turn of a loop over two slices at once, by number.
use Rattle.std.proofs.Common.{◌≡◌, ℕ, ◌+◌, ◌<◌, List, [], ◌∷◌, length, get_or, map, Bor, Iter, Some, Option, ap, ◌∙◌, subst, refl, arith}
use Rattle.std.proofs.iter.Yields.{fronts}
use Rattle.std.proofs.lemmas.Iterator.{zips}
use Rattle.std.proofs.lemmas.List.{length-map}
use Rattle.std.proofs.lemmas.Slice.Zip.{zip_turn}
use Rattle.std.specs.Iterator.{Yields}
use Rattle.std.specs.Iterator.Adapters.{enumerate_source, enumerate_count, enumerate_steps, zip_first, zip_second}
use Rattle.std.specs.Slice.Iter.{iter_rest}
use Rattle.std.specs.declared.iter.Enumerate.{Enumerate}
use Rattle.std.specs.declared.iter.Zip.{Zip}

-- what was counted so far is what the source gave, and the count is how much that is
counted : {S A : Type 0} (steps : S → Option A → S → Type 0) (xs : List (ℕ × A)) (s t : Enumerate S) → Yields (enumerate_steps steps) s xs t
    → Yields steps (enumerate_source s) (map (λ x. x.1) xs) (enumerate_source t) × (enumerate_count t ≡ enumerate_count s + length xs)
counted steps [] s t y = (ap enumerate_source y, omega (arith, ap enumerate_count y))
counted steps (x ∷ xs) s t y =
    let r = counted steps xs y.0 t y.2 in
    ((enumerate_source y.0, y.1.0, r.0), omega (arith, r.1, y.1.2))

-- where a turn stands, and what it is given, if those before it were given xs
pub turn : {A B : Type 0} (ks : List A) (vs : List B) (xs : List (ℕ × (Bor A × Bor B))) (s t u : Enumerate (Zip (Iter A) (Iter B))) (n : ℕ) (p : Bor A × Bor B)
    → iter_rest (zip_first (enumerate_source s)) ≡ ks → iter_rest (zip_second (enumerate_source s)) ≡ vs → enumerate_count s ≡ 0
    → Yields (enumerate_steps (zips fronts fronts)) s xs t → enumerate_steps (zips fronts fronts) t (Some (n, p)) u
    → (n ≡ length xs) × (length xs < length ks) × ((d : A) → p.0.now ≡ get_or ks (length xs) d) × ((d : B) → p.1.now ≡ get_or vs (length xs) d)
turn ks vs xs s t u n p a b z y h =
    let k = counted (zips fronts fronts) xs s t y in
    let w = zip_turn ks vs (map (λ x. x.1) xs) (enumerate_source s) (enumerate_source t) (enumerate_source u) (Some p) a b k.0 p refl h.0 in
    let m = length-map xs (λ x. x.1) in
    (omega (arith, h.1, k.1, z), subst (λ i. i < length ks) m w.0, (λ d. w.2 d ∙ ap (λ i. get_or ks i d) m), λ d. w.3 d ∙ ap (λ i. get_or vs i d) m)
