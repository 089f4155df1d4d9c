-- Going along the parameters of a procedure, one by one.
use Rattle.std.proofs.Common.{◌≡◌, ℕ, zero, suc, ◌+◌, ◌<◌, ◌≤◌, List, [], ◌∷◌, ◌++◌, length, take, drop, set, ℤ, Ok, Err, Result, ◌⊎◌, inl, inr, refl, ap, append_assoc, arith}
use Rattle.std.proofs.lemmas.List.{drop-set-lt, take_more_set, take-append-drop}
use Rattle.std.specs.declared.slice.Iter.{Iter}
use Rattle.std.specs.Slice.Iter.{iter_rest}
use Rattle.stack.specs.declared.Full.{Full}
use Rattle.stack.specs.Acts.{stacked, Put}
use Rattle.procedure.specs.Table.{Table, node}
use Rattle.evaluator.specs.declared.rows.Row.{Row}
use Rattle.machine.specs.declared.parameters.Parameters.{Parameters}
use Rattle.machine.specs.Begin.{parameters_left, parameters_from, behind_parameters, fitting, parameter_row, parameter_rows}
use Rattle.machine.specs.Decide.{Rows}

-- the node behind a list of parameters, or n where there is none
abbrev pub behind : Table → ℕ → List ℕ → ℕ
behind t n [] = n
behind t n (m ∷ ms) = behind t (node t m).next ms

pub behind_all : (f : ℕ) (t : Table) (n : ℕ) → behind t n (parameters_from f t n) ≡ behind_parameters f t n
behind_all zero t n = refl
behind_all (suc f) t n = grind (arith, behind_all f t (node t n).next)

pub parameters-few : (f : ℕ) (t : Table) (n : ℕ) → length (parameters_from f t n) ≤ f
parameters-few zero t n = omega arith
parameters-few (suc f) t n = grind (arith, parameters-few f t (node t n).next)

-- no parameter or no value is left
abbrev pub Over : Parameters → Iter ℤ → Type 0
Over s r =
    ((u : Parameters) × ((parameters_left s ≡ []) × (parameters_left u ≡ [])))
    ⊎ ((u : Iter ℤ) × ((length (iter_rest r) ≡ 0) × (u ≡ r)))

-- no value is left, since there are as many as parameters
pub none-left : (s : Parameters) (r : Iter ℤ) → Over s r → length (parameters_left s) ≡ length (iter_rest r) → length (iter_rest r) ≡ 0
none-left s r (inl h) e = omega (arith, e, ap length h.1.0)
none-left s r (inr h) e = h.1.0

fitting-none : (t : Table) (ns : List ℕ) (vs : List ℤ) → length vs ≡ 0 → fitting t ns vs ≡ Ok tt
fitting-none t [] vs h = refl
fitting-none t (n ∷ ns) [] h = refl
fitting-none t (n ∷ ns) (v ∷ vs) h = absurd (omega (arith, h))

pub fitting-over : (t : Table) (s : Parameters) (r : Iter ℤ) → Over s r → fitting t (parameters_left s) (iter_rest r) ≡ Ok tt
fitting-over t s r (inl h) = rw h.1.0
fitting-over t s r (inr h) = fitting-none t (parameters_left s) (iter_rest r) h.1.0

-- the places, once the rows from place i on are put too
abbrev pub put_from : ℕ → Table → List ℕ → List ℤ → ℕ → List Row → List Row
put_from i t ns vs count places = take i places ++ (parameter_rows t ns vs ++ drop count places)

pub put-more : (i : ℕ) (t : Table) (n : ℕ) (ns : List ℕ) (v : ℤ) (vs : List ℤ) (count : ℕ) (places : List Row) → i < count → count ≤ length places
    → put_from (i + 1) t ns vs count (set places i (parameter_row t n v)) ≡ put_from i t (n ∷ ns) (v ∷ vs) count places
put-more i t n ns v vs count places h l =
    let row = parameter_row t n v in
    let a = take_more_set places i row (omega arith) in
    let b = drop-set-lt count places i row h in
    rw (a, b) (simp append_assoc)

pub put_all : (i : ℕ) (t : Table) (ns : List ℕ) (vs : List ℤ) (count : ℕ) (places : List Row) → length vs ≡ 0 → i + length vs ≡ count
    → put_from i t ns vs count places ≡ places
put_all i t [] vs count places h e = let same : count ≡ i = omega (arith, h, e) in rw same (take-append-drop i places)
put_all i t (n ∷ ns) [] count places h e = let same : count ≡ i = omega (arith, e) in rw same (take-append-drop i places)
put_all i t (n ∷ ns) (v ∷ vs) count places h e = absurd (omega (arith, h))

-- where a place is left, the row is put
pub put-taken : (row : Row) (t u : Rows) (r : Result (Unit {0}) Full) → t.held < length t.places → Put row t u r → u ≡ stacked row t
put-taken row t u (Ok done) h p = p.1
put-taken row t u (Err refusal) h p = absurd (omega arith)
