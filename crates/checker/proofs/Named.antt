-- What the place of the newest open declaration of a name says.
use Rattle.std.proofs.Common.{◌≡◌, ℕ, zero, suc, ◌-◌, ◌≤◌, true, false, cond, List, [], ◌∷◌, ◌++◌, reverse, length, take, drop, is_some, Some, None, Option, ◌==◌, sym, refl, ap, ◌∙◌, subst, arith}
use Rattle.std.proofs.lemmas.List.{reverse-append, length-drop, take_all, take_rest, take-append-drop}
use Rattle.stack.specs.Lookup.{place_of}
use Rattle.stack.specs.Tables.{newest}
use Rattle.stack.proofs.Lookup.{Answers, place_answers, Among, place_among}
use Rattle.stack.proofs.Newest.{newest-reverse, length-newest}
use Rattle.checker.specs.declared.names.Declaration.{Declaration}
use Rattle.checker.specs.declared.names.Meaning.{Meaning}
use Rattle.checker.specs.declared.names.Meaning.TheVariants.{Object}
use Rattle.checker.specs.Names.{predefined, means}
use Rattle.checker.specs.Region.{Environment, is_taken}

abbrev named : Declaration → ℕ
named d = d.name

abbrev pub place : ℕ → List Declaration → Option ℕ
place x ds = place_of named x (newest (length ds) ds)

abbrev object : ℕ → Declaration → Option Meaning
object i d = Some (Object d.of_type d.constant)

-- what the name means, by the place
abbrev Means : ℕ → List Declaration → Option ℕ → Type 0
Means x ds = Answers named x (λ declared. means declared x) (predefined x) object refl (λ d outer. refl) (length ds) ds

pub meant : (x : ℕ) (ds : List Declaration) (o : Option ℕ) → o ≡ place x ds → Means x ds o
meant x ds o e =
    subst (Means x ds) (sym e)
    (place_answers named x (λ declared. means declared x) (predefined x) object refl (λ d outer. refl) (length ds) ds (omega arith))

none_taken : (x k : ℕ) → is_taken x k [] ≡ false
none_taken x zero = refl
none_taken x (suc k) = refl

-- whether the name is among the newest k, by the place
abbrev IsTaken : ℕ → ℕ → Environment → Option ℕ → Type 0
IsTaken x = Among named x (is_taken x) (λ declared. refl) (none_taken x) (λ k d outer. refl)

-- the newest declarations are those of the lists behind the first base
split : (base : ℕ) (ds : List Declaration) → base ≤ length ds
    → newest (length ds) ds ≡ newest (length (drop base ds)) (drop base ds) ++ newest base ds
split base ds h =
    let ys = drop base ds in
    let all : take (length ds) ds ≡ take base ds ++ ys = take_all (length ds) ds (omega arith) ∙ sym (take-append-drop base ds) in
    let own : reverse ys ≡ newest (length ys) ys = sym (newest-reverse (length ys) ys ∙ ap reverse (take_all (length ys) ys (omega arith))) in
    newest-reverse (length ds) ds ∙ ap reverse all ∙ reverse-append (take base ds) ys
    ∙ ap (λ front. front ++ reverse (take base ds)) own ∙ ap (λ back. newest (length ys) ys ++ back) (sym (newest-reverse base ds))

taken_front : (x : ℕ) (inner outer : Environment) → is_taken x (length inner) (inner ++ outer) ≡ is_taken x (length inner) inner
taken_front x [] outer = refl
taken_front x (d ∷ inner) outer = ap (cond (d.name == x) true) (taken_front x inner outer)

found : (x : ℕ) (inner : Environment) (o : Option ℕ) → IsTaken x (length inner) inner o → is_taken x (length inner) inner ≡ is_some o
found x inner None p = p
found x inner (Some i) p = p.1 ∙ grind arith

-- a name is taken in the region that began with base declarations open exactly where one of those behind them has it
pub taken : (x base : ℕ) (ds : List Declaration) → base ≤ length ds
    → is_taken x (length ds - base) (newest (length ds) ds) ≡ is_some (place x (take (length ds - base) (drop base ds)))
taken x base ds h =
    let ys = drop base ds in
    let inner = newest (length ys) ys in
    let long : length inner ≡ length ds - base = length-newest (length ys) ys (omega arith) ∙ length-drop base ds in
    ap (is_taken x (length ds - base)) (split base ds h)
    ∙ ap (λ k. is_taken x k (inner ++ newest base ds)) (sym long)
    ∙ taken_front x inner (newest base ds)
    ∙ found x inner (place x ys) (place_among named x (is_taken x) (λ declared. refl) (none_taken x) (λ k d outer. refl) (length inner) inner)
    ∙ ap (λ zs. is_some (place x zs)) (sym (take_rest ds base))
