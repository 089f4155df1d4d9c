-- A walk that adds up as it goes along a list gives what the definition's walk gives.
use Rattle.std.proofs.Common.{◌≡◌, ℕ, ◌+◌, ◌-◌, Ok, Err, sym, refl, ap, ◌∙◌, arith}
use Rattle.procedure.specs.declared.kind.StatementKind.{StatementKind}
use Rattle.procedure.specs.declared.table.Standing.{Standing}
use Rattle.procedure.specs.declared.table.Standing.TheVariants.{Statement}
use Rattle.procedure.specs.Sequence.{Answer, and_then}
use Rattle.procedure.specs.Table.{Table, node, standing}
use Rattle.checker.specs.declared.answer.Sheet.{Sheet}
use Rattle.checker.specs.Cost.{held, in_turn}
use Rattle.checker.specs.Region.{Environment}
use Rattle.checker.specs.Walk.{Opened, Declares, declarations, Walks, statement, states, statements}
use Rattle.checker.proofs.Unrolled.{states_unrolled}

-- the sheet so far, and then the rest
abbrev pub followed : Sheet → Answer Sheet → Answer Sheet
followed first a = and_then a λ rest. Ok (in_turn held first rest)

followed_more : (first one : Sheet) (a : Answer Sheet) → followed first (followed one a) ≡ followed (in_turn held first one) a
followed_more first one (Err e) = refl
followed_more first one (Ok rest) = grind arith

states_one : (a : Walks) (o : ℕ → Declares) (s : Standing) (k : StatementKind) (t : Table) (declared : Environment) (n : ℕ) (one : Sheet)
    → s ≡ Statement k → Ok one ≡ statement held a o k t declared n → followed one (a declared (node t n).next) ≡ states held a o s t declared n
states_one a o s k t declared n one h e =
    ap (λ (x : Answer Sheet). and_then x λ first. followed first (a declared (node t n).next)) e ∙ ap (λ (s : Standing). states held a o s t declared n) (sym h)

-- one statement more
pub followed_step : (f : ℕ) (t : Table) (declared : Environment) (n : ℕ) (k : StatementKind) (first one : Sheet)
    → (f ≡ 0 → ⊥) → standing t n ≡ Statement k
    → Ok one ≡ statement held (statements held (f - 1) t) (declarations (f - 1) t) k t declared n
    → followed (in_turn held first one) (statements held (f - 1) t declared (node t n).next) ≡ followed first (statements held f t declared n)
followed_step f t declared n k first one h s e =
    sym (followed_more first one (statements held (f - 1) t declared (node t n).next))
    ∙ ap (followed first) (states_one (statements held (f - 1) t) (declarations (f - 1) t) (standing t n) k t declared n one s e ∙ sym (states_unrolled held f t declared n h))

-- what a list of declarations opens, and a cost so far
abbrev pub costing : ℕ → Answer Opened → Answer Opened
costing c a = and_then a λ o. Ok (record { declared = o.declared; cost = o.cost + c })
