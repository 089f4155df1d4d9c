-- The open declarations of the walk and the scope of the rules say the same.
use Rattle.std.proofs.Common.{◌≡◌, ℕ, suc, ◌-◌, ◌≤◌, Bool, true, cond, eqb, [], ◌∷◌, length, Some, None, Option, refl, ap, ◌∙◌, arith}
use Rattle.procedure.specs.declared.kind.DeclarationKind.{DeclarationKind}
use Rattle.procedure.specs.declared.kind.DeclarationKind.TheVariants.{Parameter, Variable, Constant}
use Rattle.procedure.specs.declared.types.«Type».{«Type» as TypeT}
use Rattle.checker.specs.declared.names.Declaration.{Declaration as DeclarationT}
use Rattle.checker.specs.declared.names.Meaning.{Meaning}
use Rattle.checker.specs.declared.names.Meaning.TheVariants.{Object}
use Rattle.checker.specs.Allowed.{Scope, standard, begin_region, hide, declare, object_of}
use Rattle.checker.specs.Names.{means_inside}
use Rattle.checker.specs.Region.{Environment, is_taken}
use Rattle.checker.specs.Walk.{is_constant}

-- Each name means the same; inside the declaration of a name, if any.
abbrev pub Sees : Option ℕ → Environment → Scope → Type 0
Sees own declared Γ = (x : ℕ) → Γ.means x ≡ means_inside own declared x

abbrev pub Alike : Environment → Scope → Type 0
Alike declared Γ = Sees None declared Γ

pub sees_inside : (declared : Environment) (Γ : Scope) (own : ℕ) → Alike declared Γ → Sees (Some own) declared (hide own Γ)
sees_inside declared Γ own same x = ap (λ (m : Option Meaning). cond (eqb own x) None m) (same x)

-- The same, and the names of the region that began with base declarations open.
pub record Agrees (base : ℕ) (declared : Environment) (Γ : Scope) : Type 0 where
  pub from : base ≤ length declared
  pub locals : (x : ℕ) → Γ.local x ≡ is_taken x (length declared - base) declared
  pub alike : Alike declared Γ

pub alike_declare : (declared : Environment) (Γ : Scope) (d : DeclarationT) (m : Meaning) → m ≡ Object d.of_type d.constant → Alike declared Γ
    → Alike (d ∷ declared) (declare d.name m Γ)
alike_declare declared Γ d m e same x =
    ap (λ (o : Meaning). cond (eqb d.name x) (Some o) (Γ.means x)) e
    ∙ ap (λ (o : Option Meaning). cond (eqb d.name x) (Some (Object d.of_type d.constant)) o) (same x)

pub agrees_begin : (declared : Environment) (Γ : Scope) → Alike declared Γ → Agrees (length declared) declared (begin_region Γ)
agrees_begin declared Γ same = record {
  from = omega arith;
  locals = λ x. let z : length declared - length declared ≡ 0 = omega arith in rw z;
  alike = same;
}

pub agrees_declare : (base : ℕ) (declared : Environment) (Γ : Scope) (d : DeclarationT) (m : Meaning) → m ≡ Object d.of_type d.constant
    → Agrees base declared Γ → Agrees base (d ∷ declared) (declare d.name m Γ)
agrees_declare base declared Γ d m e h = record {
  from = let f = h.from in omega arith;
  locals = λ x.
      let f = h.from in
      let z : suc (length declared) - base ≡ suc (length declared - base) = omega arith in
      rw z (ap (λ (b : Bool). cond (eqb d.name x) true b) (h.locals x));
  alike = alike_declare declared Γ d m e h.alike;
}

pub agrees_start : Agrees 0 [] (begin_region standard)
agrees_start = record { from = omega arith; locals = λ x. refl; alike = λ x. refl }

pub object_is : (k : DeclarationKind) (ty : TypeT) → object_of k ty ≡ Object ty (is_constant k)
object_is Parameter ty = refl
object_is Variable ty = refl
object_is Constant ty = refl
