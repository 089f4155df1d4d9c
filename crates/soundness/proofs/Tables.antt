-- Tables by the list of what they hold, the newest first, with room for so many.
use Rattle.std.proofs.Common.{◌≡◌, ℕ, suc, ◌+◌, ◌-◌, ◌<◌, ◌≤◌, true, ltb, List, [], ◌∷◌, length, drop, set, Some, None, sym, ap, ◌∙◌, subst, arith}
use Rattle.std.proofs.lemmas.List.{length-set}
use Rattle.std.proofs.lemmas.Bool.{lt-ltb, cond-true}
use Rattle.std.specs.List.{slice_get}
use Rattle.stack.specs.Acts.{item, top, stacked, taken_off, replaced, cut}
use Rattle.stack.specs.Tables.{Table as StackTable, Within, newest_first}
use Rattle.stack.proofs.Newest.{length-newest, newest-put, newest_less, newest-replace, newest-cut}
use Rattle.stack.proofs.Views.{top_is_newest}
use Rattle.machine.specs.Decide.{has_room}
use Rattle.machine.specs.State.{pushed, rewritten}

-- rest is what is left of a list when some of its newest are taken off
pub data Above {T : Type 0} (rest : List T) : List T → Type 0 where
  here : Above rest rest
  up : {x : T} {xs : List T} → Above rest xs → Above rest (x ∷ xs)

module _ {T : Type 0} where
  pub above-length : {rest xs : List T} → Above rest xs → length rest ≤ length xs
  above-length here = omega arith
  above-length (up a) = let h = above-length a in omega arith

  above-drop : {rest xs : List T} → Above rest xs → drop (length xs - length rest) xs ≡ rest
  above-drop {rest} here = let e : length rest - length rest ≡ 0 = omega arith in ap (λ n. drop n rest) e
  above-drop {rest} (up {x = x} {xs = xs} a) =
      let h = above-length a in
      let e : suc (length xs) - length rest ≡ suc (length xs - length rest) = omega arith in
      ap (λ n. drop n (x ∷ xs)) e ∙ above-drop a

  pub record Holds (R : ℕ) (s : StackTable T) (xs : List T) : Type 0 where
    pub is : newest_first s ≡ xs
    pub within : Within s
    pub roomy : R ≤ length s.places

  pub held_is : {R : ℕ} {s : StackTable T} {xs : List T} → Holds R s xs → s.held ≡ length xs
  held_is {s = s} h = sym (length-newest s.held s.places h.within) ∙ ap length h.is

  pub room_for : {R : ℕ} {s : StackTable T} {xs : List T} → Holds R s xs → length xs < R → has_room s ≡ true
  room_for {s = s} h l = let a = held_is h in let b = h.roomy in lt-ltb 0 (length s.places - s.held) (omega arith)

  pub top-some : {R : ℕ} {s : StackTable T} {xs : List T} {x : T} → Holds R s (x ∷ xs) → top s ≡ Some x
  top-some {s = s} h = top_is_newest s h.within ∙ ap (λ l. slice_get l 0) h.is

  pub top-none : {R : ℕ} {s : StackTable T} → Holds R s [] → top s ≡ None
  top-none {s = s} h = top_is_newest s h.within ∙ ap (λ l. slice_get l 0) h.is

  pub item-newest : {R : ℕ} {s : StackTable T} {xs : List T} {x : T} (i : ℕ) → i ≡ length xs → Holds R s (x ∷ xs) → item i s ≡ Some x
  item-newest {s = s} {xs} i e h = let a : s.held ≡ suc (length xs) = held_is h in let o : i ≡ s.held - 1 = omega arith in ap (λ n. item n s) o ∙ top-some h

  pub holds_push : {R : ℕ} {s : StackTable T} {xs : List T} (x : T) → length xs < R → Holds R s xs → Holds R (pushed x s) (x ∷ xs)
  holds_push {R} {s} {xs} x l h =
      let a = held_is h in let b = h.roomy in let e : length (set s.places s.held x) ≡ length s.places = length-set s.places s.held x in
      let p : s.held < length s.places = omega arith in
      subst (λ (u : StackTable T). Holds R u (x ∷ xs)) (sym (cond-true (ltb s.held (length s.places)) (stacked x s) s (lt-ltb _ _ p)))
      (record { is = newest-put s.held s.places x p ∙ ap (λ l. x ∷ l) h.is; within = omega arith; roomy = omega arith })

  pub holds_off : {R : ℕ} {s : StackTable T} {xs : List T} {x : T} → Holds R s (x ∷ xs) → Holds R (taken_off s) xs
  holds_off {R} {s} {xs} {x} h =
      let a : s.held ≡ suc (length xs) = held_is h in
      let e = newest_less s.held s.places x (omega arith) h.within in
      let i = h.is in
      record { is = cc; within = let w = h.within in omega arith; roomy = h.roomy }

  pub holds_cut : {R : ℕ} {s : StackTable T} {rest xs : List T} → Above rest xs → Holds R s xs → Holds R (cut (length rest) s) rest
  holds_cut {R} {s} {rest} {xs} a h =
      let k = held_is h in
      let w = h.within in
      record {
        is = newest-cut (length rest) s.held s.places h.within ∙ ap (λ n. drop (n - length rest) (newest_first s)) k
            ∙ ap (drop (length xs - length rest)) h.is ∙ above-drop a;
        within = omega arith;
        roomy = h.roomy;
      }

  pub holds_write : {R : ℕ} {s : StackTable T} {xs : List T} (i : ℕ) (x : T) → i < length xs → Holds R s xs
      → Holds R (rewritten i x s) (set xs (length xs - 1 - i) x)
  holds_write {R} {s} {xs} i x l h =
      let k = held_is h in let w = h.within in let b = h.roomy in
      let e : length (set s.places i x) ≡ length s.places = length-set s.places i x in
      subst (λ (u : StackTable T). Holds R u (set xs (length xs - 1 - i) x)) (sym (cond-true (ltb i s.held) (replaced i x s) s (lt-ltb _ _ (omega arith))))
      (record {
        is = newest-replace i s.held s.places x (omega arith) h.within ∙ ap (λ n. set (newest_first s) (n - 1 - i) x) k ∙ ap (λ l. set l (length xs - 1 - i) x) h.is;
        within = omega arith;
        roomy = omega arith;
      })

  -- the newest is written, where none is above it
  pub holds_turn : {R : ℕ} {s : StackTable T} {xs : List T} {y : T} (x : T) → Holds R s (y ∷ xs)
      → Holds R (cut (length xs + 1) (rewritten (length xs) x s)) (x ∷ xs)
  holds_turn {R} {s} {xs} {y} x h =
      let e : suc (length xs) - 1 - length xs ≡ 0 = omega arith in
      let w : Holds R (rewritten (length xs) x s) (x ∷ xs) =
      subst (λ n. Holds R (rewritten (length xs) x s) (set (y ∷ xs) n x)) e (holds_write (length xs) x (omega arith) h) in
      let o : suc (length xs) ≡ length xs + 1 = omega arith in
      subst (λ n. Holds R (cut n (rewritten (length xs) x s)) (x ∷ xs)) o (holds_cut here w)
