-- The laws of the two views, table by table.
use Rattle.std.proofs.Common.{◌≡◌, ℕ, zero, suc, ◌+◌, ◌-◌, ◌<◌, ◌≤◌, List, [], ◌∷◌, ◌++◌, length, get_or, take, set, Some, sym, ap, ◌∙◌, arith}
use lib.Seq.{take-set-lt}
use Rattle.std.specs.List.{slice_get}
use Rattle.std.proofs.lemmas.Option.{slice_get-get_or, slice_get_within, get_or_from_slice_get}
use Rattle.std.proofs.lemmas.List.{length-take-le, take-set-le, take_more, take_more_set, get_or-take, get_or_push, length_push, length-set}
use Rattle.stack.specs.Tables.{newest}
use Rattle.stack.specs.Laws.{NewestIsReversedOldest, AsLongAsHeld, ActsStayWithin, PutAddsNewest, LastPutFirstOff, TakingOffTakesNewest, CutLeavesOldest, ReplaceWritesOne, TopIsNewest, ReadFromEitherEnd, LowerAreKept}
use Rattle.stack.proofs.Newest.{newest-reverse, newest-none, length-newest, newest-set, kept_set, newest-put, newest_less, newest-cut, newest-replace, slice_get-newest, take_min}

module _ {T : Type 0} where
  pub newest_is_reversed_oldest : NewestIsReversedOldest T
  newest_is_reversed_oldest t = newest-reverse t.held t.places

  pub as_long_as_held : AsLongAsHeld T
  as_long_as_held t h = (length-take-le _ _ h, length-newest _ _ h)

  pub acts_stay_within : ActsStayWithin T
  acts_stay_within t h = (λ x l. simp length-set (omega arith), omega arith, λ i x. simp length-set h, λ n. omega arith)

  pub put_adds_newest : PutAddsNewest T
  put_adds_newest x t h = (take_more_set _ _ x h, newest-put _ _ x h)

  pub last_put_first_off : LastPutFirstOff T
  last_put_first_off x t h =
      let n = t.held in
      let xs = t.places in
      let ys = take n xs ++ x ∷ [] in
      let long : length (take n xs) ≡ n + 1 - 1 = length-take-le n xs (omega arith) ∙ omega arith in
      let within : n + 1 - 1 < length ys = simp length_push (omega arith) in (
        ap (λ zs. slice_get zs (n + 1 - 1)) (take_more_set xs n x h) ∙ slice_get-get_or ys (n + 1 - 1) x within ∙ ap Some (get_or_push (take n xs) x x (n + 1 - 1) long),
        ap (λ k. newest k (set xs n x)) (omega arith) ∙ newest-set n n xs x (omega arith),
      )

  top_read : (n : ℕ) (xs : List T) (x : T) → n ≤ length xs → slice_get (take n xs) (n - 1) ≡ Some x → (0 < n) × (get_or xs (n - 1) x ≡ x)
  top_read n xs x h e =
      let within : n - 1 < length (take n xs) = slice_get_within _ _ x e in
      let some : 0 < n = omega (arith, length-take-le n xs h) in
      (some, sym (get_or-take n xs (n - 1) x (omega arith)) ∙ get_or_from_slice_get (take n xs) (n - 1) x x e)

  pub taking_off_takes_newest : TakingOffTakesNewest T
  taking_off_takes_newest x t h e =
      let n = t.held in
      let r = top_read n t.places x h e in
      let m : n ≡ n - 1 + 1 = omega arith in (
        ap (λ k. take k t.places) m ∙ take_more t.places (n - 1) x (omega arith) ∙ ap (λ y. take (n - 1) t.places ++ y ∷ []) r.1,
        newest_less n t.places x r.0 h ∙ ap (λ y. y ∷ newest (n - 1) t.places) r.1,
      )

  pub cut_leaves_oldest : CutLeavesOldest T
  cut_leaves_oldest n t h = (take_min n t.held t.places, newest-cut n t.held t.places h)

  pub replace_writes_one : ReplaceWritesOne T
  replace_writes_one i x t p h = (take-set-lt t.held t.places i x p, newest-replace i t.held t.places x p h)

  first-newest : (n : ℕ) (xs : List T) → n ≤ length xs → slice_get (take n xs) (n - 1) ≡ slice_get (newest n xs) 0
  first-newest zero xs h = rw newest-none
  first-newest (suc n) xs h = ap (slice_get (take (suc n) xs)) (omega arith) ∙ sym (slice_get-newest 0 (suc n) xs (omega arith) h)

  pub top_is_newest : TopIsNewest T
  top_is_newest t h = first-newest t.held t.places h

  pub read_from_either_end : ReadFromEitherEnd T
  read_from_either_end k t p h = slice_get-newest k t.held t.places p h

  pub lower_are_kept : LowerAreKept T
  lower_are_kept n i x xs h = (take-set-le n xs i x h, kept_set n i xs x h)
