-- Nodes that are written are read back. Assumes nothing.
use Rattle.std.proofs.Common.{◌≡◌, ℕ, suc, ◌+◌, ◌-◌, ◌*◌, ◌^◌, ◌<◌, ◌≤◌, true, false, List, [], ◌∷◌, ◌++◌, length, ℤ, pos, negsuc, Some, Ok, decimal, fold, refl, ap, ◌∙◌, arith, rules}
use Rattle.std.specs.Option.{option_map}
use Rattle.std.specs.Fmt.{signed_decimal}
use Rattle.std.specs.List.{All, AllByRecursion}
use Rattle.std.proofs.lemmas.List.Elements.{All-head, All-tail}
use Rattle.std.proofs.lemmas.Fmt.{decimal_nonempty, digits_decimal, digits_value-decimal}
use Rattle.std.proofs.lemmas.Str.Parse.{IsNumeralModel, numerals_by_fold}
use Rattle.std.proofs.lemmas.Int.{ints}
use Rattle.std.proofs.lemmas.Bool.Decides.{nat_tests}
use Rattle.procedure.specs.declared.node.Node.{Node}
use Rattle.files.specs.declared.scan.Separator.{Separator}
use Rattle.files.specs.declared.scan.Separator.TheVariants.{Blank, LineEnd, CommentSign}
use Rattle.files.specs.declared.line.Field.{Field}
use Rattle.files.specs.declared.line.Field.TheVariants.{Kind, Name, PartA, PartB, PartC, Next, Lo, Hi}
use Rattle.files.specs.Scan.{Bytes, cuts, before, pieces, lines_of, words_of}
use Rattle.files.specs.Number.{all_digits, digits_value, natural_written, number_written}
use Rattle.files.specs.Line.{described, Within, natural, integer, node_of, line_read}
use Rattle.files.specs.File.{lines_read}
use Rattle.files.specs.Written.{Fitting, spaced, node_words, nodes_text, ReadBack}
use Rattle.files.proofs.Cuts.{filled_solid}
use Rattle.files.proofs.Decimal.{written}

-- no byte is such a separator
abbrev Uncut : Separator → Bytes → Type 0
Uncut s [] = Unit {0}
Uncut s (b ∷ bs) = (cuts s b ≡ false) × Uncut s bs

uncut_append : (s : Separator) (xs ys : Bytes) → Uncut s xs → Uncut s ys → Uncut s (xs ++ ys)
uncut_append s [] ys p q = q
uncut_append s (b ∷ xs) ys p q = (p.0, uncut_append s xs ys p.1 q)

before_uncut : (s : Separator) (bs : Bytes) → Uncut s bs → before s bs ≡ bs
before_uncut s [] u = refl
before_uncut s (b ∷ bs) u = rw (u.0, before_uncut s bs u.1) refl

pieces_uncut : (s : Separator) (w : Bytes) (b : ℕ) (rest : Bytes) → Uncut s w → cuts s b ≡ true → pieces s (w ++ (b ∷ rest)) ≡ w ∷ pieces s rest
pieces_uncut s [] b rest u cut = rw cut refl
pieces_uncut s (c ∷ w) b rest u cut = rw (u.0, pieces_uncut s w b rest u.1 cut) refl

pieces_last : (s : Separator) (w : Bytes) → Uncut s w → 0 < length w → pieces s w ≡ w ∷ []
pieces_last s [] u some = absurd (omega arith)
pieces_last s (b ∷ []) u some = rw u.0 refl
pieces_last s (b ∷ c ∷ w) u some = rw (u.0, pieces_last s (c ∷ w) u.1 (omega arith)) refl

-- not empty, and with no separator in it
record Solid (w : Bytes) : Type 0 where
  some : 0 < length w
  uncut : (s : Separator) → Uncut s w

words_spaced : (ws : List Bytes) → AllByRecursion Solid ws → words_of (spaced ws) ≡ ws
words_spaced [] solid = refl
words_spaced (w ∷ []) solid = rw (pieces_last Blank w (solid.0.uncut Blank) solid.0.some) (filled_solid w [] solid.0.some)
words_spaced (w ∷ v ∷ ws) solid =
    rw (pieces_uncut Blank w 32 (spaced (v ∷ ws)) (solid.0.uncut Blank) refl)
    (filled_solid w _ solid.0.some ∙ ap (λ vs. w ∷ vs) (words_spaced (v ∷ ws) solid.1))

uncut_spaced : (s : Separator) (ws : List Bytes) → AllByRecursion Solid ws → cuts s 32 ≡ false → Uncut s (spaced ws)
uncut_spaced s [] solid space = tt
uncut_spaced s (w ∷ []) solid space = solid.0.uncut s
uncut_spaced s (w ∷ v ∷ ws) solid space = uncut_append s w _ (solid.0.uncut s) (space, uncut_spaced s (v ∷ ws) solid.1 space)

digit_uncut : (s : Separator) (b : ℕ) → 45 ≤ b → cuts s b ≡ false
digit_uncut s b h = grind (arith, nat_tests)

digits_uncut : (s : Separator) (bs : Bytes) → all_digits bs ≡ true → Uncut s bs
digits_uncut s [] d = tt
digits_uncut s (b ∷ bs) d = (digit_uncut s b (grind (arith, nat_tests)), digits_uncut s bs (grind arith))

own : IsNumeralModel (λ ds. all_digits ds ≡ true) digits_value
own = numerals_by_fold _ (search rules) (fold (λ n b. 10 * n + (b - 48))) (search rules)

solid_decimal : (n : ℕ) → n < 2 ^ 64 → Solid (decimal n)
solid_decimal n small = record { some = decimal_nonempty n small; uncut = λ s. digits_uncut s (decimal n) (digits_decimal own n small) }

natural_decimal : (n : ℕ) → n < 2 ^ 64 → natural_written (decimal n) ≡ Some n
natural_decimal n small =
    written (decimal n) (λ none. omega (arith, decimal_nonempty n small)) ∙ rw (digits_decimal own n small, digits_value-decimal own n small) refl

digits_number : (bs : Bytes) → all_digits bs ≡ true → number_written bs ≡ option_map pos (natural_written bs)
digits_number [] digits = refl
digits_number (b ∷ bs) digits = grind (arith, nat_tests)

decimal_number : (n : ℕ) → n < 2 ^ 64 → number_written (decimal n) ≡ Some (pos n)
decimal_number n small = digits_number (decimal n) (digits_decimal own n small) ∙ ap (option_map pos) (natural_decimal n small)

solid_signed : (z : ℤ) → Within Lo z → Solid (signed_decimal z)
solid_signed (pos n) h = solid_decimal n (omega (arith, ints))
solid_signed (negsuc n) h =
    let digits = solid_decimal (suc n) (omega (arith, ints)) in
    record { some = omega arith; uncut = λ s. (digit_uncut s 45 (omega arith), digits.uncut s) }

signed-number : (z : ℤ) → Within Lo z → number_written (signed_decimal z) ≡ Some z
signed-number (pos n) h = decimal_number n (omega (arith, ints))
signed-number (negsuc n) h = rw (natural_decimal (suc n) (omega (arith, ints))) refl

natural_back : (f : Field) (n top : ℕ) → (described f).low ≡ pos 0 → (described f).high ≡ pos top → n ≤ top → top < 2 ^ 64 → natural f (Some (decimal n)) ≡ Ok n
natural_back f n top low high within small =
    rw (decimal_number n (omega arith), low, high) (grind (arith, nat_tests))

integer_back : (f : Field) (z : ℤ) → Within f z → Within Lo z → integer f (Some (signed_decimal z)) ≡ Ok z
integer_back f z within fits =
    rw (signed-number z fits) (grind (arith, ints))

node_back : (n : Node) → Fitting n → node_of (node_words n) ≡ Ok n
node_back n fits =
    rw (
      natural_back Kind n.kind 255 refl refl fits.kind (omega arith),
      natural_back Name n.name 65535 refl refl fits.name (omega arith),
      natural_back PartA n.a 65535 refl refl fits.a (omega arith),
      natural_back PartB n.b 65535 refl refl fits.b (omega arith),
      natural_back PartC n.c 65535 refl refl fits.c (omega arith),
      natural_back Next n.next 65535 refl refl fits.next (omega arith),
      integer_back Lo n.lo fits.lo fits.lo,
      integer_back Hi n.hi fits.hi fits.hi,
    ) refl

solid_words : (n : Node) → Fitting n → AllByRecursion Solid (node_words n)
solid_words n fits = search (rules, arith, solid_decimal, solid_signed)

line_back : (n : Node) → Fitting n → line_read (spaced (node_words n)) ≡ Ok (Some n)
line_back n fits =
    let solid = solid_words n fits in
    rw (before_uncut CommentSign (spaced (node_words n)) (uncut_spaced CommentSign (node_words n) solid refl), words_spaced (node_words n) solid, node_back n fits) refl

lines_back : (number : ℕ) (ns : List Node) → All Fitting ns → lines_read number (lines_of (nodes_text ns)) ≡ Ok ns
lines_back number [] fits = refl
lines_back number (n ∷ ns) fits =
    let first = All-head Fitting n ns fits in
    rw (
      pieces_uncut LineEnd (spaced (node_words n)) 10 (nodes_text ns) (uncut_spaced LineEnd (node_words n) (solid_words n first) refl) refl,
      line_back n first,
      lines_back (number + 1) ns (All-tail Fitting n ns fits),
    ) refl

pub read_back : ReadBack
read_back ns fits = lines_back 1 ns fits
