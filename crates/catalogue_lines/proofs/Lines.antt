-- The pieces of the lines of figures, and their lengths.
use Prim.Native.Nat.{ℕ, suc, ◌+◌, ◌-◌, ◌≤◌, ◌<◌}
use native.Mathlib.Omega.{arith}
use native.Mathlib.Numerals.{add-one}
use mathlib.Core.List.{List, [], ◌∷◌, ◌++◌, append_assoc, append-nil}
use mathlib.Core.Path.{◌≡◌, refl, sym, ◌∙◌, ap}
use lib.Dec.{eqb}
use lib.ListN.{length, get_or, length-append}
use borrow.Author.Tests.{eq-eqb, ne_eqb}
use Rattle.text_shape.proofs.WordTable.{opening_short}
use Rattle.text_grammar.specs.Number.{decimal}
use Rattle.text_grammar.proofs.Format.{by_cases}
use Rattle.text_shape.specs.Text.{line, bracket, items, gap_text}
use Rattle.text_shape.specs.Shape.{opening}
use Rattle.text_put.specs.Put.{Puts}
use Rattle.text_put.proofs.Buffer.{puts_nothing, puts_as}
use Rattle.print_lines.proofs.Lines.{number_short, Short, then_short}
use Rattle.catalogue_tally.specs.declared.Tally.{Tally}
use Rattle.catalogue_lines.specs.Figures.{number_word, won_word, count_line, pair_text, number_line, number_lines, won_line, figures_print, figures_bytes}

pub count_pieces : (w n : ℕ) → opening w ++ ((decimal n ++ 41 ∷ []) ++ 10 ∷ []) ≡ count_line w n
unfolding count_line line bracket items gap_text opening
count_pieces w n = simp (append_assoc, append-nil)

-- "(number " and "(won "
unfoldable pub number_opening : List ℕ
number_opening = 40 ∷ 110 ∷ 117 ∷ 109 ∷ 98 ∷ 101 ∷ 114 ∷ 32 ∷ []

unfoldable pub won_opening : List ℕ
won_opening = 40 ∷ 119 ∷ 111 ∷ 110 ∷ 32 ∷ []

number_text : (r n : ℕ) → number_opening ++ pair_text r n ≡ line (number_word ∷ decimal r ∷ decimal n ∷ [])
unfolding number_opening pair_text number_word line bracket items gap_text
number_text r n = simp (append_assoc, append-nil)

pub won_pieces : (w p : ℕ) → won_opening ++ pair_text w p ≡ won_line w p
unfolding won_opening pair_text won_line won_word line bracket items gap_text
won_pieces w p = simp (append_assoc, append-nil)

pub number_pieces : (r n : ℕ) → (n ≡ 0 → ⊥) → number_opening ++ pair_text r n ≡ number_line r n
unfolding number_line
number_pieces r n h = number_text r n ∙ sym (rw (ne_eqb n 0 h, number_line) refl)

pub number_unmet : (d : List ℕ) (at r n : ℕ) → n ≡ 0 → Puts d at (number_line r n) at d
unfolding number_line
number_unmet d at r n h =
    let empty : number_line r n ≡ [] = rw (eq-eqb n 0 h, number_line) refl in
    puts_as (sym empty) (puts_nothing d at)

pair_short : (m n : ℕ) → m < 18446744073709551616 → n < 18446744073709551616 → length (pair_text m n) ≤ 43
unfolding pair_text
pair_short m n h k =
    omega (
      arith,
      length-append (decimal m ++ 32 ∷ []) ((decimal n ++ 41 ∷ []) ++ 10 ∷ []),
      length-append (decimal n ++ 41 ∷ []) (10 ∷ []),
      number_short m 32 h,
      number_short n 41 k,
    )

pub count_short : (w n : ℕ) → n < 18446744073709551616 → length (count_line w n) ≤ 60
count_short w n h =
    omega (
      arith,
      ap length (count_pieces w n),
      length-append (opening w) ((decimal n ++ 41 ∷ []) ++ 10 ∷ []),
      length-append (decimal n ++ 41 ∷ []) (10 ∷ []),
      opening_short w,
      number_short n 41 h,
    )

pub won_short : (w p : ℕ) → w < 18446744073709551616 → p < 18446744073709551616 → length (won_line w p) ≤ 60
unfolding won_opening
won_short w p h k = omega (arith, ap length (won_pieces w p), length-append won_opening (pair_text w p), pair_short w p h k)

pub number_line_short : (r n : ℕ) → r < 18446744073709551616 → n < 18446744073709551616 → length (number_line r n) ≤ 60
unfolding number_line number_opening
number_line_short r n h k =
    by_cases (eqb n 0)
    (λ b. let empty : number_line r n ≡ [] = rw (b, number_line) refl in omega (arith, ap length empty))
    (λ b.
    let whole : number_line r n ≡ line (number_word ∷ decimal r ∷ decimal n ∷ []) = rw (b, number_line) refl in
    omega (arith, ap length whole, ap length (number_text r n), length-append number_opening (pair_text r n), pair_short r n h k))

-- the lines of the numbers, one after the other
pub numbers_none : (n : ℕ) (ns : List ℕ) → number_lines n 0 ns ≡ number_lines (n - 0) 0 ns
numbers_none n ns = let all : n ≡ n - 0 = omega arith in ap (λ (k : ℕ). number_lines k 0 ns) all

module _ (n r : ℕ) (ns : List ℕ) where
  pub numbers_take : (x : ℕ) → r < n → x ≡ get_or ns r 0 → number_lines (n - r) r ns ≡ number_line r x ++ number_lines (n - (r + 1)) (r + 1) ns
  unfolding number_lines
  numbers_take x l q =
      let split : n - r ≡ suc (n - (r + 1)) = omega arith in
      ap (λ (k : ℕ). number_lines k r ns) split ∙ (λ i. number_line r (sym q i) ++ number_lines (n - (r + 1)) (sym (add-one r) i) ns)

  pub numbers_last : n ≤ r → number_lines (n - r) r ns ≡ []
  unfolding number_lines
  numbers_last l = let none : n - r ≡ 0 = omega arith in ap (λ (k : ℕ). number_lines k r ns) none

-- every tally's print has place
pub figures_short : (t : Tally) → t.system < 18446744073709551616 → t.environment < 18446744073709551616 → t.refused < 18446744073709551616
    → length (number_lines 256 0 t.numbers) ≤ 15360 → t.won < 18446744073709551616 → t.positions < 18446744073709551616
    → length (figures_print t) ≤ figures_bytes
unfolding figures_print
figures_short t a b c l d e =
    let n : Short (number_lines 256 0 t.numbers) 15360 = record { size = l } in
    let w : Short (won_line t.won t.positions) 60 = record { size = won_short t.won t.positions d e } in
    let all = (then_short (count 8 t.system a) (then_short (count 9 t.environment b) (then_short (count 7 t.refused c) (then_short n w)))).size in
    omega (arith, all)
  where
    count : (w n : ℕ) → n < 18446744073709551616 → Short (count_line w n) 60
    count w n h = record { size = count_short w n h }
