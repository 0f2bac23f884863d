-- A buffer of 1 MiB holds the print of 32,768 entries, a line having at most 29 bytes, and every line of a refusal.
use Prim.Native.Nat.{ℕ, zero, suc, ◌+◌, ◌*◌, ◌/◌, ◌≤◌, ◌<◌, max}
use native.Mathlib.Omega.{arith}
use native.Mathlib.Nat.{div-le_self, mod-lt, le_trans, lt_of_le_of_lt}
use mathlib.Core.Bool.{Bool, true, false}
use mathlib.Core.List.{List, [], ◌∷◌, ◌++◌}
use mathlib.Core.Path.{◌≡◌, ap}
use lib.Dec.{ltb}
use lib.ListN.{length, get_or, length-append, get_or-eq_default}
use borrow.Author.Tests.{ltb-true, ltb-false}
use Rattle.text_shape.proofs.WordTable.{opening_short}
use Rattle.text_grammar.proofs.Number.{three_digits}
use Rattle.text_grammar.specs.Number.{decimal}
use Rattle.text_grammar.proofs.Format.{by_cases}
use Rattle.finite.proofs.Lists.{any_default}
use Rattle.theory.specs.Entries.{none_entry, entry_state, entry_counter}
use Rattle.text_shape.specs.Text.{words, word}
use Rattle.text_shape.specs.Shape.{opening}
use Rattle.print_lines.specs.Line.{wins_line, start_line, environment_start_line, row_line, step_line, refused_line, misshapen_line}
use Rattle.print_tables.specs.Print.{
  start_lines,
  step_lines,
  controller_print,
  environment_print,
  controller_fits,
  environment_fits,
  only_if,
  controller_answer,
  environment_answer,
}
use Rattle.print_lines.proofs.Lines.{
  two_digits,
  six_digits,
  unless_short,
  start_text,
  environment_text,
  row_text,
  refused_pieces,
  misshapen_pieces,
  number_short,
  Short,
  then_short,
  ended,
  wins_short,
}
use Rattle.print_tables.proofs.Fits.{controller_entries_lem, environment_entries_lem, controller_sets, environment_sets}

number : (v b k : ℕ) → length (decimal v) ≤ k → Short (decimal v ++ b ∷ []) (k + 1)
number v b k h = record { size = omega (arith, h, length-append (decimal v) (b ∷ [])) }

start_opening : Short (opening 5) 7
unfolding opening word words
start_opening = record { size = omega arith }

step_opening : Short (opening 6) 6
unfolding opening word words
step_opening = record { size = omega arith }

start_room : (i e : ℕ) → i < 1000 → length (start_line i e) ≤ 29
unfolding start_line
start_room i e h =
    let all = (then_short start_opening (then_short (number i 32 3 (three_digits i h))
    (then_short (number (entry_state e) 41 3 (three_digits (entry_state e) (omega arith))) ended))).size in
    unless_short e 29 _ (omega (arith, all, ap length (start_text i (entry_state e))))

environment_start_room : (e : ℕ) → length (environment_start_line e) ≤ 29
unfolding environment_start_line
environment_start_room e =
    let all = (then_short start_opening (then_short (number (entry_state e) 41 3 (three_digits (entry_state e) (omega arith))) ended)).size in
    unless_short e 29 _ (omega (arith, all, ap length (environment_text (entry_state e))))

row_room : (a g b e : ℕ) → a < 1000000 → g < 100 → b < 1000 → e < 65536 → length (row_line a g b e) ≤ 29
unfolding row_line
row_room a g b e p q s h =
    let next = then_short (number (entry_state e) 32 3 (three_digits (entry_state e) (omega arith)))
    (then_short (number (entry_counter e) 41 3 (three_digits (entry_counter e) (omega arith))) ended) in
    let all =
    (then_short step_opening
    (then_short (number a 32 6 (six_digits a p)) (then_short (number g 32 2 (two_digits g q)) (then_short (number b 32 3 (three_digits b s)) next)))).size in
    omega (arith, all, ap length (row_text a g b (entry_state e) (entry_counter e)))

step_room : (c n r e : ℕ) → c ≤ 32 → n ≤ 128 → r < 1000000 → e < 65536 → length (step_line c n r e) ≤ 29
unfolding step_line
step_room c n r e hc hn hr he =
    let few : max 1 c < 100 = omega arith in
    let small : max 1 n < 1000 = omega arith in
    let some : 0 < max 1 c = omega arith in
    let any : 0 < max 1 n = omega arith in
    let a = lt_of_le_of_lt (le_trans (div-le_self (r / max 1 n) (max 1 c)) (div-le_self r (max 1 n))) hr in
    unless_short e 29 _ (row_room _ _ _ e a (lt_trans (mod-lt (r / max 1 n) some) few) (lt_trans (mod-lt r any) small) he)
  where
    lt_trans : {x y z : ℕ} → x < y → y < z → x < z
    lt_trans p q = omega (arith, p, q)

module _ (es : List ℕ) (entries : (j : ℕ) → get_or es j none_entry < 65536) where
  starts_room : (n i : ℕ) → i + n ≤ 1000 → length (start_lines n i es) ≤ 29 * n
  unfolding start_lines
  starts_room zero i h = omega arith
  starts_room (suc n) i h =
      omega (
        arith,
        length-append (start_line i (get_or es i none_entry)) (start_lines n (suc i) es),
        start_room i (get_or es i none_entry) (omega arith),
        starts_room n (suc i) (omega arith),
      )

  steps_room : (c n at k r : ℕ) → c ≤ 32 → n ≤ 128 → r + k ≤ 1000000 → length (step_lines k r c n at es) ≤ 29 * k
  unfolding step_lines
  steps_room c n at zero r hc hn h = omega arith
  steps_room c n at (suc k) r hc hn h =
      omega (
        arith,
        length-append (step_line c n r (get_or es (at + r) none_entry)) (step_lines k (suc r) c n at es),
        step_room c n r (get_or es (at + r) none_entry) hc hn (omega arith) (entries (at + r)),
        steps_room c n at k (suc r) hc hn (omega arith),
      )

  pub controller_room : (i o c : ℕ) → length es ≤ 32768 → length (controller_answer i o c es) ≤ 1048576
  unfolding controller_answer only_if controller_print
  controller_room i o c h =
      by_cases (controller_fits i o c (length es))
      (λ b.
      let l = controller_entries_lem i o c (length es) b in
      let whole : controller_answer i o c es ≡ controller_print i o c es = ap (λ (x : Bool). only_if x (controller_print i o c es)) b in
      omega (
        arith,
        ap length whole,
        l.1,
        length-append (wins_line true) (start_lines i 0 es ++ step_lines (o * max 1 c * i) 0 c i i es),
        length-append (start_lines i 0 es) (step_lines (o * max 1 c * i) 0 c i i es),
        wins_short true,
        starts_room i 0 (omega (arith, l.0)),
        steps_room c i i (o * max 1 c * i) 0 (controller_sets i o c (length es) b) l.0 (omega (arith, l)),
      ))
      (λ b. let nothing : controller_answer i o c es ≡ [] = ap (λ (x : Bool). only_if x (controller_print i o c es)) b in omega (arith, ap length nothing))

  pub environment_room : (i o c : ℕ) → length es ≤ 32768 → length (environment_answer i o c es) ≤ 1048576
  unfolding environment_answer only_if environment_print
  environment_room i o c h =
      by_cases (environment_fits i o c (length es))
      (λ b.
      let l = environment_entries_lem i o c (length es) b in
      let s = environment_sets i o c (length es) b in
      let whole : environment_answer i o c es ≡ environment_print i o c es = ap (λ (x : Bool). only_if x (environment_print i o c es)) b in
      omega (
        arith,
        ap length whole,
        l,
        length-append (wins_line false) (environment_start_line (get_or es 0 none_entry) ++ step_lines (i * max 1 c * o) 0 c o 1 es),
        length-append (environment_start_line (get_or es 0 none_entry)) (step_lines (i * max 1 c * o) 0 c o 1 es),
        wins_short false,
        environment_start_room (get_or es 0 none_entry),
        steps_room c o 1 (i * max 1 c * o) 0 s.1 s.0 (omega (arith, l)),
      ))
      (λ b. let nothing : environment_answer i o c es ≡ [] = ap (λ (x : Bool). only_if x (environment_print i o c es)) b in omega (arith, ap length nothing))

pub refused_room : (n : ℕ) → n < 256 → length (refused_line n) ≤ 1048576
refused_room n h =
    omega (
      arith,
      ap length (refused_pieces n),
      length-append (opening 7) ((decimal n ++ 41 ∷ []) ++ 10 ∷ []),
      length-append (decimal n ++ 41 ∷ []) (10 ∷ []),
      opening_short 7,
      number_short n 41 (omega arith),
    )

pub misshapen_room : (p : ℕ) → p < 18446744073709551616 → length (misshapen_line p) ≤ 1048576
misshapen_room p h =
    omega (
      arith,
      ap length (misshapen_pieces p),
      length-append (opening 7) ((decimal 11 ++ 32 ∷ []) ++ ((decimal p ++ 41 ∷ []) ++ 10 ∷ [])),
      length-append (decimal 11 ++ 32 ∷ []) ((decimal p ++ 41 ∷ []) ++ 10 ∷ []),
      length-append (decimal p ++ 41 ∷ []) (10 ∷ []),
      opening_short 7,
      number_short 11 32 (omega arith),
      number_short p 41 h,
    )

-- what a slice of 16-bit entries holds, and none past its end
pub entries_small : (l : List ℕ) → ((j : ℕ) → get_or l j 0 < 65536) → (j : ℕ) → get_or l j none_entry < 65536
entries_small l h j =
    by_cases (ltb j (length l))
    (λ b. omega (arith, any_default l j none_entry 0 (ltb-true j (length l) b), h j))
    (λ b. omega (arith, get_or-eq_default l none_entry (ltb-false j (length l) b)))
