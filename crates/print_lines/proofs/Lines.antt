-- The pieces of an answer's lines, and their lengths.
use Prim.Native.Nat.{ℕ, ◌+◌, ◌/◌, ◌%◌, ◌≤◌, ◌<◌, max}
use native.Mathlib.Omega.{arith}
use mathlib.Core.Bool.{Bool, true, false}
use mathlib.Core.List.{List, [], ◌∷◌, ◌++◌, append_assoc, append-nil}
use mathlib.Core.Logic.{◌≢◌}
use mathlib.Core.Path.{◌≡◌, sym, ◌∙◌, ap, ap₂}
use lib.Dec.{eqb}
use lib.ListN.{length, length-append}
use borrow.Author.Tests.{eq-eqb, ne_eqb}
use Rattle.theory.specs.Entries.{none_entry, entry_state, entry_counter}
use Rattle.text_grammar.specs.Number.{decimal}
use Rattle.text_grammar.proofs.Format.{by_cases}
use Rattle.text_grammar.proofs.Number.{tens, digits_count}
use Rattle.text_shape.specs.Text.{word, line, bracket, items, gap_text}
use Rattle.text_shape.specs.Shape.{opening}
use Rattle.text_shape.proofs.WordTable.{word_short, opening_short}
use Rattle.text_put.specs.Put.{Puts}
use Rattle.text_put.proofs.Buffer.{puts_nothing, puts_as}
use Rattle.print_lines.specs.Line.{unless_none, winner_word, wins_line, start_line, environment_start_line, row_line, step_line, refused_line, misshapen_line}

-- a number of 64 bits has at most 20 digits
pub number_short : (v b : ℕ) → v < 18446744073709551616 → length (decimal v ++ b ∷ []) ≤ 21
unfolding tens
number_short v b h = omega (arith, length-append (decimal v) (b ∷ []), digits_count 19 v (omega arith))

pub two_digits : (v : ℕ) → v < 100 → length (decimal v) ≤ 2
unfolding tens
two_digits v h = digits_count 1 v h

pub six_digits : (v : ℕ) → v < 1000000 → length (decimal v) ≤ 6
unfolding tens
six_digits v h = digits_count 5 v h

-- rows of none
pub none_line : (d : List ℕ) (at e : ℕ) (t : List ℕ) → e ≡ none_entry → Puts d at (unless_none e t) at d
unfolding unless_none
none_line d at e t h =
    let empty : unless_none e t ≡ [] = rw (eq-eqb e none_entry h, unless_none) in
    puts_as (sym empty) (puts_nothing d at)

some_line : (e : ℕ) (t : List ℕ) → e ≢ none_entry → t ≡ unless_none e t
unfolding unless_none
some_line e t h = sym (rw (ne_eqb e none_entry h, unless_none))

pub unless_short : (e n : ℕ) (t : List ℕ) → length t ≤ n → length (unless_none e t) ≤ n
unfolding unless_none
unless_short e n t h =
    by_cases (eqb e none_entry)
    (λ b. let empty : unless_none e t ≡ [] = rw (b, unless_none) in omega (arith, ap length empty))
    (λ b. let whole : unless_none e t ≡ t = rw (b, unless_none) in omega (arith, ap length whole))

-- the lines
wins_pieces : (b : Bool) → opening 4 ++ (word (winner_word b) ++ 41 ∷ 10 ∷ []) ≡ wins_line b
unfolding wins_line line bracket items gap_text opening
wins_pieces b = simp (append_assoc, append-nil)

pub start_text : (i s : ℕ) → opening 5 ++ ((decimal i ++ 32 ∷ []) ++ ((decimal s ++ 41 ∷ []) ++ 10 ∷ [])) ≡ line (word 5 ∷ decimal i ∷ decimal s ∷ [])
unfolding line bracket items gap_text opening
start_text i s = simp (append_assoc, append-nil)

pub start_line_lem : (i e : ℕ) {s : ℕ} → s ≡ entry_state e → e ≢ none_entry → line (word 5 ∷ decimal i ∷ decimal s ∷ []) ≡ start_line i e
unfolding start_line
start_line_lem i e p h = ap (λ (s : ℕ). line (word 5 ∷ decimal i ∷ decimal s ∷ [])) p ∙ some_line e _ h

pub environment_text : (s : ℕ) → opening 5 ++ ((decimal s ++ 41 ∷ []) ++ 10 ∷ []) ≡ line (word 5 ∷ decimal s ∷ [])
unfolding line bracket items gap_text opening
environment_text s = simp (append_assoc, append-nil)

pub environment_line : (e : ℕ) {s : ℕ} → s ≡ entry_state e → e ≢ none_entry → line (word 5 ∷ decimal s ∷ []) ≡ environment_start_line e
unfolding environment_start_line
environment_line e p h = ap (λ (s : ℕ). line (word 5 ∷ decimal s ∷ [])) p ∙ some_line e _ h

pub row_text : (a g b s k : ℕ)
    → opening 6
    ++ ((decimal a ++ 32 ∷ [])
    ++ ((decimal g ++ 32 ∷ []) ++ ((decimal b ++ 32 ∷ []) ++ ((decimal s ++ 32 ∷ []) ++ ((decimal k ++ 41 ∷ []) ++ 10 ∷ [])))))
    ≡ line (word 6 ∷ decimal a ∷ decimal g ∷ decimal b ∷ decimal s ∷ decimal k ∷ [])
unfolding line bracket items gap_text opening
row_text a g b s k = simp (append_assoc, append-nil)

pub row_line_lem : (a g b e : ℕ) {s k : ℕ} → s ≡ entry_state e → k ≡ entry_counter e
    → line (word 6 ∷ decimal a ∷ decimal g ∷ decimal b ∷ decimal s ∷ decimal k ∷ []) ≡ row_line a g b e
unfolding row_line
row_line_lem a g b e p q = ap₂ (λ (s k : ℕ). line (word 6 ∷ decimal a ∷ decimal g ∷ decimal b ∷ decimal s ∷ decimal k ∷ [])) p q

pub step_row : (c n r e m k : ℕ) → e ≢ none_entry → m ≡ max 1 n → k ≡ max 1 c → row_line (r / m / k) (r / m % k) (r % m) e ≡ step_line c n r e
unfolding step_line
step_row c n r e m k h p q =
    (λ i. row_line (r / p i / q i) (r / p i % q i) (r % p i) e) ∙ some_line e _ h

pub refused_pieces : (n : ℕ) → opening 7 ++ ((decimal n ++ 41 ∷ []) ++ 10 ∷ []) ≡ refused_line n
unfolding refused_line line bracket items gap_text opening
refused_pieces n = simp (append_assoc, append-nil)

pub misshapen_pieces : (p : ℕ) → opening 7 ++ ((decimal 11 ++ 32 ∷ []) ++ ((decimal p ++ 41 ∷ []) ++ 10 ∷ [])) ≡ misshapen_line p
unfolding misshapen_line line bracket items gap_text opening
misshapen_pieces p = simp (append_assoc, append-nil)

pub winner_word_lem : (b : Bool) (w : ℕ) → w ≡ winner_word b → (w < 10) × (opening 4 ++ (word w ++ 41 ∷ 10 ∷ []) ≡ wins_line b)
unfolding winner_word
winner_word_lem true w h = (omega arith, ap (λ (v : ℕ). opening 4 ++ (word v ++ 41 ∷ 10 ∷ [])) h ∙ wins_pieces true)
winner_word_lem false w h = (omega arith, ap (λ (v : ℕ). opening 4 ++ (word v ++ 41 ∷ 10 ∷ [])) h ∙ wins_pieces false)

-- the length of a text in pieces
pub record Short (t : List ℕ) (n : ℕ) : Type 0 where
  pub size : length t ≤ n

pub then_short : {t u : List ℕ} {m n : ℕ} → Short t m → Short u n → Short (t ++ u) (m + n)
then_short {t} {u} T U = let a = T.size in let b = U.size in record { size = omega (arith, length-append t u) }

pub ended : Short (10 ∷ []) 1
ended = record { size = omega arith }

pub wins_short : (b : Bool) → length (wins_line b) ≤ 160
wins_short b =
    omega (
      arith,
      ap length (wins_pieces b),
      length-append (opening 4) (word (winner_word b) ++ 41 ∷ 10 ∷ []),
      length-append (word (winner_word b)) (41 ∷ 10 ∷ []),
      opening_short 4,
      word_short (winner_word b),
    )
