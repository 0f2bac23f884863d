-- The dimensions that a table fits, and the print of one that does.
use Prim.Native.Nat.{ℕ, ◌+◌, ◌*◌, ◌-◌, ◌≤◌, ◌<◌, max}
use native.Mathlib.Omega.{arith}
use native.Mathlib.Nat.{mul-le-mul}
use mathlib.Core.Bool.{Bool, true, false, ◌&&◌}
use mathlib.Core.List.{List}
use mathlib.Core.Path.{◌≡◌, refl, sym, ap}
use lib.Dec.{eqb, leb}
use lib.ListN.{length, get_or}
use borrow.Author.Tests.{leb-true, le-leb, lt-leb, eqb-true}
use Rattle.finite.proofs.Truth.{and_left, and_right}
use Rattle.finite.proofs.Loops.{and_stop, and_next}
use Rattle.finite.proofs.Lists.{any_default}
use Rattle.theory.specs.Entries.{none_entry}
use Rattle.text_put.specs.Put.{Puts}
use Rattle.text_put.proofs.Buffer.{puts_nothing, puts_then, puts_as}
use Rattle.print_lines.specs.Line.{wins_line, environment_start_line}
use Rattle.print_tables.specs.Print.{
  start_lines,
  step_lines,
  controller_print,
  environment_print,
  in_range,
  controller_fits,
  environment_fits,
  only_if,
  controller_answer,
  environment_answer,
}

module _ (i o c : ℕ) where
  pub range_inputs : 128 < i → false ≡ in_range i o c
  unfolding in_range
  range_inputs h = and_stop (leb o 128 && leb c 32) (lt-leb i 128 h)

  pub range_outputs : i ≤ 128 → 128 < o → false ≡ in_range i o c
  unfolding in_range
  range_outputs l h = and_next (le-leb i 128 l) (and_stop (leb c 32) (lt-leb o 128 h))

  pub range_sets : i ≤ 128 → o ≤ 128 → leb c 32 ≡ in_range i o c
  unfolding in_range
  range_sets l h = and_next (le-leb i 128 l) (and_next (le-leb o 128 h) refl)

  pub range_bounds : in_range i o c ≡ true → (i ≤ 128) × (o ≤ 128) × (c ≤ 32)
  unfolding in_range
  range_bounds h =
      let rest = and_right (leb i 128) (leb o 128 && leb c 32) h in (
        leb-true i 128 (and_left (leb i 128) (leb o 128 && leb c 32) h),
        leb-true o 128 (and_left (leb o 128) (leb c 32) rest),
        leb-true c 32
            (and_right (leb o 128) (leb c 32) rest),
      )

-- a states, counters for c sets, b states
pub rows_most : (a c m : ℕ) → a ≤ 128 → c ≤ 32 → m ≡ max 1 c → a * m ≤ 4096
rows_most a c m h l e = let most : m ≤ 32 = omega arith in mul-le-mul h most

pub entries_most : (a c m b : ℕ) → a ≤ 128 → c ≤ 32 → b ≤ 128 → m ≡ max 1 c → a * m * b ≤ 524288
entries_most a c m b h l k e = mul-le-mul (rows_most a c m h l e) k

module _ (i o c n : ℕ) where
  pub controller_unfit : in_range i o c ≡ false → false ≡ controller_fits i o c n
  unfolding controller_fits
  controller_unfit h = and_stop (eqb n (i + o * max 1 c * i)) h

  pub controller_fit : (m : ℕ) → in_range i o c ≡ true → m ≡ max 1 c → eqb n (i + o * m * i) ≡ controller_fits i o c n
  unfolding controller_fits
  controller_fit m h e = and_next h (ap (λ (k : ℕ). eqb n (i + o * k * i)) e)

  pub environment_unfit : in_range i o c ≡ false → false ≡ environment_fits i o c n
  unfolding environment_fits
  environment_unfit h = and_stop (eqb n (1 + i * max 1 c * o)) h

  pub environment_fit : (m : ℕ) → in_range i o c ≡ true → m ≡ max 1 c → eqb n (1 + i * m * o) ≡ environment_fits i o c n
  unfolding environment_fits
  environment_fit m h e = and_next h (ap (λ (k : ℕ). eqb n (1 + i * k * o)) e)

  pub controller_entries_lem : controller_fits i o c n ≡ true → (i ≤ 128) × (n ≡ i + o * max 1 c * i)
  unfolding controller_fits
  controller_entries_lem h =
      let b = range_bounds i o c (and_left (in_range i o c) (eqb n (i + o * max 1 c * i)) h) in
      let e = eqb-true n (i + o * max 1 c * i) (and_right (in_range i o c) (eqb n (i + o * max 1 c * i)) h) in
      (b.0, e)

  pub environment_entries_lem : environment_fits i o c n ≡ true → n ≡ 1 + i * max 1 c * o
  unfolding environment_fits
  environment_entries_lem h = eqb-true n (1 + i * max 1 c * o) (and_right (in_range i o c) (eqb n (1 + i * max 1 c * o)) h)

  pub controller_sets : controller_fits i o c n ≡ true → c ≤ 32
  unfolding controller_fits
  controller_sets h = (range_bounds i o c (and_left (in_range i o c) (eqb n (i + o * max 1 c * i)) h)).2

  pub environment_sets : environment_fits i o c n ≡ true → (o ≤ 128) × (c ≤ 32)
  unfolding environment_fits
  environment_sets h = let b = range_bounds i o c (and_left (in_range i o c) (eqb n (1 + i * max 1 c * o)) h) in (b.1, b.2)

module _ {d : List ℕ} (i o c : ℕ) (es : List ℕ) where
  pub controller_nothing : controller_fits i o c (length es) ≡ false → Puts d 0 (controller_answer i o c es) 0 d
  unfolding controller_answer only_if
  controller_nothing h = puts_as (sym (ap (λ (b : Bool). only_if b (controller_print i o c es)) h)) (puts_nothing d 0)

  pub environment_nothing : environment_fits i o c (length es) ≡ false → Puts d 0 (environment_answer i o c es) 0 d
  unfolding environment_answer only_if
  environment_nothing h = puts_as (sym (ap (λ (b : Bool). only_if b (environment_print i o c es)) h)) (puts_nothing d 0)

  pub controller_whole : {m : ℕ} {f : List ℕ} {k : ℕ} {g : List ℕ} {r : ℕ} {e : List ℕ} → controller_fits i o c (length es) ≡ true
      → Puts d 0 (wins_line true) m f → Puts f m (start_lines i 0 es) k g → Puts g k (step_lines (length es - i) 0 c i i es) r e → Puts d 0
      (controller_answer i o c es) r e
  unfolding controller_answer only_if controller_print
  controller_whole h P Q R =
      let l = (controller_entries_lem i o c (length es) h).1 in
      let rows : length es - i ≡ o * max 1 c * i = omega (arith, l) in
      puts_as (sym (ap (λ (b : Bool). only_if b (controller_print i o c es)) h))
      (puts_then P (puts_then Q (puts_as (ap (λ (n : ℕ). step_lines n 0 c i i es) rows) R)))

  pub environment_whole : {m : ℕ} {f : List ℕ} {k : ℕ} {g : List ℕ} {r : ℕ} {e : List ℕ} → environment_fits i o c (length es) ≡ true
      → Puts d 0 (wins_line false) m f → Puts f m (environment_start_line (get_or es 0 0)) k g → Puts g k (step_lines (length es - 1) 0 c o 1 es) r e
      → Puts d 0 (environment_answer i o c es) r e
  unfolding environment_answer only_if environment_print
  environment_whole h P Q R =
      let l = environment_entries_lem i o c (length es) h in
      let rows : length es - 1 ≡ i * max 1 c * o = omega (arith, l) in
      let first : 0 < length es = omega (arith, l) in
      puts_as (sym (ap (λ (b : Bool). only_if b (environment_print i o c es)) h))
      (puts_then P
      (puts_then (puts_as (ap environment_start_line (any_default es 0 0 none_entry first)) Q) (puts_as (ap (λ (n : ℕ). step_lines n 0 c o 1 es) rows) R)))
