-- Laws of the columns: each leader has one, in order.
--
--   column_none, column_hit, column_miss : the column of the next input
--   column_below                    : a leader's column is one of the table's
--   input_below, input_leads, input_column, column_input : leaders and columns answer to one another
--   own_column                      : where there are as many columns as inputs, every input leads and its column is its own number
--   among_none, among_fits, among_hit, among_miss, among_end : columns found input by input
--   among_all, among_led            : the columns where every input leads, and where every leader is of the set
use Prim.Native.Nat.{ℕ, ◌+◌, ◌≤◌, ◌<◌}
use native.Mathlib.Numerals.{add-one}
use mathlib.Core.Path.{◌≡◌, refl, sym, ◌∙◌, ap}
use mathlib.Core.Bool.{Bool, true, false, ◌&&◌, ◌||◌}
use mathlib.Core.Logic.{inl, inr}
use native.Mathlib.Omega.{arith}
use native.Mathlib.Decide.{ℕ_discrete, dec_lt}
use lib.Dec.{eqb, ltb}
use borrow.Author.Tests.{eqb-true, eq-eqb, lt-ltb, le-ltb}
use Rattle.finite.specs.Bounded.{count}
use Rattle.finite.proofs.Truth.{decide, and_intro, and_left, and_right, and_all, and_false_right}
use Rattle.finite.proofs.Bounded.{least_below, least_member, count_in, count_out, count_past, count_reached, count_all}
use Rattle.bits.specs.Member.{has}
use Rattle.controller_rows.specs.declared.Size.{Size}
use Rattle.controller_rows.specs.Writes.{leading, column_of, input_of}

module _ (z : Size) where
  pub column_none : column_of z 0 ≡ 0
  unfolding column_of count
  column_none = refl

  pub column_hit : (j : ℕ) → leading z j ≡ true → column_of z (j + 1) ≡ column_of z j + 1
  unfolding column_of
  column_hit j e = rw (add-one j, add-one (count j (leading z))) (count_in (leading z) j e)

  pub column_miss : (j : ℕ) → leading z j ≡ false → column_of z (j + 1) ≡ column_of z j
  unfolding column_of
  column_miss j e = rw (add-one j) (count_out (leading z) j e)

  picks : ℕ → ℕ → Bool
  picks b j = leading z j && eqb (column_of z j) b

  module _ (e : z.width ≡ count z.inputs (leading z)) where
    pub column_below : (j : ℕ) → j < z.inputs → leading z j ≡ true → column_of z j < z.width
    unfolding column_of
    column_below j l h = rw e (count_past (leading z) j z.inputs h l)

    -- the leader of a column

    module _ (b : ℕ) (l : b < z.width) where
      input_below : input_of z b < z.inputs
      unfolding input_of column_of picks
      input_below =
          let w = count_reached (leading z) z.inputs b (rw e at l) in
          least_below z.inputs (picks b) w.0 w.1 (and_intro w.2 (eq-eqb (column_of z w.0) b w.3))

      picked : picks b (input_of z b) ≡ true
      unfolding input_of picks
      picked = least_member z.inputs (picks b) input_below

      pub input_leads : leading z (input_of z b) ≡ true
      unfolding picks
      input_leads = and_left (leading z (input_of z b)) (eqb (column_of z (input_of z b)) b) picked

      pub input_column : column_of z (input_of z b) ≡ b
      unfolding picks
      input_column = eqb-true (column_of z (input_of z b)) b (and_right (leading z (input_of z b)) (eqb (column_of z (input_of z b)) b) picked)

    -- two leaders of one column are one
    pub column_input : (j : ℕ) → j < z.inputs → leading z j ≡ true → input_of z (column_of z j) ≡ j
    unfolding column_of
    column_input j l h = go (dec_lt (input_of z (column_of z j)) j) (dec_lt j (input_of z (column_of z j)))
      where
        b : column_of z j < z.width
        b = column_below j l h

        go : Dec (input_of z (column_of z j) < j) → Dec (j < input_of z (column_of z j)) → input_of z (column_of z j) ≡ j
        go (yes x) y =
            absurd (omega (arith, count_past (leading z) (input_of z (column_of z j)) j (input_leads (column_of z j) b) x, input_column (column_of z j) b))
        go (no x) (yes y) = absurd (omega (arith, count_past (leading z) j (input_of z (column_of z j)) h y, input_column (column_of z j) b))
        go (no x) (no y) = omega arith

    -- every input leads
    module _ (full : z.width ≡ z.inputs) (j : ℕ) (l : j < z.inputs) where
      counted : (leading z j ≡ true) × (count j (leading z) ≡ j)
      counted = count_all z.inputs (leading z) (sym e ∙ full) j l

      pub own_column : input_of z j ≡ j
      unfolding column_of
      own_column = ap (input_of z) (sym counted.1) ∙ column_input j l counted.0

-- ---- columns found input by input

pub record Among (z : Size) (x j b r : ℕ) : Type 0 where
  pub below : j ≤ z.inputs
  pub is : b ≡ column_of z j
  pub found : (k : ℕ) → has r k ≡ (ltb k b && has x (input_of z k))

module _ (z : Size) (e : z.width ≡ count z.inputs (leading z)) (x : ℕ) where
  pub among_none : {r : ℕ} → ((k : ℕ) → has r k ≡ false) → Among z x 0 0 r
  among_none f = record { below = omega arith; is = sym (column_none z); found = λ k. f k ∙ rw (le-ltb k 0 (omega arith)) refl }

  module _ (j b r : ℕ) (A : Among z x j b r) (l : j < z.inputs) where
    module _ (h : leading z j ≡ true) where
      pub among_fits : b < z.width
      among_fits = omega (arith, A.is, column_below z e j l h)

      pub among_hit : (r' : ℕ) {ok : Bool} → ok ≡ has x j → ((k : ℕ) → has r' k ≡ (has r k || (ok && eqb k b))) → Among z x (j + 1) (b + 1) r'
      among_hit r' {ok} o f = record {
        below = omega arith;
        is = ap (λ (k : ℕ). k + 1) A.is ∙ sym (column_hit z j h);
        found = λ k. f k ∙ ap (λ (y : Bool). y || (ok && eqb k b)) (A.found k) ∙ case k (ℕ_discrete k b) (dec_lt k b);
      }
        where
          here : has x (input_of z b) ≡ ok
          here = ap (has x) (ap (input_of z) A.is ∙ column_input z e j l h) ∙ sym o

          new : (y : Bool) → ((false && y) || (ok && true)) ≡ (true && ok)
          new y = elim ok as (λ k. ((false && y) || (k && true)) ≡ (true && k)) [ true ↦ refl | false ↦ refl ]

          old : (y : Bool) → ((true && y) || (ok && false)) ≡ (true && y)
          old y =
              elim ok as (λ k. ((true && y) || (k && false)) ≡ (true && y)) [
                | true ↦ elim y as (λ u. ((true && u) || (true && false)) ≡ (true && u)) [ true ↦ refl | false ↦ refl ]
                | false ↦ elim y as (λ u. ((true && u) || (false && false)) ≡ (true && u)) [ true ↦ refl | false ↦ refl ]
              ]

          past : (y : Bool) → ((false && y) || (ok && false)) ≡ (false && y)
          past y = elim ok as (λ k. ((false && y) || (k && false)) ≡ (false && y)) [ true ↦ refl | false ↦ refl ]

          apart : (k : ℕ) → Dec (k ≡ b) → (k ≡ b → ⊥) → eqb k b ≡ false
          apart k d n = elim (decide (eqb k b)) [ inl t ↦ absurd (n (eqb-true k b t)) | inr t ↦ t ]

          case : (k : ℕ) → Dec (k ≡ b) → Dec (k < b) → ((ltb k b && has x (input_of z k)) || (ok && eqb k b)) ≡ (ltb k (b + 1) && has x (input_of z k))
          case k (yes q) d =
              rw (q, le-ltb b b (omega arith), eq-eqb b b refl, lt-ltb b (b + 1) (omega arith), here) (new ok)
          case k (no q) (yes d) =
              rw (lt-ltb k b d, lt-ltb k (b + 1) (omega arith), apart k (no q) q) (old (has x (input_of z k)))
          case k (no q) (no d) =
              rw (le-ltb k b (omega arith), le-ltb k (b + 1) (omega arith), apart k (no q) q) (past (has x (input_of z k)))

    pub among_miss : leading z j ≡ false → Among z x (j + 1) b r
    among_miss h = record { below = omega arith; is = A.is ∙ sym (column_miss z j h); found = A.found }

  pub among_end : (j b r : ℕ) → Among z x j b r → z.inputs ≤ j → (k : ℕ) → has r k ≡ (ltb k z.width && has x (input_of z k))
  unfolding column_of
  among_end j b r A l k =
      let q : j ≡ z.inputs = omega (arith, A.below) in
      let w : b ≡ z.width = A.is ∙ ap (λ (i : ℕ). count i (leading z)) q ∙ sym e in
      A.found k ∙ ap (λ (i : ℕ). ltb k i && has x (input_of z k)) w

  -- where every input leads the columns are the inputs
  pub among_all : z.width ≡ z.inputs → (b r : ℕ) → ((k : ℕ) → has b k ≡ ltb k z.inputs) → ((k : ℕ) → has r k ≡ (has x k && has b k))
      → (k : ℕ) → has r k ≡ (ltb k z.width && has x (input_of z k))
  among_all full b r f i k = i k ∙ ap (λ (y : Bool). has x k && y) (f k) ∙ go (dec_lt k z.inputs)
    where
      go : Dec (k < z.inputs) → (has x k && ltb k z.inputs) ≡ (ltb k z.width && has x (input_of z k))
      go (yes l) = rw (lt-ltb k z.inputs l, lt-ltb k z.width (rw full l), own_column z e full k l) (and_all (has x k) refl)
      go (no l) = rw (le-ltb k z.inputs (omega arith), le-ltb k z.width (omega arith)) (and_false_right (has x k) refl)

  -- where the set has every leader it has every column
  pub among_led : ((j : ℕ) → j < z.inputs → leading z j ≡ true → has x j ≡ true) → (r : ℕ) → ((k : ℕ) → has r k ≡ ltb k z.width)
      → (k : ℕ) → has r k ≡ (ltb k z.width && has x (input_of z k))
  among_led f r i k = i k ∙ go (dec_lt k z.width)
    where
      go : Dec (k < z.width) → ltb k z.width ≡ (ltb k z.width && has x (input_of z k))
      go (yes l) = rw (lt-ltb k z.width l, f (input_of z k) (input_below z e k l) (input_leads z e k l)) refl
      go (no l) = rw (le-ltb k z.width (omega arith)) refl
