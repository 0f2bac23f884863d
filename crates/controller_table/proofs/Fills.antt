-- What the loops write fills the table, where each entry is the right one.
--
--   Sizes S z               == z is the size of the table
--   Fills S z F P           == every step F fills, the rows with P among them
--   filled_none, filled_more, filled_part, filled_led : nothing written; one after the other; fewer rows
--   fills_each              : a loop of such steps
--   fills_row               : a step
use Prim.Native.Nat.{ℕ, suc, ◌+◌, ◌*◌, ◌≤◌, ◌<◌}
use mathlib.Core.Path.{◌≡◌, refl, sym, ◌∙◌, ap, subst}
use mathlib.Core.Bool.{Bool, true}
use mathlib.Core.List.{List}
use mathlib.Core.Logic.{◌⊎◌, inl, inr}
use native.Mathlib.Omega.{arith}
use lib.Dec.{ltb}
use lib.ListN.{length}
use borrow.Author.Tests.{lt-ltb, ltb-true}
use Rattle.finite.specs.Bounded.{count}
use Rattle.finite.proofs.Truth.{clash}
use Rattle.finite.proofs.Bounded.{below_suc}
use Rattle.bits.specs.Member.{has}
use Rattle.arena.specs.Arena.{Separated}
use Rattle.theory.specs.Choice.{controller_row}
use Rattle.theory.specs.Entries.{entry, controller_counters}
use Rattle.table_layout.proofs.Places.{filled_none as none_in, filled_join as join-in, filled_part as part_in}
use Rattle.controller_rows.specs.declared.Size.{Size}
use Rattle.controller_rows.specs.Each.{Each, none, hit, miss}
use Rattle.controller_rows.specs.Writes.{first, more, leading, column_of, input_of, layout_of, length_of, Row}
use Rattle.controller_rows.proofs.Columns.{input_leads, input_column, column_input}
use Rattle.controller_table.specs.Filled.{ControllerFilled}

pub record Sizes (S : Separated) (z : Size) : Type 0 where
  pub inputs : z.inputs ≡ S.input.states
  pub outputs : z.outputs ≡ S.output.states
  pub counters : z.counters ≡ controller_counters S
  pub all : (c : ℕ) → has z.all.0 c ≡ ltb c z.counters
  pub columns : z.width ≡ count z.inputs (leading z)

pub record Fills (S : Separated) (z : Size) (F : List ℕ → List ℕ → Type 0) (P : ℕ → ℕ → ℕ → Type 0) : Type 0 where
  pub fills : (l m : List ℕ) → F l m → length_of z ≤ length l → ControllerFilled S z P l m

module _ (S : Separated) (z : Size) where
  pub filled_none : {P : ℕ → ℕ → ℕ → Type 0} (l : List ℕ)
      → ((o c j : ℕ) → o < S.output.states → c < controller_counters S → j < S.input.states → P o c j → ⊥) → ControllerFilled S z P l l
  filled_none l f = record {
    long = refl;
    fills = λ E T.
        none_in (layout_of z) (λ o c b. controller_row S o c (input_of z b)) E T.rows l
        (λ o c b lo lc lb p. f o c (input_of z b) (omega (arith, T.outputs)) (omega (arith, T.counters)) (T.inputs b lb) p);
  }

  -- what one of two writings in a row fills
  pub filled_more : {P Q : ℕ → ℕ → ℕ → Type 0} {l m r : List ℕ} → ControllerFilled S z P l m → ControllerFilled S z Q m r
      → ControllerFilled S z (λ o c j. P o c j ⊎ Q o c j) l r
  filled_more p q = record {
    long = q.long ∙ p.long;
    fills = λ E T.
        join-in (layout_of z) (λ o c b. controller_row S o c (input_of z b)) E T.rows (p.fills E T) (q.fills E T) (λ o c b lo lc lb r. r);
  }

  pub filled_part : {P Q : ℕ → ℕ → ℕ → Type 0} {l m : List ℕ}
      → ((o c j : ℕ) → o < S.output.states → c < controller_counters S → j < S.input.states → Q o c j → P o c j) → ControllerFilled S z P l m
      → ControllerFilled S z Q l m
  filled_part f p = record {
    long = p.long;
    fills = λ E T.
        part_in (layout_of z) (λ o c b. controller_row S o c (input_of z b)) E T.rows (p.fills E T)
        (λ o c b lo lc lb h. f o c (input_of z b) (omega (arith, T.outputs)) (omega (arith, T.counters)) (T.inputs b lb) h);
  }

  module _ (p : ℕ → Bool) (F : ℕ → List ℕ → List ℕ → Type 0) (P : ℕ → ℕ → ℕ → ℕ → Type 0) where
    -- the last turn, or one before
    last : (k o c j : ℕ) → (i : ℕ) × (i < suc k) × (p i ≡ true) × P i o c j → ((i : ℕ) × (i < k) × (p i ≡ true) × P i o c j) ⊎ ((p k ≡ true) × P k o c j)
    last k o c j h =
        elim (below_suc h.0 k h.1) [
          | inl e ↦ inr (subst (λ (i : ℕ). p i ≡ true) e h.2, subst (λ (i : ℕ). P i o c j) e h.3)
          | inr b ↦ inl (h.0, b, h.2, h.3)
        ]

    each_filled : (k : ℕ) {l m : List ℕ} → Each p F k l m → ((i : ℕ) → i < k → p i ≡ true → Fills S z (F i) (P i)) → length_of z ≤ length l
        → ControllerFilled S z (λ o c j. (i : ℕ) × (i < k) × (p i ≡ true) × P i o c j) l m
    each_filled k (none {l = l}) f long = filled_none l (λ o c j a b d h. omega (arith, h.1))
    each_filled (suc k) (hit {m = m} {r = r} e t s) f long =
        let before = each_filled k e (λ i b h. f i (omega arith) h) long in
        let now = (f k (omega arith) t).fills m r s (omega (arith, before.long)) in
        filled_part (λ o c j a b d h. elim (last k o c j h) [ inl x ↦ inl x | inr x ↦ inr x.1 ]) (filled_more before now)
    each_filled (suc k) (miss e t) f long =
        filled_part (λ o c j a b d h. elim (last k o c j h) [ inl x ↦ x | inr x ↦ clash x.0 t ]) (each_filled k e (λ i b h. f i (omega arith) h) long)

    pub fills_each : (k : ℕ) → ((i : ℕ) → i < k → p i ≡ true → Fills S z (F i) (P i))
        → Fills S z (Each p F k) (λ o c j. (i : ℕ) × (i < k) × (p i ≡ true) × P i o c j)
    fills_each k f = record { fills = λ l m e long. each_filled k e f long }

-- ---- the steps

module _ (S : Separated) (z : Size) (Z : Sizes S z) where
  -- rows have leaders
  pub filled_led : {P Q : ℕ → ℕ → ℕ → Type 0} {l m : List ℕ}
      → ((o c j : ℕ) → o < S.output.states → j < S.input.states → leading z j ≡ true → Q o c j → P o c j) → ControllerFilled S z P l m
      → ControllerFilled S z Q l m
  unfolding layout_of
  filled_led f p = record {
    long = p.long;
    fills = λ E T.
        part_in (layout_of z) (λ o c b. controller_row S o c (input_of z b)) E T.rows (p.fills E T)
        (λ o c b lo lc lb h. f o c (input_of z b) (omega (arith, T.outputs)) (T.inputs b lb) (input_leads z Z.columns b lb) h);
  }

  all_below : (c : ℕ) → has z.all.0 c ≡ true → c < z.counters
  all_below c h = ltb-true c z.counters (sym (Z.all c) ∙ h)

  below_all : (c : ℕ) → c < z.counters → has z.all.0 c ≡ true
  below_all c h = Z.all c ∙ lt-ltb c z.counters h

  module _ (o j p : ℕ) (lo : o < S.output.states) (lj : j < S.input.states) (t : leading z j ≡ true)
      (e : (c : ℕ) → c < controller_counters S → first p + more p * c ≡ entry (controller_row S o c j)) where
    leader : input_of z (column_of z j) ≡ j
    leader = column_input z Z.columns j (rw Z.inputs lj) t

    pub fills_row : Fills S z (Row z o (column_of z j) p) (λ o' c j'. (o' ≡ o) × (j' ≡ j))
    unfolding layout_of
    fills_row = record {
      fills = λ l k s long. record {
        long = s.column.long;
        fills = λ E T.
            part_in (layout_of z) (λ o c b. controller_row S o c (input_of z b)) E T.rows
            (s.column.fills (λ o c b. controller_row S o c (input_of z b)) E T.rows (λ c h.
            e c (rw Z.counters at (all_below c h)) ∙ ap (λ (i : ℕ). entry (controller_row S o c i)) (sym leader)))
            (λ o' c b lo' lc lb h. (h.0, below_all c lc, sym (input_column z Z.columns b lb) ∙ ap (column_of z) h.1));
      };
    }
