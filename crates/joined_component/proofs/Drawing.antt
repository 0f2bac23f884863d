-- The component's rows, written one after the other, and the component joined with another set.
--
--   Drawing, drawing_start, -more, -end    : the rows of the component
--   Joining, joining_start, -more, -end    : the rows of a set that the component joins
--   few_ahead                              : where the number of positions ahead stands
use Prim.Native.Nat.{ℕ, ◌+◌, ◌*◌, ◌≤◌, ◌<◌}
use native.Mathlib.Nat.{mul-le-mul_right}
use mathlib.Core.Path.{◌≡◌, refl, ◌∙◌, ap, ap₂}
use mathlib.Core.Bool.{◌&&◌, ◌||◌}
use mathlib.Core.List.{List}
use native.Mathlib.Omega.{arith}
use native.Mathlib.Decide.{ℕ_discrete}
use lib.Dec.{eqb}
use lib.ListN.{length, get_or, set}
use lib.Seq.{get_or-set_same, get_or-set_other}
use Rattle.finite.specs.But.{ButFor}
use Rattle.finite.proofs.But.{but_self, but_set, but_then}
use Rattle.bits.specs.Member.{has}
use Rattle.game.specs.declared.Game.{Game}
use Rattle.joined_component.specs.Component.{ranked_in, Drawn, Joined}

-- with at most 32 states a graph there are at most 1,024 positions
pub few_ahead : (m i o : ℕ) → m ≤ 32 → i < 32 → o < m → i * m + o < 1024
few_ahead m i o a b c =
    let h : i * m ≤ 31 * m = mul-le-mul_right m (omega arith) in
    omega (arith, h)

-- ---- the component

pub record Drawing (g : Game) (n i : ℕ) (l m : List ℕ) : Type 0 where
  pub kept : ButFor 128 160 l m
  pub rows : (k o : ℕ) → k < i → has (get_or m (128 + k) 0) o ≡ (has (get_or l k 0) o && ranked_in l g.output.states k n o)

pub drawing_start : (g : Game) (n : ℕ) (l : List ℕ) → Drawing g n 0 l l
drawing_start g n l = record { kept = but_self 128 160 l; rows = λ k o b. absurd (omega arith) }

module _ (g : Game) (n i : ℕ) (l m : List ℕ) (D : Drawing g n i l m) where
  -- what is read is not written
  pub drawing_row : i < 32 → get_or m i 0 ≡ get_or l i 0
  drawing_row b = D.kept.low i (omega arith)

  ranked_same : (o : ℕ) → ranked_in m g.output.states i n o ≡ ranked_in l g.output.states i n o
  unfolding ranked_in
  ranked_same o = ap (λ (x : ℕ). eqb x n) (D.kept.high (1024 + (i * g.output.states + o)) (omega arith))

  pub drawing_more : (v : ℕ) → i < 32 → 4096 ≤ length l
      → ((o : ℕ) → has v o ≡ (has (get_or m i 0) o && ranked_in m g.output.states i n o)) → Drawing g n (i + 1) l (set m (128 + i) v)
  drawing_more v b long e = record {
    kept = but_then D.kept (but_set 128 160 m (128 + i) v (omega arith) (omega arith));
    rows = λ k o h. rows k o h (ℕ_discrete k i);
  }
    where
      rows : (k o : ℕ) → k < i + 1 → Dec (k ≡ i)
          → has (get_or (set m (128 + i) v) (128 + k) 0) o ≡ (has (get_or l k 0) o && ranked_in l g.output.states k n o)
      rows k o h (yes z) =
          rw z
          (ap (λ (x : ℕ). has x o) (get_or-set_same m (128 + i) v 0 (omega (arith, D.kept.long)))
          ∙ e o ∙ ap₂ ◌&&◌ (ap (λ (x : ℕ). has x o) (drawing_row b)) (ranked_same o))
      rows k o h (no z) = ap (λ (x : ℕ). has x o) (get_or-set_other m (128 + i) (128 + k) v 0 (λ q. z (omega arith))) ∙ D.rows k o (omega arith)

  pub drawing_end : g.input.states ≤ i → Drawn g n l m
  drawing_end b = record { kept = D.kept; rows = λ k o h. D.rows k o (omega arith) }

-- ---- a set that the component joins

pub record Joining (a i : ℕ) (l m : List ℕ) : Type 0 where
  pub kept : ButFor a (a + 32) l m
  pub rows : (k o : ℕ) → k < i → has (get_or m (a + k) 0) o ≡ (has (get_or l (a + k) 0) o || has (get_or l (128 + k) 0) o)
  pub rest : (k : ℕ) → i ≤ k → get_or m (a + k) 0 ≡ get_or l (a + k) 0

pub joining_start : (a : ℕ) (l : List ℕ) → Joining a 0 l l
joining_start a l = record { kept = but_self a (a + 32) l; rows = λ k o b. absurd (omega arith); rest = λ k b. refl }

module _ (a i : ℕ) (l m : List ℕ) (J : Joining a i l m) (fits : a + 32 ≤ 128) where
  pub joining_more : (v : ℕ) → i < 32 → 4096 ≤ length l → ((o : ℕ) → has v o ≡ (has (get_or m (a + i) 0) o || has (get_or m (128 + i) 0) o))
      → Joining a (i + 1) l (set m (a + i) v)
  joining_more v b long e = record {
    kept = but_then J.kept (but_set a (a + 32) m (a + i) v (omega arith) (omega arith));
    rows = λ k o h. rows k o h (ℕ_discrete k i);
    rest = λ k h. get_or-set_other m (a + i) (a + k) v 0 (λ q. omega arith) ∙ J.rest k (omega arith);
  }
    where
      rows : (k o : ℕ) → k < i + 1 → Dec (k ≡ i) → has (get_or (set m (a + i) v) (a + k) 0) o ≡ (has (get_or l (a + k) 0) o || has (get_or l (128 + k) 0) o)
      rows k o h (yes z) =
          rw z
          (ap (λ (x : ℕ). has x o) (get_or-set_same m (a + i) v 0 (omega (arith, J.kept.long)))
          ∙ e o ∙ ap₂ ◌||◌ (ap (λ (x : ℕ). has x o) (J.rest i (omega arith))) (ap (λ (x : ℕ). has x o) (J.kept.high (128 + i) (omega arith))))
      rows k o h (no z) = ap (λ (x : ℕ). has x o) (get_or-set_other m (a + i) (a + k) v 0 (λ q. z (omega arith))) ∙ J.rows k o (omega arith)

pub joining_end : (g : Game) (a i : ℕ) (l m : List ℕ) → Joining a i l m → g.input.states ≤ i → Joined g a l m
joining_end g a i l m J b = record { kept = J.kept; rows = λ k o h. J.rows k o (omega arith) }
