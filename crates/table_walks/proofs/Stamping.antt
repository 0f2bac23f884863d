-- What a round and a walk write.
--
--   first_hit, first_miss, first_small, stamp_entries : the entry of a move
--   Walked rows z c target own w left x y == from x to y the rows of the states of own that are not left were written
--   walked_start, walked_turn, walked_still, walked_empty : round after round
use Prim.Native.Nat.{ℕ, ◌+◌, ◌*◌, ◌≤◌, ◌<◌}
use native.Mathlib.Nat.{mul-le-mul}
use mathlib.Core.Path.{◌≡◌, refl, sym, ◌∙◌, ap}
use mathlib.Core.Bool.{Bool, true, false, not, ◌&&◌, ◌||◌}
use mathlib.Core.List.{List}
use mathlib.Core.Logic.{◌⊎◌, inl, inr, ◌≢◌}
use native.Mathlib.Omega.{arith}
use lib.ListN.{length}
use Rattle.finite.proofs.Truth.{decide, clash}
use Rattle.bits.specs.Member.{has, within}
use Rattle.bits.proofs.Membership.{has_zero_lem, within_has}
use Rattle.bits.proofs.Compare.{nonzero_member}
use Rattle.sets.specs.Words.{capacity, bits_of}
use Rattle.graphs.specs.Way.{prefer}
use Rattle.graphs.proofs.Way.{Leads, prefer_below}
use Rattle.arena.specs.Table.{Answer, gives}
use Rattle.theory.specs.Entries.{stride, entry}
use Rattle.table_counters.specs.Counters.{most_counters}
use Rattle.table_entries.proofs.Packed.{entry_small}
use Rattle.graph_ways.specs.Kept.{kept}
use Rattle.graph_ways.specs.Search.{choices}
use Rattle.graph_ways.proofs.Round.{choices_reached, settles_left}
use Rattle.table_layout.specs.declared.Layout.{Layout}
use Rattle.table_layout.specs.Rows.{LayoutFits, Rows, Filled, Entries}
use Rattle.table_layout.proofs.Places.{filled_none, filled_join, filled_part}
use Rattle.table_walks.specs.declared.Stamp.{Stamp}
use Rattle.table_walks.specs.Walk.{first_entry, Stamps, Fair, Settled, Leading, Walks}
use Rattle.graph_ways.proofs.Levels.{Levels, levels_chosen, levels_leads, levels_still, levels_turn, gone, settled_settles}

-- the entry of a move

pub first_hit : (w : Stamp) (p : ℕ) → has (bits_of w.goal.0) p ≡ true → entry (gives w.hit p) ≡ first_entry w p
unfolding first_entry
first_hit w p e = rw (e, first_entry)

pub first_miss : (w : Stamp) (p : ℕ) → has (bits_of w.goal.0) p ≡ false → entry (gives w.miss p) ≡ first_entry w p
unfolding first_entry
first_miss w p e = rw (e, first_entry)

first_small : (z : Layout) (w : Stamp) (p : ℕ) → Stamps z w → p < capacity → first_entry w p < stride * most_counters
first_small z w p S b =
    elim (decide (has (bits_of w.goal.0) p)) [
      | inl e ↦ omega (arith, first_hit w p e, entry_small w.hit p b S.hit)
      | inr e ↦ omega (arith, first_miss w p e, entry_small w.miss p b S.miss)
    ]

pub stamp_entries : (z : Layout) (n : ℕ) (w : Stamp) (p first : ℕ) → LayoutFits z n → Stamps z w → p < capacity → first ≡ first_entry w p
    → Entries z w.which.0 first w.more
stamp_entries z n w p first F S b e = record {
  counters = S.counters;
  small = λ h i. omega (arith, first_small z w p S b, mul-le-mul {n₂ = stride} {m₂ = most_counters} S.more (below h i));
}
  where
    below : (h : ℕ) → has w.which.0 h ≡ true → h ≤ most_counters
    below h i = omega (arith, S.counters h i, F.counters)

-- the choice is a state
pub choice_small : (s x n : ℕ) {v : ℕ} → n ≤ capacity → ((t : ℕ) → has x t ≡ true → t < n) → x ≢ 0 → v ≡ prefer capacity s (has x) → v < capacity
choice_small s x n few below ne e =
    let m = nonzero_member x ne in
    omega (arith, prefer_below capacity s (has x) m.0 (omega (arith, few, below m.0 m.1)) m.1)

-- that of a round, where what is reached are states
pub settling_small : (rows : List ℕ) (n c left l s : ℕ) {m v : ℕ} → n ≤ capacity → within l n ≡ true → m ≡ choices rows c left l s → m ≢ 0
    → v ≡ prefer capacity s (has m) → v < capacity
settling_small rows n c left l s {m} few w q =
    choice_small s m n few (λ t e. within_has l n t w (choices_reached rows c left l s t (ap (λ (k : ℕ). has k t) (sym q) ∙ e)))

-- round after round

pub record Walked (rows : List ℕ) (z : Layout) (c target own : ℕ) (w : Stamp) (l left : ℕ) (x y : List ℕ) : Type 0 where
  pub levels : Levels rows z.states c target l left
  pub part : (s : ℕ) → has left s ≡ true → has own s ≡ true
  pub long : length y ≡ length x
  pub fills : (f : ℕ → ℕ → ℕ → Answer) (E : List ℕ) → Rows z f E → Leading rows z c target own w f
      → Filled z E (λ s h b. (has own s ≡ true) × (has left s ≡ false) × (has w.which.0 h ≡ true) × (has (bits_of w.over.0) b ≡ true)) x y

module _ (rows : List ℕ) (z : Layout) (c target own : ℕ) (w : Stamp) where
  pub walked_start : (x : List ℕ) → Levels rows z.states c target target own → Walked rows z c target own w target own x x
  walked_start x L = record {
    levels = L;
    part = λ s e. e;
    long = refl;
    fills = λ f E R F. filled_none z f E R x (λ s h b ls lh lb p. clash p.0 p.1);
  }

  module _ (l left r : ℕ) {x y y' : List ℕ} (few : z.states ≤ capacity) (W : Walked rows z c target own w l left x y)
      (D : Settled rows z c left l w y y' r) where
    fair : (f : ℕ → ℕ → ℕ → Answer) → Leading rows z c target own w f → Fair rows z c left l w f
    fair f F = record {
      entry = λ s h b ls e i lb o.
          ap (λ (j : ℕ). first_entry w j + w.more * h) (levels_chosen rows z.states c target l left r few W.levels D.states s ls e)
          ∙ F.entry s h b ls (W.part s (settles_left rows c left l s e))
          (levels_leads rows z.states c target l left r few W.levels D.states s e) i lb o;
    }

    pub walked_still : {y'' : List ℕ} → r ≡ 0 → y'' ≡ y' → Walks rows z c target own w x y''
    walked_still {y''} e q = rw q (record {
      long = D.long ∙ W.long;
      fills = λ f E R F.
          filled_join z f E R (W.fills f E R F) (D.fills f E R (fair f F))
          (λ s h b ls lh lb p. inl (p.0, none s ls p.1 (decide (has left s)), p.2, p.3));
    })
      where
        none : (s : ℕ) → s < z.states → Leads z.states (kept rows c) (has target) s → (has left s ≡ true) ⊎ (has left s ≡ false) → has left s ≡ false
        none s ls a (inl k) = absurd (levels_still rows z.states c target l left r few W.levels D.states e s ls k a)
        none s ls a (inr k) = k

    pub walked_turn : (l' left' : ℕ) {y'' : List ℕ} → ((s : ℕ) → has l' s ≡ (has l s || has r s))
        → ((s : ℕ) → has left' s ≡ (has left s && not (has r s))) → y'' ≡ y'
        → Walked rows z c target own w l' left' x y''
    walked_turn l' left' {y''} f g q = rw q (record {
      levels = levels_turn rows z.states c target l left r few W.levels D.states l' left' f g;
      part = λ s e. W.part s (still s e);
      long = D.long ∙ W.long;
      fills = λ k E R F.
          filled_join z k E R (W.fills k E R F) (D.fills k E R (fair k F))
          (λ s h b ls lh lb p.
          elim (gone rows z.states c target l left r few W.levels D.states l' left' f g s p.1) [
            | inl a ↦ inl (p.0, a, p.2, p.3)
            | inr a ↦ inr (settled_settles rows z.states c target l left r few W.levels D.states s a, p.2, p.3)
          ]);
    })
      where
        still : (s : ℕ) → has left' s ≡ true → has left s ≡ true
        still s e = elim (decide (has left s)) [ inl a ↦ a | inr a ↦ clash e (g s ∙ ap (λ (k : Bool). k && not (has r s)) a) ]

  pub walked_empty : {l left : ℕ} {x y : List ℕ} → Walked rows z c target own w l left x y → left ≡ 0 → Walks rows z c target own w x y
  walked_empty {l} {left} W e = record {
    long = W.long;
    fills = λ f E R F. filled_part z f E R (W.fills f E R F) (λ s h b ls lh lb p. (p.0, ap (λ (k : ℕ). has k s) e ∙ has_zero_lem s, p.2, p.3));
  }
