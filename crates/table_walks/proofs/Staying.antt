-- Moves that keep the counter.
--
--   staying_stamps, staying_entry                   : what they write
--   step_entries, Entered, entered-*                : one move into a set, state after state
--   approach_ground, approached                     : the way to a set
use Prim.Native.Nat.{ℕ, ◌+◌, ◌*◌, ◌^◌, ◌≤◌, ◌<◌}
use mathlib.Core.Path.{◌≡◌, refl, sym, ◌∙◌, ap, ap₂, fun_ext}
use mathlib.Core.Bool.{true, false, not, ◌&&◌}
use mathlib.Core.List.{List}
use mathlib.Core.Logic.{◌⊎◌, inl, inr, ◌≢◌}
use native.Mathlib.Omega.{arith}
use native.Mathlib.Decide.{ℕ_discrete}
use lib.Dec.{eqb, ltb}
use lib.ListN.{length, get_or}
use borrow.Author.Tests.{ltb-true, lt-ltb}
use Rattle.finite.specs.Bounded.{least, count}
use Rattle.finite.proofs.Truth.{decide, clash, and_intro, and_left, and_right, not_true}
use Rattle.finite.proofs.Bounded.{least_below}
use Rattle.bits.specs.Member.{has, within, both}
use Rattle.bits.proofs.Membership.{has_zero_lem, has_lt}
use Rattle.bits.proofs.Compare.{meets_elim}
use Rattle.bits.proofs.Remove.{less_in, less_other, less_falls}
use Rattle.bits.proofs.Visit.{small_word, lowest_below, lowest_in_lem, lowest_less}
use Rattle.sets.specs.Words.{capacity, bits_of}
use Rattle.graphs.specs.Way.{toward}
use Rattle.arena.specs.Table.{Answer, gives}
use Rattle.theory.specs.Entries.{stride, entry}
use Rattle.table_entries.proofs.Packed.{entry_small, entry_steps}
use Rattle.graph_ways.specs.Kept.{kept}
use Rattle.table_layout.specs.declared.Layout.{Layout}
use Rattle.table_layout.specs.Rows.{LayoutFits, Rows, Filled, Entries, WroteColumn}
use Rattle.table_layout.proofs.Places.{filled_none, filled_join, filled_part}
use Rattle.table_walks.specs.declared.Stamp.{Stamp}
use Rattle.table_walks.specs.Walk.{first_entry, Stamps, Ground, Walks}
use Rattle.table_walks.specs.Staying.{Staying, Entering, Stepping, Enters, Approaches}
use Rattle.table_walks.proofs.Stamping.{first_hit, first_miss}

module _ (z : Layout) (over : ℕ) (w : Stamp) (S : Staying z over w) where
  pub staying_stamps : Stamps z w
  staying_stamps = record {
    counters = λ h e. ltb-true h z.counters (sym (S.which h) ∙ e);
    hit = omega (arith, S.hit);
    miss = omega (arith, S.miss);
    more = omega (arith, S.more);
  }

  staying_first : (p : ℕ) → first_entry w p ≡ entry (gives 0 p)
  staying_first p =
      elim (decide (has (bits_of w.goal.0) p)) [
        | inl e ↦ sym (first_hit w p e) ∙ ap (λ (k : ℕ). entry (gives k p)) S.hit
        | inr e ↦ sym (first_miss w p e) ∙ ap (λ (k : ℕ). entry (gives k p)) S.miss
      ]

  staying_entry : (p h : ℕ) → first_entry w p + w.more * h ≡ entry (gives h p)
  staying_entry p h =
      ap₂ (λ (i j : ℕ). i + j * h) (staying_first p) S.more ∙ entry_steps h p

  all_counters : (h : ℕ) → h < z.counters → has w.which.0 h ≡ true
  all_counters h b = S.which h ∙ lt-ltb h z.counters b

  counter_below : (h : ℕ) → has w.which.0 h ≡ true → h < z.counters
  counter_below h e = ltb-true h z.counters (sym (S.which h) ∙ e)

  in_over : (b : ℕ) → has (bits_of w.over.0) b ≡ has over b
  in_over b = ap (λ (k : ℕ). has k b) S.columns

-- the lowest move into a set

-- what it writes, the counters being all
pub step_entries : (z : Layout) (n which p first : ℕ) → LayoutFits z n → ((h : ℕ) → has which h ≡ ltb h z.counters) → p < capacity
    → first ≡ entry (gives 0 p) → Entries z which first stride
step_entries z n which p first F all b e = record {
  counters = λ h i. below h i;
  small = λ h i. omega (arith, e, entry_steps h p, entry_small h p b (omega (arith, below h i, F.counters)));
}
  where
    below : (h : ℕ) → has which h ≡ true → h < z.counters
    below h i = ltb-true h z.counters (sym (all h) ∙ i)

pub record Entered (rows : List ℕ) (z : Layout) (own target b rest : ℕ) (x y : List ℕ) : Type 0 where
  pub small : rest < 2 ^ capacity
  pub inside : (t : ℕ) → has rest t ≡ true → has own t ≡ true
  pub long : length y ≡ length x
  pub fills : (f : ℕ → ℕ → ℕ → Answer) (E : List ℕ) → Rows z f E → Stepping rows z own target b f
      → Filled z E (λ s h c. (has rest s ≡ false) × (has own s ≡ true) × (c ≡ b)) x y

-- the lowest move of s into the target
module _ (rows : List ℕ) (n own target s row r : ℕ) {p : ℕ} (N : Entering rows n own target) (o : has own s ≡ true) (e : row ≡ get_or rows s 0)
    (i : (t : ℕ) → has r t ≡ (has row t && has target t)) (q : p ≡ least capacity (has r)) where
  step_is : p ≡ least capacity (both (get_or rows s 0) target)
  unfolding both
  step_is = q ∙ ap (least capacity) (fun_ext (λ t. i t ∙ ap (λ (k : ℕ). has k t && has target t) e))

  pub step_small : p < capacity
  unfolding both
  step_small =
      let v = meets_elim capacity (get_or rows s 0) target (N.move s o) in
      omega (arith, step_is, least_below capacity (both (get_or rows s 0) target) v.0 v.1 (and_intro v.2 v.3))

module _ (rows : List ℕ) (z : Layout) (own target b : ℕ) where
  pub entered_start : (x : List ℕ) → z.states ≤ capacity → Entering rows z.states own target → Entered rows z own target b own x x
  entered_start x few N = record {
    small = small_word capacity own (λ s e. omega (arith, N.below s e));
    inside = λ t e. e;
    long = refl;
    fills = λ f E R F. filled_none z f E R x (λ s h c ls lh lc p. clash p.1 p.0);
  }

  module _ {x y : List ℕ} {rest s : ℕ} (I : Entered rows z own target b rest x y) (ne : rest ≢ 0) (e : s ≡ least capacity (has rest)) where
    pub entered_small : s < capacity
    entered_small = lowest_below capacity rest s I.small ne e

    pub entered_in : has own s ≡ true
    entered_in = I.inside s (lowest_in_lem capacity rest s I.small ne e)

    module _ (v : ℕ) (d : (t : ℕ) → has v t ≡ (has rest t && not (eqb t (least capacity (has rest))))) where
      less : (t : ℕ) → has v t ≡ (has rest t && not (eqb t s))
      less = lowest_less capacity rest s v e d

      pub entered_falls : count capacity (has v) < count capacity (has rest)
      entered_falls = less_falls rest s v less capacity entered_small (lowest_in_lem capacity rest s I.small ne e)

      pub entered_next : (which row r p first : ℕ) {y' y'' : List ℕ} → ((h : ℕ) → has which h ≡ ltb h z.counters)
          → Entering rows z.states own target → row ≡ get_or rows s 0 → ((t : ℕ) → has r t ≡ (has row t && has target t))
          → p ≡ least capacity (has r) → first ≡ entry (gives 0 p) → WroteColumn z s b which first stride y y' → y'' ≡ y'
          → Entered rows z own target b v x y''
      entered_next which row r p first {y'} {y''} all N q i m k W f = rw f (record {
        small = small_word capacity v (λ t a. has_lt capacity rest t I.small (less_in rest s v less t a));
        inside = λ t a. I.inside t (less_in rest s v less t a);
        long = W.long ∙ I.long;
        fills = fills;
      })
        where
          before : (t : ℕ) → has v t ≡ false → (t ≡ s) ⊎ (has rest t ≡ false)
          before t a = elim (ℕ_discrete t s) [ yes j ↦ inl j | no j ↦ inr (sym (less_other rest s v less t j) ∙ a) ]

          written : (h : ℕ) → first + stride * h ≡ entry (gives h (least capacity (both (get_or rows s 0) target)))
          written h =
              ap (λ (j : ℕ). j + stride * h) k ∙ entry_steps h p
              ∙ ap (λ (j : ℕ). entry (gives h j)) (step_is rows z.states own target s row r N entered_in q i m)

          fills : (a : ℕ → ℕ → ℕ → Answer) (E : List ℕ) → Rows z a E → Stepping rows z own target b a
              → Filled z E (λ t h c. (has v t ≡ false) × (has own t ≡ true) × (c ≡ b)) x y'
          fills a E R F =
              filled_join z a E R (I.fills a E R F)
              (W.fills a E R
              (λ h e. written h ∙ ap entry (sym (F.row s h entered_in (ltb-true h z.counters (sym (all h) ∙ e))))))
              (λ t h c lt lh lc g.
              elim (before t g.0) [
                | inl j ↦ inr (j, all h ∙ lt-ltb h z.counters lh, g.2)
                | inr j ↦ inl (j, g.1, g.2)
              ])

  pub entered_end : {x y : List ℕ} {rest : ℕ} → Entered rows z own target b rest x y → rest ≡ 0 → Enters rows z own target b x y
  entered_end {rest = rest} I q = record {
    long = I.long;
    fills = λ f E R F. filled_part z f E R (I.fills f E R F) (λ s h c ls lh lc p. (ap (λ (k : ℕ). has k s) q ∙ has_zero_lem s, p.0, p.1));
  }

-- the way to a set
pub approach_ground : (n c target own : ℕ) → ((s : ℕ) → has own s ≡ (has c s && not (has target s))) → within target n ≡ true → Ground n c target own
approach_ground n c target own d b = record {
  members = b;
  inside = λ s e. and_left (has c s) (not (has target s)) (sym (d s) ∙ e);
  cover = λ s i e. elim (decide (has target s)) [ inl a ↦ a | inr a ↦ clash (d s ∙ and_intro i (ap not a)) e ];
}

module _ (rows : List ℕ) (z : Layout) (c target over own : ℕ) (d : (s : ℕ) → has own s ≡ (has c s && not (has target s))) where
  pub approached : (w : Stamp) {x y : List ℕ} → Staying z over w → Walks rows z c target own w x y → Approaches rows z c target over x y
  approached w S W = record {
    long = W.long;
    fills = λ f E R F.
        filled_part z f E R
        (W.fills f E R (record {
          entry = λ s h b ls o g i lb k.
              staying_entry z over w S (toward z.states (kept rows c) (has target) s) h
              ∙ ap entry (sym (F.row s h b ls (inside s o) (outside s o) g (counter_below z over w S h i) lb (sym (in_over z over w S b) ∙ k)));
        }))
        (λ s h b ls lh lb p. (d s ∙ and_intro p.0 (ap not p.1), p.2, all_counters z over w S h lh, in_over z over w S b ∙ p.3));
  }
    where
      inside : (s : ℕ) → has own s ≡ true → has c s ≡ true
      inside s o = and_left (has c s) (not (has target s)) (sym (d s) ∙ o)

      outside : (s : ℕ) → has own s ≡ true → has target s ≡ false
      outside s o = not_true (has target s) (and_right (has c s) (not (has target s)) (sym (d s) ∙ o))
