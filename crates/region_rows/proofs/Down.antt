-- The way down to an input that reaches none of those left but its own component.
--
--   descending-*   : how it begins, stays or goes on at the lowest input of the rest, and ends
use Prim.Native.Nat.{ℕ, ◌≤◌, ◌<◌}
use mathlib.Core.Path.{◌≡◌, sym, ◌∙◌, ap}
use mathlib.Core.Bool.{Bool, true, false, ◌&&◌, not}
use mathlib.Core.List.{List}
use mathlib.Core.Logic.{inl, inr, ◌≢◌}
use native.Mathlib.Omega.{arith}
use native.Mathlib.Decide.{ℕ_discrete}
use lib.Dec.{eqb, ltb}
use Rattle.finite.specs.Bounded.{least, count}
use Rattle.finite.proofs.Truth.{clash, and_intro, and_left, and_right, and_cases}
use Rattle.finite.proofs.Bounded.{count_mono}
use Rattle.bits.specs.Member.{has}
use Rattle.bits.proofs.Membership.{has_zero_lem, has_pack, has_pack_below}
use Rattle.bits.proofs.Remove.{less_in, less_other, less_falls}
use Rattle.bits.proofs.Visit.{small_word, lowest_in_lem, lowest_less}
use Rattle.sets.specs.declared.Set.{Set}
use Rattle.sets.specs.Words.{capacity, bits_of, sets_in}
use Rattle.graphs.specs.Closure.{reaches}
use Rattle.graphs.proofs.Closure.{reaches_to, reaches_self, reaches_trans}
use Rattle.game.specs.declared.Game.{Game}
use Rattle.play.specs.Play.{graph_of}
use Rattle.scratch.specs.Stored.{in_reach_at, Laid}
use Rattle.region_rows.specs.declared.Descent.{Descent}
use Rattle.region_rows.specs.Fill.{Inside, Descending, Bottom}

module _ (g : Game) (s : List ℕ) (most : g.input.states ≤ capacity) (L : Laid g s) (left : ℕ) (I : Inside g left) where
  abbrev R : ℕ → ℕ → Bool
  R = reaches (graph_of g.input)

  -- the row of t is what t reaches
  row_reaches : (t row : ℕ) → t < g.input.states → row ≡ in_reach_at (sets_in s) t → (u : ℕ) → has row u ≡ true → R t u ≡ true
  row_reaches t row b e u h =
      and_right (ltb u g.input.states) (R t u)
      (sym (has_pack g.input.states (R t) u) ∙ ap (λ (v : ℕ). has v u) (sym (e ∙ L.inputs t b)) ∙ h)

  reaches_row : (t row : ℕ) → t < g.input.states → row ≡ in_reach_at (sets_in s) t → (u : ℕ) → R t u ≡ true → has row u ≡ true
  unfolding graph_of
  reaches_row t row b e u h =
      ap (λ (v : ℕ). has v u) (e ∙ L.inputs t b)
      ∙ has_pack_below g.input.states (R t) u (reaches_to (graph_of g.input) t u h) ∙ h

  small : (x : ℕ) → ((t : ℕ) → has x t ≡ true → has left t ≡ true) → (t : ℕ) → has x t ≡ true → t < capacity
  small x f t h = omega (arith, I.below t (f t h))

  lowest_here : (x : ℕ) → ((t : ℕ) → has x t ≡ true → has left t ≡ true) → x ≢ 0 → (t : ℕ) → t ≡ least capacity (has x) → has x t ≡ true
  lowest_here x f ne t e = lowest_in_lem capacity x t (small_word capacity x (small x f)) ne e

  pub first_below : left ≢ 0 → (i : ℕ) → i ≡ least capacity (has left) → i < g.input.states
  first_below ne i e = I.below i (lowest_here left (λ t h. h) ne i e)

  pub descending_start : left ≢ 0 → (i row : ℕ) (y : Set) → i ≡ least capacity (has left) → row ≡ in_reach_at (sets_in s) i
      → ((t : ℕ) → has (bits_of y) t ≡ (has left t && has row t)) → Descending g left (record { at = record { 0 = i }; rest = record { 0 = y } })
  descending_start ne i row y e q f = record {
    here = lowest_here left (λ t h. h) ne i e;
    inside = λ t h. (and_left (has left t) (has row t) (sym (f t) ∙ h), row_reaches i row b q t (and_right (has left t) (has row t) (sym (f t) ∙ h)));
    passed = λ t h r k. clash (f t ∙ and_intro h (reaches_row i row b q t r)) k;
  }
    where
      b : i < g.input.states
      b = first_below ne i e

  module _ (d : Descent) (D : Descending g left d) where
    abbrev x : ℕ
    x = bits_of d.rest.0

    inner : (u : ℕ) → has x u ≡ true → has left u ≡ true
    inner u h = (D.inside u h).0

    pub descend_at : d.at.0 < g.input.states
    descend_at = I.below d.at.0 D.here

    pub descending_end : x ≡ 0 → Bottom g left d.at.0
    descending_end z = record { here = D.here; alone = λ t h r. D.passed t h r (ap (λ (v : ℕ). has v t) z ∙ has_zero_lem t) }

    module _ (ne : x ≢ 0) (t : ℕ) (e : t ≡ least capacity (has x)) where
      here : has x t ≡ true
      here = lowest_here x inner ne t e

      pub descend_below : t < g.input.states
      descend_below = I.below t (inner t here)

      module _ (row : ℕ) (q : row ≡ in_reach_at (sets_in s) t) (y : Set) (f : (u : ℕ) → has (bits_of y) u ≡ (has x u && not (eqb u (least capacity (has x))))) where
        less : (u : ℕ) → has (bits_of y) u ≡ (has x u && not (eqb u t))
        less = lowest_less capacity x t (bits_of y) e f

        pub descending_falls : count capacity (has (bits_of y)) < count capacity (has x)
        descending_falls = less_falls x t (bits_of y) less capacity (small x inner t here) here

        -- t leads back: it is of the same component
        pub descending_stays : has row d.at.0 ≡ true → Descending g left (record { at = d.at; rest = record { 0 = y } })
        descending_stays k = record {
          here = D.here;
          inside = λ u h. D.inside u (less_in x t (bits_of y) less u h);
          passed = λ u h r v. at u h r v (ℕ_discrete u t);
        }
          where
            at : (u : ℕ) → has left u ≡ true → R d.at.0 u ≡ true → has (bits_of y) u ≡ false → Dec (u ≡ t) → R u d.at.0 ≡ true
            at u h r v (yes w) = rw w (row_reaches t row descend_below q d.at.0 k)
            at u h r v (no w) = D.passed u h r (sym (less_other x t (bits_of y) less u w) ∙ v)

        -- t does not, and is gone to
        module _ (z : Set) (w : (u : ℕ) → has (bits_of z) u ≡ (has (bits_of y) u && has row u)) where
          pub descending_shrinks : count capacity (has (bits_of z)) < count capacity (has x)
          descending_shrinks =
              let m = count_mono capacity (has (bits_of z)) (has (bits_of y)) (λ u b h. and_left (has (bits_of y) u) (has row u) (sym (w u) ∙ h)) in
              omega (arith, m, descending_falls)

          pub descending_goes : Descending g left (record { at = record { 0 = t }; rest = record { 0 = z } })
          unfolding graph_of
          descending_goes = record {
            here = inner t here;
            inside = λ u h.
                let old = less_in x t (bits_of y) less u (and_left (has (bits_of y) u) (has row u) (sym (w u) ∙ h)) in
                (inner u old, row_reaches t row descend_below q u (and_right (has (bits_of y) u) (has row u) (sym (w u) ∙ h)));
            passed = λ u h r v. elim (and_cases (has (bits_of y) u) (has row u) (sym (w u) ∙ v)) [
              | inl k ↦ at u h r k (ℕ_discrete u t)
              | inr k ↦ clash (reaches_row t row descend_below q u r) k
            ];
          }
            where
              at : (u : ℕ) → has left u ≡ true → R t u ≡ true → has (bits_of y) u ≡ false → Dec (u ≡ t) → R u t ≡ true
              at u h r k (yes v) = rw v (reaches_self (graph_of g.input) t descend_below)
              at u h r k (no v) =
                  let to = (D.inside t here).1 in
                  let back = D.passed u h (reaches_trans (graph_of g.input) d.at.0 t u to r) (sym (less_other x t (bits_of y) less u v) ∙ k) in
                  reaches_trans (graph_of g.input) u d.at.0 t back to
