-- One round: the states that are still to be tried are a set `rest`.
--
--   trying_start, trying_passed, trying_hit, trying_miss, trying_falls, trying_end : how that begins, goes on and ends
use Prim.Native.Nat.{ℕ, ◌+◌, ◌*◌, ◌^◌, ◌≤◌, ◌<◌}
use mathlib.Core.Path.{◌≡◌, refl, sym, ◌∙◌, ap}
use mathlib.Core.Bool.{true, false, not, ◌&&◌, ◌||◌}
use mathlib.Core.List.{List}
use mathlib.Core.Logic.{◌⊎◌, inl, inr, ◌≢◌}
use native.Mathlib.Omega.{arith}
use native.Mathlib.Decide.{ℕ_discrete}
use lib.Dec.{eqb, ltb}
use borrow.Author.Tests.{eqb-true, eq-eqb}
use Rattle.finite.specs.Bounded.{least, count}
use Rattle.finite.proofs.Truth.{decide, clash, same_test, or_left, or_right, or_cases}
use Rattle.bits.specs.Member.{has, within, pack}
use Rattle.bits.proofs.Membership.{ext, has_zero_lem, has_pack_below, within_has, pack_below, pack_holds}
use Rattle.bits.proofs.Remove.{less_in, less_other, less_falls}
use Rattle.bits.proofs.Visit.{small_word, lowest_below, lowest_in_lem, lowest_less, cut_in, cut_all}
use Rattle.sets.specs.Words.{capacity, bits_of}
use Rattle.graphs.specs.Way.{prefer}
use Rattle.arena.specs.Table.{Answer}
use Rattle.graph_ways.specs.Search.{choices, moves_into, PassedOver}
use Rattle.graph_ways.proofs.Round.{settles_of, settles_not, settles_left, settles_near}
use Rattle.table_layout.specs.declared.Layout.{Layout}
use Rattle.table_layout.specs.Rows.{Rows, Filled, Wrote}
use Rattle.table_layout.proofs.Places.{filled_none, filled_join, filled_part}
use Rattle.table_walks.specs.declared.Stamp.{Stamp}
use Rattle.table_walks.specs.Walk.{first_entry, Fair, Settled}
use Rattle.table_walks.specs.Trying.{Trying}

module _ (rows : List ℕ) (z : Layout) (c left l : ℕ) (w : Stamp) where
  pub trying_start : (x : List ℕ) (r b rest : ℕ) → z.states ≤ capacity → r ≡ 0 → ((s : ℕ) → has b s ≡ ltb s z.states)
      → ((s : ℕ) → has rest s ≡ (has left s && has b s)) → Trying rows z c left l w x x r rest
  trying_start x r b rest bound none f i = record {
    bound = bound;
    member = λ t e. (cut_in left b rest z.states f i t e).1;
    below = λ t e. (cut_in left b rest z.states f i t e).0;
    taken = λ t lt e q. clash (in_rest t lt q) e;
    only = λ t e. clash e (ap (λ (k : ℕ). has k t) none ∙ has_zero_lem t);
    long = refl;
    fills = λ g E R F. filled_none z g E R x (λ s h k ls lh lk p. clash (in_rest s ls p.1) p.0);
  }
    where
      in_rest : (t : ℕ) → t < z.states → moves_into rows c left l t ≡ true → has rest t ≡ true
      in_rest t lt q = cut_all left b rest z.states f i t lt (settles_left rows c left l t q)

  -- states that are passed over have no rows
  pub trying_passed : {x y : List ℕ} {r rest v : ℕ} (near : ℕ) → Trying rows z c left l w x y r rest → PassedOver rows near rest v
      → ((t : ℕ) → has near t ≡ (has c t && has l t)) → within l z.states ≡ true → Trying rows z c left l w x y r v
  trying_passed {rest = rest} {v = v} near T P f b = record {
    bound = T.bound;
    member = λ t a. T.member t (P.member t a);
    below = λ t a. T.below t (P.member t a);
    taken = λ t lt a m. T.taken t lt (before t a m) m;
    only = T.only;
    long = T.long;
    fills = λ k E R F. filled_part z k E R (T.fills k E R F) (λ a h b la lh lb p. (before a p.0 p.1, p.1, p.2, p.3));
  }
    where
      small : (t : ℕ) → has l t ≡ true → t < capacity
      small t e = omega (arith, within_has l z.states t b e, T.bound)

      before : (t : ℕ) → has v t ≡ false → moves_into rows c left l t ≡ true → has rest t ≡ false
      before t a m =
          elim (decide (has rest t)) [
            | inl i ↦ clash (settles_near rows c left l capacity near t f small m) (P.idle t i a)
            | inr i ↦ i
          ]

  module _ {x y : List ℕ} {r rest s : ℕ} (T : Trying rows z c left l w x y r rest) (ne : rest ≢ 0) (e : s ≡ least capacity (has rest)) where
    small : rest < 2 ^ capacity
    small = small_word capacity rest (λ t a. omega (arith, T.bound, T.below t a))

    pub try_small : s < capacity
    try_small = lowest_below capacity rest s small ne e

    pub try_in : has rest s ≡ true
    try_in = lowest_in_lem capacity rest s small ne e

    pub try_below : s < z.states
    try_below = T.below s try_in

    module _ (v : ℕ) (d : (t : ℕ) → has v t ≡ (has rest t && not (eqb t (least capacity (has rest))))) where
      less : (t : ℕ) → has v t ≡ (has rest t && not (eqb t s))
      less = lowest_less capacity rest s v e d

      pub trying_falls : count capacity (has v) < count capacity (has rest)
      trying_falls = less_falls rest s v less capacity try_small try_in

      -- a state that is tried is s, or was tried before
      tried : (t : ℕ) → has v t ≡ false → (t ≡ s) ⊎ (has rest t ≡ false)
      tried t h = go (ℕ_discrete t s)
        where
          go : Dec (t ≡ s) → (t ≡ s) ⊎ (has rest t ≡ false)
          go (yes q) = inl q
          go (no q) = inr (sym (less_other rest s v less t q) ∙ h)

      pub trying_miss : {m r' : ℕ} {y' : List ℕ} → m ≡ choices rows c left l s → m ≡ 0 → y' ≡ y → r' ≡ r → Trying rows z c left l w x y' r' v
      trying_miss {m} {r'} {y'} q zero f g = rw (f, g) (record {
        bound = T.bound;
        member = λ t a. T.member t (less_in rest s v less t a);
        below = λ t a. T.below t (less_in rest s v less t a);
        taken = λ t lt a b. T.taken t lt (before t a b) b;
        only = T.only;
        long = T.long;
        fills = λ k E R F. filled_part z k E R (T.fills k E R F) (λ a h b la lh lb p. (before a p.0 p.1, p.1, p.2, p.3));
      })
        where
          before : (t : ℕ) → has v t ≡ false → moves_into rows c left l t ≡ true → has rest t ≡ false
          before t a b =
              elim (tried t a) [
                | inl k ↦ clash (ap (moves_into rows c left l) (sym k) ∙ b) (settles_not rows c left l s (sym q ∙ zero))
                | inr k ↦ k
              ]

      pub trying_hit : {m p r' r'' : ℕ} {y' y'' : List ℕ} → m ≡ choices rows c left l s → (m ≡ 0 → ⊥) → p ≡ prefer capacity s (has m)
          → ((t : ℕ) → has r' t ≡ (has r t || eqb t s)) → Wrote z s (bits_of w.over.0) w.which.0 (first_entry w p) w.more y y' → y'' ≡ y' → r'' ≡ r'
          → Trying rows z c left l w x y'' r'' v
      trying_hit {m} {p} {r'} {r''} {y'} {y''} q some choice more W f g = rw (f, g) (record {
        bound = T.bound;
        member = λ t a. T.member t (less_in rest s v less t a);
        below = λ t a. T.below t (less_in rest s v less t a);
        taken = taken;
        only = only;
        long = W.long ∙ T.long;
        fills = fills;
      })
        where
          hit : moves_into rows c left l s ≡ true
          hit = settles_of rows c left l s (λ k. some (q ∙ k))

          taken : (t : ℕ) → t < z.states → has v t ≡ false → moves_into rows c left l t ≡ true → has r' t ≡ true
          taken t lt a b =
              more t
              ∙ elim (tried t a) [
                | inl k ↦ or_right (has r t) (eq-eqb t s k)
                | inr k ↦ or_left (eqb t s) (T.taken t lt k b)
              ]

          only : (t : ℕ) → has r' t ≡ true → (t < z.states) × (moves_into rows c left l t ≡ true)
          only t a =
              elim (or_cases (has r t) (eqb t s) (sym (more t) ∙ a)) [
                | inl k ↦ T.only t k
                | inr k ↦ rw (eqb-true t s k) (try_below, hit)
              ]

          fills : (k : ℕ → ℕ → ℕ → Answer) (E : List ℕ) → Rows z k E → Fair rows z c left l w k
              → Filled z E
              (λ t h b. (has v t ≡ false) × (moves_into rows c left l t ≡ true) × (has w.which.0 h ≡ true) × (has (bits_of w.over.0) b ≡ true)) x y'
          fills k E R F =
              filled_join z k E R (T.fills k E R F)
              (W.fills k E R
              (λ h b i lb o.
              ap (λ (j : ℕ). first_entry w j + w.more * h) (choice ∙ ap (λ (j : ℕ). prefer capacity s (has j)) q) ∙ F.entry s h b try_below hit i lb o))
              (λ a h b la lh lb d.
              elim (tried a d.0) [
                | inl j ↦ inr (j, d.2, d.3)
                | inr j ↦ inl (j, d.1, d.2, d.3)
              ])

  pub trying_end : {x y : List ℕ} {r rest : ℕ} → Trying rows z c left l w x y r rest → rest ≡ 0 → Settled rows z c left l w x y r
  trying_end {x} {y} {r} {rest} T e = record {
    states = ext r (pack z.states (moves_into rows c left l)) (λ t. same_test (has r t) (has (pack z.states (moves_into rows c left l)) t) (to t) (back t));
    long = T.long;
    fills = λ k E R F. filled_part z k E R (T.fills k E R F) (λ a h b la lh lb p. (gone a, p.0, p.1, p.2));
  }
    where
      gone : (t : ℕ) → has rest t ≡ false
      gone t = ap (λ (k : ℕ). has k t) e ∙ has_zero_lem t

      to : (t : ℕ) → has r t ≡ true → has (pack z.states (moves_into rows c left l)) t ≡ true
      to t a = let o = T.only t a in has_pack_below z.states (moves_into rows c left l) t o.0 ∙ o.1

      back : (t : ℕ) → has (pack z.states (moves_into rows c left l)) t ≡ true → has r t ≡ true
      back t a = T.taken t (pack_below z.states (moves_into rows c left l) t a) (gone t) (pack_holds z.states (moves_into rows c left l) t a)
