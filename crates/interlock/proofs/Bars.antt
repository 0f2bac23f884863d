-- What is barred, what is marked, and who wins.
--
--   barrable_in, barrable_out    : which outputs may be barred with an input
--   one_some, one_none           : one requirement, where some pair is barred and where none is
--   unbarred_none                : where no pair is barred, none is
--   barred_filled, unbarred_filled    : the map that was written
--   marks_won                    : what it marks
--   opens-row, opens_region      : the inputs that open
--   wins_some, wins_none         : who wins
use Prim.Native.Nat.{ℕ, ◌≤◌, ◌<◌}
use mathlib.Core.Path.{◌≡◌, refl, sym, ◌∙◌, ap, subst, subst⁻¹}
use mathlib.Core.Bool.{Bool, true, false, ◌&&◌, ◌||◌, not}
use mathlib.Core.List.{List, ◌++◌}
use mathlib.Core.Logic.{◌↔◌, ◌⊎◌, inl, inr}
use native.Mathlib.Omega.{arith}
use lib.Dec.{eqb, ltb}
use lib.ListN.{length, get_or, drop, get_or-eq_default}
use borrow.Author.Tests.{lt-ltb, le-ltb, ltb-true, ltb-false, eqb-true}
use Rattle.finite.specs.Bounded.{all, any}
use Rattle.finite.specs.Tabulate.{tabulate}
use Rattle.finite.proofs.Truth.{decide, not_false, and_intro, and_left, and_right, same_test}
use Rattle.finite.proofs.Bounded.{all_same, any_false, any_intro, any_elim}
use Rattle.finite.proofs.Tabulate.{same_tabulate}
use Rattle.finite.proofs.Front.{front_at}
use Rattle.bits.specs.Member.{has, pack, sets_meet}
use Rattle.bits.proofs.Membership.{has_zero_lem, has_pack_below}
use Rattle.bits.proofs.Compare.{meets_intro, meets_elim}
use Rattle.sets.specs.Words.{capacity, bits_of, sets_in}
use Rattle.arena.specs.Win.{Won, SystemWins}
use Rattle.theory.specs.Region.{region, verdict}
use Rattle.theory.proofs.Demands.{demand_two, verdict_wins, wins_verdict}
use Rattle.graphs.specs.Graph.{begins}
use Rattle.graphs.proofs.Graph.{begins_intro, begins_initial}
use Rattle.game.specs.declared.Game.{Game}
use Rattle.game.specs.Acceptance.{accepted, acceptance}
use Rattle.game.specs.Fits.{Fits}
use Rattle.play.specs.Play.{graph_of, separated_of, requirements_of}
use Rattle.barred.specs.Arena.{Pairs, barred_arena}
use Rattle.barred.specs.Demands.{OneRequirement}
use Rattle.barred.specs.Region.{barred_region, barred_opens, barred_verdict}
use Rattle.barred.proofs.Arena.{unbarred_arena, unbarred_won}
use Rattle.barred.proofs.Demands.{barred_two, barred_verdict_lem}
use Rattle.barred_region.specs.Region.{only}
use Rattle.map_marks.specs.Marks.{map_row, MapFilled}
use Rattle.interlock.specs.Bars.{bars, barrable, some_barred, one_requirement, marked, system_wins, barred_row, opens_row, RegionFilled, BarredFilled}

pub barrable_in : (g : Game) (i : ℕ) → i < g.input.states → g.output.states ≡ barrable g i
unfolding barrable
barrable_in g i b = rw (lt-ltb i g.input.states b, barrable) refl

pub barrable_out : (g : Game) (i : ℕ) → g.input.states ≤ i → 0 ≡ barrable g i
unfolding barrable
barrable_out g i b = rw (le-ltb i g.input.states b, barrable) refl

pub one_some : (g : Game) (b : List ℕ) → some_barred b ≡ true → eqb g.k 1 ≡ one_requirement g b
unfolding one_requirement
one_some g b e = rw e refl

pub one_none : (g : Game) (b : List ℕ) → some_barred b ≡ false → true ≡ one_requirement g b
unfolding one_requirement
one_none g b e = rw e refl

unbarred_none : (b : List ℕ) → some_barred b ≡ false → (i o : ℕ) → bars b i o ≡ false
unfolding some_barred
unbarred_none b e i o = elim (decide (ltb i (length (sets_in b)))) [
  | inl h ↦ ap (λ (x : ℕ). has x o) (eqb-true (get_or (sets_in b) i 0) 0
      (not_false (eqb (get_or (sets_in b) i 0) 0)
      (any_false (length (sets_in b)) (λ k. not (eqb (get_or (sets_in b) k 0) 0)) e i (ltb-true i (length (sets_in b)) h))))
      ∙ has_zero_lem o
  | inr h ↦ ap (λ (x : ℕ). has x o) (get_or-eq_default (sets_in b) 0 (ltb-false i (length (sets_in b)) h)) ∙ has_zero_lem o
]

-- a game with one requirement
pub one : (g : Game) → g.k ≡ 1 → OneRequirement (separated_of g) (only g)
unfolding separated_of requirements_of only tabulate
one g e = record { only = rw e refl }

-- ---- the map

module _ (g : Game) (b : List ℕ) where
  marked_some : some_barred b ≡ true → marked g b ≡ barred_region (separated_of g) (bars b) (only g)
  unfolding marked
  marked_some e = rw (e, marked) refl

  marked_none : some_barred b ≡ false → marked g b ≡ region (separated_of g)
  unfolding marked
  marked_none e = rw (e, marked) refl

module _ (g : Game) (b m m' : List ℕ) where
  pub barred_filled : (l : List ℕ) → some_barred b ≡ true
      → ((i : ℕ) → i < g.input.states → get_or l i 0 ≡ pack g.output.states (barred_region (separated_of g) (bars b) (only g) i)) → RegionFilled g l m m'
      → BarredFilled g b m m'
  unfolding barred_row
  barred_filled l e f R = record {
    sets = R.sets ∙ ap (λ (x : List ℕ). x ++ drop g.input.states (sets_in m))
        (same_tabulate g.input.states (λ i. get_or l i 0) (barred_row g b)
        (λ i h. f i h ∙ ap (λ (p : Pairs). pack g.output.states (p i)) (sym (marked_some g b e))));
    later = R.later;
  }

  pub unbarred_filled : some_barred b ≡ false → MapFilled g m m' → BarredFilled g b m m'
  unfolding barred_row map_row
  unbarred_filled e R = record {
    sets = R.sets ∙ ap (λ (x : List ℕ). x ++ drop g.input.states (sets_in m)) (same_tabulate g.input.states (map_row g) (barred_row g b)
        (λ i h. ap (λ (p : Pairs). pack g.output.states (p i)) (sym (marked_none g b e))));
    later = R.later;
  }

  pub filled_unbarred : some_barred b ≡ false → BarredFilled g b m m' → MapFilled g m m'
  unfolding barred_row map_row
  filled_unbarred e R = record {
    sets = R.sets ∙ ap (λ (x : List ℕ). x ++ drop g.input.states (sets_in m)) (same_tabulate g.input.states (barred_row g b) (map_row g)
        (λ i h. ap (λ (p : Pairs). pack g.output.states (p i)) (marked_none g b e)));
    later = R.later;
  }

  -- a bit of the map
  bit : BarredFilled g b m m' → (i o : ℕ) → i < g.input.states → o < g.output.states → has (get_or (sets_in m') i 0) o ≡ marked g b i o
  unfolding barred_row
  bit R i o a c =
      ap (λ (x : List ℕ). has (get_or x i 0) o) R.sets ∙ ap (λ (x : ℕ). has x o) (front_at (barred_row g b) (sets_in m) g.input.states i 0 a)
      ∙ has_pack_below g.output.states (marked g b i) o c

  pub marks_won : acceptance g ≡ accepted → one_requirement g b ≡ true → BarredFilled g b m m' → (i o : ℕ) → i < g.input.states → o < g.output.states
      → (has (get_or (sets_in m') i 0) o ≡ true) ↔ ((bars b i o ≡ false) × Won (barred_arena (separated_of g) (bars b)) i o)
  unfolding separated_of graph_of
  marks_won acc r R i o a c = go (decide (some_barred b))
    where
      go : (some_barred b ≡ true) ⊎ (some_barred b ≡ false)
          → (has (get_or (sets_in m') i 0) o ≡ true) ↔ ((bars b i o ≡ false) × Won (barred_arena (separated_of g) (bars b)) i o)
      go (inl e) =
          let k : marked g b i o ≡ barred_region (separated_of g) (bars b) (only g) i o = ap (λ (p : Pairs). p i o) (marked_some g b e) in
          let t = (barred_two (separated_of g) (bars b) (only g) (one g (eqb-true g.k 1 (one_some g b e ∙ r)))).marks i o a c in
          (λ h. t.0 (sym k ∙ sym (bit R i o a c) ∙ h), λ w. bit R i o a c ∙ k ∙ t.1 w)
      go (inr e) =
          let k : marked g b i o ≡ region (separated_of g) i o = ap (λ (p : Pairs). p i o) (marked_none g b e) in
          let n = unbarred_none b e in
          let u = unbarred_won (separated_of g) (bars b) n i o in
          let d = demand_two (separated_of g) i o a c in
          (λ h. (n i o, u.1 (d.0 (sym k ∙ sym (bit R i o a c) ∙ h))), λ w. bit R i o a c ∙ k ∙ d.1 (u.0 w.1))

-- ---- who wins

module _ (g : Game) (F : Fits g) where
  -- a row of the region meets the initial outputs where the input opens
  pub opens_region : (b : List ℕ) (l : List ℕ)
      → ((i : ℕ) → i < g.input.states → get_or l i 0 ≡ pack g.output.states (barred_region (separated_of g) (bars b) (only g) i))
      → all g.input.states (λ i. opens_row g (get_or l i 0) i) ≡ barred_verdict (separated_of g) (bars b) (only g)
  unfolding opens_row barred_verdict barred_opens separated_of graph_of
  opens_region b l f = all_same g.input.states _ _ (λ i h. row i h)
    where
      row : (i : ℕ) → i < g.input.states
          → (not (has (bits_of g.input.initial) i) || sets_meet capacity (bits_of g.output.initial) (get_or l i 0))
          ≡ (not (begins (graph_of g.input) i) || any g.output.states
          (λ o. begins (graph_of g.output) o && barred_region (separated_of g) (bars b) (only g) i o))
      row i h = same_or first opened
        where
          same_or : {p q u v : Bool} → p ≡ u → q ≡ v → (not p || q) ≡ (not u || v)
          same_or e k = rw (e, k) refl

          first : has (bits_of g.input.initial) i ≡ begins (graph_of g.input) i
          first =
              same_test (has (bits_of g.input.initial) i) (begins (graph_of g.input) i) (λ e. begins_intro (graph_of g.input) i h e)
              (λ e. begins_initial (graph_of g.input) i e)

          opened : sets_meet capacity (bits_of g.output.initial) (get_or l i 0)
              ≡ any g.output.states (λ o. begins (graph_of g.output) o && barred_region (separated_of g) (bars b) (only g) i o)
          opened =
              same_test (sets_meet capacity (bits_of g.output.initial) (get_or l i 0))
              (any g.output.states (λ o. begins (graph_of g.output) o && barred_region (separated_of g) (bars b) (only g) i o))
              (λ e. let w = meets_elim capacity (bits_of g.output.initial) (get_or l i 0) e in
              let k = F.output.initial_below w.0 w.2 in
              any_intro g.output.states (λ o. begins (graph_of g.output) o && barred_region (separated_of g) (bars b) (only g) i o) w.0 k
              (and_intro (begins_intro (graph_of g.output) w.0 k w.2)
              (sym (has_pack_below g.output.states (barred_region (separated_of g) (bars b) (only g) i) w.0 k)
              ∙ ap (λ (x : ℕ). has x w.0) (sym (f i h)) ∙ w.3)))
              (λ e. let w = any_elim g.output.states (λ o. begins (graph_of g.output) o && barred_region (separated_of g) (bars b) (only g) i o) e in
              meets_intro capacity (bits_of g.output.initial) (get_or l i 0) w.0 (omega (arith, w.1, F.output.most))
              (begins_initial (graph_of g.output) w.0
              (and_left (begins (graph_of g.output) w.0) (barred_region (separated_of g) (bars b) (only g) i w.0) w.2))
              (ap (λ (x : ℕ). has x w.0) (f i h) ∙ has_pack_below g.output.states (barred_region (separated_of g) (bars b) (only g) i) w.0 w.1
              ∙ and_right (begins (graph_of g.output) w.0) (barred_region (separated_of g) (bars b) (only g) i w.0) w.2))

module _ (g : Game) (b : List ℕ) where
  pub wins_some : some_barred b ≡ true → barred_verdict (separated_of g) (bars b) (only g) ≡ system_wins g b
  unfolding system_wins
  wins_some e = rw (e, system_wins) refl

  pub wins_none : some_barred b ≡ false → verdict (separated_of g) ≡ system_wins g b
  unfolding system_wins
  wins_none e = rw (e, system_wins) refl

  pub system_wins_lem : one_requirement g b ≡ true → (system_wins g b ≡ true) ↔ SystemWins (barred_arena (separated_of g) (bars b))
  unfolding system_wins
  system_wins_lem r = go (decide (some_barred b))
    where
      go : (some_barred b ≡ true) ⊎ (some_barred b ≡ false) → (system_wins g b ≡ true) ↔ SystemWins (barred_arena (separated_of g) (bars b))
      go (inl e) =
          let t = (barred_verdict_lem (separated_of g) (bars b) (only g) (one g (eqb-true g.k 1 (one_some g b e ∙ r)))).verdict in
          (λ h. t.0 (wins_some e ∙ h), λ w. sym (wins_some e) ∙ t.1 w)
      go (inr e) =
          let a = unbarred_arena (separated_of g) (bars b) (unbarred_none b e) in (
            λ h. subst⁻¹ SystemWins a (verdict_wins (separated_of g) (wins_none e ∙ h)),
            λ w. sym (wins_none e)
                ∙ wins_verdict (separated_of g) (subst SystemWins a w),
          )
