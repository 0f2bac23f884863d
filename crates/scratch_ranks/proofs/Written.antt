-- The ranks of the inputs passed.
--
--   passed_start, passed_next, passed_end       : the leaders, and what is met
--   Ranked, ranked_start, ranked_next, ranked_end : the ranks of the inputs below
--   first_rank, led_rank                        : the rank of a leader, and of an input that follows one
use Prim.Native.Nat.{ℕ, ◌+◌, ◌≤◌, ◌<◌}
use mathlib.Core.Path.{◌≡◌, refl, sym, ◌∙◌, ap}
use mathlib.Core.Bool.{true, false, ◌&&◌, ◌||◌}
use mathlib.Core.List.{List}
use mathlib.Core.Logic.{◌⊎◌, inl, inr, ◌≢◌}
use native.Mathlib.Omega.{arith}
use native.Mathlib.Decide.{ℕ_discrete}
use lib.Dec.{eqb, ltb}
use lib.ListN.{length, get_or, set, length-set}
use lib.Seq.{get_or-set_same, get_or-set_other}
use borrow.Author.Tests.{eqb-true, eq-eqb, ltb-true, lt-ltb, le-ltb}
use Rattle.finite.specs.Bounded.{count}
use Rattle.finite.proofs.Truth.{false_of, same_test, and_intro, and_left, and_right, and_false_left, or_left, or_right, or_cases}
use Rattle.bits.specs.Member.{has, pack}
use Rattle.bits.proofs.Membership.{ext, has_zero_lem, has_pack}
use Rattle.sets.specs.Words.{sets_in}
use Rattle.graphs.specs.Closure.{reaches}
use Rattle.graphs.specs.Component.{number}
use Rattle.graphs.proofs.Closure.{reaches_trans}
use Rattle.graphs.proofs.Component.{joined_back, joined_sym, number_joined, number_below}
use Rattle.game.specs.declared.Game.{Game}
use Rattle.play.specs.Play.{graph_of, separated_of}
use Rattle.compact.specs.Rank.{leads, rank_of}
use Rattle.compact.proofs.Rank.{leads_number, number_leads, rank_same}
use Rattle.graph_ranks.specs.Ranks.{RanksWritten}
use Rattle.scratch.specs.Stored.{in_reach_at, Laid}
use Rattle.scratch_ranks.specs.Passed.{Passed}
use Rattle.scratch_ranks.proofs.First.{row_reaches, passed_below, passed_leads, first_most}

pub record Ranked (g : Game) (i : ℕ) (l m : List ℕ) : Type 0 where
  pub long : length m ≡ length l
  pub rank : (t : ℕ) → t < i → get_or m (g.input.states + t) 0 ≡ rank_of (separated_of g) t
  pub front : (k : ℕ) → k < g.input.states → get_or m k 0 ≡ get_or l k 0
  pub rest : (k : ℕ) → g.input.states + g.input.states ≤ k → get_or m k 0 ≡ get_or l k 0

module _ (g : Game) where
  pub passed_start : (x y : ℕ) → x ≡ 0 → Passed g 0 x y
  passed_start x y e = record {
    leaders = λ t. ap (λ (v : ℕ). has v t) e ∙ has_zero_lem t ∙ sym (and_false_left (leads (separated_of g) t) (le-ltb t 0 (omega arith)));
    met = λ j t b r. absurd (omega arith);
  }

  pub passed_end : (i x y : ℕ) → i ≡ g.input.states → Passed g i x y → x ≡ pack g.input.states (leads (separated_of g))
  passed_end i x y e P =
      ext x (pack g.input.states (leads (separated_of g)))
      (λ t. P.leaders t ∙ ap (λ (n : ℕ). ltb t n && leads (separated_of g) t) e ∙ sym (has_pack g.input.states (leads (separated_of g)) t))

  pub ranked_start : (l : List ℕ) → Ranked g 0 l l
  ranked_start l = record { long = refl; rank = λ t b. absurd (omega arith); front = λ k b. refl; rest = λ k b. refl }

  pub ranked_end : (i : ℕ) (l m : List ℕ) → g.input.states ≤ i → Ranked g i l m → RanksWritten g l m
  ranked_end i l m b R = record { long = R.long; rank = λ t a. R.rank t (omega arith); front = R.front; rest = R.rest }

  -- one rank more
  pub ranked_next : (i v : ℕ) (l m : List ℕ) → i < g.input.states → g.input.states + g.input.states ≤ length l → Ranked g i l m
      → v ≡ rank_of (separated_of g) i → Ranked g (i + 1) l (set m (g.input.states + i) v)
  ranked_next i v l m b w R e = record {
    long = length-set m (g.input.states + i) v ∙ R.long;
    rank = λ t a. elim (ℕ_discrete t i) [
      | yes q ↦ rw q (get_or-set_same m (g.input.states + i) v 0 (omega (arith, R.long)) ∙ e)
      | no q ↦ get_or-set_other m (g.input.states + i) (g.input.states + t) v 0 (λ z. q (omega arith)) ∙ R.rank t (omega arith)
    ];
    front = λ k a. get_or-set_other m (g.input.states + i) k v 0 (λ z. omega arith) ∙ R.front k a;
    rest = λ k a. get_or-set_other m (g.input.states + i) k v 0 (λ z. omega arith) ∙ R.rest k a;
  }

  module _ (i j : ℕ) (b : i < g.input.states) (e : j ≡ number (graph_of g.input) i) where
    pub first_below : j < g.input.states
    unfolding graph_of
    first_below = rw e (number_below (graph_of g.input) i b)

    leads_first : leads (separated_of g) j ≡ true
    unfolding separated_of graph_of
    leads_first = rw e (leads_number (separated_of g) i b)

    -- a leader has the rank that comes next
    pub first_rank : (k : ℕ) → k ≡ count i (leads (separated_of g)) → j ≡ i → k ≡ rank_of (separated_of g) i
    unfolding rank_of separated_of
    first_rank k q h = q ∙ ap (λ (n : ℕ). count n (leads (separated_of g))) (sym h ∙ e)

    -- any other input has the rank of its leader
    pub led_rank : (l m : List ℕ) → Ranked g i l m → j < i → get_or m (g.input.states + j) 0 ≡ rank_of (separated_of g) i
    unfolding separated_of graph_of
    led_rank l m R h =
        R.rank j h ∙ rank_same (separated_of g) j i
        (rw e (joined_sym (graph_of g.input) i (number (graph_of g.input) i) (number_joined (graph_of g.input) i b)))

    pub leads_here : j ≡ i → leads (separated_of g) i ≡ true
    leads_here h = rw (← h) leads_first

    pub leads_not : j < i → leads (separated_of g) i ≡ false
    unfolding separated_of
    leads_not h = false_of (leads (separated_of g) i) (λ k. omega (arith, e, number_leads (separated_of g) i k))

    module _ (s : List ℕ) (L : Laid g s) (x y : ℕ) (P : Passed g i x y) where
      first_not_above : j ≤ i
      first_not_above = omega (arith, e, first_most g s L i x y b P)

      pub first_lower : j ≢ i → j < i
      first_lower h = omega (arith, first_not_above)

      pub passed_next : (x' y' row : ℕ) → ((t : ℕ) → has x' t ≡ (has x t || eqb t j)) → ((t : ℕ) → has y' t ≡ (has y t || has row t))
          → row ≡ in_reach_at (sets_in s) j → Passed g (i + 1) x' y'
      unfolding separated_of graph_of
      passed_next x' y' row f h q = record {
        leaders = λ t. same_test (has x' t) (ltb t (i + 1) && leads (separated_of g) t) (λ k. there t (or_cases (has x t) (eqb t j) (sym (f t) ∙ k)))
            (λ k. f t ∙ back t (ltb-true t (i + 1) (and_left (ltb t (i + 1)) (leads (separated_of g) t) k))
            (and_right (ltb t (i + 1)) (leads (separated_of g) t) k));
        met = λ k t a r. h t ∙ elim (ℕ_discrete k i) [
          | yes c ↦ or_right (has y t) (ap (λ (v : ℕ). has v t) q ∙ row_reaches g s L j t first_below ∙ onward t (rw c at r))
          | no c ↦ or_left (has row t) (P.met k t (omega arith) r)
        ];
      }
        where
          there : (t : ℕ) → (has x t ≡ true) ⊎ (eqb t j ≡ true) → (ltb t (i + 1) && leads (separated_of g) t) ≡ true
          there t (inl k) =
              and_intro (lt-ltb t (i + 1) (omega (arith, passed_below g s L i x y b P t k))) (passed_leads g s L i x y b P t k)
          there t (inr k) =
              let c : t ≡ j = eqb-true t j k in
              and_intro (lt-ltb t (i + 1) (omega (arith, first_not_above))) (rw c leads_first)

          back : (t : ℕ) → t < i + 1 → leads (separated_of g) t ≡ true → (has x t || eqb t j) ≡ true
          back t a k =
              elim (ℕ_discrete t i) [
                | yes c ↦ or_right (has x t) (eq-eqb t j (c ∙ sym (number_leads (separated_of g) i (rw c at k)) ∙ sym e))
                | no c ↦ or_left (eqb t j) (P.leaders t ∙ and_intro (lt-ltb t i (omega arith)) k)
              ]

          onward : (t : ℕ) → reaches (graph_of g.input) i t ≡ true → reaches (graph_of g.input) j t ≡ true
          onward t r =
              reaches_trans (graph_of g.input) j i t
              (rw e (joined_back (graph_of g.input) i (number (graph_of g.input) i) (number_joined (graph_of g.input) i b))) r
