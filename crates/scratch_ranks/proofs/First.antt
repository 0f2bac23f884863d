-- The smallest input of a component, searched among the leaders below.
--
--   row_reaches                : the rows in scratch are what the inputs reach
--   passed_below, passed_leads : a leader below
--   unmet_first                : an input that is not met is the smallest of its component
--   Searching, searching-*     : the leaders that were looked at reach no input that reaches this one
use Prim.Native.Nat.{ℕ, ◌≤◌, ◌<◌}
use mathlib.Core.Path.{◌≡◌, sym, ◌∙◌, ap}
use mathlib.Core.Bool.{Bool, true, false, ◌&&◌, not}
use mathlib.Core.List.{List}
use mathlib.Core.Logic.{inl, inr, ◌≢◌}
use native.Mathlib.Omega.{arith}
use native.Mathlib.Decide.{dec_lt}
use lib.Dec.{ltb}
use borrow.Author.Tests.{ltb-true, lt-ltb}
use Rattle.finite.specs.Bounded.{least, count}
use Rattle.finite.proofs.Truth.{clash, same_test, and_intro, and_left, and_right, and_false_right, and_cases, not_false}
use Rattle.finite.proofs.Bounded.{count_less}
use Rattle.bits.specs.Member.{has}
use Rattle.bits.proofs.Membership.{has_zero_lem, has_pack, has_pack_below}
use Rattle.bits.proofs.Visit.{small_word, lowest_in_lem}
use Rattle.sets.specs.Words.{capacity, sets_in}
use Rattle.graphs.specs.Closure.{reaches}
use Rattle.graphs.specs.Component.{number}
use Rattle.graphs.proofs.Closure.{reaches_to, reaches_self, reaches_trans}
use Rattle.graphs.proofs.Component.{joined_intro, joined_there, joined_back, joined_self, number_same, number_joined, number_least}
use Rattle.game.specs.declared.Game.{Game}
use Rattle.play.specs.Play.{graph_of, separated_of}
use Rattle.compact.specs.Rank.{leads}
use Rattle.compact.proofs.Rank.{leads_number, number_leads}
use Rattle.scratch.specs.Stored.{in_reach_at, Laid}
use Rattle.scratch_ranks.specs.Passed.{Passed}

-- of the leaders `all` the rest is left to look at: each of the others is reached by one that does not reach i
pub record Searching (s : List ℕ) (i all rest : ℕ) : Type 0 where
  pub inside : (t : ℕ) → has rest t ≡ true → has all t ≡ true
  pub gone : (t : ℕ) → has all t ≡ true → has rest t ≡ false
      → (j : ℕ) × (has all j ≡ true) × (has (in_reach_at (sets_in s) j) t ≡ true) × (has (in_reach_at (sets_in s) j) i ≡ false)

pub searching_start : (s : List ℕ) (i all : ℕ) → Searching s i all all
searching_start s i all = record { inside = λ t h. h; gone = λ t h k. clash h k }

module _ (g : Game) (s : List ℕ) (L : Laid g s) where
  abbrev R : ℕ → ℕ → Bool
  R = reaches (graph_of g.input)

  abbrev N : ℕ → ℕ
  N = number (graph_of g.input)

  pub row_reaches : (t u : ℕ) → t < g.input.states → has (in_reach_at (sets_in s) t) u ≡ R t u
  unfolding graph_of
  row_reaches t u b =
      same_test (has (in_reach_at (sets_in s) t) u) (R t u)
      (λ h. and_right (ltb u g.input.states) (R t u) (sym (has_pack g.input.states (R t) u) ∙ ap (λ (v : ℕ). has v u) (sym (L.inputs t b)) ∙ h))
      (λ h. ap (λ (v : ℕ). has v u) (L.inputs t b) ∙ has_pack_below g.input.states (R t) u (reaches_to (graph_of g.input) t u h) ∙ h)

  module _ (i x y : ℕ) (b : i < g.input.states) (P : Passed g i x y) where
    pub passed_below : (t : ℕ) → has x t ≡ true → t < i
    passed_below t h = ltb-true t i (and_left (ltb t i) (leads (separated_of g) t) (sym (P.leaders t) ∙ h))

    pub passed_leads : (t : ℕ) → has x t ≡ true → leads (separated_of g) t ≡ true
    passed_leads t h = and_right (ltb t i) (leads (separated_of g) t) (sym (P.leaders t) ∙ h)

    pub first_most : N i ≤ i
    unfolding graph_of
    first_most = number_least (graph_of g.input) i i (joined_self (graph_of g.input) i b)

    there : R i (N i) ≡ true
    unfolding graph_of
    there = joined_there (graph_of g.input) i (N i) (number_joined (graph_of g.input) i b)

    back : R (N i) i ≡ true
    unfolding graph_of
    back = joined_back (graph_of g.input) i (N i) (number_joined (graph_of g.input) i b)

    pub unmet_first : has y i ≡ false → i ≡ N i
    unmet_first h =
        elim (dec_lt (N i) i) [
          | yes k ↦ clash (P.met (N i) i k back) h
          | no k ↦ omega (arith, first_most)
        ]

    -- the leaders that i reaches
    module _ (row all : ℕ) (q : row ≡ in_reach_at (sets_in s) i) (f : (t : ℕ) → has all t ≡ (has row t && has x t)) where
      leader : (t : ℕ) → has all t ≡ true → has x t ≡ true
      leader t h = and_right (has row t) (has x t) (sym (f t) ∙ h)

      reached : (t : ℕ) → has all t ≡ true → R i t ≡ true
      reached t h = sym (row_reaches i t b) ∙ ap (λ (v : ℕ). has v t) (sym q) ∙ and_left (has row t) (has x t) (sym (f t) ∙ h)

      below : (t : ℕ) → has all t ≡ true → t < g.input.states
      below t h = omega (arith, passed_below t (leader t h))

      first_there : N i < i → has all (N i) ≡ true
      unfolding separated_of graph_of
      first_there k =
          f (N i)
          ∙ and_intro (ap (λ (v : ℕ). has v (N i)) q ∙ row_reaches i (N i) b ∙ there)
          (P.leaders (N i) ∙ and_intro (lt-ltb (N i) i k) (leads_number (separated_of g) i b))

      module _ (rest : ℕ) (S : Searching s i all rest) where
        pub searching_end : rest ≡ 0 → i ≡ N i
        searching_end z = elim (dec_lt (N i) i) [ yes k ↦ go k | no k ↦ omega (arith, first_most) ]
          where
            go : N i < i → i ≡ N i
            go k =
                let w = S.gone (N i) (first_there k) (ap (λ (v : ℕ). has v (N i)) z ∙ has_zero_lem (N i)) in
                let l = below w.0 w.1 in
                clash (row_reaches w.0 i l ∙ reaches_trans (graph_of g.input) w.0 (N i) i (sym (row_reaches w.0 (N i) l) ∙ w.2) back) w.3

        module _ (most : g.input.states ≤ capacity) (ne : rest ≢ 0) (j : ℕ) (e : j ≡ least capacity (has rest)) where
          small : (t : ℕ) → has rest t ≡ true → t < capacity
          small t h = omega (arith, below t (S.inside t h))

          here : has rest j ≡ true
          here = lowest_in_lem capacity rest j (small_word capacity rest small) ne e

          pub searching_below : j < g.input.states
          searching_below = below j (S.inside j here)

          module _ (z : ℕ) (p : z ≡ in_reach_at (sets_in s) j) where
            -- a leader that reaches i is the smallest of its component
            pub searching_found : has z i ≡ true → j ≡ N i
            unfolding separated_of
            searching_found h =
                let m = S.inside j here in
                let r : R j i ≡ true = sym (row_reaches j i searching_below) ∙ ap (λ (v : ℕ). has v i) (sym p) ∙ h in
                sym (number_leads (separated_of g) j (passed_leads j (leader j m)))
                ∙ sym (number_same (graph_of g.input) i j (joined_intro (graph_of g.input) i j (reached j m) r))

            module _ (r : ℕ) (d : (t : ℕ) → has r t ≡ (has rest t && not (has z t))) where
              pub searching_next : has z i ≡ false → Searching s i all r
              searching_next h = record {
                inside = λ t k. S.inside t (and_left (has rest t) (not (has z t)) (sym (d t) ∙ k));
                gone = λ t k l. elim (and_cases (has rest t) (not (has z t)) (sym (d t) ∙ l)) [
                  | inl v ↦ S.gone t k v
                  | inr v ↦ (
                    j,
                    S.inside j here,
                    ap (λ (w : ℕ). has w t) (sym p) ∙ not_false (has z t) v,
                    ap (λ (w : ℕ). has w i) (sym p) ∙ h,
                  )
                ];
              }

              pub searching_falls : count capacity (has r) < count capacity (has rest)
              unfolding graph_of
              searching_falls =
                  count_less capacity (has r) (has rest) (λ t a k. and_left (has rest t) (not (has z t)) (sym (d t) ∙ k)) j (small j here) gone here
                where
                  own : has z j ≡ true
                  own = ap (λ (w : ℕ). has w j) p ∙ row_reaches j j searching_below ∙ reaches_self (graph_of g.input) j searching_below

                  gone : has r j ≡ false
                  gone = d j ∙ and_false_right (has rest j) (ap not own)
