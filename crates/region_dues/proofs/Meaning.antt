-- What the sets mean: the tests on sets are the theory's.
--
--   fits_few          : a game that fits has few enough requirements and sets
--   sorted-*          : one component after the other, the sets of outputs that serve a requirement
--   accepted_means    : what an output is admitted by
use Prim.Native.Nat.{ℕ, ◌≤◌, ◌<◌}
use mathlib.Core.Path.{◌≡◌, refl, sym, ◌∙◌, ap, ap₂}
use mathlib.Core.Bool.{Bool, true, false, ◌&&◌, ◌||◌, not}
use mathlib.Core.List.{List}
use mathlib.Core.Logic.{◌⊎◌, inl, inr, ◌≢◌}
use native.Mathlib.Omega.{arith}
use native.Mathlib.Decide.{dec_lt}
use lib.Dec.{ltb}
use lib.ListN.{get_or, replicate}
use borrow.Author.Tests.{lt-ltb, ltb-true}
use Rattle.finite.specs.Bounded.{all, least, count}
use Rattle.finite.proofs.Truth.{decide, clash, false_of, and_intro, and_left, and_right, and_false_right, or_false, not_true, and_all}
use Rattle.finite.proofs.Tabulate.{all_of_tabulate}
use Rattle.finite.proofs.Bounded.{all_same, count_less}
use Rattle.bits.specs.Member.{has, pack, sets_meet}
use Rattle.bits.proofs.Membership.{ext, has_zero_lem, has_pack_below, has_pack_past, has_lt, pack_lt, pack_ext}
use Rattle.bits.proofs.Compare.{meets_pack}
use Rattle.bits.proofs.Visit.{small_word, lowest_in_lem}
use Rattle.sets.specs.Words.{capacity, bits_of, words_for}
use Rattle.graphs.specs.Component.{joined, meets_at}
use Rattle.graphs.proofs.Component.{joined_self, joined_same}
use Rattle.game.specs.declared.Requirement.{Requirement as RequirementRecord}
use Rattle.game.specs.declared.Game.{Game}
use Rattle.game.specs.Access.{no_input, no_output, requirement_at}
use Rattle.game.proofs.Laws.{Fits}
use Rattle.play.specs.Play.{graph_of, requirement_of, requirements_of, separated_of}
use Rattle.graph_components.specs.Component.{together}
use Rattle.graph_components.specs.Closes.{Closes}
use Rattle.graph_components.proofs.Closed.{component_closed}
use Rattle.theory.specs.Region.{due, served, accepting}
use Rattle.region_dues.specs.Dues.{in_meets_at, in_meets, out_meets_at, out_meets, due_in, served_in, Few, Whole, servers_at, serves, Serving, admits}
use Rattle.region_dues.proofs.Halves.{servers_none}

pub fits_few : (g : Game) → Fits g → Few g
fits_few g F = record {
  requirements = F.few;
  assumed = λ r b. (F.requirement r b).few_assumed;
  guaranteed = λ r b. (F.requirement r b).few_guaranteed;
}

-- the lists have the outputs outside rest in the sets of the requirements that they serve
pub record Sorted (g : Game) (rest : ℕ) (f s : List ℕ) : Type 0 where
  pub whole : Whole f s
  pub within : (t : ℕ) → has rest t ≡ true → t < g.output.states
  pub done : (r t : ℕ) → r < g.k → t < g.output.states → has rest t ≡ false → has (servers_at f s r) t ≡ serves g r t
  pub left : (r t : ℕ) → r < g.k → has rest t ≡ true → has (servers_at f s r) t ≡ false
  pub past : (r t : ℕ) → r < g.k → g.output.states ≤ t → has (servers_at f s r) t ≡ false

module _ (g : Game) (F : Fits g) where
  in_meets_lem : (i x : ℕ) → sets_meet capacity x (pack g.input.states (joined (graph_of g.input) i)) ≡ meets_at (graph_of g.input) i (has x)
  unfolding meets_at graph_of
  in_meets_lem i x = meets_pack capacity g.input.states x (joined (graph_of g.input) i) F.input.most

  out_meets_lem : (d x : ℕ) → sets_meet capacity x (pack g.output.states (joined (graph_of g.output) d)) ≡ meets_at (graph_of g.output) d (has x)
  unfolding meets_at graph_of
  out_meets_lem d x = meets_pack capacity g.output.states x (joined (graph_of g.output) d) F.output.most

  due_means : (q : RequirementRecord) (i : ℕ)
      → in_meets q (pack g.input.states (joined (graph_of g.input) i)) q.assumed ≡ due (separated_of g) i (requirement_of q)
  unfolding in_meets in_meets_at due requirement_of separated_of
  due_means q i =
      all_same q.assumed (in_meets_at q (pack g.input.states (joined (graph_of g.input) i)))
      (λ j. meets_at (graph_of g.input) i (has (bits_of (get_or q.assumptions j no_input).0)))
      (λ j b. in_meets_lem i (bits_of (get_or q.assumptions j no_input).0))
      ∙ sym (all_of_tabulate (meets_at (graph_of g.input) i) q.assumed (λ j. has (bits_of (get_or q.assumptions j no_input).0)))

  served_means : (q : RequirementRecord) (d : ℕ)
      → out_meets q (pack g.output.states (joined (graph_of g.output) d)) q.guaranteed ≡ served (separated_of g) d (requirement_of q)
  unfolding out_meets out_meets_at served requirement_of separated_of
  served_means q d =
      all_same q.guaranteed (out_meets_at q (pack g.output.states (joined (graph_of g.output) d)))
      (λ j. meets_at (graph_of g.output) d (has (bits_of (get_or q.guarantees j no_output).0)))
      (λ j b. out_meets_lem d (bits_of (get_or q.guarantees j no_output).0))
      ∙ sym (all_of_tabulate (meets_at (graph_of g.output) d) q.guaranteed (λ j. has (bits_of (get_or q.guarantees j no_output).0)))

  -- a component serves a requirement exactly where each of its members does
  component_serves : (rows : List ℕ) → Closes g.output rows → (d c : ℕ) → d < g.output.states → c ≡ pack g.output.states (together rows d)
      → (r t : ℕ) → has c t ≡ true → served_in g c r ≡ serves g r t
  unfolding served_in serves
  component_serves rows C d c b e r t h =
      ap (λ (x : ℕ). out_meets (requirement_at g r) x (requirement_at g r).guaranteed) (whole ∙ same) ∙ served_means (requirement_at g r) t
    where
      whole : c ≡ pack g.output.states (joined (graph_of g.output) d)
      whole = e ∙ component_closed g.output rows C d b

      below : t < g.output.states
      below =
          has_lt g.output.states (pack g.output.states (joined (graph_of g.output) d)) t
          (pack_lt g.output.states (joined (graph_of g.output) d))
          (ap (λ (x : ℕ). has x t) (sym whole) ∙ h)

      together_t : joined (graph_of g.output) d t ≡ true
      together_t = sym (has_pack_below g.output.states (joined (graph_of g.output) d) t below) ∙ ap (λ (x : ℕ). has x t) (sym whole) ∙ h

      same : pack g.output.states (joined (graph_of g.output) d) ≡ pack g.output.states (joined (graph_of g.output) t)
      same =
          pack_ext g.output.states (joined (graph_of g.output) d) (joined (graph_of g.output) t)
          (λ u l. joined_same (graph_of g.output) d t u together_t)

  pub sorted_start : (rest : ℕ) → ((t : ℕ) → has rest t ≡ ltb t g.output.states) → Sorted g rest (replicate (words_for 4) 0) (replicate (words_for 4) 0)
  sorted_start rest f = record {
    whole = record { first = refl; second = refl };
    within = λ t h. ltb-true t g.output.states (sym (f t) ∙ h);
    done = λ r t l a h. clash (f t ∙ lt-ltb t g.output.states a) h;
    left = λ r t l h. none r t l;
    past = λ r t l a. none r t l;
  }
    where
      none : (r t : ℕ) → r < g.k → has (servers_at (replicate (words_for 4) 0) (replicate (words_for 4) 0) r) t ≡ false
      none r t l = ap (λ (x : ℕ). has x t) (servers_none r (omega (arith, F.few))) ∙ has_zero_lem t

  module _ (rows : List ℕ) (C : Closes g.output rows) (rest : ℕ) (x y : List ℕ) (S : Sorted g rest x y) (some : rest ≢ 0) (d : ℕ)
      (e : d ≡ least capacity (has rest)) where
    small : (s : ℕ) → has rest s ≡ true → s < capacity
    small s h = omega (arith, S.within s h, F.output.most)

    here : has rest d ≡ true
    here = lowest_in_lem capacity rest d (small_word capacity rest small) some e

    pub sorted_below : d < g.output.states
    sorted_below = S.within d here

    module _ (c : ℕ) (q : c ≡ pack g.output.states (together rows d)) where
      below_c : (t : ℕ) → has c t ≡ true → t < g.output.states
      below_c t h =
          has_lt g.output.states (pack g.output.states (together rows d)) t (pack_lt g.output.states (together rows d))
          (ap (λ (v : ℕ). has v t) (sym q) ∙ h)

      itself : has c d ≡ true
      unfolding graph_of
      itself =
          ap (λ (v : ℕ). has v d) (q ∙ component_closed g.output rows C d sorted_below)
          ∙ has_pack_below g.output.states (joined (graph_of g.output) d) d sorted_below ∙ joined_self (graph_of g.output) d sorted_below

      module _ (less : ℕ) (f : (t : ℕ) → has less t ≡ (has rest t && not (has c t))) where
        kept : (t : ℕ) → has less t ≡ true → has rest t ≡ true
        kept t h = and_left (has rest t) (not (has c t)) (sym (f t) ∙ h)

        outside : (t : ℕ) → has less t ≡ true → has c t ≡ false
        outside t h = not_true (has c t) (and_right (has rest t) (not (has c t)) (sym (f t) ∙ h))

        pub sorted_falls : count capacity (has less) < count capacity (has rest)
        sorted_falls =
            count_less capacity (has less) (has rest) (λ t b h. kept t h) d (small d here)
            (f d ∙ and_false_right (has rest d) (ap not itself)) here

        pub sorted_next : (v w : List ℕ) → Whole v w
            → ((r : ℕ) → r < g.k → (t : ℕ) → has (servers_at v w r) t ≡ (has (servers_at x y r) t || (served_in g c r && has c t))) → Sorted g less v w
        sorted_next v w W M = record {
          whole = W;
          within = λ t h. S.within t (kept t h);
          done = λ r t l a h. M r l t ∙ done r t l a h (decide (has c t)) (decide (has rest t));
          left = λ r t l h. M r l t ∙ or_false (S.left r t l (kept t h)) (and_false_right (served_in g c r) (outside t h));
          past = λ r t l a. M r l t ∙ or_false (S.past r t l a)
              (and_false_right (served_in g c r) (false_of (has c t) (λ h. absurd (omega (arith, below_c t h)))));
        }
          where
            both : (a b : Bool) → a ≡ b → (a || (b && true)) ≡ b
            both true b p = p
            both false true p = refl
            both false false p = refl

            none : (a b : Bool) → (a || (b && false)) ≡ a
            none true b = refl
            none false true = refl
            none false false = refl

            done : (r t : ℕ) → r < g.k → t < g.output.states → has less t ≡ false
                → (has c t ≡ true) ⊎ (has c t ≡ false) → (has rest t ≡ true) ⊎ (has rest t ≡ false)
                → (has (servers_at x y r) t || (served_in g c r && has c t)) ≡ serves g r t
            done r t l a h (inl k) (inl v) =
                rw (k, S.left r t l v) (and_all (served_in g c r) refl ∙ component_serves rows C d c sorted_below q r t k)
            done r t l a h (inl k) (inr v) =
                let s = component_serves rows C d c sorted_below q r t k in
                rw k (both (has (servers_at x y r) t) (served_in g c r) (S.done r t l a v ∙ sym s) ∙ s)
            done r t l a h (inr k) (inl v) = clash (f t ∙ and_intro v (ap not k)) h
            done r t l a h (inr k) (inr v) = rw k (none (has (servers_at x y r) t) (served_in g c r) ∙ S.done r t l a v)

  pub sorted_end : (rest : ℕ) (f s : List ℕ) → Sorted g rest f s → rest ≡ 0 → Serving g f s
  sorted_end rest f s S z = record {
    whole = S.whole;
    at = λ r b. ext (servers_at f s r) (pack g.output.states (serves g r)) (λ t. at r t b (dec_lt t g.output.states));
  }
    where
      at : (r t : ℕ) → r < g.k → Dec (t < g.output.states) → has (servers_at f s r) t ≡ has (pack g.output.states (serves g r)) t
      at r t b (yes a) =
          S.done r t b a (ap (λ (v : ℕ). has v t) z ∙ has_zero_lem t) ∙ sym (has_pack_below g.output.states (serves g r) t a)
      at r t b (no a) = S.past r t b (omega arith) ∙ sym (has_pack_past g.output.states (serves g r) t (omega arith))

  pub accepted_means : (f s : List ℕ) (i d : ℕ) → Serving g f s → d < g.output.states
      → all g.k (admits g (pack g.input.states (joined (graph_of g.input) i)) f s d) ≡ accepting (separated_of g) i d
  unfolding admits due_in serves accepting separated_of requirements_of
  accepted_means f s i d S b =
      all_same g.k (admits g (pack g.input.states (joined (graph_of g.input) i)) f s d)
      (λ r. not (due (separated_of g) i (requirement_of (requirement_at g r))) || served (separated_of g) d (requirement_of (requirement_at g r)))
      (λ r h. ap₂ (λ (x y : Bool). not x || y) (due_means (requirement_at g r) i)
      (ap (λ (x : ℕ). has x d) (S.at r h) ∙ has_pack_below g.output.states (serves g r) d b))
      ∙ sym (all_of_tabulate (λ q. not (due (separated_of g) i q) || served (separated_of g) d q) g.k (λ r. requirement_of (requirement_at g r)))
