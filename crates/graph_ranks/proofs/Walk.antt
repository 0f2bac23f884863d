-- The walk by smallest states, for an accepted game.
--
--   around_joined, around_above : what the search finds is the component in the game's terms
--   leads_now        : which input is the smallest of its component
--   left_inputs      : what is left are inputs
--   left_reduced     : the walk goes one input on
--   counted          : the count of the smallest states is that of the components
--   Walked, walked_start, -small, -rank, -next, -skip    : the walk, with the rank that comes next
--   around_ready     : what the search for the next component asks
--   members_fit      : the places of a component's ranks lie in a list that has all ranks
--   written_next, -skip, -end                     : the ranks written on it
--   read_next, -skip, -end, -fails                : the ranks read on it
use Prim.Native.Nat.{ℕ, ◌+◌, ◌≤◌, ◌<◌}
use mathlib.Core.Path.{◌≡◌, refl, sym, ◌∙◌, ap, subst}
use lib.Dec.{ltb}
use borrow.Author.Tests.{ltb-true, lt-ltb, le-ltb}
use mathlib.Core.Bool.{Bool, true, false, ◌&&◌, not}
use mathlib.Core.List.{List}
use mathlib.Core.Logic.{inl, inr}
use native.Mathlib.Omega.{arith}
use Rattle.finite.specs.Bounded.{count}
use Rattle.finite.proofs.Truth.{decide, and_intro, and_left, not_true, not_false}
use Rattle.finite.proofs.Bounded.{count_le, count_same, count_wide}
use Rattle.bits.specs.Member.{has, pack}
use Rattle.bits.proofs.Membership.{has_pack_below, has_pack_past}
use Rattle.sets.specs.declared.Set.{Set}
use Rattle.sets.specs.Words.{capacity, bits_of, sets_in}
use Rattle.graphs.specs.Component.{joined}
use Rattle.graphs.proofs.Component.{joined_to, number_below}
use Rattle.game.specs.declared.Game.{Game}
use Rattle.game.specs.Acceptance.{accepted, acceptance}
use Rattle.game.proofs.Laws.{accepted_fits}
use Rattle.play.specs.Play.{graph_of, separated_of}
use Rattle.compact.specs.Rank.{leads, component_count}
use Rattle.compact.specs.Moving.{ranks_fit}
use Rattle.graph_ranks.specs.Search.{Narrow, Crossed, Component, Reduced}
use Rattle.graph_ranks.specs.Ranks.{Put, ranked, RanksWritten}
use Rattle.graph_ranks.proofs.Found.{narrow, component_found}
use Rattle.graph_ranks.proofs.Ranks.{
  Left,
  left_below,
  left_start,
  left_leads,
  left_whole,
  led_above,
  left_next,
  left_skip,
  count_next,
  count_skip,
  members_below,
  Ranking,
  ranking_next,
  ranking_skip,
  Reading,
  reading_next,
  reading_skip,
  reading_end,
  reading_fails,
  ranked_elim,
  ranked_fails,
}

module _ (g : Game) (A : acceptance g ≡ accepted) where
  pub moves_narrow : Narrow (sets_in g.input.moves)
  moves_narrow = narrow g.input (accepted_fits g A).input

  -- the component of an input that leads it, found among the inputs that are left
  around_joined : (j left c : ℕ) → j < g.input.states → Left (separated_of g) j left → leads (separated_of g) j ≡ true
      → Component (sets_in g.input.moves) left j c → c ≡ pack g.input.states (joined (graph_of g.input) j)
  unfolding separated_of graph_of
  around_joined j left c b L l C =
      component_found g.input (accepted_fits g A).input left j c b (λ t m. left_below (separated_of g) j left t L m)
      (λ t m. left_whole (separated_of g) j left t L l m) C

  -- the component of an input that leads it, found among those that are not below it
  pub around_above : (moves : List ℕ) (n j all low rest c : ℕ) → moves ≡ g.input.moves → n ≡ g.input.states → j < n → leads (separated_of g) j ≡ true
      → ((t : ℕ) → has all t ≡ ltb t n) → ((t : ℕ) → has low t ≡ ltb t j) → ((t : ℕ) → has rest t ≡ (has all t && not (has low t)))
      → Component (sets_in moves) rest j c → c ≡ pack g.input.states (joined (graph_of g.input) j)
  unfolding separated_of graph_of
  around_above moves n j all low rest c m q b l d e f C =
      component_found g.input (accepted_fits g A).input rest j c (omega arith)
      (λ t i. ltb-true t g.input.states (sym (whole t) ∙ and_left (has all t) (not (has low t)) (sym (f t) ∙ i)))
      (λ t i. f t ∙ and_intro (whole t ∙ lt-ltb t g.input.states (joined_to (graph_of g.input) j t i))
      (ap not (e t ∙ le-ltb t j (led_above (separated_of g) j t l i)))) (subst (λ (x : List ℕ). Component (sets_in x) rest j c) m C)
    where
      whole : (t : ℕ) → has all t ≡ ltb t g.input.states
      whole t = d t ∙ ap (ltb t) q

  pub input_small : (j : ℕ) → j < g.input.states → j < capacity
  input_small j b = omega (arith, (accepted_fits g A).input.most)

  pub left_all : (left : ℕ) → ((t : ℕ) → has left t ≡ ltb t g.input.states) → Left (separated_of g) 0 left
  unfolding separated_of graph_of
  left_all left d = left_start (separated_of g) left d

  pub left_inputs : (j left : ℕ) → Left (separated_of g) j left → (t : ℕ) → has left t ≡ true → t < g.input.states
  unfolding separated_of graph_of
  left_inputs j left L t m = left_below (separated_of g) j left t L m

  pub leads_now : (j left : ℕ) → Left (separated_of g) j left → j < g.input.states → has left j ≡ leads (separated_of g) j
  unfolding separated_of graph_of
  leads_now j left L b = left_leads (separated_of g) j left L b

  pub left_reduced : (j left r : ℕ) → Left (separated_of g) j left → j < g.input.states → Reduced (sets_in g.input.moves) left j r
      → Left (separated_of g) (j + 1) r
  unfolding separated_of graph_of
  left_reduced j left r L b R =
      elim (decide (has left j)) [
        | inl m ↦
            let l : leads (separated_of g) j ≡ true = sym (left_leads (separated_of g) j left L b) ∙ m in
            let x = R.found m in
            left_next (separated_of g) j left x.0 r L l (around_joined j left x.0 b L l x.1) x.2
        | inr m ↦
            let l : leads (separated_of g) j ≡ false = sym (left_leads (separated_of g) j left L b) ∙ m in
            let e = R.passed m in
            rw e (left_skip (separated_of g) j left L l)
      ]

  pub counted : (x k : ℕ) → x ≡ pack g.input.states (leads (separated_of g)) → k ≡ count capacity (has x) → k ≡ component_count (separated_of g)
  unfolding component_count separated_of graph_of
  counted x k e q =
      q
      ∙ count_wide g.input.states capacity (has x) (accepted_fits g A).input.most
      (λ s b. ap (λ (y : ℕ). has y s) e ∙ has_pack_past g.input.states (leads (separated_of g)) s b)
      ∙ count_same g.input.states (has x) (leads (separated_of g))
      (λ s b. ap (λ (y : ℕ). has y s) e ∙ has_pack_below g.input.states (leads (separated_of g)) s b)

-- ---- the ranks of the inputs passed, written or read

-- inputs below j have been passed; left is what is left of the inputs, rank the rank that comes next
pub record Walked (g : Game) (places j left rank : ℕ) : Type 0 where
  pub accepted : acceptance g ≡ accepted
  pub crossed : Crossed (sets_in g.input.moves) g.input.states places
  remains : Left (separated_of g) j left
  pub counted : rank ≡ count j (leads (separated_of g))

pub walked_start : (g : Game) (places left : ℕ) → acceptance g ≡ accepted → Crossed (sets_in g.input.moves) g.input.states places
    → ((t : ℕ) → has left t ≡ ltb t g.input.states) → Walked g places 0 left 0
unfolding count
walked_start g places left A X d = record { accepted = A; crossed = X; remains = left_all g A left d; counted = refl }

module _ {g : Game} {places j left rank : ℕ} (W : Walked g places j left rank) (b : j < g.input.states) where
  pub walked_small : j < capacity
  walked_small = input_small g W.accepted j b

  pub walked_rank : rank < capacity
  walked_rank = omega (arith, W.counted, count_le j (leads (separated_of g)), walked_small)

  -- j is not left
  module _ {r : Bool} (e : r ≡ has left j) (f : r ≡ false) where
    leads_not : leads (separated_of g) j ≡ false
    leads_not = sym (leads_now g W.accepted j left W.remains b) ∙ sym e ∙ f

    pub walked_skip : Walked g places (j + 1) left rank
    walked_skip = record {
      accepted = W.accepted;
      crossed = W.crossed;
      remains = left_skip (separated_of g) j left W.remains leads_not;
      counted = count_skip (separated_of g) j rank W.counted leads_not;
    }

    pub written_skip : {l m : List ℕ} → Ranking (separated_of g) j l m → Ranking (separated_of g) (j + 1) l m
    written_skip {l} {m} = ranking_skip (separated_of g) j l m leads_not

    pub read_skip : (l : List ℕ) → Reading (separated_of g) j l → Reading (separated_of g) (j + 1) l
    read_skip l = reading_skip (separated_of g) j l leads_not

  -- j is left
  module _ {r : Bool} (e : r ≡ has left j) (f : r ≡ true) where
    leads_left : leads (separated_of g) j ≡ true
    leads_left = sym (leads_now g W.accepted j left W.remains b) ∙ sym e ∙ f

    -- what the search for its component asks
    pub around_ready : Narrow (sets_in g.input.moves) × (g.input.states ≤ capacity) × ((t : ℕ) → has left t ≡ true → t < g.input.states)
        × (has left j ≡ true) × Crossed (sets_in g.input.moves) g.input.states places
    around_ready = (
      moves_narrow g W.accepted,
      (accepted_fits g W.accepted).input.most,
      left_inputs g W.accepted j left W.remains,
      sym e ∙ f,
      W.crossed,
    )

    -- its component c
    module _ {c : ℕ} (C : Component (sets_in g.input.moves) left j c) where
      found : c ≡ pack g.input.states (joined (graph_of g.input) j)
      found = around_joined g W.accepted j left c b W.remains leads_left C

      pub members_fit : (k : ℕ) → g.input.states + g.input.states ≤ k → (t : ℕ) → has c t ≡ true → (t < capacity) × (g.input.states + t < k)
      unfolding separated_of graph_of
      members_fit k h t i =
          let l = members_below (separated_of g) j c found t i in
          (input_small g W.accepted t l, omega arith)

      pub walked_next : (v : Set) → ((t : ℕ) → has (bits_of v) t ≡ (has left t && not (has c t))) → Walked g places (j + 1) (bits_of v) (rank + 1)
      unfolding separated_of graph_of
      walked_next v d = record {
        accepted = W.accepted;
        crossed = W.crossed;
        remains = left_next (separated_of g) j left c (bits_of v) W.remains leads_left found d;
        counted = count_next (separated_of g) j rank W.counted leads_left;
      }

      pub written_next : {l m n : List ℕ} → Ranking (separated_of g) j l m → Put g.input.states c rank m n → Ranking (separated_of g) (j + 1) l n
      unfolding separated_of graph_of
      written_next {l} {m} {n} R P = ranking_next (separated_of g) j c found rank l m n leads_left W.counted R P

      pub read_next : {x : Bool} (l : List ℕ) → Reading (separated_of g) j l → x ≡ ranked g.input.states c rank l → not x ≡ false
          → Reading (separated_of g) (j + 1) l
      unfolding separated_of graph_of
      read_next {x} l R q h =
          reading_next (separated_of g) j c rank l found leads_left W.counted R
          (ranked_elim g.input.states c rank l (λ t i. input_small g W.accepted t (members_below (separated_of g) j c found t i))
          (sym q ∙ not_false x h))

      pub read_fails : {x : Bool} (l : List ℕ) → x ≡ ranked g.input.states c rank l → not x ≡ true → false ≡ ranks_fit (separated_of g) l
      unfolding separated_of graph_of
      read_fails {x} l q h =
          let w = ranked_fails g.input.states c rank l (sym q ∙ not_true x h) in
          sym (reading_fails (separated_of g) j c rank l found leads_left W.counted w.0 w.1 w.2)

pub read_end : (g : Game) (j : ℕ) (l : List ℕ) → g.input.states ≤ j → Reading (separated_of g) j l → true ≡ ranks_fit (separated_of g) l
unfolding separated_of graph_of
read_end g j l b R = sym (reading_end (separated_of g) j l b R)

pub written_end : {g : Game} {j : ℕ} {l m : List ℕ} → g.input.states ≤ j → Ranking (separated_of g) j l m → RanksWritten g l m
unfolding separated_of graph_of
written_end {g} {j} b R = record {
  long = R.long;
  rank = λ t a. R.rank t a (omega (arith, number_below (graph_of g.input) t a));
  front = R.front;
  rest = R.rest;
}
