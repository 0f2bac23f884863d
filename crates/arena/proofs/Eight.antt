-- Pins, on a game whose cycles make a figure of eight: from input 0 the environment goes to 1 or to 2, and from either back to 0. There is one output.
-- The one requirement is broken by the cycles that visit both 1 and 2: the two loops joined, and neither alone.
--
--   eight       == the game
--   only        == the one controller
--   both        == the two loops joined
--   Simple r    == the cycle comes to no configuration twice
use Prim.Native.Nat.{ℕ}
use mathlib.Core.Path.{◌≡◌, refl, sym, ◌∙◌, ap}
use mathlib.Core.Bool.{Bool, true, false, ◌&&◌, ◌||◌}
use mathlib.Core.List.Memᴰ
use mathlib.Core.List.Pairwise
use mathlib.Core.List.{[], ◌∷◌, Nodup, rel_of_Pairwise-cons}
use mathlib.Core.Logic.{◌⊎◌, inl, inr}
use native.Mathlib.Omega.{arith}
use lib.Dec.{eqb, ltb}
use borrow.Author.Tests.{eqb-true}
use Rattle.finite.specs.Lists.{all_of, any_of}
use Rattle.finite.proofs.Truth.{clash, and_left, and_right, or_cases}
use Rattle.graphs.specs.Graph.{Graph, edge, begins}
use Rattle.graphs.specs.Walk.{Walk, stay, step, passed}
use Rattle.graphs.proofs.Walk.{keep, passed_first, passed_last}
use Rattle.arena.specs.Arena.{Requirement, Arena, arena_of}
use Rattle.arena.specs.Table.{gives, ControllerTable}
use Rattle.arena.specs.Play.{Configuration, ControllerFirst, ControllerTurn, Cycle, configurations, visits_input, visits_output, meets, breaks}
use Rattle.arena.specs.Win.{ControllerWins}
use Rattle.arena.proofs.Reach.{reached_first}
use Rattle.arena.proofs.Meets.{breaks_elim}

unfoldable pub loops : Graph
loops = record {
  states = 3;
  initial = λ s. eqb s 0;
  moves = λ s t. (eqb s 0 && (eqb t 1 || eqb t 2)) || ((eqb s 1 || eqb s 2) && eqb t 0);
}

unfoldable pub still : Graph
still = record { states = 1; initial = λ s. true; moves = λ s t. true }

-- if 1 and 2 recur, so does what never does
unfoldable pub never : Requirement
never = record { assumptions = eqb 1 ∷ eqb 2 ∷ []; guarantees = (λ s. false) ∷ [] }

unfoldable pub eight : Arena
unfolding arena_of
eight = arena_of (record { input = loops; output = still; requirements = never ∷ [] })

unfoldable pub only : ControllerTable
only = record { memories = 1; start = λ i. gives 0 0; step = λ m o j. gives 0 0 }

abbrev pub on : ℕ → Configuration
on i = record { input = i; output = 0; memory = 0 }

-- a turn for each move
pub turn : (i j : ℕ) → edge loops i j ≡ true → ControllerTurn eight only (on i) (on j)
unfolding eight only still arena_of edge
turn i j h = record { move = h; step = record { is = refl; memory = omega arith; state = refl } }

pub first : ControllerFirst eight only (on 0)
unfolding eight only loops still arena_of begins
first = record { initial = refl; start = record { is = refl; memory = omega arith; state = refl } }

-- 0, 1, 0, 2, 0: "A round is a walk of one move or more back to its first configuration, and need not be simple."
unfoldable pub both : Cycle (ControllerFirst eight only) (ControllerTurn eight only)
unfolding loops edge
both = record {
  at = on 0;
  next = on 1;
  last = on 0;
  turn = turn 0 1 refl;
  rest = step (turn 1 0 refl) (step (turn 0 2 refl) (step (turn 2 0 refl) stay));
  back = refl;
  reachable = reached_first _ _ first;
}

pub both_breaks : breaks never (configurations _ _ both) ≡ true
unfolding breaks meets visits_input visits_output configurations passed both never any_of all_of
both_breaks = refl

-- so the one controller does not win
pub only_loses : ControllerWins eight only → ⊥
unfolding eight arena_of all_of
only_loses w =
    clash (and_left (meets never (configurations _ _ both)) true (w.rounds both)) (breaks_elim never (configurations _ _ both) both_breaks)

-- No simple cycle breaks the requirement. Of two configurations in turn one is at 0 and the other at 1 or 2, a leaf.
Leaf : Configuration → Type 0
Leaf c = (c.input ≡ 1) ⊎ (c.input ≡ 2)

leaf : (j : ℕ) → (eqb j 1 || eqb j 2) ≡ true → (j ≡ 1) ⊎ (j ≡ 2)
leaf j h = elim (or_cases (eqb j 1) (eqb j 2) h) [ inl e ↦ inl (eqb-true j 1 e) | inr e ↦ inr (eqb-true j 2 e) ]

hub_or_leaf : (c d : Configuration) → ControllerTurn eight only c d → ((c.input ≡ 0) × Leaf d) ⊎ (Leaf c × (d.input ≡ 0))
unfolding eight loops arena_of edge Leaf
hub_or_leaf c d t = go c.input d.input t.move
  where
    out : ℕ → ℕ → Bool
    out i j = eqb i 0 && (eqb j 1 || eqb j 2)

    home : ℕ → ℕ → Bool
    home i j = (eqb i 1 || eqb i 2) && eqb j 0

    go : (i j : ℕ) → edge loops i j ≡ true → ((i ≡ 0) × ((j ≡ 1) ⊎ (j ≡ 2))) ⊎ (((i ≡ 1) ⊎ (i ≡ 2)) × (j ≡ 0))
    go i j h =
        elim (or_cases (out i j) (home i j) (and_right (ltb j 3) (out i j || home i j) (and_right (ltb i 3) (ltb j 3 && (out i j || home i j)) h))) [
          | inl e ↦ inl (eqb-true i 0 (and_left (eqb i 0) (eqb j 1 || eqb j 2) e), leaf j (and_right (eqb i 0) (eqb j 1 || eqb j 2) e))
          | inr e ↦ inr (leaf i (and_left (eqb i 1 || eqb i 2) (eqb j 0) e), eqb-true j 0 (and_right (eqb i 1 || eqb i 2) (eqb j 0) e))
        ]

named : (c d : Configuration) (i : ℕ) → ControllerTurn eight only c d → d.input ≡ i → d ≡ on i
unfolding only
named c d i t e =
    let o : 0 ≡ d.output = cc t.step.is in
    let m : 0 ≡ d.memory = cc t.step.is in
    λ k. record { input = e k; output = sym o k; memory = sym m k }

last_named : {d x c : Configuration} → Walk (ControllerTurn eight only) x c → ControllerTurn eight only d x → c ≡ on c.input
last_named {d} {x} w v = keep (λ c. c ≡ on c.input) (λ c y p t. named c y y.input t refl) w (named d x x.input v refl)

hub_after : (c d : Configuration) → ControllerTurn eight only c d → Leaf c → d.input ≡ 0
unfolding Leaf
hub_after c d t l =
    elim (hub_or_leaf c d t) [
      | inl h ↦ elim l [ inl p ↦ absurd (omega (arith, h.0)) | inr p ↦ absurd (omega (arith, h.0)) ]
      | inr h ↦ h.1
    ]

leaf_after : (c d : Configuration) → ControllerTurn eight only c d → c.input ≡ 0 → Leaf d
unfolding Leaf
leaf_after c d t z =
    elim (hub_or_leaf c d t) [
      | inl h ↦ h.1
      | inr h ↦ elim h.0 [ inl p ↦ absurd (omega arith) | inr p ↦ absurd (omega arith) ]
    ]

one_turn : (a b : Configuration) → ControllerTurn eight only a b → b ≡ a → ⊥
unfolding Leaf
one_turn a b t e =
    let same : b.input ≡ a.input = ap (λ (x : Configuration). x.input) e in
    elim (hub_or_leaf a b t) [
      | inl h ↦ elim h.1 [ inl p ↦ omega (arith, h.0) | inr p ↦ omega (arith, h.0) ]
      | inr h ↦ elim h.0 [ inl p ↦ omega (arith, h.1) | inr p ↦ omega (arith, h.1) ]
    ]

-- a loop of two turns
loop : (a b c : Configuration) → ControllerTurn eight only a b → a ≡ on a.input → c ≡ on a.input → meets never (a ∷ b ∷ c ∷ []) ≡ true
unfolding Leaf meets any_of never visits_input
loop a b c t p r =
    elim (hub_or_leaf a b t) [
      | inl h ↦ elim h.1 [ inl q ↦ via 0 1 h.0 q refl | inr q ↦ via 0 2 h.0 q refl ]
      | inr h ↦ elim h.0 [ inl q ↦ via 1 0 q h.1 refl | inr q ↦ via 2 0 q h.1 refl ]
    ]
  where
    via : (i j : ℕ) → a.input ≡ i → b.input ≡ j → meets never (on i ∷ on j ∷ on i ∷ []) ≡ true → meets never (a ∷ b ∷ c ∷ []) ≡ true
    via i j x y h = rw (p ∙ ap on x, named a b j t y, r ∙ ap on x) h

-- after three turns or more 0 has come twice
twice : (a b d x c : Configuration) (w : Walk (ControllerTurn eight only) x c) → ControllerTurn eight only a b → ControllerTurn eight only b d
    → ControllerTurn eight only d x → c ≡ a → Nodup (b ∷ d ∷ passed w) → ⊥
unfolding Leaf
twice a b d x c w t u v e n =
    elim (hub_or_leaf a b t) [
      | inl h ↦ rel_of_Pairwise-cons (Pairwise.of_cons n) ∣ passed_last w ∣₁
          (named b d 0 u (hub_after b d u h.1) ∙ sym (last_named w v ∙ ap (λ (y : Configuration). on y.input) e ∙ ap on h.0))
      | inr h ↦ rel_of_Pairwise-cons n ∣ Memᴰ.tail (passed_first w) ∣₁
          (named a b 0 t h.1 ∙ sym (named d x 0 v (hub_after d x v (leaf_after b d u h.1))))
    ]

-- by how many turns the cycle has: one does not come back, two are a loop, and three or more come to 0 twice
closed_meets : {a b c : Configuration} → ControllerTurn eight only a b → (w : Walk (ControllerTurn eight only) b c) → c ≡ a → Nodup (passed w)
    → meets never (a ∷ passed w) ≡ true
unfolding passed Leaf
closed_meets {a} t (stay {a = b}) e n = absurd (one_turn a b t e)
closed_meets {a} t (step {a = b} u (stay {a = c})) e n =
    let r : c.input ≡ a.input = ap (λ (x : Configuration). x.input) e in
    let p : c ≡ on a.input = named b c a.input u r in
    loop a b c t (sym e ∙ p) p
closed_meets {a} t (step {a = b} {b = d} u (step {b = x} {c = c} v w)) e n = absurd (twice a b d x c w t u v e n)

unfoldable pub Simple : Cycle (ControllerFirst eight only) (ControllerTurn eight only) → Type 0
Simple r = Nodup (passed r.rest)

pub simple_meets : (r : Cycle (ControllerFirst eight only) (ControllerTurn eight only)) → Simple r → meets never (configurations _ _ r) ≡ true
unfolding Simple configurations
simple_meets r n = closed_meets r.turn r.rest r.back n

pub both_not_simple : Simple both → ⊥
both_not_simple n = clash (simple_meets both n) (breaks_elim never (configurations _ _ both) both_breaks)

-- the two loops alone
unfoldable pub alone : (j : ℕ) → edge loops 0 j ≡ true → edge loops j 0 ≡ true → Cycle (ControllerFirst eight only) (ControllerTurn eight only)
alone j h k = record {
  at = on 0;
  next = on j;
  last = on 0;
  turn = turn 0 j h;
  rest = step (turn j 0 k) stay;
  back = refl;
  reachable = reached_first _ _ first;
}

pub one_alone_meets : (h : edge loops 0 1 ≡ true) (k : edge loops 1 0 ≡ true) → meets never (configurations _ _ (alone 1 h k)) ≡ true
unfolding meets visits_input visits_output configurations passed alone never any_of all_of
one_alone_meets h k = refl

pub two_alone_meets : (h : edge loops 0 2 ≡ true) (k : edge loops 2 0 ≡ true) → meets never (configurations _ _ (alone 2 h k)) ≡ true
unfolding meets visits_input visits_output configurations passed alone never any_of all_of
two_alone_meets h k = refl
