-- Pins of Won, Opening and SystemWins, on a game in which nothing moves: two inputs and two outputs, each of which moves only to itself. If input 1
-- recurs, so must output 1: a position is won unless its input is 1 and its output 0.
--
--   rest a b             == the game, with the initial inputs a and the initial outputs b
--   stays                == the controller that stays where it is
--   position_won         : the other three positions are won, by it
--   position_lost        : no controller of any finite memory keeps the position of input 1 and output 0
use Prim.Native.Nat.{ℕ, zero, suc, ◌+◌, ◌-◌, ◌<◌}
use native.Mathlib.Omega.{arith}
use mathlib.Core.Path.{◌≡◌, refl, sym, ◌∙◌, ap}
use mathlib.Core.Bool.{Bool, true, false, ◌&&◌}
use mathlib.Core.List.{[], ◌∷◌, Memᴰ}
use mathlib.Core.Logic.{◌⊎◌, inl, inr}
use lib.Dec.{eqb, ltb}
use borrow.Author.Tests.{eqb-true, eq-eqb, ltb-true, lt-ltb}
use Rattle.finite.specs.Lists.{all_of}
use Rattle.finite.proofs.Truth.{clash, and_intro, and_left, and_right}
use Rattle.finite.proofs.Pigeonhole.{pigeonhole}
use Rattle.graphs.specs.Graph.{Graph, edge, begins}
use Rattle.graphs.specs.Walk.{Walk, stay}
use Rattle.graphs.proofs.Walk.{keep, extend}
use Rattle.arena.specs.Arena.{Arena, arena_of}
use Rattle.arena.specs.Table.{gives, Some, ControllerTable}
use Rattle.arena.specs.Play.{Configuration, ControllerTurn, Reachable, Cycle, configurations, visits_input, visits_output, meets}
use Rattle.arena.specs.Win.{Controller, Keeps, Won}
use Rattle.arena.proofs.Answers.{names_both}
use Rattle.arena.proofs.Reach.{reached_first, reached_turn, cycle_reachable}
use Rattle.arena.proofs.Meets.{visits_input_intro, visits_input_elim, visits_output_intro, visits_output_elim, meets_intro, meets_elim}
use Rattle.arena.proofs.Fork.{follow, at}

unfoldable pub pair : (ℕ → Bool) → Graph
pair a = record { states = 2; initial = a; moves = eqb }

unfoldable pub rest : (ℕ → Bool) → (ℕ → Bool) → Arena
unfolding arena_of
rest a b = arena_of (record { input = pair a; output = pair b; requirements = follow 1 ∷ [] })

unfoldable pub stays : ControllerTable
stays = record { memories = 1; start = λ i. gives 0 0; step = λ m o j. gives 0 o }

-- the moves
self : (a : ℕ → Bool) (s : ℕ) → s < 2 → edge (pair a) s s ≡ true
unfolding pair edge
self a s h = and_intro (lt-ltb s 2 h) (and_intro (lt-ltb s 2 h) (eq-eqb s s refl))

below : (a : ℕ → Bool) (s t : ℕ) → edge (pair a) s t ≡ true → s < 2
unfolding pair edge
below a s t h = ltb-true s 2 (and_left (ltb s 2) (ltb t 2 && eqb s t) h)

same : (a : ℕ → Bool) (s t : ℕ) → edge (pair a) s t ≡ true → s ≡ t
unfolding pair edge
same a s t h = eqb-true s t (and_right (ltb t 2) (eqb s t) (and_right (ltb s 2) (ltb t 2 && eqb s t) h))

-- What a table comes to has the input and the output that it began with.
module _ (a b : ℕ → Bool) (T : ControllerTable) (c : Configuration) where
  Same : Configuration → Type 0
  Same d = (d.input ≡ c.input) × (d.output ≡ c.output)

  turn_same : (d e : Configuration) → Same d → ControllerTurn (rest a b) T d e → Same e
  unfolding Same rest arena_of
  turn_same d e s t =
      (sym (same a d.input e.input t.move) ∙ s.0, sym (same b d.output e.output t.step.state) ∙ s.1)

  reached_same : (d : Configuration) → Reachable (◌≡◌ c) (ControllerTurn (rest a b) T) d → Same d
  unfolding Same
  reached_same d r =
      keep Same turn_same r.walk
      (ap (λ (e : Configuration). e.input) (sym r.first), ap (λ (e : Configuration). e.output) (sym r.first))

  cycle_same : (r : Cycle (◌≡◌ c) (ControllerTurn (rest a b) T)) (d : Configuration) → Memᴰ d (configurations _ _ r) → Same d
  cycle_same r d m = reached_same d (cycle_reachable (◌≡◌ c) (ControllerTurn (rest a b) T) r d m)

-- ---- positions that are won

pub stays_controller : (a b : ℕ → Bool) → b 0 ≡ true → Controller (rest a b) stays
unfolding rest stays pair arena_of begins
stays_controller a b h = record {
  starts = λ i o x y. names_both 0 0 (omega arith) h;
  steps = λ m o j p x y. names_both 0 o (omega arith) (self b o (below b o p y));
}

module _ (a b : ℕ → Bool) (i o : ℕ) (l : o < 2) (h : (eqb 1 i ≡ false) ⊎ (eqb 1 o ≡ true)) where
  cycle_meets : (r : Cycle (◌≡◌ (at i o)) (ControllerTurn (rest a b) stays)) → meets (follow 1) (configurations _ _ r) ≡ true
  unfolding Same configurations all_of
  cycle_meets r = meets_intro (follow 1) (configurations _ _ r) (λ e.
      elim h [
        | inl n ↦
            let v = visits_input_elim (eqb 1) (configurations _ _ r) (and_left (visits_input (eqb 1) (configurations _ _ r)) true e) in
            clash v.2 (rw (cycle_same a b stays (at i o) r v.0 v.1).0 n)
        | inr y ↦
            and_intro
            (visits_output_intro (eqb 1) {cs = configurations _ _ r} {c = r.at} (Memᴰ.head refl)
            (rw (reached_same a b stays (at i o) r.at r.reachable).1 y)) refl
      ])

  pub position_keeps : Keeps (rest a b) stays (at i o)
  unfolding rest stays arena_of all_of Same
  position_keeps = record {
    memory = omega arith;
    steps = λ d r j e. names_both 0 d.output (omega arith)
        (self b d.output (omega (arith, (reached_same a b stays (at i o) d r).1)));
    rounds = λ r. and_intro (cycle_meets r) refl;
  }

  pub position_won : b 0 ≡ true → Won (rest a b) i o
  position_won k = record { table = stays; controller = stays_controller a b k; memory = 0; keeps = position_keeps }

-- ---- the position that is not

module _ (a b : ℕ → Bool) (w : Won (rest a b) 1 0) where
  abbrev T : ControllerTable
  T = w.table

  abbrev on : ℕ → Configuration
  on m = record { input = 1; output = 0; memory = m }

  abbrev Turn : Configuration → Configuration → Type 0
  Turn = ControllerTurn (rest a b) T

  -- the memory after n turns, each of which stays at the position
  record Held : Type 0 where
    memory : ℕ
    range : memory < T.memories
    reached : Reachable (◌≡◌ (on w.memory)) Turn (on memory)

  reply : (x : Held) → Some T.memories ((rest a b).reply 1 0) (T.step x.memory 0 1)
  unfolding rest arena_of
  reply x = w.keeps.steps (on x.memory) x.reached 1 (self a 1 (omega arith))

  turned : (x : Held) → Turn (on x.memory) (on (reply x).memory)
  unfolding rest arena_of
  turned x =
      let s = reply x in
      let z : s.state ≡ 0 = sym (same b 0 s.state s.names.state) in
      record { move = self a 1 (omega arith); step = rw z at s.names }

  next : Held → Held
  next x = record { memory = (reply x).memory; range = (reply x).names.memory; reached = reached_turn _ _ x.reached (turned x) }

  run : ℕ → Held
  run zero = record { memory = w.memory; range = w.keeps.memory; reached = reached_first _ _ refl }
  run (suc n) = next (run n)

  turn_at : (n : ℕ) → Turn (on (run n).memory) (on (run (suc n)).memory)
  unfolding run next
  turn_at n = turned (run n)

  along : (n d k : ℕ) → k ≡ d + n → Walk Turn (on (run n).memory) (on (run k).memory)
  along n zero k e = let z : k ≡ n = omega arith in rw z stay
  along n (suc d) zero e = absurd (omega arith)
  along n (suc d) (suc k) e = extend (along n d k (omega arith)) (turn_at k)

  -- a round there visits input 1 and no output but 0
  no_cycle : Cycle (◌≡◌ (on w.memory)) Turn → ⊥
  unfolding rest arena_of all_of configurations Same
  no_cycle r =
      let one = visits_input_intro (eqb 1) {cs = configurations _ _ r} {c = r.at} (Memᴰ.head refl)
      (rw (reached_same a b T (on w.memory) r.at r.reachable).0 refl) in
      let v = meets_elim (follow 1) (configurations _ _ r) (and_left (meets (follow 1) (configurations _ _ r)) true (w.keeps.rounds r))
      (and_intro one refl) in
      let u = visits_output_elim (eqb 1) (configurations _ _ r) (and_left (visits_output (eqb 1) (configurations _ _ r)) true v) in
      clash u.2 (rw (cycle_same a b T (on w.memory) r u.0 u.1).1 refl)

  -- and there is one: of as many memory values as there are, and one more, two are the same
  pub position_lost : ⊥
  position_lost =
      let p = pigeonhole T.memories (λ n. (run n).memory) (λ n l. (run n).range) in
      no_cycle (record {
        at = on (run p.first).memory;
        next = on (run (suc p.first)).memory;
        last = on (run p.second).memory;
        turn = turn_at p.first;
        rest = along (suc p.first) (p.second - suc p.first) p.second (omega (arith, p.before));
        back = ap on (sym p.same);
        reachable = (run p.first).reached;
      })
