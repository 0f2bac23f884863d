-- Pins, on the game of two forks: no table whose step does not see the new input wins it, though one that sees it does (copy-wins). Such a table
-- replies 1 or 2 whichever way the environment goes; the environment goes the other way, and stays there.
--
--   remain         == the environment's table that stays where it is
--   Apart q p c    == c's input is q and its output p
--   blind_loses    : no such table wins
use Prim.Native.Nat.{ℕ, ◌<◌}
use mathlib.Core.Path.{◌≡◌, refl, sym, ◌∙◌}
use mathlib.Core.Bool.{Bool, true, false, not, ◌&&◌, ◌||◌}
use mathlib.Core.List.{[], ◌∷◌, Memᴰ}
use mathlib.Core.Logic.{◌⊎◌, inl, inr, ◌≢◌}
use native.Mathlib.Omega.{arith}
use native.Mathlib.Decide.{ℕ_discrete}
use lib.Dec.{eqb, ltb}
use borrow.Author.Tests.{eqb-true, eqb-false, eq-eqb, ltb-true}
use Rattle.finite.specs.Lists.{all_of}
use Rattle.finite.proofs.Truth.{false_of, and_intro, and_left, and_right, or_cases, not_true}
use Rattle.finite.proofs.Lists.{any_of_intro}
use Rattle.graphs.specs.Graph.{edge, begins}
use Rattle.graphs.proofs.Walk.{keep}
use Rattle.arena.specs.Arena.{arena_of}
use Rattle.arena.specs.Table.{gives, Some, ControllerTable, EnvironmentTable}
use Rattle.arena.specs.Play.{
  Configuration,
  ControllerFirst,
  ControllerTurn,
  EnvironmentTurn,
  Reachable,
  Cycle,
  configurations,
  visits_input,
  visits_output,
  meets,
  breaks,
}
use Rattle.arena.specs.Win.{ControllerWins}
use Rattle.arena.proofs.Bounds.{bounded_arena_of}
use Rattle.arena.proofs.Answers.{names_both}
use Rattle.arena.proofs.Meets.{visits_input_intro, visits_output_elim, meets_elim, breaks_intro}
use Rattle.arena.proofs.Reach.{reached_first, reached_turn, cycle_reachable}
use Rattle.arena.proofs.From.{keeps_reached}
use Rattle.arena.proofs.Fork.{split, follow, fork, at}
use Rattle.duel.specs.Beats.{Beats}
use Rattle.duel.proofs.Duel.{no_both_from}

unfoldable pub remain : EnvironmentTable
remain = record { memories = 1; start = gives 0 0; step = λ m i o. gives 0 i }

out : ℕ → ℕ → Bool
out s t = eqb s 0 && not (eqb t 0)

own : ℕ → ℕ → Bool
own s t = not (eqb s 0) && eqb s t

moves_cases : (s t : ℕ) → edge split s t ≡ true → (out s t ≡ true) ⊎ (own s t ≡ true)
unfolding split edge out own
moves_cases s t h = or_cases (out s t) (own s t) (and_right (ltb t 3) (out s t || own s t) (and_right (ltb s 3) (ltb t 3 && (out s t || own s t)) h))

-- a state other than 0 moves to itself alone
stays : (s t : ℕ) → s ≢ 0 → edge split s t ≡ true → s ≡ t
unfolding out own
stays s t n h =
    elim (moves_cases s t h) [
      | inl e ↦ absurd (n (eqb-true s 0 (and_left (eqb s 0) (not (eqb t 0)) e)))
      | inr e ↦ eqb-true s t (and_right (not (eqb s 0)) (eqb s t) e)
    ]

or_only : (b : Bool) → (b || false) ≡ true → b ≡ true
or_only true h = refl
or_only false h = h

-- 0 moves to 1 and to 2 alone
leaves : (t : ℕ) → edge split 0 t ≡ true → (t ≡ 1) ⊎ (t ≡ 2)
unfolding fork arena_of split edge
leaves t h =
    let b : t < 3 = ltb-true t 3 (and_left (ltb t 3) (not (eqb t 0) || false) h) in
    let n : t ≢ 0 = eqb-false t 0 (not_true (eqb t 0) (or_only (not (eqb t 0)) (and_right (ltb t 3) (not (eqb t 0) || false) h))) in
    elim (ℕ_discrete t 1) [ yes e ↦ inl e | no e ↦ inr (omega arith) ]

-- apart, at q and p, both remain where they are
record Apart (q p : ℕ) (c : Configuration) : Type 0 where
  input : c.input ≡ q
  output : c.output ≡ p

module _ (q p : ℕ) (qn : q ≢ 0) (pn : p ≢ 0) (qp : q ≢ p) (self : edge split q q ≡ true) (due : Memᴰ (follow q) (follow 1 ∷ follow 2 ∷ [])) where
  turn_apart : (c d : Configuration) → Apart q p c → EnvironmentTurn fork remain c d → Apart q p d
  unfolding fork arena_of
  turn_apart c d a t = record {
    input = sym (stays q d.input qn (rw a.input at t.step.state));
    output = sym (stays p d.output pn (rw a.output at t.reply));
  }

  reached_apart : (d : Configuration) → Reachable (◌≡◌ (at q p)) (EnvironmentTurn fork remain) d → Apart q p d
  reached_apart d r = keep (Apart q p) turn_apart r.walk (rw (← r.first) (record { input = refl; output = refl }))

  module _ (r : Cycle (◌≡◌ (at q p)) (EnvironmentTurn fork remain)) where
    visits_input_lem : visits_input (eqb q) (configurations _ _ r) ≡ true
    unfolding configurations
    visits_input_lem = visits_input_intro (eqb q) (Memᴰ.head refl) (eq-eqb q r.at.input (sym (reached_apart r.at r.reachable).input))

    misses_output : visits_output (eqb q) (configurations _ _ r) ≡ true → ⊥
    misses_output e =
        let w = visits_output_elim (eqb q) (configurations _ _ r) e in
        qp (eqb-true q w.0.output w.2 ∙ (reached_apart w.0 (cycle_reachable _ _ r w.0 w.1)).output)

    cycle_breaks : breaks (follow q) (configurations _ _ r) ≡ true
    unfolding all_of
    cycle_breaks = breaks_intro (follow q) (configurations _ _ r)
        (false_of (meets (follow q) (configurations _ _ r))
        (λ e. misses_output (and_left (visits_output (eqb q) (configurations _ _ r)) true
        (meets_elim (follow q) (configurations _ _ r) e (and_intro visits_input_lem refl)))))

  beats_apart : Beats fork remain (at q p)
  unfolding fork arena_of remain
  beats_apart = record {
    memory = omega arith;
    steps = λ d r. names_both 0 d.input (omega arith) (rw (reached_apart d r).input self);
    rounds = λ r. any_of_intro (λ x. breaks x (configurations _ _ r)) due (cycle_breaks r);
  }

  -- so a winning controller never comes there
  never_apart : (T : ControllerTable) (m : ℕ) → q < 3 → p < 3 → ControllerWins fork T → m < T.memories
      → Reachable (ControllerFirst fork T) (ControllerTurn fork T) (record { input = q; output = p; memory = m }) → ⊥
  unfolding fork arena_of split
  never_apart T m qb pb win mb r = no_both_from fork (bounded_arena_of _) T remain _ (at q p) qb pb refl refl (keeps_reached fork T win _ r mb) beats_apart

module _ (T : ControllerTable) (blind : (m o j k : ℕ) → T.step m o j ≡ T.step m o k) (win : ControllerWins fork T) where
  -- the first configuration, and the reply to the input 1
  begun : Some T.memories (fork.opening 0) (T.start 0)
  unfolding fork arena_of split begins
  begun = win.starts 0 refl

  origin : Configuration
  origin = record { input = 0; output = begun.state; memory = begun.memory }

  reached_origin : Reachable (ControllerFirst fork T) (ControllerTurn fork T) origin
  unfolding origin fork arena_of split begins
  reached_origin = reached_first _ _ (record { initial = refl; start = begun.names })

  said : Some T.memories (fork.reply 1 begun.state) (T.step begun.memory begun.state 1)
  unfolding origin fork arena_of split edge
  said = win.steps origin reached_origin 1 refl

  -- it is the reply to either input
  after : (q : ℕ) → fork.in_move 0 q ≡ true
      → Reachable (ControllerFirst fork T) (ControllerTurn fork T) (record { input = q; output = said.state; memory = said.memory })
  unfolding origin fork arena_of
  after q h = reached_turn _ _ reached_origin (record {
    move = h;
    step = record { is = blind begun.memory begun.state q 1 ∙ said.names.is; memory = said.names.memory; state = said.names.state };
  })

  said_leaf : (said.state ≡ 1) ⊎ (said.state ≡ 2)
  unfolding fork arena_of split begins
  said_leaf =
      let z : begun.state ≡ 0 = eqb-true begun.state 0 (and_right (ltb begun.state 3) (eqb begun.state 0) begun.names.state) in
      leaves said.state (rw z at said.names.state)

  -- the one of the two that is not the reply
  pub blind_loses : ⊥
  unfolding fork arena_of split edge
  blind_loses =
      elim said_leaf [
        | inl e ↦ never_apart 2 said.state (omega arith) (omega arith) (omega arith) refl (Memᴰ.tail (Memᴰ.head refl)) T said.memory
            (omega arith) (omega arith) win said.names.memory (after 2 refl)
        | inr e ↦ never_apart 1 said.state (omega arith) (omega arith) (omega arith) refl (Memᴰ.head refl) T said.memory
            (omega arith) (omega arith) win said.names.memory (after 1 refl)
      ]
