-- Tables that agree on every row in range: they make the same turns, so what the one wins the other wins.
--
--   same_sym          : U and T agree where T and U do
--   first_over, turn_over, walk_over, cycle_over : what U does, T does
--   same_wins         : where T wins, U wins
use Prim.Native.Nat.{ℕ, ◌<◌}
use mathlib.Core.Path.{◌≡◌, refl, sym, ◌∙◌, ap, subst}
use mathlib.Core.Bool.{Bool, true}
use mathlib.Core.List.{List, ◌∷◌}
use Rattle.finite.specs.Lists.{all_of}
use Rattle.graphs.specs.Walk.{Walk, stay, step, passed}
use Rattle.arena.specs.Arena.{Arena}
use Rattle.arena.specs.Bounds.{Bounded}
use Rattle.arena.specs.Table.{Answer, Names, Some, ControllerTable}
use Rattle.arena.specs.Play.{Configuration, ControllerFirst, ControllerTurn, Reachable, Cycle, configurations, meets}
use Rattle.arena.specs.Win.{ControllerWins}
use Rattle.arena.proofs.Bounds.{inside_controller}
use Rattle.arena.proofs.Reach.{reached_first, reached_turn}
use Rattle.compact.specs.Claims.{Same}

pub same_sym : {A : Arena} {T U : ControllerTable} → Same A T U → Same A U T
same_sym E = record {
  memories = sym E.memories;
  starts = λ i b. sym (E.starts i b);
  steps = λ m o j lm lo lj. sym (E.steps m o j (subst (λ (k : ℕ). m < k) E.memories lm) lo lj);
}

names_over : {M N : ℕ} {ok : ℕ → Bool} {a b : Answer} {m s : ℕ} → M ≡ N → a ≡ b → Names N ok b m s → Names M ok a m s
names_over {m} e f n = record { is = f ∙ n.is; memory = subst (λ (k : ℕ). m < k) (sym e) n.memory; state = n.state }

some_over : {M N : ℕ} {ok : ℕ → Bool} {a b : Answer} → M ≡ N → a ≡ b → Some M ok a → Some N ok b
some_over e f x = record { memory = x.memory; state = x.state; names = names_over (sym e) (sym f) x.names }

module _ {A : Arena} (B : Bounded A) (T U : ControllerTable) (E : Same A T U) where
  abbrev Here : Configuration → Type 0
  Here = Reachable (ControllerFirst A U) (ControllerTurn A U)

  first_over : (c : Configuration) → ControllerFirst A U c → ControllerFirst A T c
  first_over c f = record {
    initial = f.initial;
    start = names_over E.memories (E.starts c.input (B.initial c.input f.initial)) f.start;
  }

  turn_over : (c d : Configuration) → Here c → ControllerTurn A U c d → ControllerTurn A T c d
  turn_over c d r t =
      let i = inside_controller B U c r in
      record {
        move = t.move;
        step = names_over E.memories (E.steps c.memory c.output d.input i.memory i.output (B.move c.input d.input t.move))
            t.step;
      }

  walk_over : {c d : Configuration} → Here c → Walk (ControllerTurn A U) c d → Walk (ControllerTurn A T) c d
  walk_over i stay = stay
  walk_over i (step {a = a} {b = b} t w) = step (turn_over a b i t) (walk_over (reached_turn (ControllerFirst A U) (ControllerTurn A U) i t) w)

  passed_over : {c d : Configuration} (i : Here c) (w : Walk (ControllerTurn A U) c d) → passed (walk_over i w) ≡ passed w
  unfolding passed walk_over
  passed_over i stay = refl
  passed_over i (step {a = a} {b = b} t w) = ap (◌∷◌ a) (passed_over (reached_turn (ControllerFirst A U) (ControllerTurn A U) i t) w)

  reached_over : (c : Configuration) → Here c → Reachable (ControllerFirst A T) (ControllerTurn A T) c
  reached_over c r = record {
    origin = r.origin;
    first = first_over r.origin r.first;
    walk = walk_over (reached_first (ControllerFirst A U) (ControllerTurn A U) r.first) r.walk;
  }

  cycle_over : Cycle (ControllerFirst A U) (ControllerTurn A U) → Cycle (ControllerFirst A T) (ControllerTurn A T)
  cycle_over r = record {
    at = r.at;
    next = r.next;
    last = r.last;
    turn = turn_over r.at r.next r.reachable r.turn;
    rest = walk_over (reached_turn (ControllerFirst A U) (ControllerTurn A U) r.reachable r.turn) r.rest;
    back = r.back;
    reachable = reached_over r.at r.reachable;
  }

  configurations_over : (r : Cycle (ControllerFirst A U) (ControllerTurn A U))
      → configurations (ControllerFirst A T) (ControllerTurn A T) (cycle_over r) ≡ configurations (ControllerFirst A U) (ControllerTurn A U) r
  unfolding configurations cycle_over
  configurations_over r = ap (◌∷◌ r.at) (passed_over (reached_turn (ControllerFirst A U) (ControllerTurn A U) r.reachable r.turn) r.rest)

  same_step : (c : Configuration) → Here c → (j : ℕ) → A.in_move c.input j ≡ true
      → T.step c.memory c.output j ≡ U.step c.memory c.output j
  same_step c r j e =
      let i = inside_controller B U c r in
      E.steps c.memory c.output j i.memory i.output (B.move c.input j e)

  pub same_wins : ControllerWins A T → ControllerWins A U
  same_wins w = record {
    starts = λ i e. some_over E.memories (E.starts i (B.initial i e)) (w.starts i e);
    steps = λ c r j e. some_over E.memories (same_step c r j e) (w.steps c (reached_over c r) j e);
    rounds = λ r.
        subst (λ (cs : List Configuration). all_of (λ q. meets q cs) A.requirements ≡ true) (configurations_over r) (w.rounds (cycle_over r));
  }
