-- What an answer of the player says: where it gives a position, every test was passed.
--
--   Arrived M ok i a p    == p is the position that the answer a gives after input i
--   Began g l i p         == p is what the table's start gives for input i, and every test of begin holds
--   Turned g l p j q      == q is what the table's row gives from p with input j, and every test of step holds
use Prim.Native.Nat.{ℕ}
use mathlib.Core.Path.{◌≡◌, refl, sym, ◌∙◌, ap, subst}
use mathlib.Core.Bool.{Bool, true, false, ◌&&◌}
use mathlib.Core.List.{List}
use native.Mathlib.Omega.{arith}
use lib.Dec.{ltb}
use borrow.Author.Tests.{ltb-true, lt-ltb}
use Rattle.finite.proofs.Truth.{and_intro, and_left, and_right}
use Rattle.graphs.specs.Graph.{edge, begins}
use Rattle.arena.specs.Table.{Answer, none, gives, Names, Some}
use Rattle.game.specs.declared.InState.{InState}
use Rattle.game.specs.declared.Game.{Game}
use Rattle.game.specs.Acceptance.{accepted, Acceptance}
use Rattle.game.specs.Acceptance.{acceptance}
use Rattle.play.specs.Play.{graph_of, separated_of}
use Rattle.theory.specs.Entries.{controller_counters}
use Rattle.demands.specs.Demands.{controller_of}
use Rattle.player_place.specs.declared.Position.{Position}
use Rattle.player_place.specs.Played.{Played}
use Rattle.player_place.specs.Place.{provided, arrives, has_position}
use Rattle.player.specs.Player.{fitting, begun, stepped, after_acceptance, beginning, stepping}
use Rattle.player_place.proofs.Tests.{held}
use Rattle.std.specs.declared.result.Result.TheVariants.{Ok, Err}
use Rattle.game.specs.declared.Refusal.{Refusal}
use Rattle.game.specs.declared.Refusal.TheVariants.{BadEntry, NotAllowed, OtherTable}

pub provided_from : (b : Bool) (n : Refusal) (a : Played) (p : Position) → provided b n a ≡ Ok p → (b ≡ true) × (a ≡ Ok p)
unfolding provided
provided_from true n a p e = (refl, e)
provided_from false n a p e = absurd (let z : ◌≡◌ {A = ℕ} 0 1 = cc in omega arith)

-- a position that is arrived at has the input, and the counter and the output that the answer names
pub record Arrived (M : ℕ) (ok : ℕ → Bool) (i : InState) (a : Answer) (p : Position) : Type 0 where
  pub input : p.input ≡ i
  pub names : Names M ok a p.counter p.output.0

module _ (M : ℕ) (ok : ℕ → Bool) (i : InState) where
  unfoldable there : ℕ → ℕ → Position
  there c s = record { input = i; output = record { 0 = s }; counter = c }

  arrived_there : (c s : ℕ) → (ltb c M && ok s) ≡ true → Arrived M ok i (gives c s) (there c s)
  unfolding there
  arrived_there c s h = record {
    input = refl;
    names = record { is = refl; memory = ltb-true c M (and_left (ltb c M) (ok s) h); state = and_right (ltb c M) (ok s) h };
  }

  pub arrived : (a : Answer) (p : Position) → arrives M ok i a ≡ Ok p → Arrived M ok i a p
  unfolding arrives there
  arrived none p e = absurd (let z : ◌≡◌ {A = ℕ} 0 1 = cc in omega arith)
  arrived (gives c s) p e =
      let v = provided_from (ltb c M && ok s) BadEntry (Ok (there c s)) p e in
      let q : there c s ≡ p = cc v.1 in
      subst (Arrived M ok i (gives c s)) q (arrived_there c s v.0)

  pub arrives_some : (a : Answer) → Some M ok a → (p : Position) × (arrives M ok i a ≡ Ok p)
  unfolding arrives there
  arrives_some a v = (
    there v.memory v.state,
    ap (arrives M ok i) v.names.is
        ∙ sym (held BadEntry (Ok (there v.memory v.state)) (and_intro (lt-ltb v.memory M v.names.memory) v.names.state)),
  )

pub accepted_from : (a : Acceptance) (x : Played) (p : Position) → after_acceptance a x ≡ Ok p → (a ≡ accepted) × (x ≡ Ok p)
unfolding after_acceptance
accepted_from (Ok u) x p e = (refl, e)
accepted_from (Err n) x p e = absurd (let z : ◌≡◌ {A = ℕ} 0 1 = cc in omega arith)

module _ (g : Game) (l : List ℕ) where
  pub record Began (i : InState) (p : Position) : Type 0 where
    pub accepted : acceptance g ≡ accepted
    pub fits : fitting g l ≡ true
    pub initial : begins (graph_of g.input) i.0 ≡ true
    pub arrived : Arrived (controller_counters (separated_of g)) (begins (graph_of g.output)) i ((controller_of g l).start i.0) p

  pub began : (i : InState) (p : Position) → beginning g l i ≡ Ok p → Began i p
  unfolding beginning begun
  began i p e =
      let a = accepted_from (acceptance g) (begun g l i) p e in
      let start = arrives (controller_counters (separated_of g)) (begins (graph_of g.output)) i ((controller_of g l).start i.0) in
      let f = provided_from (fitting g l) OtherTable (provided (begins (graph_of g.input) i.0) NotAllowed start) p a.1 in
      let b = provided_from (begins (graph_of g.input) i.0) NotAllowed start p f.1 in
      record {
        accepted = a.0;
        fits = f.0;
        initial = b.0;
        arrived = arrived (controller_counters (separated_of g)) (begins (graph_of g.output)) i ((controller_of g l).start i.0) p b.1;
      }

  pub record Turned (p : Position) (j : InState) (q : Position) : Type 0 where
    pub accepted : acceptance g ≡ accepted
    pub fits : fitting g l ≡ true
    pub position : has_position g (controller_counters (separated_of g)) p ≡ true
    pub move : edge (graph_of g.input) p.input.0 j.0 ≡ true
    pub arrived : Arrived (controller_counters (separated_of g)) (edge (graph_of g.output) p.output.0) j
        ((controller_of g l).step p.counter p.output.0 j.0) q

  pub turned : (p : Position) (j : InState) (q : Position) → stepping g l p j ≡ Ok q → Turned p j q
  unfolding stepping stepped
  turned p j q e =
      let M = controller_counters (separated_of g) in
      let a = accepted_from (acceptance g) (stepped g l p j) q e in
      let answer = arrives M (edge (graph_of g.output) p.output.0) j ((controller_of g l).step p.counter p.output.0 j.0) in
      let f = provided_from (fitting g l && has_position g M p) OtherTable (provided (edge (graph_of g.input) p.input.0 j.0) NotAllowed answer) q a.1 in
      let b = provided_from (edge (graph_of g.input) p.input.0 j.0) NotAllowed answer q f.1 in
      record {
        accepted = a.0;
        fits = and_left (fitting g l) (has_position g M p) f.0;
        position = and_right (fitting g l) (has_position g M p) f.0;
        move = b.0;
        arrived = arrived M (edge (graph_of g.output) p.output.0) j ((controller_of g l).step p.counter p.output.0 j.0) q b.1;
      }
