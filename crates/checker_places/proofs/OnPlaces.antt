-- Sets of places as sets of configurations, and turns between places.
--
--   on_places_intro, -inside, -place    : what such a set holds
--   turn_placed                        : a turn between places is one between their configurations
--   closed_places                      : what is closed on places is closed on configurations
use Prim.Native.Nat.{ℕ, ◌≤◌, ◌<◌}
use mathlib.Core.Path.{◌≡◌, sym, ◌∙◌, ap}
use mathlib.Core.Bool.{Bool, true, ◌&&◌}
use lib.Dec.{ltb}
use borrow.Author.Tests.{ltb-true, lt-ltb}
use Rattle.finite.proofs.Truth.{and_intro, and_left, and_right}
use Rattle.arena.specs.Arena.{Arena}
use Rattle.arena.specs.Table.{ControllerTable}
use Rattle.arena.specs.Play.{Configuration, ControllerTurn}
use Rattle.arena.specs.Bounds.{Bounded}
use Rattle.arena.proofs.Bounds.{Inside}
use Rattle.checker_places.specs.Place.{place_count, place, placed, turns}
use Rattle.checker_places.specs.Search.{Closed}
use Rattle.checker_places.specs.Suspect.{on_places}
use Rattle.checker_places.proofs.Place.{place_below, placed_inside, place_placed, turn_place, place_turn}

module _ (A : Arena) (M : ℕ) (K : ℕ → Bool) where
  pub on_places_intro : (c : Configuration) → Inside A M c → K (place A.inputs M c) ≡ true → on_places A M K c ≡ true
  unfolding on_places
  on_places_intro c C h =
      and_intro (lt-ltb c.input A.inputs C.input)
      (and_intro (lt-ltb c.output A.outputs C.output) (and_intro (lt-ltb c.memory M C.memory) h))

  module _ (c : Configuration) (h : on_places A M K c ≡ true) where
    past_input : (ltb c.output A.outputs && (ltb c.memory M && K (place A.inputs M c))) ≡ true
    unfolding on_places
    past_input = and_right (ltb c.input A.inputs) (ltb c.output A.outputs && (ltb c.memory M && K (place A.inputs M c))) h

    past_output : (ltb c.memory M && K (place A.inputs M c)) ≡ true
    past_output = and_right (ltb c.output A.outputs) (ltb c.memory M && K (place A.inputs M c)) past_input

    pub on_places_inside : Inside A M c
    unfolding on_places
    on_places_inside = record {
      input = ltb-true c.input A.inputs
          (and_left (ltb c.input A.inputs) (ltb c.output A.outputs && (ltb c.memory M && K (place A.inputs M c))) h);
      output = ltb-true c.output A.outputs
          (and_left (ltb c.output A.outputs) (ltb c.memory M && K (place A.inputs M c)) past_input);
      memory = ltb-true c.memory M (and_left (ltb c.memory M) (K (place A.inputs M c)) past_output);
    }

    pub on_places_place : K (place A.inputs M c) ≡ true
    on_places_place = and_right (ltb c.memory M) (K (place A.inputs M c)) past_output

module _ (A : Arena) (T : ControllerTable) (B : Bounded A) where
  abbrev M : ℕ
  M = T.memories

  abbrev at : Configuration → ℕ
  at c = place A.inputs T.memories c

  pub turn_placed : place_count A T.memories ≤ 65535 → (k l : ℕ) → k < place_count A T.memories → l < place_count A T.memories
      → turns A T k l ≡ true → ControllerTurn A T (placed A.inputs T.memories k) (placed A.inputs T.memories l)
  turn_placed few k l a b h =
      place_turn A T B few (placed A.inputs M k) (placed A.inputs M l) (placed_inside A M k a) (placed_inside A M l b)
      ((λ i. turns A T (place_placed A M k a i) (place_placed A M l b i)) ∙ h)

  -- X and F are tests of places; u is a place
  pub closed_places : (X F : ℕ → Bool) (u : ℕ) → u < place_count A T.memories
      → ((k : ℕ) → k < place_count A T.memories → turns A T u k ≡ true → X k ≡ true → F k ≡ true)
      → ((k l : ℕ) → k < place_count A T.memories → l < place_count A T.memories → F k ≡ true → turns A T k l ≡ true → X l ≡ true → F l ≡ true)
      → Closed (ControllerTurn A T) (on_places A T.memories X) (placed A.inputs T.memories u) (on_places A T.memories F)
  closed_places X F u b enter on = record {
    enter = λ c t.
        let C = on_places_inside A M X c t.there in
        let h = turn_place A T B (placed A.inputs M u) c (placed_inside A M u b) t.turn in
        on_places_intro A M F c C
        (enter (at c) (place_below A M c C) (ap (λ (x : ℕ). turns A T x (at c)) (sym (place_placed A M u b)) ∙ h) (on_places_place A M X c t.there));
    on = λ c d f t.
        let C = on_places_inside A M F c f in
        let D = on_places_inside A M X d t.there in
        on_places_intro A M F d D
        (on (at c) (at d) (place_below A M c C) (place_below A M d D) (on_places_place A M F c f) (turn_place A T B c d C t.turn)
        (on_places_place A M X d t.there));
  }
