-- Acceptance, told of tests on places.
--
--   marked_starts, marked_steps                           : starts, and rows of reachable configurations, are legal
--   marked_all                                            : every reachable configuration is marked
--   places_start, places_cut, places_drop, places_none    : the laws of Holds, of sets of places
--   accepted                                              : the table wins
use Prim.Native.Nat.{ℕ, ◌+◌, ◌*◌, ◌/◌, ◌%◌, ◌≤◌, ◌<◌}
use mathlib.Core.Path.{◌≡◌, sym, ◌∙◌, ap}
use mathlib.Core.Bool.{Bool, true, false}
use mathlib.Core.List.{Memᴰ}
use mathlib.Core.Logic.{◌⊎◌, inl, inr}
use native.Mathlib.Omega.{arith}
use Rattle.finite.proofs.Truth.{clash, false_of}
use Rattle.graphs.proofs.Walk.{keep}
use Rattle.arena.specs.Arena.{Requirement, Arena}
use Rattle.arena.specs.Table.{Some, ControllerTable}
use Rattle.arena.specs.Play.{Configuration, ControllerFirst, ControllerTurn, Reachable, Cycle, configurations}
use Rattle.arena.specs.Win.{ControllerWins}
use Rattle.arena.specs.Bounds.{Bounded}
use Rattle.arena.proofs.Bounds.{Inside, inside_controller}
use Rattle.arena.proofs.Reach.{reached_first}
use Rattle.checker_places.specs.Place.{place_count, place, placed, starting, leads, turns}
use Rattle.checker_places.specs.Suspect.{on_places, Suspect, Holds}
use Rattle.checker_places.specs.Marked.{Marked}
use Rattle.checker_places.proofs.Place.{
  place_below,
  place_input,
  place_output,
  placed_place,
  place_placed,
  lead_named,
  lead_good,
  leads_at,
  turn_inside,
  first_place_lem,
}
use Rattle.checker_places.proofs.Holds.{holds_start, holds_cut, holds_drop, holds_none, emptied}
use Rattle.checker_places.proofs.OnPlaces.{on_places_intro, on_places_inside, on_places_place, closed_places}

module _ (A : Arena) (T : ControllerTable) (B : Bounded A) (few : place_count A T.memories ≤ 65535) where
  abbrev M : ℕ
  M = T.memories

  abbrev at : Configuration → ℕ
  at c = place A.inputs T.memories c

  abbrev First : Configuration → Type 0
  First = ControllerFirst A T

  abbrev Turn : Configuration → Configuration → Type 0
  Turn = ControllerTurn A T

  module _ (F : ℕ → Bool) (K : Marked A T F) where
    marked_starts : (i : ℕ) → A.in_initial i ≡ true → Some T.memories (A.opening i) (T.start i)
    unfolding starting
    marked_starts i h =
        lead_good A M (A.opening i) i (B.opening i) few (B.initial i h) (T.start i)
        (omega (arith, few, K.below (starting A T i) (K.first i h)))

    marked_first : (c : Configuration) → ControllerFirst A T c → F (place A.inputs T.memories c) ≡ true
    marked_first c f = ap F (sym (first_place_lem A T B c f)) ∙ K.first c.input f.initial

    -- a marked place's row, told of the configuration
    row_marked : (c : Configuration) (j : ℕ) → Inside A T.memories c → F (at c) ≡ true → A.in_move c.input j ≡ true
        → F (leads A T (at c / A.inputs * A.inputs + j)) ≡ true
    row_marked c j C h m = K.on (at c) j h (ap (λ (x : ℕ). A.in_move x j) (place_input A M c C) ∙ m)

    marked_turn : (c d : Configuration) → Inside A T.memories c → F (at c) ≡ true → ControllerTurn A T c d → F (at d) ≡ true
    marked_turn c d C h t =
        let j : ℕ = d.input in
        let there = leads_at A T B c j C (B.move c.input j t.move)
        ∙ lead_named A M (A.reply j c.output) j (T.step c.memory c.output j) d.memory d.output t.step in
        ap F (sym there) ∙ row_marked c j C h t.move

    marked_all : (c : Configuration) → Reachable (ControllerFirst A T) (ControllerTurn A T) c → F (place A.inputs T.memories c) ≡ true
    marked_all c r =
        (keep (λ (d : Configuration). Inside A M d × (F (at d) ≡ true)) (λ d e i t. (turn_inside A T B t, marked_turn d e i.0 i.1 t)) r.walk
        (inside_controller B T r.origin (reached_first First Turn r.first), marked_first r.origin r.first)).1

    marked_steps : (c : Configuration) → Reachable (ControllerFirst A T) (ControllerTurn A T) c → (j : ℕ) → A.in_move c.input j ≡ true
        → Some T.memories (A.reply j c.output) (T.step c.memory c.output j)
    marked_steps c r j m =
        let C = inside_controller B T c r in
        let b = B.move c.input j m in
        let l = K.below (leads A T (at c / A.inputs * A.inputs + j)) (row_marked c j C (marked_all c r) m) in
        lead_good A M (A.reply j c.output) j (B.reply j c.output) few b (T.step c.memory c.output j)
        (omega (arith, few, l, leads_at A T B c j C b))

    -- X is marked and outside Q
    pub places_start : (q : Requirement) (Q : ℕ → Bool) (X : ℕ → Bool) → ((k : ℕ) → F k ≡ true → Q (k / A.inputs / T.memories) ≡ false → X k ≡ true)
        → Holds (ControllerFirst A T) (ControllerTurn A T) q Q (on_places A T.memories X)
    places_start q Q X f =
        holds_start First Turn q Q (on_places A M X)
        (λ c r h. let C = inside_controller B T c r in
        on_places_intro A M X c C (f (at c) (marked_all c r) (ap Q (place_output A M c C) ∙ h)))

  module _ (q : Requirement) (Q : ℕ → Bool) where
    module _ (X Y F : ℕ → Bool) (u : ℕ) (H : Holds (ControllerFirst A T) (ControllerTurn A T) q Q (on_places A T.memories X))
        (b : u < place_count A T.memories)
        (enter : (k : ℕ) → k < place_count A T.memories → turns A T u k ≡ true → X k ≡ true → F k ≡ true)
        (on : (k l : ℕ) → k < place_count A T.memories → l < place_count A T.memories → F k ≡ true → turns A T k l ≡ true → X l ≡ true → F l ≡ true) where
      -- what is taken out of X, told of the place
      place_out : (c : Configuration) → Inside A T.memories c → on_places A T.memories Y c ≡ false → Y (at c) ≡ false
      place_out c C h = false_of (Y (at c)) (λ y. clash (on_places_intro A M Y c C y) h)

      is_pivot : (c : Configuration) → Inside A T.memories c → at c ≡ u → c ≡ placed A.inputs T.memories u
      is_pivot c C e = sym (placed_place A M c C) ∙ ap (placed A.inputs M) e

      -- u and what it reaches are taken out, where that misses the input set p
      pub places_cut : (p : ℕ → Bool) → Memᴰ p q.assumptions → ((k : ℕ) → k < place_count A T.memories → F k ≡ true → p (k % A.inputs) ≡ false)
          → ((k : ℕ) → k < place_count A T.memories → X k ≡ true → Y k ≡ false → (F k ≡ true) ⊎ (k ≡ u))
          → Holds (ControllerFirst A T) (ControllerTurn A T) q Q (on_places A T.memories Y)
      places_cut p i f out =
          holds_cut First Turn q Q (on_places A M X) (on_places A M Y) (on_places A M F) (placed A.inputs M u) H (closed_places A T B X F u b enter on) p i
          (λ c h. let C = on_places_inside A M F c h in
          ap p (sym (place_input A M c C)) ∙ f (at c) (place_below A M c C) (on_places_place A M F c h))
          (λ c x y. let C = on_places_inside A M X c x in
          go c C (out (at c) (place_below A M c C) (on_places_place A M X c x) (place_out c C y)))
        where
          go : (c : Configuration) → Inside A M c → (F (at c) ≡ true) ⊎ (at c ≡ u) → (on_places A M F c ≡ true) ⊎ (c ≡ placed A.inputs M u)
          go c C (inl h) = inl (on_places_intro A M F c C h)
          go c C (inr e) = inr (is_pivot c C e)

      -- u is taken out, where it does not reach itself
      pub places_drop : F u ≡ false → ((k : ℕ) → k < place_count A T.memories → X k ≡ true → Y k ≡ false → k ≡ u)
          → Holds (ControllerFirst A T) (ControllerTurn A T) q Q (on_places A T.memories Y)
      places_drop n out =
          holds_drop First Turn q Q (on_places A M X) (on_places A M Y) (on_places A M F) (placed A.inputs M u) H (closed_places A T B X F u b enter on)
          (false_of (on_places A M F (placed A.inputs M u))
          (λ h. clash (ap F (sym (place_placed A M u b)) ∙ on_places_place A M F (placed A.inputs M u) h) n))
          (λ c x y. let C = on_places_inside A M X c x in
          is_pivot c C (out (at c) (place_below A M c C) (on_places_place A M X c x) (place_out c C y)))

    pub places_none : (X : ℕ → Bool) → Holds (ControllerFirst A T) (ControllerTurn A T) q Q (on_places A T.memories X)
        → ((k : ℕ) → k < place_count A T.memories → X k ≡ false)
        → (r : Cycle (ControllerFirst A T) (ControllerTurn A T)) → Suspect q Q (configurations (ControllerFirst A T) (ControllerTurn A T) r) → ⊥
    places_none X H f r s =
        holds_none First Turn q Q (on_places A M X) H
        (λ c i. false_of (on_places A M X c) (λ h. let C = on_places_inside A M X c h in clash (on_places_place A M X c h) (f (at c) (place_below A M c C)))) r s

  -- "The checker accepts one exactly when ..": marks, and no suspect round for any requirement and output set
  pub accepted : (F : ℕ → Bool) → Marked A T F
      → ((q : Requirement) → Memᴰ q A.requirements → (Q : ℕ → Bool) → Memᴰ Q q.guarantees
      → (r : Cycle (ControllerFirst A T) (ControllerTurn A T)) → Suspect q Q (configurations (ControllerFirst A T) (ControllerTurn A T) r) → ⊥)
      → ControllerWins A T
  accepted F K none = record {
    starts = marked_starts F K;
    steps = marked_steps F K;
    rounds = emptied First Turn A.requirements none;
  }
