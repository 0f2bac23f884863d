-- Laws of places.
--
--   place_input, place_row, place_memory, place_output    : the parts of a place
--   place_below, placed_place, place_placed               : places are the numbers below the count, one for each configuration
--   lead_named, lead_cases, lead_bad, lead_good           : an answer that is not none leads to what it names, any other nowhere
--   leads_at                                              : what a row's number says
--   turn_inside                                           : a turn makes a configuration that has a place
--   turn_place, place_turn                                : a turn is a test on places
--   first_place_lem, place_first                              : and so is a first configuration
use Prim.Native.Nat.{ℕ, ◌+◌, ◌*◌, ◌/◌, ◌%◌, ◌≤◌, ◌<◌}
use native.Mathlib.Nat.{mod-lt, div-lt_iff_lt-mul, div-add-mod'}
use mathlib.Core.Path.{◌≡◌, refl, sym, ◌∙◌, ap, subst}
use mathlib.Core.Bool.{Bool, true, false, ◌&&◌}
use mathlib.Core.Logic.{◌⊎◌, inl, inr}
use native.Mathlib.Omega.{arith}
use lib.Arith.{digits_lt, digits_div, digits_mod}
use lib.Dec.{eqb, ltb}
use borrow.Author.Tests.{eqb-true, eq-eqb, ltb-true, lt-ltb}
use Rattle.finite.proofs.Rounds.{factor}
use Rattle.finite.proofs.Truth.{decide, and_intro, and_left, and_right}
use Rattle.arena.specs.Arena.{Arena}
use Rattle.arena.specs.Table.{Answer, none, gives, Names, Some, ControllerTable}
use Rattle.arena.specs.Play.{Configuration, ControllerFirst, ControllerTurn}
use Rattle.arena.specs.Bounds.{Bounded}
use Rattle.arena.proofs.Bounds.{Inside}
use Rattle.checker_places.specs.Place.{place_count, place, placed, lead, starting, leads, turns}

module _ (A : Arena) (M : ℕ) where
  module _ (c : Configuration) (C : Inside A M c) where
    pub place_below : place A.inputs M c < place_count A M
    unfolding place place_count
    place_below = digits_lt (digits_lt C.output C.memory) C.input

    pub place_input : place A.inputs M c % A.inputs ≡ c.input
    unfolding place
    place_input = digits_mod (c.output * M + c.memory) C.input

    -- the row without its input
    place_row : place A.inputs M c / A.inputs ≡ c.output * M + c.memory
    unfolding place
    place_row = digits_div (c.output * M + c.memory) C.input

    place_memory : place A.inputs M c / A.inputs % M ≡ c.memory
    place_memory = ap (λ (x : ℕ). x % M) place_row ∙ digits_mod c.output C.memory

    pub place_output : place A.inputs M c / A.inputs / M ≡ c.output
    place_output = ap (λ (x : ℕ). x / M) place_row ∙ digits_div c.output C.memory

    pub placed_place : placed A.inputs M (place A.inputs M c) ≡ c
    unfolding placed
    placed_place = λ k. record { input = place_input k; output = place_output k; memory = place_memory k }

  module _ (k : ℕ) (b : k < place_count A M) where
    some_input : 0 < A.inputs
    unfolding place_count
    some_input = factor k (A.outputs * M) A.inputs b

    row_below : k / A.inputs < A.outputs * M
    unfolding place_count
    row_below = (div-lt_iff_lt-mul some_input).1 b

    some_memory : 0 < M
    some_memory = factor (k / A.inputs) A.outputs M row_below

    pub placed_inside : Inside A M (placed A.inputs M k)
    unfolding placed
    placed_inside = record {
      input = mod-lt k some_input;
      output = (div-lt_iff_lt-mul some_memory).1 row_below;
      memory = mod-lt (k / A.inputs) some_memory;
    }

    pub place_placed : place A.inputs M (placed A.inputs M k) ≡ k
    unfolding place placed
    place_placed = ap (λ (x : ℕ). x * A.inputs + k % A.inputs) (div-add-mod' (k / A.inputs) M) ∙ div-add-mod' k A.inputs

  -- one place for each configuration
  place_same : (c d : Configuration) → Inside A M c → Inside A M d → place A.inputs M c ≡ place A.inputs M d → c ≡ d
  place_same c d C D e = sym (placed_place c C) ∙ ap (placed A.inputs M) e ∙ placed_place d D

  module _ (ok : ℕ → Bool) (j : ℕ) where
    abbrev next : ℕ → ℕ → Configuration
    next m p = record { input = j; output = p; memory = m }

    lead_gives : (m p : ℕ) → m < M → ok p ≡ true → lead A.inputs M ok j (gives m p) ≡ place A.inputs M (next m p)
    unfolding lead
    lead_gives m p b e = let h : (ltb m M && ok p) ≡ true = and_intro (lt-ltb m M b) e in rw (h, lead) refl

    lead_refused : (m p : ℕ) → (ltb m M && ok p) ≡ false → lead A.inputs M ok j (gives m p) ≡ 65535
    unfolding lead
    lead_refused m p h = rw (h, lead) refl

    lead_none : lead A.inputs M ok j none ≡ 65535
    unfolding lead
    lead_none = refl

    pub lead_named : (a : Answer) (m p : ℕ) → Names M ok a m p → lead A.inputs M ok j a ≡ place A.inputs M (next m p)
    lead_named a m p n = ap (lead A.inputs M ok j) n.is ∙ lead_gives m p n.memory n.state

    -- an answer that is not none, and where it leads; or nowhere
    pub lead_cases : (a : Answer) → ((x : Some M ok a) × (lead A.inputs M ok j a ≡ place A.inputs M (next x.memory x.state)))
        ⊎ (lead A.inputs M ok j a ≡ 65535)
    lead_cases none = inr lead_none
    lead_cases (gives m p) = go (decide (ltb m M && ok p))
      where
        go : ((ltb m M && ok p) ≡ true) ⊎ ((ltb m M && ok p) ≡ false)
            → ((x : Some M ok (gives m p)) × (lead A.inputs M ok j (gives m p) ≡ place A.inputs M (next x.memory x.state)))
            ⊎ (lead A.inputs M ok j (gives m p) ≡ 65535)
        go (inl h) =
            let b : m < M = ltb-true m M (and_left (ltb m M) (ok p) h) in
            let e : ok p ≡ true = and_right (ltb m M) (ok p) h in
            inl (record { memory = m; state = p; names = record { is = refl; memory = b; state = e } }, lead_gives m p b e)
        go (inr h) = inr (lead_refused m p h)

    module _ (below : (p : ℕ) → ok p ≡ true → p < A.outputs) (few : place_count A M ≤ 65535) (b : j < A.inputs) where
      pub named_inside : {a : Answer} {m p : ℕ} → Names M ok a m p → Inside A M (record { input = j; output = p; memory = m })
      named_inside {p = p} n = record { input = b; output = below p n.state; memory = n.memory }

      -- places are below 65,535, so that number tells none
      pub lead_bad : (a : Answer) → lead A.inputs M ok j a ≡ 65535 → Some M ok a → ⊥
      lead_bad a h x =
          let e = lead_named a x.memory x.state x.names in
          let l = place_below (next x.memory x.state) (named_inside x.names) in
          omega (arith, h, e, l, few)

      pub lead_good : (a : Answer) → lead A.inputs M ok j a < 65535 → Some M ok a
      lead_good a h = elim (lead_cases a) [ inl x ↦ x.0 | inr e ↦ absurd (omega (arith, h, e)) ]

module _ (A : Arena) (T : ControllerTable) (B : Bounded A) where
  abbrev M : ℕ
  M = T.memories

  abbrev at : Configuration → ℕ
  at c = place A.inputs T.memories c

  -- the row of a configuration and a new input
  pub leads_at : (c : Configuration) (j : ℕ) → Inside A T.memories c → j < A.inputs
      → leads A T (place A.inputs T.memories c / A.inputs * A.inputs + j)
      ≡ lead A.inputs T.memories (A.reply j c.output) j (T.step c.memory c.output j)
  unfolding leads
  leads_at c j C b =
      let r : ℕ = at c / A.inputs * A.inputs + j in
      let row : r / A.inputs ≡ at c / A.inputs = digits_div (at c / A.inputs) b in
      let input : r % A.inputs ≡ j = digits_mod (at c / A.inputs) b in
      let output : r / A.inputs / M ≡ c.output = ap (λ (x : ℕ). x / M) row ∙ place_output A M c C in
      let memory : r / A.inputs % M ≡ c.memory = ap (λ (x : ℕ). x % M) row ∙ place_memory A M c C in
      λ k. lead A.inputs M (A.reply (input k) (output k)) (input k) (T.step (memory k) (output k) (input k))

  -- the answer that a turn to d takes, and what it may name
  abbrev answered : Configuration → ℕ → Answer
  answered c j = T.step c.memory c.output j

  -- the row that a turn to d reads, told by the two places
  row_of : (c d : Configuration) → Inside A T.memories c → Inside A T.memories d
      → leads A T (at c / A.inputs * A.inputs + at d % A.inputs) ≡ lead A.inputs M (A.reply d.input c.output) d.input (answered c d.input)
  row_of c d C D = ap (λ (x : ℕ). leads A T (at c / A.inputs * A.inputs + x)) (place_input A M d D) ∙ leads_at c d.input C D.input

  move_of : (c d : Configuration) → Inside A T.memories c → Inside A T.memories d
      → A.in_move (at c % A.inputs) (at d % A.inputs) ≡ A.in_move c.input d.input
  move_of c d C D = λ k. A.in_move (place_input A M c C k) (place_input A M d D k)

  pub turn_inside : {c d : Configuration} → ControllerTurn A T c d → Inside A T.memories d
  turn_inside {c} {d} t = record {
    input = B.move c.input d.input t.move;
    output = B.reply d.input c.output d.output t.step.state;
    memory = t.step.memory;
  }

  pub turn_place : (c d : Configuration) → Inside A T.memories c → ControllerTurn A T c d
      → turns A T (place A.inputs T.memories c) (place A.inputs T.memories d) ≡ true
  unfolding turns
  turn_place c d C t =
      let D = turn_inside t in
      and_intro (move_of c d C D ∙ t.move)
      (eq-eqb (leads A T (at c / A.inputs * A.inputs + at d % A.inputs)) (at d)
      (row_of c d C D ∙ lead_named A M (A.reply d.input c.output) d.input (answered c d.input) d.memory d.output t.step))

  -- an answer that leads to the place of a configuration names it
  names_place : (ok : ℕ → Bool) (a : Answer) (d : Configuration) → ((p : ℕ) → ok p ≡ true → p < A.outputs) → place_count A T.memories ≤ 65535
      → Inside A T.memories d → lead A.inputs M ok d.input a ≡ at d → Names M ok a d.memory d.output
  names_place ok a d below few D there = go (lead_cases A M ok d.input a)
    where
      go : ((x : Some M ok a)
          × (lead A.inputs M ok d.input a ≡ place A.inputs M (record { input = d.input; output = x.state; memory = x.memory })))
          ⊎ (lead A.inputs M ok d.input a ≡ 65535) → Names M ok a d.memory d.output
      go (inl x) =
          let y : Configuration = record { input = d.input; output = x.0.state; memory = x.0.memory } in
          let e : y ≡ d = place_same A M y d (named_inside A M ok d.input below few D.input x.0.names) D (sym x.1 ∙ there) in
          subst (λ (z : Configuration). Names M ok a z.memory z.output) e x.0.names
      go (inr n) = absurd (omega (arith, n, there, place_below A M d D, few))

  pub place_turn : place_count A T.memories ≤ 65535 → (c d : Configuration) → Inside A T.memories c → Inside A T.memories d
      → turns A T (place A.inputs T.memories c) (place A.inputs T.memories d) ≡ true → ControllerTurn A T c d
  unfolding turns
  place_turn few c d C D h =
      let move : Bool = A.in_move (at c % A.inputs) (at d % A.inputs) in
      let row : Bool = eqb (leads A T (at c / A.inputs * A.inputs + at d % A.inputs)) (at d) in
      let there = eqb-true (leads A T (at c / A.inputs * A.inputs + at d % A.inputs)) (at d) (and_right move row h) in
      record {
        move = sym (move_of c d C D) ∙ and_left move row h;
        step = names_place (A.reply d.input c.output) (answered c d.input) d (B.reply d.input c.output) few D (sym (row_of c d C D) ∙ there);
      }

  -- a start, told by its place
  pub first_place_lem : (c : Configuration) → ControllerFirst A T c → starting A T c.input ≡ place A.inputs T.memories c
  unfolding starting
  first_place_lem c f = lead_named A M (A.opening c.input) c.input (T.start c.input) c.memory c.output f.start

  pub place_first : place_count A T.memories ≤ 65535 → (c : Configuration) → Inside A T.memories c → A.in_initial c.input ≡ true
      → starting A T c.input ≡ place A.inputs T.memories c → ControllerFirst A T c
  unfolding starting
  place_first few c C i e = record {
    initial = i;
    start = names_place (A.opening c.input) (T.start c.input) c (B.opening c.input) few C e;
  }
