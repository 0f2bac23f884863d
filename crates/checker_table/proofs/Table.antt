-- A controller's table of a game as a grid of places.
--
--   grid              : the moves of the inputs, and where the rows lead, fit the places
--   follows_turns     : a turn told of the lists is a turn of the table
--   leads_below       : a row that is not none leads to a place
use Prim.Native.Nat.{ℕ, ◌+◌, ◌*◌, ◌/◌, ◌%◌, ◌≤◌, ◌<◌}
use native.Mathlib.Nat.{mod-lt, div-lt_iff_lt-mul}
use mathlib.Core.Path.{◌≡◌, refl, sym, ◌∙◌, ap}
use mathlib.Core.Bool.{◌&&◌}
use mathlib.Core.List.{List}
use mathlib.Core.Logic.{◌≢◌, inl, inr}
use native.Mathlib.Omega.{arith}
use lib.Arith.{digits_lt, digits_mod}
use lib.Dec.{eqb}
use lib.ListN.{get_or}
use Rattle.finite.proofs.Truth.{same_test}
use Rattle.bits.specs.Member.{has}
use Rattle.sets.specs.Words.{sets_in}
use Rattle.graphs.specs.Graph.{edge}
use Rattle.graphs.proofs.Graph.{edge_moves, edge_intro}
use Rattle.arena.specs.Arena.{arena_of}
use Rattle.game.specs.declared.Game.{Game}
use Rattle.game.proofs.Laws.{accepted_fits}
use Rattle.play.specs.Play.{graph_of, separated_of}
use Rattle.demands.specs.Demands.{play_of, controller_of}
use Rattle.checker_places.specs.Place.{place_count, leads, turns}
use Rattle.checker_places.proofs.Place.{place_below, place_input, lead_cases, named_inside}
use Rattle.checker_search.specs.Turns.{follows, Grid}
use Rattle.checker_rows.specs.Rows.{Ready, Filled}
use Rattle.checker_rows.proofs.Leads.{playing}
use Rattle.checker_reach.proofs.Opening.{memories, states}

moving : (g : Game) (i j : ℕ) → (play_of g).in_move i j ≡ edge (graph_of g.input) i j
unfolding play_of arena_of separated_of
moving g i j = refl

module _ (g : Game) (M N : ℕ) (l to : List ℕ) (R : Ready g M l) (e : N ≡ place_count (play_of g) M) (F : Filled g l to N) where
  pub count_places : N ≡ place_count (play_of g) (controller_of g l).memories
  count_places = e ∙ ap (place_count (play_of g)) (R.counters ∙ sym (memories g l))

  pub few_places : place_count (play_of g) (controller_of g l).memories ≤ 65535
  few_places = omega (arith, count_places, e, R.few)

  some : 0 < g.input.states
  some = omega (arith, (accepted_fits g R.accepted).input.some)

  whole : (c j : ℕ) → c < N → j < g.input.states → c / g.input.states * g.input.states + j < N
  unfolding place_count play_of arena_of separated_of graph_of
  whole c j b i =
      let h : c < g.output.states * M * g.input.states = omega (arith, b, e) in
      let d : c / g.input.states < g.output.states * M = (div-lt_iff_lt-mul some).1 h in
      omega (arith, e, digits_lt d i)

  module _ (r : ℕ) (b : r % g.input.states < g.input.states) where
    inside : r % (play_of g).inputs < (play_of g).inputs
    unfolding play_of arena_of separated_of graph_of
    inside = b

    leads_input : leads (play_of g) (controller_of g l) r < N → leads (play_of g) (controller_of g l) r % g.input.states ≡ r % g.input.states
    unfolding leads
    leads_input h =
        let I : ℕ = (play_of g).inputs in
        let m : ℕ = (controller_of g l).memories in
        elim (lead_cases (play_of g) m ((play_of g).reply (r % I) (r / I / m)) (r % I) ((controller_of g l).step (r / I % m) (r / I / m) (r % I))) [
          | inl x ↦ ap (λ (y : ℕ). leads (play_of g) (controller_of g l) r % y) (sym (states g)) ∙ ap (λ (y : ℕ). y % I) x.1
              ∙ place_input (play_of g) m (record { input = r % I; output = x.0.state; memory = x.0.memory })
              (named_inside (play_of g) m ((play_of g).reply (r % I) (r / I / m)) (r % I) ((playing g).reply (r % I) (r / I / m)) few_places inside
              x.0.names)
              ∙ ap (λ (y : ℕ). r % y) (states g)
          | inr z ↦ absurd (omega (arith, z, h, count_places, e, R.few))
        ]

    pub leads_below : leads (play_of g) (controller_of g l) r ≢ 65535 → leads (play_of g) (controller_of g l) r < N
    unfolding leads
    leads_below d =
        let I : ℕ = (play_of g).inputs in
        let m : ℕ = (controller_of g l).memories in
        elim (lead_cases (play_of g) m ((play_of g).reply (r % I) (r / I / m)) (r % I) ((controller_of g l).step (r / I % m) (r / I / m) (r % I))) [
          | inl x ↦ let c = place_below (play_of g) m (record { input = r % I; output = x.0.state; memory = x.0.memory })
              (named_inside (play_of g) m ((play_of g).reply (r % I) (r / I / m)) (r % I) ((playing g).reply (r % I) (r / I / m)) few_places inside
              x.0.names) in
              omega (arith, x.1, c, count_places)
          | inr z ↦ absurd (d z)
        ]

  pub row_input : (c j : ℕ) → j < g.input.states → (c / g.input.states * g.input.states + j) % g.input.states ≡ j
  row_input c j i = digits_mod (c / g.input.states) i

  pub row_leads : (c j : ℕ) → c < N → j < g.input.states
      → get_or to (c / g.input.states * g.input.states + j) 0 ≡ leads (play_of g) (controller_of g l) (c / g.input.states * g.input.states + j)
  row_leads c j b i = F.row (c / g.input.states * g.input.states + j) (whole c j b i)

  pub grid : Grid g.input.states N g.input.moves to
  grid = record {
    some = some;
    few = (accepted_fits g R.accepted).input.most;
    places = omega (arith, e, R.few);
    whole = whole;
    move = λ i j b h. (accepted_fits g R.accepted).input.row_below i j b h;
    input = λ c j b i h.
        let r : ℕ = c / g.input.states * g.input.states + j in
        let z = row_leads c j b i in
        ap (λ (y : ℕ). y % g.input.states) z
        ∙ leads_input r (omega (arith, row_input c j i, i)) (omega (arith, z, h)) ∙ row_input c j i;
  }

  pub moves : (i j : ℕ) → i < g.input.states → has (get_or (sets_in g.input.moves) i 0) j ≡ (play_of g).in_move i j
  unfolding graph_of
  moves i j b =
      same_test (has (get_or (sets_in g.input.moves) i 0) j) (edge (graph_of g.input) i j)
      (λ h. edge_intro (graph_of g.input) i j b ((accepted_fits g R.accepted).input.row_below i j b h) h)
      (edge_moves (graph_of g.input) i j)
      ∙ sym (moving g i j)

  pub follows_turns : (c d : ℕ) → c < N → follows g.input.states g.input.moves to c d ≡ turns (play_of g) (controller_of g l) c d
  unfolding follows turns play_of arena_of separated_of graph_of
  follows_turns c d b k =
      moves (c % g.input.states) (d % g.input.states) (mod-lt c some) k
      && eqb (row_leads c (d % g.input.states) b (mod-lt d some) k) d
