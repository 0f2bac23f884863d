-- Where starts and rows lead, as they are read.
--
--   place_of, place_of_lead      : the place of the position that an entry gives
--   lead_at, lead_refused, lead_parts    : the two answers, and that the parts of a place fit a word
--   lead-fits                  : where an entry leads fits 16 bits
--   start_lead, row_lead       : a start and a row, read from the table
--   filled-*                   : the rows filled one by one
use Prim.Native.Nat.{ℕ, zero, suc, ◌+◌, ◌*◌, ◌/◌, ◌%◌, ◌≤◌, ◌<◌}
use native.Mathlib.Nat.{mul-suc}
use mathlib.Core.Path.{◌≡◌, refl, sym, ◌∙◌, ap, subst}
use mathlib.Core.Bool.{Bool, true, false, ◌&&◌}
use mathlib.Core.List.{List}
use mathlib.Core.Logic.{inl, inr}
use native.Mathlib.Omega.{arith}
use lib.Dec.{ltb}
use lib.ListN.{length, get_or, set, length-set}
use lib.Seq.{get_or-set_same, get_or-set_other}
use Rattle.finite.proofs.Lists.{any_default}
use Rattle.finite.proofs.Bounded.{below_suc}
use Rattle.bits.specs.Member.{has}
use Rattle.sets.specs.Words.{capacity, bits_of, set_at}
use Rattle.graphs.specs.Graph.{edge, begins}
use Rattle.arena.specs.Arena.{Arena, arena_of}
use Rattle.arena.specs.Table.{Answer, none, gives}
use Rattle.arena.specs.Bounds.{Bounded}
use Rattle.arena.proofs.Bounds.{Inside, bounded_arena_of}
use Rattle.game.specs.declared.InState.{InState}
use Rattle.game.specs.declared.OutSet.{OutSet}
use Rattle.game.specs.declared.Game.{Game}
use Rattle.game.specs.Access.{out_initial, out_moves}
use Rattle.game.proofs.Laws.{accepted_fits}
use Rattle.play.specs.Play.{graph_of, separated_of}
use Rattle.theory.specs.Entries.{none_entry, answer, controller_counters, controller_table}
use Rattle.theory.proofs.Entries.{controller_long}
use Rattle.demands.specs.Demands.{play_of, controller_of}
use Rattle.player_place.specs.declared.Position.{Position}
use Rattle.player_place.specs.Played.{Played}
use Rattle.player_place.specs.Place.{provided, arrives}
use Rattle.player_place.proofs.Moves.{initial_outputs, output_moves}
use Rattle.checker_places.specs.Place.{place_count, place, placed, lead, starting, leads}
use Rattle.checker_places.proofs.Place.{place_below, placed_inside, place_placed, lead_cases, named_inside}
use Rattle.checker_rows.specs.Rows.{Ready, Filled}
use Rattle.game.specs.declared.Refusal.{Refusal}
use Rattle.std.specs.declared.result.Result.TheVariants.{Ok, Err}

unfoldable pub place_of : ℕ → ℕ → Played → ℕ
place_of I M (Ok p) = (p.output.0 * M + p.counter) * I + p.input.0
place_of I M (Err n) = 65535

place_of_lead : (I M : ℕ) (ok : ℕ → Bool) (j : InState) (a : Answer) → place_of I M (arrives M ok j a) ≡ lead I M ok j.0 a
unfolding place_of arrives provided lead place
place_of_lead I M ok j none = refl
place_of_lead I M ok j (gives m p) = go (ltb m M && ok p) refl
  where
    go : (b : Bool) → b ≡ (ltb m M && ok p) → place_of I M (arrives M ok j (gives m p)) ≡ lead I M ok j.0 (gives m p)
    go true e = rw (sym e, arrives, lead, provided, place_of) refl
    go false e = rw (sym e, arrives, lead, provided, place_of) refl

product_fits : (y I i b : ℕ) → 0 < I → y * I + i ≤ b → (y ≤ b) × (y * I ≤ b)
product_fits y zero i b l h = absurd (omega (arith, l))
product_fits y (suc I) i b l h = (omega (arith, h, mul-suc y I), omega (arith, h))

-- the parts of a position that is read, and where it leads
module _ (I M : ℕ) (ok : ℕ → Bool) (j : InState) (a : Answer) (x : Played) (e : x ≡ arrives M ok j a) where
  pub lead_at : (p : Position) → x ≡ Ok p → (p.output.0 * M + p.counter) * I + p.input.0 ≡ lead I M ok j.0 a
  unfolding place_of
  lead_at p h = ap (place_of I M) (sym h ∙ e) ∙ place_of_lead I M ok j a

  pub lead_refused : (n : Refusal) → x ≡ Err n → 65535 ≡ lead I M ok j.0 a
  unfolding place_of
  lead_refused n h = ap (place_of I M) (sym h ∙ e) ∙ place_of_lead I M ok j a

  module _ (p : Position) (h : x ≡ Ok p) (l : 0 < I) (b : lead I M ok j.0 a ≤ 65535) where
    pub lead_parts : (p.output.0 * M ≤ 65535) × (p.output.0 * M + p.counter ≤ 65535) × ((p.output.0 * M + p.counter) * I ≤ 65535)
        × ((p.output.0 * M + p.counter) * I + p.input.0 ≤ 65535)
    lead_parts =
        let all : (p.output.0 * M + p.counter) * I + p.input.0 ≤ 65535 = omega (arith, b, lead_at p h) in
        let y = product_fits (p.output.0 * M + p.counter) I p.input.0 65535 l all in
        (omega (arith, y.0), y.0, y.1, all)

module _ (g : Game) where
  abbrev A : Arena
  A = play_of g

  abbrev N : ℕ
  N = controller_counters (separated_of g)

  pub playing : Bounded (play_of g)
  unfolding play_of
  playing = bounded_arena_of (separated_of g)

  module _ (M : ℕ) (l : List ℕ) (R : Ready g M l) where
    pub few : place_count (play_of g) (controller_counters (separated_of g)) ≤ 4096
    few = subst (λ (m : ℕ). place_count (play_of g) m ≤ 4096) R.counters R.few

    pub some_inputs : 0 < g.input.states
    some_inputs = omega (arith, (accepted_fits g R.accepted).input.some)

    pub outputs_most : g.output.states ≤ capacity
    outputs_most = (accepted_fits g R.accepted).output.most

    pub table_long : length l ≡ g.input.states + place_count (play_of g) (controller_counters (separated_of g))
    unfolding place_count play_of arena_of separated_of graph_of
    table_long = R.long ∙ controller_long (separated_of g)

    -- where an allowed answer leads is a place, or 65,535
    fits : (ok : ℕ → Bool) (j : ℕ) (a : Answer) → ((p : ℕ) → ok p ≡ true → p < (play_of g).outputs) → j < (play_of g).inputs
        → lead (play_of g).inputs (controller_counters (separated_of g)) ok j a ≤ 65535
    fits ok j a below b =
        elim (lead_cases A N ok j a) [
          | inl x ↦ let small : place_count A N ≤ 65535 = omega (arith, few) in
              let c = place_below A N (record { input = j; output = x.0.state; memory = x.0.memory })
              (named_inside A N ok j below small b x.0.names) in
              omega (arith, x.1, c, few)
          | inr e ↦ omega (arith, e)
        ]

    pub row_below : (n r : ℕ) → n ≡ place_count (play_of g) M → r < n → r < place_count (play_of g) (controller_counters (separated_of g))
    row_below n r e b = omega (arith, e, b, ap (place_count (play_of g)) R.counters)

    module _ (i : ℕ) (b : i < g.input.states) where
      start_lead : lead g.input.states M (has (bits_of g.output.initial)) i (answer (get_or l i 0)) ≡ starting (play_of g) (controller_of g l) i
      unfolding starting play_of arena_of separated_of graph_of controller_of controller_table
      start_lead k =
          lead g.input.states (R.counters k) (initial_outputs g R.accepted k) i
          (answer (any_default l i 0 none_entry (omega (arith, b, table_long)) k))

      -- x is what is read as the initial outputs
      pub start_read : (x : OutSet) → x ≡ out_initial g
          → lead g.input.states M (has (bits_of x.0)) i (answer (get_or l i 0)) ≡ starting (play_of g) (controller_of g l) i
      start_read x e = ap (λ (y : OutSet). lead g.input.states M (has (bits_of y.0)) i (answer (get_or l i 0))) e ∙ start_lead

      pub start_fits : starting (play_of g) (controller_of g l) i ≤ 65535
      unfolding starting play_of arena_of separated_of graph_of controller_of controller_table
      start_fits = fits (begins (graph_of g.output)) i (answer (get_or l i none_entry)) (playing.opening i) b

    module _ (r : ℕ) (b : r < place_count (play_of g) (controller_counters (separated_of g))) where
      inside : Inside (play_of g) (controller_counters (separated_of g)) (placed (play_of g).inputs (controller_counters (separated_of g)) r)
      inside = placed_inside A N r b

      output : r / g.input.states / controller_counters (separated_of g) < g.output.states
      unfolding placed play_of arena_of separated_of graph_of
      output = inside.output

      input : r % g.input.states < g.input.states
      unfolding placed play_of arena_of separated_of graph_of
      input = inside.input

      pub some_counters : 0 < M
      some_counters = omega (arith, inside.memory, R.counters)

      pub row_output : r / g.input.states / M < g.output.states
      row_output = subst (λ (m : ℕ). r / g.input.states / m < g.output.states) (sym R.counters) output

      back : (r / g.input.states / controller_counters (separated_of g) * controller_counters (separated_of g)
          + r / g.input.states % controller_counters (separated_of g)) * g.input.states + r % g.input.states ≡ r
      unfolding place placed play_of arena_of separated_of graph_of
      back = place_placed A N r b

      row_lead : lead g.input.states M (has (bits_of (set_at g.output.moves (r / g.input.states / M)))) (r % g.input.states)
          (answer (get_or l (g.input.states + r) 0)) ≡ leads (play_of g) (controller_of g l) r
      unfolding leads play_of arena_of separated_of graph_of controller_of controller_table
      row_lead =
          (λ k. lead g.input.states (R.counters k) (has (bits_of (set_at g.output.moves (r / g.input.states / R.counters k))))
          (r % g.input.states) (answer (get_or l (g.input.states + r) 0)))
          ∙ (λ k. lead g.input.states N (output_moves g R.accepted (r / g.input.states / N) output k) (r % g.input.states)
          (answer (any_default l (g.input.states + r) 0 none_entry (omega (arith, b, table_long)) k)))
          ∙ (λ k. lead g.input.states N (edge (graph_of g.output) (r / g.input.states / N)) (r % g.input.states)
          (answer (get_or l (g.input.states + sym back k) none_entry)))

      pub row_read : (x : OutSet) → x ≡ out_moves g (record { 0 = r / g.input.states / M })
          → lead g.input.states M (has (bits_of x.0)) (r % g.input.states) (answer (get_or l (g.input.states + r) 0))
          ≡ leads (play_of g) (controller_of g l) r
      row_read x e =
          ap (λ (y : OutSet). lead g.input.states M (has (bits_of y.0)) (r % g.input.states) (answer (get_or l (g.input.states + r) 0))) e ∙ row_lead

      pub row_fits_lem : leads (play_of g) (controller_of g l) r ≤ 65535
      unfolding leads play_of arena_of separated_of graph_of controller_of controller_table
      row_fits_lem =
          fits (edge (graph_of g.output) (r / g.input.states / N)) (r % g.input.states)
          ((controller_of g l).step (r / g.input.states % N) (r / g.input.states / N) (r % g.input.states))
          (playing.reply (r % g.input.states) (r / g.input.states / N)) input

  module _ (l : List ℕ) where
    pub filled_start : (to : List ℕ) → length to ≡ 4096 → Filled g l to 0
    filled_start to e = record { size = e; upto = omega arith; row = λ k b. absurd (omega (arith, b)) }

    pub filled_next : (to : List ℕ) (n : ℕ) → Filled g l to n → place_count (play_of g) (controller_counters (separated_of g)) ≤ 4096
        → n < place_count (play_of g) (controller_counters (separated_of g)) → (v : ℕ) → v ≡ leads (play_of g) (controller_of g l) n
        → Filled g l (set to n v) (n + 1)
    filled_next to n F few b v e = record {
      size = length-set to n v ∙ F.size;
      upto = omega (arith, b);
      row = λ k l'. elim (below_suc k n (omega (arith, l'))) [
        | inl z ↦ ap (λ (y : ℕ). get_or (set to n v) y 0) z ∙ get_or-set_same to n v 0 (omega (arith, F.size, b, few)) ∙ e
            ∙ ap (leads (play_of g) (controller_of g l)) (sym z)
        | inr i ↦ get_or-set_other to n k v 0 (λ z. omega (arith, z, i)) ∙ F.row k i
      ];
    }

    pub filled_end : (to : List ℕ) (r n : ℕ) → r ≤ n → n ≤ r → Filled g l to r → Filled g l to n
    filled_end to r n a b F = subst (Filled g l to) (antisym a b) F
      where
        antisym : {a b : ℕ} → a ≤ b → b ≤ a → a ≡ b
        antisym l m = omega (arith, l, m)
