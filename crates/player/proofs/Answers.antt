-- What the player answers: one law for each return.
use Prim.Native.Nat.{ℕ, ◌+◌, ◌*◌}
use mathlib.Core.Path.{◌≡◌, refl, sym, ◌∙◌, ap}
use mathlib.Core.Bool.{Bool, true, false, ◌&&◌}
use mathlib.Core.List.{List, [], ◌∷◌}
use native.Mathlib.Omega.{arith}
use lib.Dec.{ltb}
use lib.ListN.{length, get_or}
use borrow.Author.Tests.{eq-eqb, ne_eqb}
use Rattle.finite.proofs.Truth.{and_intro, and_false_left, and_false_right}
use Rattle.sets.specs.declared.Set.{Set}
use Rattle.sets.specs.Words.{bits_of, set_at}
use Rattle.bits.specs.Member.{has}
use Rattle.graphs.specs.Graph.{edge, begins}
use Rattle.graphs.proofs.Graph.{edge_to}
use Rattle.game.specs.declared.InState.{InState}
use Rattle.game.specs.declared.OutSet.{OutSet}
use Rattle.game.specs.declared.Game.{Game}
use Rattle.game.specs.Acceptance.{accepted, Acceptance}
use Rattle.game.specs.Access.{out_initial}
use Rattle.game.specs.Acceptance.{acceptance}
use Rattle.game.specs.Numbers.{first_of}
use Rattle.game.proofs.Numbers.{after, game_after}
use Rattle.arena.specs.Table.{Answer, none, gives}
use Rattle.play.specs.Play.{graph_of, separated_of}
use Rattle.theory.specs.Entries.{none_entry, answer, controller_counters, controller_entries, controller_table}
use Rattle.demands.specs.Demands.{controller_of}
use Rattle.table_sizes.proofs.Lengths.{controller_most}
use Rattle.player_place.specs.declared.Position.{Position}
use Rattle.view.specs.declared.RowIndex.{RowIndex}
use Rattle.player_place.specs.Played.{Played}
use Rattle.view.specs.Rows.{row_entry}
use Rattle.player_place.specs.Place.{provided, arrives, names, player_number, has_position}
use Rattle.player.specs.Player.{fitting, begun, stepped, after_acceptance, beginning, stepping, begin_tests, step_tests, Plays}
use Rattle.view.proofs.Range.{in_range_lem, row_read}
use Rattle.player_place.proofs.Tests.{held, refused, position_in}
use Rattle.player_place.proofs.Moves.{inputs_most, outputs_most, initial_outputs, output_moves}
use Rattle.std.specs.declared.result.Result.TheVariants.{Ok, Err}
use Rattle.game.specs.declared.Refusal.{Refusal}
use Rattle.game.specs.Refusals.{number}
use Rattle.game.specs.declared.Refusal.TheVariants.{BadEntry, NotAllowed, OtherTable}

-- ---- the beginning

module _ (g : Game) (l : List ℕ) (n : ℕ) (e : n ≡ length (controller_entries (separated_of g))) where
  pub fits : length l ≡ n → fitting g l ≡ true
  unfolding fitting
  fits h = eq-eqb (length l) (length (controller_entries (separated_of g))) (h ∙ e)

  pub fits_not : (length l ≡ n → ⊥) → fitting g l ≡ false
  unfolding fitting
  fits_not h = ne_eqb (length l) (length (controller_entries (separated_of g))) (λ q. h (q ∙ sym e))

module _ (g : Game) (l : List ℕ) (i : InState) where
  -- the answer where the input is initial
  unfoldable started : Played
  started = arrives (controller_counters (separated_of g)) (begins (graph_of g.output)) i ((controller_of g l).start i.0)

  pub begun_length : fitting g l ≡ false → Err OtherTable ≡ begun g l i
  unfolding begun started
  begun_length h = refused OtherTable (provided (begins (graph_of g.input) i.0) NotAllowed started) h

  pub begun_input : fitting g l ≡ true → begins (graph_of g.input) i.0 ≡ false → Err NotAllowed ≡ begun g l i
  unfolding begun started
  begun_input h b = refused NotAllowed started b ∙ held OtherTable (provided (begins (graph_of g.input) i.0) NotAllowed started) h

  pub begun_at : acceptance g ≡ accepted → fitting g l ≡ true → begins (graph_of g.input) i.0 ≡ true
      → (M e : ℕ) (x : OutSet) (r : Played) → M ≡ controller_counters (separated_of g) → e ≡ get_or l i.0 none_entry → x ≡ out_initial g
      → r ≡ arrives M (has (bits_of x.0)) i (answer e) → r ≡ begun g l i
  unfolding begun started controller_of controller_table
  begun_at a h b M e x r m q t s =
      s
      ∙ ap (λ (y : OutSet). arrives M (has (bits_of y.0)) i (answer e)) t
      ∙ ap (λ (k : ℕ). arrives k (has (bits_of g.output.initial)) i (answer e)) m
      ∙ ap (λ (ok : ℕ → Bool). arrives (controller_counters (separated_of g)) ok i (answer e)) (initial_outputs g a)
      ∙ ap (λ (k : ℕ). arrives (controller_counters (separated_of g)) (begins (graph_of g.output)) i (answer k)) q
      ∙ held NotAllowed started b
      ∙ held OtherTable (provided (begins (graph_of g.input) i.0) NotAllowed started) h

-- ---- a step

module _ (g : Game) (l : List ℕ) (p : Position) (j : InState) where
  -- the answer where the input is a move
  unfoldable answered : Played
  answered =
      arrives (controller_counters (separated_of g)) (edge (graph_of g.output) p.output.0) j ((controller_of g l).step p.counter p.output.0 j.0)

  -- the answer where the table and the position fit
  unfoldable placed : Played
  placed = provided (edge (graph_of g.input) p.input.0 j.0) NotAllowed answered

  pub stepped_length : fitting g l ≡ false → Err OtherTable ≡ stepped g l p j
  unfolding stepped placed answered
  stepped_length h = refused OtherTable placed (and_false_left (has_position g (controller_counters (separated_of g)) p) h)

  module _ (M : ℕ) (m : M ≡ controller_counters (separated_of g)) where
    pub stepped_position : has_position g M p ≡ false → Err OtherTable ≡ stepped g l p j
    unfolding stepped placed answered
    stepped_position h =
        refused OtherTable placed (and_false_right (fitting g l) (ap (λ (k : ℕ). has_position g k p) (sym m) ∙ h))

    both_hold : fitting g l ≡ true → has_position g M p ≡ true → (fitting g l && has_position g (controller_counters (separated_of g)) p) ≡ true
    both_hold f h = and_intro f (ap (λ (k : ℕ). has_position g k p) (sym m) ∙ h)

    pub stepped_input : fitting g l ≡ true → has_position g M p ≡ true → edge (graph_of g.input) p.input.0 j.0 ≡ false → Err NotAllowed ≡ stepped g l p j
    unfolding stepped placed answered
    stepped_input f h b = refused NotAllowed answered b ∙ held OtherTable placed (both_hold f h)

    -- the row that is read is the table's
    row_of : acceptance g ≡ accepted → has_position g M p ≡ true → edge (graph_of g.input) p.input.0 j.0 ≡ true
        → answer (row_entry l g.input.states M p.output.0 p.counter j.0) ≡ (controller_of g l).step p.counter p.output.0 j.0
    unfolding controller_of controller_table graph_of
    row_of a h b =
        let q = position_in g M p h in
        ap answer
        (sym (row_read g.input.states M p.output.0 p.counter j.0 l
        (get_or l (g.input.states + ((p.output.0 * M + p.counter) * g.input.states + j.0)) none_entry)
        (in_range_lem g.input.states M p.output.0 p.counter j.0 (inputs_most g a) (controller_most g a M m) (omega (arith, outputs_most g a)) q.2
        (edge_to (graph_of g.input) p.input.0 j.0 b))
        refl)
        ∙ ap (λ (k : ℕ). get_or l (g.input.states + ((p.output.0 * k + p.counter) * g.input.states + j.0)) none_entry) m)

    pub stepped_at : acceptance g ≡ accepted → fitting g l ≡ true → has_position g M p ≡ true
        → edge (graph_of g.input) p.input.0 j.0 ≡ true
        → (N : ℕ) (outs : List ℕ) (w : RowIndex) (e : ℕ) (x : Set) (r : Played) → N ≡ g.input.states → outs ≡ g.output.moves
        → w ≡ record { output = p.output; counter = p.counter; input = j }
        → e ≡ row_entry l N M w.output.0 w.counter w.input.0 → x ≡ set_at outs p.output.0
        → r ≡ arrives M (has (bits_of x)) j (answer e) → r ≡ stepped g l p j
    unfolding stepped placed answered
    stepped_at a f h b N outs w e x r i y z q t s =
        s
        ∙ ap (λ (v : Set). arrives M (has (bits_of v)) j (answer e)) (t ∙ ap (λ (v : List ℕ). set_at v p.output.0) y)
        ∙ ap (λ (k : ℕ). arrives k (has (bits_of (set_at g.output.moves p.output.0))) j (answer e)) m
        ∙ ap (λ (ok : ℕ → Bool). arrives (controller_counters (separated_of g)) ok j (answer e)) (output_moves g a p.output.0 (position_in g M p h).1)
        ∙ ap (arrives (controller_counters (separated_of g)) (edge (graph_of g.output) p.output.0) j)
        (ap answer (q ∙ ap (λ (v : ℕ). row_entry l v M w.output.0 w.counter w.input.0) i
        ∙ ap (λ (v : RowIndex). row_entry l g.input.states M v.output.0 v.counter v.input.0) z) ∙ row_of a h b)
        ∙ held NotAllowed answered b
        ∙ held OtherTable placed (both_hold f h)

-- ---- acceptance first

module _ (g : Game) (l : List ℕ) where
  pub beginning_refused : (i : InState) (n : Refusal) → acceptance g ≡ Err n → Err n ≡ beginning g l i
  unfolding beginning after_acceptance
  beginning_refused i n e = rw (e, after_acceptance)

  pub beginning_accepted : (i : InState) (r : Played) → acceptance g ≡ accepted → r ≡ begun g l i → r ≡ beginning g l i
  unfolding beginning after_acceptance
  beginning_accepted i r e q = rw (e, after_acceptance) q

  pub stepping_refused : (p : Position) (j : InState) (n : Refusal) → acceptance g ≡ Err n → Err n ≡ stepping g l p j
  unfolding stepping after_acceptance
  stepping_refused p j n e = rw (e, after_acceptance)

  pub stepping_accepted : (p : Position) (j : InState) (r : Played) → acceptance g ≡ accepted → r ≡ stepped g l p j → r ≡ stepping g l p j
  unfolding stepping after_acceptance
  stepping_accepted p j r e q = rw (e, after_acceptance) q

-- ---- the numbers

arrives_number : (M : ℕ) (ok : ℕ → Bool) (i : InState) (a : Answer) → player_number (arrives M ok i a) ≡ first_of ((15, names M ok a) ∷ [])
unfolding arrives names provided first_of
arrives_number M ok i none = refl
arrives_number M ok i (gives c s) = go (ltb c M && ok s)
  where
    go : (b : Bool) → player_number (provided b BadEntry (Ok (record { input = i; output = record { 0 = s }; counter = c }))) ≡ first_of ((15, b) ∷ [])
    go true = refl
    go false = refl

-- a test before others
pub provided_number : (b : Bool) (r : Refusal) (p : Played) (ts : List (ℕ × Bool)) → player_number p ≡ first_of ts
    → player_number (provided b r p) ≡ first_of ((number r, b) ∷ ts)
unfolding provided first_of
provided_number true r p ts h = h
provided_number false r p ts h = refl

pub after_number : (a : Acceptance) (p : Played) (n : ℕ) → player_number p ≡ n → player_number (after_acceptance a p) ≡ after a n
unfolding after_acceptance
after_number (Ok u) p n h = h
after_number (Err m) p n h = refl

pub plays_begin : (g : Game) (l : List ℕ) (i : InState) {r : Played} → r ≡ beginning g l i → Plays (begin_tests g l i) (beginning g l i) r
unfolding begin_tests beginning begun
plays_begin g l i h = record {
  answer = h;
  number =
      ap player_number h
      ∙ after_number (acceptance g) (begun g l i) _
      (provided_number (fitting g l) OtherTable _ _
      (provided_number (begins (graph_of g.input) i.0) NotAllowed _ _
      (arrives_number (controller_counters (separated_of g)) (begins (graph_of g.output)) i ((controller_of g l).start i.0))))
      ∙ sym (game_after g _);
}

pub plays_step : (g : Game) (l : List ℕ) (p : Position) (j : InState) {r : Played} → r ≡ stepping g l p j → Plays (step_tests g l p j) (stepping g l p j) r
unfolding step_tests stepping stepped
plays_step g l p j h = record {
  answer = h;
  number =
      ap player_number h
      ∙ after_number (acceptance g) (stepped g l p j) _
      (provided_number (fitting g l && has_position g (controller_counters (separated_of g)) p) OtherTable _ _
      (provided_number (edge (graph_of g.input) p.input.0 j.0) NotAllowed _ _
      (arrives_number (controller_counters (separated_of g)) (edge (graph_of g.output) p.output.0) j
      ((controller_of g l).step p.counter p.output.0 j.0))))
      ∙ sym (game_after g _);
}
