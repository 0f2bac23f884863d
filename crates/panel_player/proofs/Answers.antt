-- What is answered against a panel's table: one law for each return, and the numbers.
use Prim.Native.Nat.{ℕ, ◌+◌, ◌*◌, ◌≤◌, ◌<◌}
use native.Mathlib.Nat.{mul-le-mul}
use mathlib.Core.Path.{◌≡◌, refl, sym, ◌∙◌, ap}
use mathlib.Core.Bool.{Bool, true, false, ◌&&◌}
use mathlib.Core.List.{List, [], ◌∷◌}
use native.Mathlib.Omega.{arith}
use lib.Dec.{ltb}
use lib.ListN.{length, get_or}
use borrow.Author.Tests.{eq-eqb, ne_eqb}
use Rattle.finite.proofs.Truth.{and_intro, and_false_left, and_false_right}
use Rattle.sets.specs.Words.{capacity}
use Rattle.graphs.specs.Graph.{edge, begins}
use Rattle.game.specs.declared.InState.{InState}
use Rattle.game.specs.declared.OutState.{OutState}
use Rattle.game.specs.declared.Game.{Game}
use Rattle.game.specs.Acceptance.{accepted, Acceptance}
use Rattle.game.specs.Acceptance.{acceptance}
use Rattle.game.specs.Numbers.{first_of}
use Rattle.game.proofs.Laws.{accepted_fits}
use Rattle.game.proofs.Numbers.{after, game_after}
use Rattle.arena.specs.Table.{Answer, none, gives}
use Rattle.play.specs.Play.{graph_of, separated_of}
use Rattle.theory.specs.Entries.{none_entry, answer, environment_counters, environment_entries, environment_table}
use Rattle.demands.specs.Demands.{environment_of}
use Rattle.demands.proofs.Sizes.{environment_few}
use Rattle.player_place.specs.declared.Position.{Position}
use Rattle.player_place.specs.Played.{Played}
use Rattle.player_place.specs.Place.{provided, names, has_position}
use Rattle.player_place.specs.Place as place
use Rattle.player_place.proofs.Moves.{inputs_most, outputs_most}
use Rattle.player_place.proofs.Tests.{held, refused, position_in}
use Rattle.player.specs.Player.{after_acceptance, Plays}
use Rattle.player.proofs.Answers.{provided_number, after_number}
use Rattle.panel_place.specs.Picked.{Picked}
use Rattle.panel_place.specs.Picks.{granted, named_input, picks, position_with, panel_number}
use Rattle.panel_place.proofs.Picks.{granted_held, granted_refused, picks_as}
use Rattle.panel_player.specs.Panel.{
  panel_fitting,
  start_move,
  panel_row_entry,
  row_move,
  first_move,
  first_place,
  next_move,
  next_place,
  pick_after,
  panel_first,
  panel_begin,
  panel_next,
  panel_step,
  start_names,
  row_names,
  panel_first_tests,
  panel_begin_tests,
  panel_next_tests,
  panel_step_tests,
  Picks,
}
use Rattle.std.specs.declared.result.Result.TheVariants.{Ok, Err}
use Rattle.game.specs.Refusals.{number}
use Rattle.game.specs.declared.Refusal.{Refusal}
use Rattle.game.specs.declared.Refusal.TheVariants.{BadEntry, NotAllowed, OtherTable}

-- ---- the table's length

module _ (g : Game) (l : List ℕ) (n : ℕ) (e : n ≡ length (environment_entries (separated_of g))) where
  pub fits : length l ≡ n → panel_fitting g l ≡ true
  unfolding panel_fitting
  fits h = eq-eqb (length l) (length (environment_entries (separated_of g))) (h ∙ e)

  pub fits_not : (length l ≡ n → ⊥) → panel_fitting g l ≡ false
  unfolding panel_fitting
  fits_not h = ne_eqb (length l) (length (environment_entries (separated_of g))) (λ q. h (q ∙ sym e))

-- ---- the entries

module _ (g : Game) (M : ℕ) (p : Position) (a : acceptance g ≡ accepted) (m : M ≡ environment_counters (separated_of g))
    (h : has_position g M p ≡ true) where
  -- what a row's place is made of
  pub record Bounds : Type 0 where
    pub block : p.input.0 * M ≤ capacity * 32
    pub counter : p.counter < 32
    pub place : (p.input.0 * M + p.counter) * g.output.states ≤ (capacity * 32 + 32) * capacity
    pub output : p.output.0 < capacity

  pub bounds : Bounds
  bounds =
      let q = position_in g M p h in
      let few : M ≤ 32 = omega (arith, environment_few g (accepted_fits g a)) in
      let i : p.input.0 ≤ capacity = omega (arith, inputs_most g a) in
      let o = outputs_most g a in
      let block : p.input.0 * M ≤ capacity * 32 = mul-le-mul i few in
      let row : p.input.0 * M + p.counter ≤ capacity * 32 + 32 = omega arith in
      let place : (p.input.0 * M + p.counter) * g.output.states ≤ (capacity * 32 + 32) * capacity = mul-le-mul row o in
      record { block = omega arith; counter = omega arith; place = omega arith; output = omega arith }

module _ (g : Game) (l : List ℕ) where
  pub row_read : (M e : ℕ) (p : Position) → M ≡ environment_counters (separated_of g)
      → e ≡ get_or l (1 + ((p.input.0 * M + p.counter) * g.output.states + p.output.0)) none_entry → e ≡ panel_row_entry g l p
  unfolding panel_row_entry
  row_read M e p m q = q ∙ ap (λ (k : ℕ). get_or l (1 + ((p.input.0 * k + p.counter) * g.output.states + p.output.0)) none_entry) m

  -- the move that an entry names, its input tested alone
  pub start_picked : (M e : ℕ) (i : InState) (b : Bool) (r : Picked) → e ≡ get_or l 0 none_entry → i ≡ named_input e → b ≡ begins (graph_of g.input) i.0
      → M ≡ environment_counters (separated_of g) → r ≡ picks M (λ s. b) (answer e) → r ≡ start_move g l
  unfolding start_move environment_of environment_table
  start_picked M e i b r q n t m s =
      let ok = begins (graph_of g.input) in
      s
      ∙ ap (λ (x : Bool). picks M (λ y. x) (answer e)) (t ∙ ap (λ (j : InState). ok j.0) n)
      ∙ picks_as M ok e
      ∙ ap (λ (k : ℕ). picks k ok (answer e)) m
      ∙ ap (λ (k : ℕ). picks (environment_counters (separated_of g)) ok (answer k)) q

  pub row_picked : (p : Position) (M e : ℕ) (i : InState) (b : Bool) (r : Picked) → e ≡ panel_row_entry g l p → i ≡ named_input e
      → b ≡ edge (graph_of g.input) p.input.0 i.0 → M ≡ environment_counters (separated_of g) → r ≡ picks M (λ s. b) (answer e)
      → r ≡ row_move g l p
  unfolding row_move panel_row_entry environment_of environment_table
  row_picked p M e i b r q n t m s =
      let ok = edge (graph_of g.input) p.input.0 in
      s
      ∙ ap (λ (x : Bool). picks M (λ y. x) (answer e)) (t ∙ ap (λ (j : InState). ok j.0) n)
      ∙ picks_as M ok e
      ∙ ap (λ (k : ℕ). picks k ok (answer e)) m
      ∙ ap (λ (k : ℕ). picks (environment_counters (separated_of g)) ok (answer k)) q

-- ---- the start

module _ (g : Game) (l : List ℕ) where
  pub first_length : panel_fitting g l ≡ false → Err OtherTable ≡ first_move g l
  unfolding first_move
  first_length h = granted_refused OtherTable (start_move g l) h

  pub first_at : (r : Picked) → panel_fitting g l ≡ true → r ≡ start_move g l → r ≡ first_move g l
  unfolding first_move
  first_at r h q = q ∙ granted_held OtherTable (start_move g l) h

module _ (g : Game) (l : List ℕ) (o : OutState) where
  -- the answer where the table fits
  unfoldable opened : Played
  opened = provided (begins (graph_of g.output) o.0) NotAllowed (position_with o (start_move g l))

  pub begin_length : panel_fitting g l ≡ false → Err OtherTable ≡ first_place g l o
  unfolding first_place opened
  begin_length h = refused OtherTable opened h

  pub begin_output : panel_fitting g l ≡ true → begins (graph_of g.output) o.0 ≡ false → Err NotAllowed ≡ first_place g l o
  unfolding first_place opened
  begin_output h b = refused NotAllowed (position_with o (start_move g l)) b ∙ held OtherTable opened h

  pub begin_at : panel_fitting g l ≡ true → begins (graph_of g.output) o.0 ≡ true → (m : Picked) (r : Played) → m ≡ start_move g l → r ≡ position_with o m
      → r ≡ first_place g l o
  unfolding first_place opened
  begin_at h b m r q s = s ∙ ap (position_with o) q ∙ held NotAllowed (position_with o (start_move g l)) b ∙ held OtherTable opened h

-- ---- a step

module _ (g : Game) (l : List ℕ) (p : Position) where
  -- the table and the position fit
  abbrev there : Bool
  there = panel_fitting g l && has_position g (environment_counters (separated_of g)) p

  pub not_fitting : panel_fitting g l ≡ false → there ≡ false
  not_fitting h = and_false_left (has_position g (environment_counters (separated_of g)) p) h

  module _ (M : ℕ) (m : M ≡ environment_counters (separated_of g)) where
    pub not_there : has_position g M p ≡ false → there ≡ false
    not_there h = and_false_right (panel_fitting g l) (ap (λ (k : ℕ). has_position g k p) (sym m) ∙ h)

    pub both_hold : panel_fitting g l ≡ true → has_position g M p ≡ true → there ≡ true
    both_hold f h = and_intro f (ap (λ (k : ℕ). has_position g k p) (sym m) ∙ h)

  pub next_refused : there ≡ false → Err OtherTable ≡ next_move g l p
  unfolding next_move
  next_refused h = granted_refused OtherTable (row_move g l p) h

  pub next_at : (r : Picked) → there ≡ true → r ≡ row_move g l p → r ≡ next_move g l p
  unfolding next_move
  next_at r h q = q ∙ granted_held OtherTable (row_move g l p) h

  module _ (q : OutState) where
    -- the answer where they do
    unfoldable replied : Played
    replied = provided (edge (graph_of g.output) p.output.0 q.0) NotAllowed (position_with q (row_move g l p))

    pub step_refused : there ≡ false → Err OtherTable ≡ next_place g l p q
    unfolding next_place replied
    step_refused h = refused OtherTable replied h

    pub step_output : there ≡ true → edge (graph_of g.output) p.output.0 q.0 ≡ false → Err NotAllowed ≡ next_place g l p q
    unfolding next_place replied
    step_output h b = refused NotAllowed (position_with q (row_move g l p)) b ∙ held OtherTable replied h

    pub step_at : there ≡ true → edge (graph_of g.output) p.output.0 q.0 ≡ true → (m : Picked) (r : Played) → m ≡ row_move g l p → r ≡ position_with q m
        → r ≡ next_place g l p q
    unfolding next_place replied
    step_at h b m r e s = s ∙ ap (position_with q) e ∙ held NotAllowed (position_with q (row_move g l p)) b ∙ held OtherTable replied h

-- ---- acceptance first

pub pick_refused : {a : Acceptance} (m : Picked) (n : Refusal) → a ≡ Err n → Err n ≡ pick_after a m
unfolding pick_after
pick_refused m n e = rw (e, pick_after)

pub pick_accepted : {a : Acceptance} (m : Picked) → a ≡ accepted → m ≡ pick_after a m
unfolding pick_after
pick_accepted m e = rw (e, pick_after)

pub play_refused : {a : Acceptance} (p : Played) (n : Refusal) → a ≡ Err n → Err n ≡ after_acceptance a p
unfolding after_acceptance
play_refused p n e = rw (e, after_acceptance)

pub play_accepted : {a : Acceptance} (p : Played) → a ≡ accepted → p ≡ after_acceptance a p
unfolding after_acceptance
play_accepted p e = rw (e, after_acceptance)

-- ---- the numbers

granted_number : (b : Bool) (r : Refusal) (a : Picked) (ts : List (ℕ × Bool)) → panel_number a ≡ first_of ts → panel_number (granted b r a) ≡ first_of ((number r, b) ∷ ts)
unfolding granted first_of
granted_number true r a ts h = h
granted_number false r a ts h = refl

picks_number : (M : ℕ) (ok : ℕ → Bool) (a : Answer) → panel_number (picks M ok a) ≡ first_of ((15, names M ok a) ∷ [])
unfolding picks names first_of
picks_number M ok none = refl
picks_number M ok (gives c s) = granted_number (ltb c M && ok s) BadEntry (Ok (record { input = record { 0 = s }; counter = c })) [] refl

joined_number : (o : OutState) (a : Picked) → place.player_number (position_with o a) ≡ panel_number a
unfolding position_with
joined_number o (Ok m) = refl
joined_number o (Err n) = refl

picked_number : (a : Acceptance) (m : Picked) (n : ℕ) → panel_number m ≡ n → panel_number (pick_after a m) ≡ after a n
unfolding pick_after
picked_number (Ok u) m n h = h
picked_number (Err k) m n h = refl

module _ (g : Game) (l : List ℕ) where
  start_number : panel_number (start_move g l) ≡ first_of ((15, start_names g l) ∷ [])
  unfolding start_move start_names
  start_number = picks_number (environment_counters (separated_of g)) (begins (graph_of g.input)) (environment_of g l).start

  pub picks_first : {r : Picked} → r ≡ panel_first g l → Picks (panel_first_tests g l) (panel_first g l) r
  unfolding panel_first_tests panel_first first_move
  picks_first h = record {
    answer = h;
    number =
        ap panel_number h ∙ picked_number (acceptance g) (first_move g l) _ (granted_number (panel_fitting g l) OtherTable _ _ start_number) ∙ sym (game_after g _);
  }

  pub plays_begin : (o : OutState) {r : Played} → r ≡ panel_begin g l o → Plays (panel_begin_tests g l o) (panel_begin g l o) r
  unfolding panel_begin_tests panel_begin first_place
  plays_begin o h = record {
    answer = h;
    number =
        ap place.player_number h
        ∙ after_number (acceptance g) (first_place g l o) _
        (provided_number (panel_fitting g l) OtherTable _ _
        (provided_number (begins (graph_of g.output) o.0) NotAllowed _ _ (joined_number o (start_move g l) ∙ start_number)))
        ∙ sym (game_after g _);
  }

  module _ (p : Position) where
    row_number : panel_number (row_move g l p) ≡ first_of ((15, row_names g l p) ∷ [])
    unfolding row_move row_names
    row_number =
        picks_number (environment_counters (separated_of g)) (edge (graph_of g.input) p.input.0)
        ((environment_of g l).step p.counter p.input.0 p.output.0)

    pub picks_next : {r : Picked} → r ≡ panel_next g l p → Picks (panel_next_tests g l p) (panel_next g l p) r
    unfolding panel_next_tests panel_next next_move
    picks_next h = record {
      answer = h;
      number =
          ap panel_number h ∙ picked_number (acceptance g) (next_move g l p) _ (granted_number (there g l p) OtherTable _ _ row_number) ∙ sym (game_after g _);
    }

    pub plays_step : (q : OutState) {r : Played} → r ≡ panel_step g l p q → Plays (panel_step_tests g l p q) (panel_step g l p q) r
    unfolding panel_step_tests panel_step next_place
    plays_step q h = record {
      answer = h;
      number =
          ap place.player_number h
          ∙ after_number (acceptance g) (next_place g l p q) _
          (provided_number (there g l p) OtherTable _ _
          (provided_number (edge (graph_of g.output) p.output.0 q.0) NotAllowed _ _ (joined_number q (row_move g l p) ∙ row_number)))
          ∙ sym (game_after g _);
    }
