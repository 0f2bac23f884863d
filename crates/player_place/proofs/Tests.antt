-- What the tests of a position and of an entry answer: one law for each return.
use Prim.Native.Nat.{ℕ, ◌≤◌, ◌<◌}
use mathlib.Core.Path.{◌≡◌, refl, ◌∙◌, ap}
use mathlib.Core.Bool.{Bool, true, false, ◌&&◌}
use mathlib.Core.Logic.{◌≢◌}
use lib.Dec.{ltb}
use borrow.Author.Tests.{ltb-true, lt-ltb, le-ltb}
use Rattle.finite.proofs.Truth.{and_intro, and_left, and_right, and_false_left, and_false_right}
use Rattle.finite.proofs.Loops.{and_stop, and_next}
use Rattle.arena.specs.Table.{gives}
use Rattle.game.specs.declared.InState.{InState}
use Rattle.game.specs.declared.Game.{Game}
use Rattle.theory.specs.Entries.{none_entry, entry_state, entry_counter, answer}
use Rattle.table_entries.proofs.Packed.{answer_none, answer_read}
use Rattle.player_place.specs.declared.Position.{Position}
use Rattle.player_place.specs.Played.{Played}
use Rattle.player_place.specs.Place.{provided, arrives, has_position}
use Rattle.std.specs.declared.result.Result.TheVariants.{Ok, Err}
use Rattle.game.specs.declared.Refusal.{Refusal}
use Rattle.game.specs.declared.Refusal.TheVariants.{BadEntry}

-- ---- one test after the other

pub held : {b : Bool} (n : Refusal) (p : Played) → b ≡ true → p ≡ provided b n p
unfolding provided
held n p e = rw (e, provided)

pub refused : {b : Bool} (n : Refusal) (p : Played) → b ≡ false → Err n ≡ provided b n p
unfolding provided
refused n p e = rw (e, provided)

-- ---- an entry

module _ (M : ℕ) (ok : ℕ → Bool) (i : InState) (e : ℕ) where
  pub arrive_none : e ≡ none_entry → Err BadEntry ≡ arrives M ok i (answer e)
  unfolding arrives
  arrive_none h = ap (arrives M ok i) (answer_none e h)

  module _ {c s : ℕ} (h : e ≢ none_entry) (p : c ≡ entry_counter e) (q : s ≡ entry_state e) where
    some : arrives M ok i (gives c s) ≡ arrives M ok i (answer e)
    some = ap (arrives M ok i) (answer_read e h p q)

    unfoldable there : Played
    there = Ok (record { input = i; output = record { 0 = s }; counter = c })

    pub arrive_counter : M ≤ c → Err BadEntry ≡ arrives M ok i (answer e)
    unfolding arrives there
    arrive_counter b = refused BadEntry there (and_false_left (ok s) (le-ltb c M b)) ∙ some

    pub arrive_output : c < M → ok s ≡ false → Err BadEntry ≡ arrives M ok i (answer e)
    unfolding arrives there
    arrive_output b f = refused BadEntry there (and_false_right (ltb c M) f) ∙ some

    pub arrive_at : c < M → ok s ≡ true → Ok (record { input = i; output = record { 0 = s }; counter = c }) ≡ arrives M ok i (answer e)
    unfolding arrives there
    arrive_at b f = held BadEntry there (and_intro (lt-ltb c M b) f) ∙ some

-- ---- a position

module _ (g : Game) (M : ℕ) (p : Position) where
  pub input_past : g.input.states ≤ p.input.0 → false ≡ has_position g M p
  unfolding has_position
  input_past a = and_stop (ltb p.output.0 g.output.states && ltb p.counter M) (le-ltb p.input.0 g.input.states a)

  pub output_past : p.input.0 < g.input.states → g.output.states ≤ p.output.0 → false ≡ has_position g M p
  unfolding has_position
  output_past a b =
      and_next (lt-ltb p.input.0 g.input.states a)
      (and_stop (ltb p.counter M) (le-ltb p.output.0 g.output.states b))

  pub counter_last : p.input.0 < g.input.states → p.output.0 < g.output.states → ltb p.counter M ≡ has_position g M p
  unfolding has_position
  counter_last a b =
      and_next (lt-ltb p.input.0 g.input.states a) (and_next (lt-ltb p.output.0 g.output.states b) refl)

  pub position_in : has_position g M p ≡ true → (p.input.0 < g.input.states) × (p.output.0 < g.output.states) × (p.counter < M)
  unfolding has_position
  position_in h =
      let q = and_right (ltb p.input.0 g.input.states) (ltb p.output.0 g.output.states && ltb p.counter M) h in (
        ltb-true p.input.0 g.input.states (and_left (ltb p.input.0 g.input.states)
            (ltb p.output.0 g.output.states && ltb p.counter M) h),
        ltb-true p.output.0 g.output.states (and_left (ltb p.output.0 g.output.states) (ltb p.counter M) q),
        ltb-true p.counter M (and_right (ltb p.output.0 g.output.states) (ltb p.counter M) q),
      )
