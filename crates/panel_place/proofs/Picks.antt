-- What the panel's move is: one law for each return, and what it says where it is one.
--
--   picks_as      : only the input that the entry names is tested
--   picked        : a move that is picked is the one that the answer names
--   picks_some    : where the answer names one, that is picked
use Prim.Native.Nat.{ℕ, ◌≤◌, ◌<◌}
use mathlib.Core.Path.{◌≡◌, refl, sym, ◌∙◌, ap, subst}
use mathlib.Core.Bool.{Bool, true, false, ◌&&◌}
use mathlib.Core.Logic.{◌≢◌}
use native.Mathlib.Omega.{arith}
use native.Mathlib.Decide.{ℕ_discrete}
use lib.Dec.{ltb}
use borrow.Author.Tests.{ltb-true, lt-ltb, le-ltb}
use Rattle.finite.proofs.Truth.{and_intro, and_left, and_right, and_false_left, and_false_right}
use Rattle.arena.specs.Table.{Answer, none, gives, Names}
use Rattle.theory.specs.Entries.{none_entry, entry_state, entry_counter, answer}
use Rattle.game.specs.declared.OutState.{OutState}
use Rattle.table_entries.proofs.Packed.{answer_none, answer_read}
use Rattle.player_place.specs.declared.Position.{Position}
use Rattle.panel_place.specs.declared.PanelMove.{PanelMove}
use Rattle.panel_place.specs.Picked.{Picked}
use Rattle.panel_place.specs.Picks.{granted, picks, position_with}
use Rattle.std.specs.declared.result.Result.TheVariants.{Ok, Err}
use Rattle.game.specs.declared.Refusal.{Refusal}
use Rattle.game.specs.declared.Refusal.TheVariants.{BadEntry}

-- ---- one test after the other

pub granted_held : {b : Bool} (n : Refusal) (a : Picked) → b ≡ true → a ≡ granted b n a
unfolding granted
granted_held n a e = rw (e, granted)

pub granted_refused : {b : Bool} (n : Refusal) (a : Picked) → b ≡ false → Err n ≡ granted b n a
unfolding granted
granted_refused n a e = rw (e, granted)

-- ---- an entry

module _ (M : ℕ) (ok : ℕ → Bool) (e : ℕ) where
  pub pick_none : e ≡ none_entry → Err BadEntry ≡ picks M ok (answer e)
  unfolding picks
  pick_none h = ap (picks M ok) (answer_none e h)

  module _ {c s : ℕ} (h : e ≢ none_entry) (p : c ≡ entry_counter e) (q : s ≡ entry_state e) where
    some : picks M ok (gives c s) ≡ picks M ok (answer e)
    some = ap (picks M ok) (answer_read e h p q)

    unfoldable there : Picked
    there = Ok (record { input = record { 0 = s }; counter = c })

    pub pick_counter : M ≤ c → Err BadEntry ≡ picks M ok (answer e)
    unfolding picks there
    pick_counter b = granted_refused BadEntry there (and_false_left (ok s) (le-ltb c M b)) ∙ some

    pub pick_input : ok s ≡ false → Err BadEntry ≡ picks M ok (answer e)
    unfolding picks there
    pick_input f = granted_refused BadEntry there (and_false_right (ltb c M) f) ∙ some

    pub pick_to : c < M → ok s ≡ true → Ok (record { input = record { 0 = s }; counter = c }) ≡ picks M ok (answer e)
    unfolding picks there
    pick_to b f = granted_held BadEntry there (and_intro (lt-ltb c M b) f) ∙ some

  pub picks_as : picks M (λ s. ok (entry_state e)) (answer e) ≡ picks M ok (answer e)
  unfolding picks
  picks_as = elim (ℕ_discrete e none_entry) [
    | yes h ↦ ap (picks M (λ s. ok (entry_state e))) (sym (answer_none e h)) ∙ ap (picks M ok) (answer_none e h)
    | no h ↦ ap (picks M (λ s. ok (entry_state e))) (sym (answer_read e h refl refl)) ∙ ap (picks M ok) (answer_read e h refl refl)
  ]

-- ---- what an answer says

granted_from : (b : Bool) (n : Refusal) (a : Picked) (m : PanelMove) → granted b n a ≡ Ok m → (b ≡ true) × (a ≡ Ok m)
unfolding granted
granted_from true n a m e = (refl, e)
granted_from false n a m e = absurd (let z : ◌≡◌ {A = ℕ} 0 1 = cc in omega arith)

module _ (M : ℕ) (ok : ℕ → Bool) where
  unfoldable to : ℕ → ℕ → PanelMove
  to c s = record { input = record { 0 = s }; counter = c }

  picked_there : (c s : ℕ) → (ltb c M && ok s) ≡ true → Names M ok (gives c s) (to c s).counter (to c s).input.0
  unfolding to
  picked_there c s h = record { is = refl; memory = ltb-true c M (and_left (ltb c M) (ok s) h); state = and_right (ltb c M) (ok s) h }

  pub picked : (a : Answer) (m : PanelMove) → picks M ok a ≡ Ok m → Names M ok a m.counter m.input.0
  unfolding picks to
  picked none m e = absurd (let z : ◌≡◌ {A = ℕ} 0 1 = cc in omega arith)
  picked (gives c s) m e =
      let v = granted_from (ltb c M && ok s) BadEntry (Ok (to c s)) m e in
      let q : to c s ≡ m = cc v.1 in
      subst (λ (k : PanelMove). Names M ok (gives c s) k.counter k.input.0) q (picked_there c s v.0)

  pub picks_some : (a : Answer) (c s : ℕ) → Names M ok a c s → picks M ok a ≡ Ok (record { input = record { 0 = s }; counter = c })
  unfolding picks to
  picks_some a c s v = ap (picks M ok) v.is ∙ sym (granted_held BadEntry (Ok (to c s)) (and_intro (lt-ltb c M v.memory) v.state))

-- a position that a move and an output make
pub record Joined (o : OutState) (a : Picked) (p : Position) : Type 0 where
  pub move : a ≡ Ok (record { input = p.input; counter = p.counter })
  pub output : p.output ≡ o

unfoldable place : OutState → PanelMove → Position
place o m = record { input = m.input; output = o; counter = m.counter }

pub joined_from : (o : OutState) (a : Picked) (p : Position) → position_with o a ≡ Ok p → Joined o a p
unfolding position_with place
joined_from o (Ok m) p e =
    let q : place o m ≡ p = cc in
    subst (Joined o (Ok m)) q (record { move = refl; output = refl })
joined_from o (Err n) p e = absurd (let z : ◌≡◌ {A = ℕ} 0 1 = cc in omega arith)
