-- The panel's move by its table: "its step gives memory and input move from memory, input and output".
--
--   granted b r a     == a where b holds; else the refusal r
--   named_input e      == the input that the entry e names, if it is not none
--   picks M ok a      == the move that the answer a names, if it names one of M counters and an input that is allowed
--   position_with o a  == the position that the move a makes with the output o
--   panel_number a     == document 01's number of the answer a, 0 for a move
use Rattle.std.specs.Prelude.{ℕ, Bool, true, false, ◌&&◌, ltb}
use Rattle.arena.specs.Table.{Answer, none, gives}
use Rattle.theory.specs.Entries.{entry_state}
use Rattle.game.specs.declared.Refusal.{Refusal}
use Rattle.game.specs.Refusals.{number}
use Rattle.game.specs.declared.InState.{InState}
use Rattle.game.specs.declared.OutState.{OutState}
use Rattle.player_place.specs.Played.{Played}
use Rattle.panel_place.specs.Picked.{Picked}
use Rattle.std.specs.declared.result.Result.TheVariants.{Ok, Err}
use Rattle.game.specs.declared.Refusal.TheVariants.{BadEntry}

unfoldable pub granted : Bool → Refusal → Picked → Picked
granted true r a = a
granted false r a = Err r

-- "Entries are 16 bits: next state + 128 × next counter" (SPEC 7.1)
abbrev pub named_input : ℕ → InState
named_input e = record { 0 = entry_state e }

-- as for a controller's table: "15 the row is none, or names a counter out of range or an output that is no move (at the start, not initial)" (SPEC 10.2, 10.3)
unfoldable pub picks : ℕ → (ℕ → Bool) → Answer → Picked
unfolding granted
picks M ok none = Err BadEntry
picks M ok (gives c s) = granted (ltb c M && ok s) BadEntry (Ok (record { input = record { 0 = s }; counter = c }))

-- "A position is an input and an output after the system's pick." (SPEC 10.3)
unfoldable pub position_with : OutState → Picked → Played
position_with o (Ok m) = Ok (record { input = m.input; output = o; counter = m.counter })
position_with o (Err n) = Err n

abbrev pub panel_number : Picked → ℕ
panel_number (Ok m) = 0
panel_number (Err r) = number r
