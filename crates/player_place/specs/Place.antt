-- The player's position, and what its tests answer.
--
--   provided b r p            == p where b holds; else the refusal r
--   arrives M ok i a          == the position that the answer a gives after input i, if it names one of M counters and an output that is allowed
--   names M ok a              == the answer a names one of M counters and an output that is allowed
--   player_number a            == document 01's number of the player's answer a, 0 for a position
--   has_position g M p         == the game has the position p, there being M counters
use Rattle.std.specs.Prelude.{ℕ, Bool, true, false, ◌&&◌, ltb}
use Rattle.arena.specs.Table.{Answer, none, gives}
use Rattle.game.specs.declared.Refusal.{Refusal}
use Rattle.game.specs.Refusals.{number}
use Rattle.game.specs.declared.InState.{InState}
use Rattle.game.specs.declared.Game.{Game}
use Rattle.player_place.specs.declared.Position.{Position}
use Rattle.player_place.specs.Played.{Played}
use Rattle.std.specs.declared.result.Result.TheVariants.{Ok, Err}
use Rattle.game.specs.declared.Refusal.TheVariants.{BadEntry}

unfoldable pub provided : Bool → Refusal → Played → Played
provided true r p = p
provided false r p = Err r

-- "15 the row is none, or names a counter out of range or an output that is no move (at the start, not initial)" (SPEC 10.2)
unfoldable pub arrives : ℕ → (ℕ → Bool) → InState → Answer → Played
unfolding provided
arrives M ok i none = Err BadEntry
arrives M ok i (gives c s) = provided (ltb c M && ok s) BadEntry (Ok (record { input = i; output = record { 0 = s }; counter = c }))

unfoldable pub names : ℕ → (ℕ → Bool) → Answer → Bool
names M ok none = false
names M ok (gives c s) = ltb c M && ok s

abbrev pub player_number : Played → ℕ
player_number (Ok p) = 0
player_number (Err r) = number r

-- "or a place the game lacks" (SPEC 10.2)
unfoldable pub has_position : Game → ℕ → Position → Bool
has_position g M p = ltb p.input.0 g.input.states && (ltb p.output.0 g.output.states && ltb p.counter M)
