-- The answer of a call that writes a map: its number, and what becomes of the map.
--
--   map_number r           == document 01's number of the answer r, 0 for a map that is made
--   MapAfter g r m m'     == on answer r the map m is left as m'
use Rattle.std.specs.Prelude.{ℕ, ◌≡◌, List}
use Rattle.game.specs.Refusals.{number}
use Rattle.game.specs.declared.Game.{Game}
use Rattle.map_marks.specs.Mapped.{Mapped}
use Rattle.map_marks.specs.Marks.{MapFilled}
use Rattle.std.specs.declared.result.Result.TheVariants.{Ok, Err}

abbrev pub map_number : Mapped → ℕ
map_number (Ok u) = 0
map_number (Err r) = number r

-- "The won map writes one 64-bit set of outputs for each input", of two words by M-105; "later words of its room stay unchanged"; "changes no lent memory"
-- SPEC 7.6
unfoldable pub MapAfter : Game → Mapped → List ℕ → List ℕ → Type 0
MapAfter g (Ok u) m m' = MapFilled g m m'
MapAfter g (Err n) m m' = m' ≡ m
