-- The answer to a file: the game, or why it is not read.
use Rattle.std.specs.Prelude.{Result}
use Rattle.game.specs.declared.Game.{Game}
use Rattle.text.specs.declared.Unread.{Unread}

abbrev pub Reading : Type 0
Reading = Result Game Unread
