-- What the writer of a table reads of a game besides its counts and the rows of its graphs.
--
--   Outlined g o      == o has how many sets each requirement of g has, and how many counters both its tables
use Rattle.std.specs.Prelude.{◌≡◌}
use Rattle.game.specs.declared.Game.{Game}
use Rattle.game_sets.specs.Lists.{Counts}
use Rattle.play.specs.Play.{separated_of}
use Rattle.theory.specs.Entries.{controller_counters, environment_counters}
use Rattle.table_sizes.specs.declared.Outline.{Outline}

pub record Outlined (g : Game) (o : Outline) : Type 0 where
  pub counts : Counts g o.assumed o.guaranteed
  pub controller : o.controller ≡ controller_counters (separated_of g)
  pub environment : o.environment ≡ environment_counters (separated_of g)
