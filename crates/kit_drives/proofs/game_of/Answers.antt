-- `game_of` takes both graphs.
use mathlib.Core.Path.{ap₂}
use Rattle.game.specs.declared.Graph.{Graph}
use Rattle.kit_drives.specs.Drive.{game_from}
use Rattle.kit_drives.proofs.game_of.Goals as goal

pub returns : goal.returns
unfolding game_from
returns c =
    let k = c.args.k in
    ap₂ (λ (x y : Graph). record { input = x; output = y; k = k.k; requirements = k.requirements }) c.graph_of-input.ensures
    c.graph_of-output.ensures
