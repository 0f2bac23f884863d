-- `leaving` takes the set itself away from what its moves enter.
use mathlib.Core.Path.{◌∙◌, ap}
use mathlib.Core.Bool.{Bool, ◌&&◌, not}
use Rattle.bits.specs.Member.{has}
use Rattle.sets.specs.Words.{bits_of}
use Rattle.graph_components.proofs.leaving.Goals as goal

pub returns : goal.returns
returns c =
    λ t. c.difference.ensures t ∙ ap (λ (b : Bool). b && not (has (bits_of c.args.c) t)) (c.entering.ensures t)
