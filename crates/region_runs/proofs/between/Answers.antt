-- `between`: the states below j are taken out, and those from k on.
use mathlib.Core.Path.{◌∙◌, ap, ap₂}
use mathlib.Core.Bool.{Bool, ◌&&◌, not}
use Rattle.finite.proofs.Truth.{and_assoc}
use Rattle.bits.specs.Member.{has}
use Rattle.sets.specs.Words.{bits_of}
use Rattle.region_runs.proofs.between.Goals as goal

pub returns : goal.returns
returns c t =
    let x = has (bits_of c.args.x) t in
    c.intersection.ensures t
    ∙ ap₂ (λ (p q : Bool). p && q) (c.difference.ensures t ∙ ap (λ (p : Bool). x && not p) (c.below.ensures t)) (c.below-2.ensures t)
    ∙ and_assoc x _ _
