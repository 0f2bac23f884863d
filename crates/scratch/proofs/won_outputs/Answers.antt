-- `won_outputs` keeps nothing.
use Rattle.scratch.proofs.won_outputs.Goals as goal

pub won_next-k-requires : goal.won_next-k-requires
won_next-k-requires c =
    let p = c.requires in
    (p.0, p.1, p.2, p.3, c.won_first.ensures _ _ _)
