-- `won_count` meets its contract.
use mathlib.Core.Path.{refl}
use Rattle.table_sizes.proofs.Lengths.{inputs_most, outputs_most}
use Rattle.catalogue_verdict.proofs.Counting.{map_long, map_census}
use Rattle.catalogue_verdict.proofs.won_count.Goals as goal

pub map_count-requires : goal.map_count-requires
map_count-requires c =
    let a = c.requires in
    (map_long _ _ a c.won_map.auto.map, inputs_most _ a, outputs_most _ a)

pub returns : goal.returns
returns c =
    (map_census c.requires c.won_map.ensures refl refl c.map_count.ensures.0, c.map_count.ensures.1)
