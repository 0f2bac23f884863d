-- `write_round` meets its contract.
use mathlib.Core.Path.{refl, ◌∙◌}
use Rattle.checker.proofs.Shown.{first_some, way_fits, round_room, written}
use Rattle.checker.proofs.write_round.Goals as goal

pub unwrap-k-requires : goal.unwrap-k-requires
unwrap-k-requires c = first_some c.requires c.from.ensures _ c.first_at.ensures

pub stem-m-requires : goal.stem-m-requires
stem-m-requires c =
    let A = rw c.unwrap-k.ensures at c.first_at.ensures in
    way_fits c.requires c.from.ensures A refl

pub copy-requires : goal.copy-requires
copy-requires c =
    let A = rw c.unwrap-k.ensures at c.first_at.ensures in
    round_room c.requires c.from.ensures A c.stem-m.ensures

pub shape_of-room : goal.shape_of-room
shape_of-room c =
    c.copy.ensures.long ∙ c.stem-m.ensures.long

pub returns : goal.returns
returns c =
    let A = rw c.unwrap-k.ensures at c.first_at.ensures in
    written c.requires c.from.ensures A c.stem-m.ensures c.copy.ensures
