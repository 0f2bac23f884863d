-- `fill` writes the start, then the rows that need no walk, then the others.
use mathlib.Core.Path.{refl}
use lib.ListN.{length-set}
use Rattle.environment_table.proofs.Places.{roomy_more}
use Rattle.environment_table.proofs.Filling.{roomy_of, start_length, filled_all, same_long}
use Rattle.environment.proofs.fill.Goals as goal

pub start_entry-requires : goal.start_entry-requires
start_entry-requires c = c.requires.0.known

pub bounds-room-0 : goal.bounds-room-0
bounds-room-0 c = start_length _ _ _ _ c.requires.0

pub plain_rows-requires : goal.plain_rows-requires
plain_rows-requires c =
    let p = c.requires in
    (p.0.known, roomy_of _ _ _ _ p.0 p.1.environment (simp length-set), refl, refl)

pub walked_rows-requires : goal.walked_rows-requires
walked_rows-requires c =
    let p = c.requires in
    (p.0.known, roomy_more _ (roomy_of _ _ _ _ p.0 p.1.environment (simp length-set)) c.plain_rows.ensures, p.1, refl, refl, p.2)

pub shape_of-room : goal.shape_of-room
shape_of-room c =
    same_long _ _ _ _ c.requires.0 c.args.room.now _ _ _ refl c.start_entry.ensures c.plain_rows.ensures c.walked_rows.ensures

pub returns : goal.returns
returns c =
    filled_all _ _ _ _ c.requires.0 _ _ _ _ refl c.start_entry.ensures c.plain_rows.ensures c.walked_rows.ensures
