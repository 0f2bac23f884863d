-- `check_accepted` meets its contract.
use native.Mathlib.Omega.{arith}
use Rattle.checker.proofs.Made.{entries_counted, ready, misfit, many, short, checked}
use Rattle.checker.proofs.check_accepted.Goals as goal

pub controller_length-length-requires : goal.controller_length-length-requires
controller_length-length-requires c = c.requires

pub returns-then-table-length : goal.returns-then-table-length
returns-then-table-length c =
    misfit _ _ _ c.requires c.controller_length-length.ensures c.if-table-length.true

pub overflow_sub-places : goal.overflow_sub-places
overflow_sub-places c =
    omega (arith, c.controller_length-length.ensures, entries_counted c.args.g)

pub returns-then-places-gt-PLACES : goal.returns-then-places-gt-PLACES
returns-then-places-gt-PLACES c =
    many _ _ _ c.requires c.controller_length-length.ensures c.if-table-length.false c.if-places-gt-PLACES.true

pub returns-then-room-lt-WALK : goal.returns-then-room-lt-WALK
returns-then-room-lt-WALK c =
    short _ _ _ c.requires c.controller_length-length.ensures c.if-table-length.false c.if-places-gt-PLACES.false c.if-room-lt-WALK.true

pub controller_counters-requires : goal.controller_counters-requires
controller_counters-requires c =
    c.requires

pub check_table-requires : goal.check_table-requires
check_table-requires c =
    ready _ _ c.requires c.controller_length-length.ensures c.if-table-length.false c.if-places-gt-PLACES.false c.controller_counters.ensures c.if-room-lt-WALK.false

pub shape_of-room : goal.shape_of-room
shape_of-room c = c.check_table.ensures.long

pub returns : goal.returns
returns c =
    checked _ _ _ c.requires c.controller_length-length.ensures c.if-table-length.false c.if-places-gt-PLACES.false c.if-room-lt-WALK.false c.check_table.ensures
