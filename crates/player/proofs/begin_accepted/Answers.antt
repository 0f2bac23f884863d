-- `begin_accepted` tests the length, the input and the entry in order.
use Rattle.finite.proofs.Loops.{failed, passed}
use Rattle.player.proofs.Answers.{fits, fits_not, begun_length, begun_input, begun_at}
use Rattle.player.proofs.begin_accepted.Goals as goal

pub returns-then-table-controller_length : goal.returns-then-table-controller_length
returns-then-table-controller_length c = begun_length _ _ _ (fits_not _ _ _ c.controller_length.ensures c.if-table-controller_length.true)

pub returns-then-not-begins_with : goal.returns-then-not-begins_with
returns-then-not-begins_with c =
    begun_input _ _ _
    (fits _ _ _ c.controller_length.ensures c.if-table-controller_length.false)
    (failed c.begins_with.ensures c.if-not-begins_with.true-raw)

pub returns : goal.returns
returns c =
    begun_at _ _ _ c.requires
    (fits _ _ _ c.controller_length.ensures c.if-table-controller_length.false)
    (passed c.begins_with.ensures c.if-not-begins_with.false-raw)
    _ _ _ _ c.controller_counters-counters.ensures c.start.ensures c.out_initial.ensures c.arrive.ensures
