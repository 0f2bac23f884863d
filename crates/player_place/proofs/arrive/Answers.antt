-- `arrive` tests the entry, its counter and its state in order.
use Rattle.player_place.proofs.Tests.{arrive_none, arrive_counter, arrive_output, arrive_at}
use Rattle.finite.proofs.Loops.{failed, passed}
use Rattle.player_place.proofs.arrive.Goals as goal

pub returns-then-entry-eq-NONE : goal.returns-then-entry-eq-NONE
returns-then-entry-eq-NONE c = arrive_none _ _ _ _ c.if-entry-eq-NONE.true

pub returns-then-counter-counters : goal.returns-then-counter-counters
returns-then-counter-counters c =
    arrive_counter _ _ _ _ c.if-entry-eq-NONE.false c.counter-counter.ensures c.state-state.ensures c.if-counter-counters.true

pub returns-then-not-member : goal.returns-then-not-member
returns-then-not-member c =
    arrive_output _ _ _ _ c.if-entry-eq-NONE.false c.counter-counter.ensures c.state-state.ensures c.if-counter-counters.false
    (failed c.member.ensures c.if-not-member.true-raw)

pub returns : goal.returns
returns c =
    arrive_at _ _ _ _ c.if-entry-eq-NONE.false c.counter-counter.ensures c.state-state.ensures c.if-counter-counters.false
    (passed c.member.ensures c.if-not-member.false-raw)
