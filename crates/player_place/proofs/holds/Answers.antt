-- `holds` compares first, so that the set is asked of its states only.
use Rattle.finite.proofs.Loops.{and_stop, and_next}
use borrow.Author.Tests.{lt-ltb, le-ltb}
use Rattle.player_place.proofs.holds.Goals as goal

pub returns-then-s-n : goal.returns-then-s-n
returns-then-s-n c = and_stop _ (le-ltb _ _ c.if-s-n.true)

pub returns : goal.returns
returns c = and_next (lt-ltb _ _ c.if-s-n.false) c.member.ensures
