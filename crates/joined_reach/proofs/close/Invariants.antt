-- `close`.
use Prim.Native.Nat.{◌*◌, ◌-◌}
use Rattle.joined_reach.proofs.Rows.{Closed, followed_count}
use Rattle.joined_reach.proofs.close.Given as goal

abbrev pub invariant-loop-waiting : goal.invariant-loop-waiting
invariant-loop-waiting l = Closed l.g l.row l.output l.initial.s l.waiting.0 l.s

abbrev pub decreases-loop-waiting : goal.decreases-loop-waiting
decreases-loop-waiting l = l.g.input.states * l.g.output.states - followed_count l.g l.s
