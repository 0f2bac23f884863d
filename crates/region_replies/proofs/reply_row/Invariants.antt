-- `reply_row`. The outer loop: x are the outputs that answer the next inputs, but those of `rest`. The inner one looks at those that are left, and leaves the
-- outer one where none answers.
use Rattle.finite.specs.Bounded.{count}
use Rattle.bits.specs.Member.{has}
use Rattle.sets.specs.Words.{capacity, bits_of, sets_in}
use Rattle.board.specs.Board.{out_rows}
use Rattle.scratch.specs.Stored.{WonKept}
use Rattle.scratch.proofs.Narrow.{Narrowed}
use Rattle.region_replies.specs.Replies.{Held}
use Rattle.region_replies.proofs.Answers.{answered}
use Rattle.region_replies.proofs.Answers.{Looking}
use Rattle.region_replies.proofs.reply_row.Given as goal

abbrev pub invariant-loop-left : goal.invariant-loop-left
invariant-loop-left l = Looking (sets_in (out_rows l.b)) (bits_of l.won.0) (bits_of l.initial.left) (bits_of l.initial.x) (bits_of l.left) (bits_of l.x)

abbrev pub decreases-loop-left : goal.decreases-loop-left
decreases-loop-left l = count capacity (has (bits_of l.left))

abbrev pub invariant-inputs : goal.invariant-inputs
invariant-inputs l =
    WonKept (sets_in l.s) l.n l.m l.k
    × Narrowed (answered (sets_in l.s) l.n (bits_of l.c.0) (sets_in (out_rows l.b)) l.m) l.n l.m (bits_of l.initial.j-iterator.rest) (bits_of l.initial.x) (bits_of l.j-iterator.rest) (bits_of l.x)
    × Held (sets_in (out_rows l.b)) (bits_of l.last.0) (bits_of l.x)
