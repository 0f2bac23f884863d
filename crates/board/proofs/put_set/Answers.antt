-- `put_set` writes both words.
use native.Mathlib.Omega.{arith}
use Rattle.board.proofs.Laying.{set_put}
use Rattle.board.proofs.put_set.Goals as goal

pub returns : goal.returns
returns c = set_put _ c.args.s _ (omega (arith, c.requires.1))
