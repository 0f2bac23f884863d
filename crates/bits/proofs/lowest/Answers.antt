-- `lowest`: the zeros under the lowest set digit are the lowest member.
use Rattle.bits.proofs.Compare.{lowest_word}
use Rattle.bits.proofs.lowest.Goals as goal

pub returns : goal.returns
returns c = lowest_word 64 c.args.x
