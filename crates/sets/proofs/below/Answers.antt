-- `below` meets its contract.
use mathlib.Core.Path.{refl, ◌∙◌}
use native.Mathlib.Omega.{arith}
use borrow.Author.Tests.{lt-ltb}
use Rattle.bits.proofs.Membership.{has_below}
use Rattle.sets.specs.Words.{bits_of}
use Rattle.sets.proofs.Pair.{pair_below_low, pair_below_high}
use Rattle.sets.proofs.below.Goals as goal

pub returns-then-n-lt64 : goal.returns-then-n-lt64
unfolding bits_of
returns-then-n-lt64 c = pair_below_low _ 0 (omega arith) c.args.n (omega arith) refl c.below.ensures

pub returns : goal.returns
unfolding bits_of
returns c =
    pair_below_high _ _ (omega arith) c.args.n (omega arith) (λ t b. has_below 64 t ∙ lt-ltb t 64 b) c.below-2.ensures
