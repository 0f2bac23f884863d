-- `firsts`: all inputs, or those at which a run begins.
use native.Mathlib.Omega.{arith}
use Rattle.finite.proofs.Bounded.{count_le}
use Rattle.bits.specs.Member.{has}
use Rattle.sets.specs.Words.{capacity, bits_of}
use Rattle.region_runs.proofs.Runs.{runs_alone}
use Rattle.region_runs.proofs.firsts.Goals as goal

pub overflow_mul-count : goal.overflow_mul-count
overflow_mul-count c =
    let x = c.begun-x.result in
    omega (arith, c.count-2.ensures, count_le capacity (has (bits_of x.0)))

pub returns-then-count : goal.returns-then-count
returns-then-count c =
    runs_alone _ _ _ _ _ c.below.ensures c.intersection-all.ensures
