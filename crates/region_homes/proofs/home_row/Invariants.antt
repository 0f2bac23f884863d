-- `home_row`. Invariant: y are the members of `among` that are won with the members of x, but those of `rest`.
use Rattle.sets.specs.Words.{bits_of, sets_in}
use Rattle.scratch.specs.Stored.{won_at, WonKept}
use Rattle.scratch.proofs.Narrow.{Narrowed}
use Rattle.region_homes.proofs.home_row.Given as goal

abbrev pub invariant-loop-j : goal.invariant-loop-j
invariant-loop-j l =
    WonKept (sets_in l.s) l.n l.m l.k
    × Narrowed (won_at (sets_in l.s) l.n (bits_of l.c.0)) l.n l.m (bits_of l.fn.x.0) (bits_of l.initial.y) (bits_of l.j-iterator.rest) (bits_of l.y)
