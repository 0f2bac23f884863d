-- `put_set` meets its contract. The invariant: what is left, with what is done, makes the whole.
use mathlib.Core.Bool.{false}
use Prim.Native.Nat.{◌^◌, ◌<◌}
use Rattle.sets.specs.Words.{capacity, bits_of}
use Rattle.text_put.proofs.Pieces.{set_rest}
use Rattle.text_put.proofs.Buffer.{Remains}
use Rattle.text_put.proofs.put_set.Given as goal

abbrev pub invariant-loop-s : goal.invariant-loop-s
invariant-loop-s l =
    Remains l.initial.buffer l.initial.to (set_rest false (bits_of l.initial.s-iterator.rest)) l.buffer l.to (set_rest l.gap (bits_of l.s-iterator.rest))
    × (bits_of l.s-iterator.rest < 2 ^ capacity)
