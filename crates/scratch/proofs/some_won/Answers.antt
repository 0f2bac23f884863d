-- `some_won` looks for a home in what the outputs reach, or for one of them in the row of j.
use mathlib.Core.Path.{sym, ◌∙◌, ap}
use Prim.Native.Nat.{ℕ}
use Rattle.bits.specs.Member.{sets_meet}
use Rattle.sets.specs.Words.{capacity, bits_of}
use Rattle.scratch.proofs.Read.{some_won_in, some_won_out}
use native.Mathlib.Omega.{arith}
use Rattle.scratch.proofs.some_won.Goals as goal

pub returns-then-member : goal.returns-then-member
returns-then-member c =
    let read = ap (λ (x : ℕ). sets_meet capacity x (bits_of c.args.z.0)) c.region_row-homes.ensures in
    some_won_in _ _ _ _ _ _ _ c.requires.4 (sym c.member.ensures ∙ c.if-member.true) (c.meets.ensures ∙ read)

pub returns : goal.returns
returns c =
    let read = ap (λ (x : ℕ). sets_meet capacity x (bits_of c.args.y.0)) c.region_row-homes.ensures in
    some_won_out _ _ _ _ _ _ _ c.requires.4 (omega arith) (sym c.member.ensures ∙ c.if-member.false) (c.meets-2.ensures ∙ read)
