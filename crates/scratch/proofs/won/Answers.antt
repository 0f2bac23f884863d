-- `won` reads one row or two.
use mathlib.Core.Path.{sym, ◌∙◌, ap, ap₂}
use Prim.Native.Nat.{ℕ}
use Rattle.bits.specs.Member.{has, sets_meet}
use Rattle.sets.specs.Words.{capacity}
use Rattle.scratch.proofs.Read.{won_in, won_out}
use Rattle.scratch.proofs.won.Goals as goal

pub returns-then-member : goal.returns-then-member
returns-then-member c =
    let read = ap₂ (λ (x y : ℕ). sets_meet capacity x y) c.region_row-homes.ensures c.out_reach-reach.ensures in
    won_in _ _ _ _ _ (sym c.member.ensures ∙ c.if-member.true) (c.meets.ensures ∙ read)

pub returns : goal.returns
returns c =
    let read = ap (λ (x : ℕ). has x c.args.o.0) c.region_row-homes.ensures in
    won_out _ _ _ _ _ (sym c.member.ensures ∙ c.if-member.false) (c.member-2.ensures ∙ read)
