-- `plain_row`: nothing where a home is in reach, else the lowest move.
use Prim.Native.Nat.{ℕ}
use mathlib.Core.Path.{refl, sym, ◌∙◌, ap}
use Rattle.finite.specs.Bounded.{least}
use Rattle.finite.proofs.Truth.{clash}
use Rattle.bits.specs.Member.{both}
use Rattle.sets.specs.Words.{capacity, bits_of}
use Rattle.controller_rows.proofs.Writes.{row_at_lem, lowest_both}
use Rattle.controller_opening.proofs.unsettled.plain_row.Goals as goal

pub returns-then-member : goal.returns-then-member
returns-then-member c = (
  λ k e. record { written = λ h. clash (sym e ∙ sym c.member.ensures ∙ c.if-member.true) h; kept = λ h. refl },
  refl,
)

pub write_row-requires : goal.write_row-requires
write_row-requires c =
    (c.requires.0, c.requires.1, c.requires.3)

pub returns : goal.returns
returns c =
    let moved = ap (λ (x : ℕ). least capacity (both (bits_of c.args.moves.0) x)) c.region_row-row.ensures in (
      λ k h. record {
        written = λ f. row_at_lem (lowest_both _ _ _ c.intersection.ensures c.lowest-p.ensures ∙ moved) c.write_row.ensures;
        kept = λ f. clash f (sym h ∙ sym c.member.ensures ∙ c.if-member.false);
      },
      c.write_row.ensures.column.long,
    )
