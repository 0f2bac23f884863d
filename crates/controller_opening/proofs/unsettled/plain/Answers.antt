-- `plain` writes the rows of one output, leader by leader, unless all of them have a home in reach.
use Prim.Native.Nat.{ℕ, ◌<◌}
use mathlib.Core.Path.{◌≡◌, sym, ◌∙◌}
use mathlib.Core.List.{List}
use native.Mathlib.Omega.{arith}
use Rattle.bits.specs.Member.{has}
use Rattle.sets.specs.Words.{bits_of, sets_in}
use Rattle.sets.proofs.Values.{subset_at}
use Rattle.scratch.specs.Stored.{row_at, out_reach_at}
use Rattle.controller_rows.specs.declared.Size.{Size}
use Rattle.controller_rows.specs.Each.{none}
use Rattle.controller_rows.specs.Writes.{settles_at}
use Rattle.controller_rows.proofs.Each.{each_end}
use Rattle.controller_rows.proofs.Columns.{column_none, column_hit, column_miss, column_below}
use Rattle.controller_rows.proofs.Writes.{table_long, width_few, long_plain, plain_none, plain_led, plain_other, settled_told}
use Rattle.controller_opening.proofs.unsettled.plain.Goals as goal
use Rattle.controller_opening.proofs.unsettled.plain.Goals.{then-member, else-member}

-- x tells of each input whether one of its homes is in reach, k being the inputs in nontrivial components
abbrev Told : List ℕ → Size → ℕ → ℕ → ℕ → Type 0
Told s z o x k = (j : ℕ) → j < z.inputs → has x j ≡ settles_at k j (row_at s z.inputs j) (out_reach_at s z.inputs o)

pub settled-x-requires : goal.settled-x-requires
settled-x-requires c =
    let p = c.requires in
    (p.0.inputs, omega (arith, p.2), p.3)

pub returns-then-is_subset : goal.returns-then-is_subset
returns-then-is_subset c =
    let told_of : let b = c.args in Told (sets_in b.s.now) b.z b.o.0 (bits_of c.settled-x.result.0) (bits_of b.c.0) = let a = c.args in
    settled_told a.z (sets_in a.s.now) (bits_of a.c.0) a.o.0 (bits_of c.settled-x.result.0) c.out_reach-reach.ensures c.settled-x.ensures in
    let p = c.requires in
    plain_none _ _
    (λ j l h. sym (told_of j l) ∙ subset_at _ _ _ (sym c.is_subset.ensures ∙ c.if-is_subset.true) j (omega (arith, l, p.0.inputs)) h)

pub loop-j-init : goal.loop-j-init
loop-j-init c = (omega arith, column_none _, λ k t. record { each = none })

pub plain_row-requires : goal.plain_row-requires
plain_row-requires c =
    let told_of : let b = c.args in Told (sets_in b.s.now) b.z b.o.0 (bits_of c.settled-x.result.0) (bits_of b.c.0) = let a = c.args in
    settled_told a.z (sets_in a.s.now) (bits_of a.c.0) a.o.0 (bits_of c.settled-x.result.0) c.out_reach-reach.ensures c.settled-x.ensures in
    let p = c.requires in
    let i = c.loop-j.invariant in (
      table_long p.0 (long_plain (i.2 _ (told_of))),
      p.1,
      c.loop-j-test.true,
      omega (arith, i.1, column_below c.args.z p.0.columns c.loop-j.j c.loop-j-test.true (sym c.member.ensures ∙ c.if-member.true)),
      p.2,
    )

pub overflow_add-b : goal.overflow_add-b
overflow_add-b c =
    let p = c.requires in
    omega (
      arith,
      c.loop-j.invariant.1,
      width_few c.args.z _ p.0,
      column_below c.args.z p.0.columns c.loop-j.j c.loop-j-test.true (sym c.member.ensures ∙ c.if-member.true),
    )

pub loop-j-preserved : goal.loop-j-preserved
loop-j-preserved c =
    let i = c.loop-j.invariant in (
      omega arith,
      elim c.if-member.branch [
        | then-member w ↦ column_hit _ c.loop-j.j (sym c.member.ensures ∙ w.if-member.true) ∙ omega (arith, i.1, w.b-is)
        | else-member w ↦ column_miss _ c.loop-j.j (sym c.member.ensures ∙ w.if-member.false) ∙ i.1 ∙ sym w.b-is
      ],
      λ k t. elim c.if-member.branch [
        | then-member w ↦ rw w.room-is (plain_led (w.plain_row.ensures.0 k (t c.loop-j.j c.loop-j-test.true)) (i.2 k t) (sym c.member.ensures ∙ w.if-member.true) i.1)
        | else-member w ↦ rw w.room-is (plain_other (i.2 k t) (sym c.member.ensures ∙ w.if-member.false))
      ],
    )

pub shape_of-room : goal.shape_of-room
shape_of-room c =
    let told_of : let b = c.args in Told (sets_in b.s.now) b.z b.o.0 (bits_of c.settled-x.result.0) (bits_of b.c.0) = let a = c.args in
    settled_told a.z (sets_in a.s.now) (bits_of a.c.0) a.o.0 (bits_of c.settled-x.result.0) c.out_reach-reach.ensures c.settled-x.ensures in
    long_plain (c.loop-j.invariant.2 _ (told_of))

pub returns : goal.returns
returns c =
    let told_of : let b = c.args in Told (sets_in b.s.now) b.z b.o.0 (bits_of c.settled-x.result.0) (bits_of b.c.0) = let a = c.args in
    settled_told a.z (sets_in a.s.now) (bits_of a.c.0) a.o.0 (bits_of c.settled-x.result.0) c.out_reach-reach.ensures c.settled-x.ensures in
    record { each = each_end (omega arith) (omega arith) (c.loop-j.invariant.2 _ (told_of)).each }
