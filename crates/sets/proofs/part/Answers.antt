-- `part` meets its contract.
use Prim.Native.Nat.{ℕ, ◌+◌, ◌*◌}
use mathlib.Core.Path.{◌≡◌, sym, ◌∙◌, ap}
use mathlib.Core.List.{[], ◌∷◌}
use lib.ListN.{get_or, get_or-eq_default}
use native.Mathlib.Omega.{arith}
use Rattle.sets.specs.Words.{value, bits_of}
use Rattle.sets.proofs.Rows.{sets_parts, rows_at}
use Rattle.sets.proofs.part.Goals as goal

pub overflow_mul-low : goal.overflow_mul-low
overflow_mul-low c = omega (arith, c.requires, sets_parts c.args.l.now)

pub offset_bounds-l-s : goal.offset_bounds-l-s
offset_bounds-l-s c = omega (arith, c.requires, sets_parts c.args.l.now)

pub bounds-l-s : goal.bounds-l-s
bounds-l-s c = omega (arith, c.requires, sets_parts c.args.l.now)

pub overflow_mul-s : goal.overflow_mul-s
overflow_mul-s c = omega (arith, c.requires, sets_parts c.args.l.now)

pub overflow_add-s : goal.overflow_add-s
overflow_add-s c = omega (arith, c.requires, sets_parts c.args.l.now)

pub returns-then-s-l : goal.returns-then-s-l
unfolding bits_of
returns-then-s-l c = rows_at _ _

pub returns : goal.returns
unfolding bits_of
returns c =
    let none : get_or c.args.l.now (2 * c.args.s + 1) 0 ≡ 0 = get_or-eq_default c.args.l.now 0 (omega (arith, c.if-s-l.false)) in
    ap (λ (x : ℕ). value 64 (get_or c.args.l.now (2 * c.args.s) 0 ∷ x ∷ [])) (sym none) ∙ rows_at _ _
