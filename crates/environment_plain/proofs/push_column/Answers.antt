-- `push_column`: the inputs that are not won with o, where there are any.
use Prim.Native.Nat.{ℕ}
use mathlib.Core.Path.{◌∙◌, ap}
use mathlib.Core.List.{List}
use lib.ListN.{get_or}
use native.Mathlib.Omega.{arith}
use Rattle.sets.specs.Words.{sets_in}
use Rattle.sets.proofs.Rows.{none}
use Rattle.environment_table.proofs.Known.{shaped, pushed_within, moves_within, pushes_of, pushes_filled, pushes_none}
use Rattle.environment_plain.proofs.push_column.Goals as goal

pub lost-which-requires : goal.lost-which-requires
lost-which-requires c =
    let p = c.requires in
    let h = shaped _ _ _ p.0 in
    (h.inputs, omega (arith, p.3, h.outputs), omega (arith, p.3, h.long), pushed_within _ _ _ p.0 _ _ p.2 p.3)

pub returns-then-is_empty : goal.returns-then-is_empty
returns-then-is_empty c =
    let p = c.requires in
    pushes_none _ _ _ p.0 _ _ p.2 p.3 _ c.lost-which.ensures _ (none _ c.is_empty.ensures c.if-is_empty.true)

pub row_of-requires : goal.row_of-requires
row_of-requires c =
    let p = c.requires in
    omega (arith, p.3, (shaped _ _ _ p.0).outputs)

pub refused-y-requires : goal.refused-y-requires
refused-y-requires c =
    let p = c.requires in
    let moves = c.row_of.ensures.1 ∙ ap (λ (l : List ℕ). get_or (sets_in l) c.args.o.0 0) p.5 in
    (shaped _ _ _ p.0, moves_within _ _ _ p.0 c.args.o.0 _ p.3 moves)

pub push_rows-requires : goal.push_rows-requires
push_rows-requires c =
    let p = c.requires in
    let moves = c.row_of.ensures.1 ∙ ap (λ (l : List ℕ). get_or (sets_in l) c.args.o.0 0) p.5 in
    (p.1, pushes_of _ _ _ p.0 _ _ p.2 p.3 _ c.lost-which.ensures moves c.refused-y.ensures, p.4)

pub returns : goal.returns
returns c =
    let p = c.requires in
    pushes_filled _ _ _ p.0 _ _ p.2 p.3 _ c.lost-which.ensures c.push_rows.ensures
