-- `escape` by its tests: no move; won; no gate; else the rows of the gates are written, and o comes to the group.
use mathlib.Core.Path.{refl, sym, ◌∙◌}
use Rattle.sets.proofs.Rows.{none, some}
use Rattle.table_layout.proofs.Places.{fits_same}
use Rattle.environment_escape.proofs.Leaving.{exits_entering, pressed_column, pressed_fits, pressed_read, pressed_states, pressed_within, escape_stuck, escape_won, escape_tours, escape_leaves}
use Rattle.environment_escape.proofs.escape.Goals as goal

pub returns-then-is_empty : goal.returns-then-is_empty
returns-then-is_empty c = λ p G. escape_stuck _ _ _ _ _ _ _ _ _ _ p _ _ G (none _ c.is_empty.ensures c.if-is_empty.true)

pub won-requires : goal.won-requires
won-requires c =
    pressed_read _ _ _ _ _ _ _ _ _ _ c.requires.0

pub returns-then-won : goal.returns-then-won
returns-then-won c = λ p G. escape_won _ _ _ _ _ _ _ _ _ _ p _ _ G (sym c.won.ensures ∙ c.if-won.true)

pub lost-out-requires : goal.lost-out-requires
lost-out-requires c =
    let p = c.requires.0 in
    let b = pressed_read _ _ _ _ _ _ _ _ _ _ p in
    (b.0, b.2, b.3, pressed_within _ _ _ _ _ _ _ _ _ _ p)

pub exits-gates-requires : goal.exits-gates-requires
exits-gates-requires c =
    let p = c.requires.0 in
    ((pressed_read _ _ _ _ _ _ _ _ _ _ p).0, pressed_states _ _ _ _ _ _ _ _ _ _ p)

pub returns-then-is_empty-2 : goal.returns-then-is_empty-2
returns-then-is_empty-2 c =
    λ p G.
    escape_tours _ _ _ _ _ _ _ _ _ _ p (some _ c.is_empty.ensures c.if-is_empty.false) (sym c.won.ensures ∙ c.if-won.false) _ _
    c.lost-out.ensures c.exits-gates.ensures _ _ G (none _ c.is_empty-2.ensures c.if-is_empty-2.true)

pub enter-requires : goal.enter-requires
enter-requires c =
    let p = c.requires.0 in
    (pressed_fits _ _ _ _ _ _ _ _ _ _ p, exits_entering _ _ _ _ _ c.exits-gates.ensures, pressed_column _ _ _ _ _ _ _ _ _ _ p)

pub join-next-requires : goal.join-next-requires
join-next-requires c =
    let p = c.requires in (
      fits_same _ _ _ c.enter.ensures.long (pressed_fits _ _ _ _ _ _ _ _ _ _ p.0),
      p.1,
      (pressed_read _ _ _ _ _ _ _ _ _ _ p.0).2,
    )

pub returns : goal.returns
returns c =
    λ p G.
    escape_leaves _ _ _ _ _ _ _ _ _ _ p (some _ c.is_empty.ensures c.if-is_empty.false) (sym c.won.ensures ∙ c.if-won.false) _ _
    c.lost-out.ensures c.exits-gates.ensures (some _ c.is_empty-2.ensures c.if-is_empty-2.false) _ _ _ G refl
    c.enter.ensures c.join-next.ensures.1 _ c.join-next.ensures.0
