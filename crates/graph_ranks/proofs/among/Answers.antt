-- `among` answers the state alone where it moves to no other; else it searches backward, then forward.
use mathlib.Core.Path.{sym, ◌∙◌}
use Rattle.graph_ranks.proofs.Search.{alone_component, search_component}
use Rattle.graph_ranks.proofs.among.Goals as goal

pub insert-alone-requires : goal.insert-alone-requires
insert-alone-requires c = c.requires.1 _ c.requires.2

pub row_of-requires : goal.row_of-requires
row_of-requires c = c.requires.1 _ c.requires.2

pub returns-then-not-meets : goal.returns-then-not-meets
returns-then-not-meets c =
    alone_component _ _ _ _ _ _ c.requires.1 c.row_of.ensures.1 (λ t. rw (sym c.empty.ensures.1) (c.insert-alone.ensures t))
    c.difference.ensures (sym c.meets.ensures ∙ c.if-not-meets.true)

pub behind-requires : goal.behind-requires
behind-requires c =
    (c.requires.0, c.requires.1, c.requires.1 _ c.requires.2)

pub ahead-requires : goal.ahead-requires
ahead-requires c =
    (c.behind.ensures.1, c.requires.1 _ c.requires.2)

pub returns : goal.returns
returns c =
    search_component _ _ _ _ _ c.requires.2 c.behind.ensures.0 c.ahead.ensures
