-- `plain_rows`: the won positions, and then the pushes.
use Rattle.environment_table.proofs.Places.{roomy_more}
use Rattle.environment_table.proofs.Known.{trivials_of, plain_join}
use Rattle.environment_plain.proofs.plain_rows.Goals as goal

pub push_columns-requires : goal.push_columns-requires
push_columns-requires c =
    let p = c.requires in (
      p.0,
      roomy_more _ p.1 c.none_rows.ensures,
      trivials_of _ _ _ c.below.ensures c.difference.ensures,
      p.2,
      p.3,
    )

pub returns : goal.returns
returns c =
    plain_join _ c.none_rows.ensures c.push_columns.ensures
