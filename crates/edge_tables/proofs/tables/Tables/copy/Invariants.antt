use Rattle.std.proofs.Common.{◌≡◌, map, take}
use Rattle.edge_tables.specs.Views.{as_kind_tables}
use Rattle.edge_tables.proofs.tables.Tables.copy.Given as goal

abbrev pub invariant-loop-row : goal.invariant-loop-row
invariant-loop-row l = map as_kind_tables l.rows.items ≡ map as_kind_tables (take l.row-index l.row-items)
