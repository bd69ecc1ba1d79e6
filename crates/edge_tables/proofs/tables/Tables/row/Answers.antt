use Rattle.std.proofs.Common.{length, ap, arith}
use Rattle.std.proofs.lemmas.List.{length-map}
use Rattle.theory_addresses.specs.Tables.{Tables}
use Rattle.edge_tables.specs.Views.{as_kind_tables}
use Rattle.edge_tables.proofs.Looks.{kind_tables-read}
use Rattle.edge_tables.proofs.tables.Tables.row.Goals as goal

pub index-requires : goal.index-requires
index-requires c = omega (arith, c.requires, ap (λ (t : Tables). length t.kinds) c.self.view_is, length-map c.self.inside.rows.items as_kind_tables)

pub returns-clause-lists : goal.returns-clause-lists
returns-clause-lists c =
    let count = ap (λ (t : Tables). length t.kinds) c.self.view_is in
    kind_tables-read c.args.self.now c.self.inside.rows.items c.args.kind c.index.result.now (ap (λ (t : Tables). t.kinds) c.self.view_is)
    (omega (arith, c.requires, count, length-map c.self.inside.rows.items as_kind_tables)) c.index.ensures
