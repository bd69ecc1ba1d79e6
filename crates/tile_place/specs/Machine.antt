-- What a machine holds in addition to its rule.
use Rattle.std.specs.Prelude.{◌≡◌}
use Rattle.theory_addresses.specs.Tables.{Tables}
use Rattle.rule_model.specs.Tiling.{Tiling, contacts}
use Rattle.tile_place.specs.EdgeTurns.{EdgeTable, AreGreatest}
use Rattle.tile_place.specs.TurnedVertices.{TurnedTable, AreTurned}

-- the contact tables of the rule's geometry, the vertices of its kinds, turned, and the turns of their edges
pub record HasTables (t : Tiling) (tables : Tables) (vertices : TurnedTable)
    (edges : EdgeTable) : Type 0 where
  pub tables_are : tables ≡ contacts t
  pub vertices_are : AreTurned t vertices
  pub edges_are : AreGreatest t edges
