-- Why a path can't be walked to its end.
use Rattle.std.specs.Prelude.{ℕ, List}
use Rattle.theory_addresses.specs.Address.{Address}
use Rattle.rule_model.specs.Tiling.{Tiling}
use Rattle.tile_shape.specs.Views.{address_of}
use Rattle.lazy_walk.specs.declared.path_fault.PathFault.{PathFault}
use Rattle.lazy_walk.specs.declared.path_fault.PathFault.TheVariants.{NoEdge, DepthLimit}
use Rattle.theory_walks.specs.Paths.{LacksEdge, IsStoppedAt}

-- from a, it comes to a tile that does not have the next edge; or to a tile whose next edge is on the
-- boundary
abbrev pub IsPathFault : Tiling → Address → List ℕ → PathFault → Type 0
IsPathFault t a path (NoEdge edge edges) = LacksEdge t a path edge edges
IsPathFault t a path (DepthLimit limit) = IsStoppedAt t a path (address_of limit.addr) limit.edge
