-- What is found of a window: the tiles, and those of their edges across which no tile is found yet.
use Rattle.std.specs.Prelude.{ℕ, List, [], ◌∷◌, None, Some}
use Rattle.std.specs.declared.option.Option.{Option}
use Rattle.theory_addresses.specs.Address.{Step, Address}
use Rattle.cyclo_points.specs.declared.motion.Motion.{Motion}
use Rattle.cyclo_points.specs.declared.point.Point.{Point}
use Rattle.plane_geom.specs.declared.window.Window.{Window}
use Rattle.window_cover.specs.declared.open_edge.OpenEdge.{OpenEdge}

-- a tile found: its kind, its motion in the base's frame, and the digits that it had when it was found
pub record Found : Type 0 where
  pub kind : ℕ
  pub motion : Motion
  pub digits : List Step

-- its address at that time
abbrev pub address_found : Found → Address
address_found x = record { kind = x.kind; digits = x.digits }

-- an open edge, with its start and its end
pub record BorderEdge : Type 0 where
  pub edge : OpenEdge
  pub from : Point
  pub to : Point

-- the window, the tiles in the order found, and the open edges by tile and then edge
pub record CoverValue : Type 0 where
  pub window : Window
  pub found : List Found
  pub border : List BorderEdge

-- the first of these edges
abbrev pub first_of : List BorderEdge → Option OpenEdge
first_of [] = None
first_of (o ∷ os) = Some o.edge
