-- What a layer looks at, and tiles that are the same to it.
use Rattle.std.specs.Prelude.{◌≡◌, ℕ, Bool, true, false, List, length}
use Rattle.std.specs.List.{AllZip}
use Rattle.layer_api.specs.CensusText.{count_of}
use Rattle.layer_api.specs.declared.drawn.Drawn.{Drawn}
use Rattle.layer_api.specs.declared.format.Format.{Format}
use Rattle.layer_api.specs.declared.format.Format.TheVariants.{Svg, List as Listing, Census}
use Rattle.tile_app.specs.declared.looks.Looks.{Looks}
use Rattle.tile_app.specs.declared.looks.Looks.TheVariants.{All, Paths, Parts, Classes}

pub record HaveSamePath (d e : Drawn) : Type 0 where
  pub class : d.class ≡ e.class
  pub outline : d.outline ≡ e.outline

pub record HaveSameParts (d e : Drawn) : Type 0 where
  pub first : d.first ≡ e.first
  pub second : d.second ≡ e.second

-- the tiles are the same to a layer that looks at this
abbrev pub AreSameTo : Looks → Drawn → Drawn → Type 0
AreSameTo All d e = d ≡ e
AreSameTo Paths d e = HaveSamePath d e
AreSameTo Parts d e = HaveSameParts d e
AreSameTo Classes d e = d.class ≡ e.class

-- as many tiles of each class, and as many in all
pub record HaveSameCounts (ts us : List Drawn) : Type 0 where
  pub each : (class : ℕ) → count_of class ts ≡ count_of class us
  pub in_all : length ts ≡ length us

-- the lists are the same to a layer that looks at this: tile by tile, but classes alone in any order
abbrev pub AreSameListsTo : Looks → List Drawn → List Drawn → Type 0
AreSameListsTo Classes ts us = HaveSameCounts ts us
AreSameListsTo looks ts us = AllZip (AreSameTo looks) ts us

-- tiles were put that are the same to a layer that looks at this
pub record HasPut (draws : List Drawn → Type 0) (looks : Looks) (picture : List Drawn) : Type 0 where
  pub tiles : List Drawn
  pub same : AreSameListsTo looks tiles picture
  pub are_drawn : draws tiles

-- what a layer looks at that looks at all, or only at what the text of its format depends on
abbrev pub looks_in : Bool → Format → Looks
looks_in true f = All
looks_in false Svg = Paths
looks_in false Listing = Parts
looks_in false Census = Classes
