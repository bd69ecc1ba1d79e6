-- What is drawn of a window, put in order or not.
use Rattle.std.specs.Prelude.{◌≡◌, List, map, All}
use Rattle.layer_api.specs.declared.drawn.Drawn.{Drawn}
use Rattle.rule_model.specs.Tiling.{Tiling}
use Rattle.tile_app.specs.declared.drawing.Drawing.{Drawing}
use Rattle.tile_app.specs.declared.drawing.Drawing.TheVariants.{Found, InOrder}
use Rattle.tile_app.specs.declared.looks.Looks.{Looks}
use Rattle.tile_app.specs.declared.looks.Looks.TheVariants.{Classes}
use Rattle.tile_app.specs.DrawnTile.{drawn_of, CanBeDrawn}
use Rattle.tile_app.specs.Pictured.{picture_of, CanBePictured}

-- the tiles or whole tiles as they are drawn, in order
abbrev pub tiles_drawn : Tiling → Drawing → List Drawn
tiles_drawn t (Found tiles) = map (drawn_of t) tiles
tiles_drawn t (InOrder picture) = picture_of t picture

-- each can be drawn
abbrev pub CanBeShown : Tiling → Drawing → Type 0
CanBeShown t (Found tiles) = All (CanBeDrawn t) tiles
CanBeShown t (InOrder picture) = CanBePictured t picture

-- it is in order, unless only classes are looked at
abbrev pub Suits : Looks → Drawing → Type 0
Suits looks (Found tiles) = looks ≡ Classes
Suits looks (InOrder picture) = Unit {0}
