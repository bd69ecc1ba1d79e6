use Rattle.std.proofs.Common.{◌≡◌, true, false, List, take}
use Rattle.std.specs.List.{AllZip}
use Rattle.layer_api.specs.Drawable.{IsDrawable}
use Rattle.layer_api.specs.declared.drawn.Drawn.{Drawn}
use Rattle.rule_model.specs.Tiling.{tiling_of}
use Rattle.tile_app.specs.declared.looks.Looks.{Looks}
use Rattle.tile_app.specs.Looks.{AreSameTo}
use Rattle.tile_app.specs.Pictured.{picture_of}
use Rattle.tile_app.proofs.put_drawing.put_tiles.Given as goal

-- tiles were put that are the same one by one
pub record HasPutEach (draws : List Drawn → Type 0) (looks : Looks) (picture : List Drawn) : Type 0 where
  pub tiles : List Drawn
  pub same : AllZip (AreSameTo looks) tiles picture
  pub are_drawn : draws tiles

-- the layer draws the tiles before
abbrev pub invariant-loop-place : goal.invariant-loop-place
invariant-loop-place g l = record {
  begun : g.D.Layer.begun l.layer ≡ true;
  going : g.D.Layer.ended l.layer ≡ false;
  seen : g.D.Layer.seen l.layer ≡ g.D.Layer.seen l.fn.layer;
  form : g.D.Layer.form l.layer ≡ g.D.Layer.form l.fn.layer;
  drawable : IsDrawable l.machine.order l.drawn;
  put : HasPutEach (g.D.Layer.draws l.layer) l.looks (take l.place (picture_of (tiling_of l.machine) l.picture));
}
