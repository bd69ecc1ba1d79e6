use Rattle.std.proofs.Common.{◌≡◌, ℕ, ◌≤◌, true, false, List}
use Rattle.layer_api.specs.Drawable.{IsDrawable}
use Rattle.layer_api.specs.declared.drawn.Drawn.{Drawn}
use Rattle.tile_app.proofs.ClassCounts.{ArePutBelow}
use Rattle.tile_app.proofs.put_drawing.put_classes.Given as goal

-- tiles were put for the classes below a number
pub record HasPutBelow (draws : List Drawn → Type 0) (counts : List ℕ) (below : ℕ) : Type 0 where
  pub tiles : List Drawn
  pub are : ArePutBelow counts below tiles
  pub are_drawn : draws tiles

abbrev pub invariant-loop-class : goal.invariant-loop-class
invariant-loop-class g l = record {
  begun : g.D.Layer.begun l.layer ≡ true;
  going : g.D.Layer.ended l.layer ≡ false;
  seen : g.D.Layer.seen l.layer ≡ g.D.Layer.seen l.fn.layer;
  form : g.D.Layer.form l.layer ≡ g.D.Layer.form l.fn.layer;
  drawable : IsDrawable l.machine.order l.drawn;
  few : l.class ≤ l.kinds;
  put : HasPutBelow (g.D.Layer.draws l.layer) l.counts l.class;
}
