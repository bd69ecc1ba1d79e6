use Rattle.std.proofs.Common.{◌≡◌, List, ◌++◌, replicate, IsTrue, IsFalse}
use Rattle.layer_api.specs.declared.drawn.Drawn.{Drawn}
use Rattle.layer_api.specs.Drawable.{IsDrawable}
use Rattle.layer_api.proofs.layer.Layer.put_many.Given as goal

-- so many copies were added
abbrev pub invariant-loop-number : goal.invariant-loop-number
invariant-loop-number g l = record {
  begun : IsTrue (g.Self.Layer.begun l.self);
  going : IsFalse (g.Self.Layer.ended l.self);
  seen : g.Self.Layer.seen l.self ≡ g.Self.Layer.seen l.fn.self;
  form : g.Self.Layer.form l.self ≡ g.Self.Layer.form l.fn.self;
  drawable : IsDrawable (g.Self.Layer.seen l.self).order l.tile;
  put : (tiles : List Drawn) → g.Self.Layer.draws l.fn.self tiles → g.Self.Layer.draws l.self (tiles ++ replicate l._number l.tile);
}
