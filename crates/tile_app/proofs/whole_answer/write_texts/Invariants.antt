use Rattle.std.proofs.Common.{List, All, take, ◌≤◌}
use Rattle.layer_api.specs.declared.drawn.Drawn.{Drawn}
use Rattle.layer_api.specs.declared.view.View.{View}
use Rattle.tile_io.specs.Taken.{Takes}
use Rattle.tile_app.specs.Draw.{texts_of}
use Rattle.tile_app.specs.LayerTexts.{FirstHasDrawn}
use Rattle.tile_app.proofs.whole_answer.write_texts.Given as goal

-- the texts before are taken
abbrev pub invariant-loop-format : goal.invariant-loop-format
invariant-loop-format g l = record {
  taken : (view : View) (picture : List Drawn)
      → All (FirstHasDrawn g.D.Layer.form g.D.Layer.seen g.D.Layer.ended g.D.Layer.draws view picture l.layers) l.formats
      → Takes (g.W.Sink.taken l.initial.sink) (g.W.Sink.taken l.sink) (texts_of view picture (take l.format-index l.formats));
  never_falls : g.W.Sink.faults l.initial.sink ≤ g.W.Sink.faults l.sink;
}
