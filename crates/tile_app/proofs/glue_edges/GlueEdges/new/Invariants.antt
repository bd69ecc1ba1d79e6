use Rattle.std.proofs.Common.{◌≡◌, length}
use Rattle.rule_model.specs.Views.{rule_of}
use Rattle.tile_app.proofs.GluedKinds.{AreFirstEdges}
use Rattle.tile_app.proofs.glue_edges.GlueEdges.new.Given as goal

-- the kinds before are written down
abbrev pub invariant-loop-kind : goal.invariant-loop-kind
invariant-loop-kind l = record {
  room : length l.edges ≡ 16;
  first : AreFirstEdges (rule_of l.machine) l.kind l.edges;
}
