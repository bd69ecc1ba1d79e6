-- The glue edge of each kind, looked up once.
use Rattle.std.specs.Prelude.{◌≡◌, ◌<◌, ℕ, get_or, length}
use Rattle.rule_model.specs.Glue.{IsOnlyGlueEdge}
use Rattle.rule_model.specs.Tiling.{Tiling}
use Rattle.tile_app.specs.declared.glue_edges.GlueEdges.{GlueEdges}

-- at the number of each kind that has one glue edge stands that edge
abbrev pub AreGlueEdges : Tiling → GlueEdges → Type 0
AreGlueEdges t g = (kind edge none : ℕ) → kind < length t.rule.kinds → IsOnlyGlueEdge t.rule kind edge
    → get_or g.edges kind none ≡ edge
