use Rattle.std.proofs.Common.{◌≡◌, map, drop}
use Rattle.call_words.specs.FormatWords.{first_lacking}
use Rattle.tile_app.proofs.layers.first_lacking.Given as goal

-- no format before lacks a layer
abbrev pub invariant-loop-format : goal.invariant-loop-format
invariant-loop-format g l =
    first_lacking (map g.D.Layer.form l.layers) (drop l.format-index l.named) ≡ first_lacking (map g.D.Layer.form l.layers) l.named
