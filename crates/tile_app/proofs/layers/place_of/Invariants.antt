use Rattle.std.proofs.Common.{◌≡◌, map, drop}
use Rattle.std.specs.List.{position, position_from}
use Rattle.call_words.specs.FormatWords.{same_format, is_among}
use Rattle.tile_app.proofs.layers.place_of.Given as goal

-- no layer before has the format
abbrev pub invariant-loop-place : goal.invariant-loop-place
invariant-loop-place g l = record {
  some : is_among l.format (map g.D.Layer.form (drop l.place l.layers)) ≡ is_among l.format (map g.D.Layer.form l.layers);
  first : position_from (λ f. same_format f l.format) l.place
      (map g.D.Layer.form (drop l.place l.layers)) ≡ position (λ f. same_format f l.format)
      (map g.D.Layer.form l.layers);
}
