-- What is written of a picture, at each stage.
use Rattle.std.specs.Prelude.{◌≡◌, ℕ, Bool, true, false, List, [], ◌∷◌, ◌++◌}
use Rattle.std.specs.List.{flat_map}
use Rattle.layer_api.specs.declared.drawn.Drawn.{Drawn}
use Rattle.layer_api.specs.declared.view.View.{View}
use Rattle.layer_api.specs.SvgText.{head_text, path_line, svg_text}

-- nothing before the first tile; then the head and the paths so far
abbrev pub opened_text : View → List Drawn → List ℕ
opened_text v [] = []
opened_text v (d ∷ ds) = head_text v ++ flat_map (path_line v) (d ∷ ds)

-- the text written for these tiles, which is the whole picture once the layer has ended
abbrev pub IsPictureWritten : View → Bool → List ℕ → List Drawn → Type 0
IsPictureWritten v false text tiles = text ≡ opened_text v tiles
IsPictureWritten v true text tiles = text ≡ svg_text v tiles
