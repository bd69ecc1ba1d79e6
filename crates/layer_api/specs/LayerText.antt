-- The text of a layer, by its format.
use Rattle.std.specs.Prelude.{ℕ, List}
use Rattle.layer_api.specs.declared.drawn.Drawn.{Drawn}
use Rattle.layer_api.specs.declared.format.Format.{Format}
use Rattle.layer_api.specs.declared.format.Format.TheVariants.{Svg, List as Listing, Census}
use Rattle.layer_api.specs.declared.view.View.{View}
use Rattle.layer_api.specs.CensusText.{census_text}
use Rattle.layer_api.specs.ListText.{list_text}
use Rattle.layer_api.specs.SvgText.{svg_text}

abbrev pub layer_text : Format → View → List Drawn → List ℕ
layer_text Svg view tiles = svg_text view tiles
layer_text Listing view tiles = list_text tiles
layer_text Census view tiles = census_text view.kinds tiles
