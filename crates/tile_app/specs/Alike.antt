-- Lists of tiles that have the same text in a format.
use Rattle.std.specs.Prelude.{List}
use Rattle.std.specs.List.{AllZip}
use Rattle.layer_api.specs.declared.drawn.Drawn.{Drawn}
use Rattle.layer_api.specs.declared.format.Format.{Format}
use Rattle.layer_api.specs.declared.format.Format.TheVariants.{Svg, List as Listing, Census}
use Rattle.tile_app.specs.Looks.{HaveSamePath, HaveSameParts, HaveSameCounts}

abbrev pub AreAlikeIn : Format → List Drawn → List Drawn → Type 0
AreAlikeIn Svg ts us = AllZip HaveSamePath ts us
AreAlikeIn Listing ts us = AllZip HaveSameParts ts us
AreAlikeIn Census ts us = HaveSameCounts ts us
