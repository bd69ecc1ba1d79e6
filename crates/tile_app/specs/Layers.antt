-- The layers handed in, and the formats that a request asks for.
use Rattle.std.specs.Prelude.{◌≡◌, None, List}
use Rattle.std.specs.declared.option.Option.{Option}
use Rattle.call_words.specs.FormatWords.{first_lacking}
use Rattle.call_words.specs.Request.{Request, formats_of}
use Rattle.layer_api.specs.declared.format.Format.{Format}

-- the first format that a request asks for and that no layer has
abbrev pub lacking : Request → List Format → Option Format
lacking q handed = first_lacking handed (formats_of q)

-- each format that it asks for has a layer
abbrev pub HaveLayers : Request → List Format → Type 0
HaveLayers q handed = lacking q handed ≡ None
