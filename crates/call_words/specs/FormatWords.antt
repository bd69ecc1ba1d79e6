-- Formats as arguments, and which of them no layer has.
use Rattle.std.specs.Prelude.{ℕ, Bool, not, ◌&&◌, List, [], ◌∷◌, ◌++◌, length, codes, nat_lt, Some, None, if◌then◌else◌}
use Rattle.std.specs.declared.option.Option.{Option}
use Rattle.std.specs.List.{list_any, find}
use Rattle.std.specs.Option.{option_and_then}
use Rattle.std.specs.Str.{bytes_eq}
use Rattle.layer_api.specs.declared.format.Format.{Format}
use Rattle.layer_api.specs.declared.format.Format.TheVariants.{Svg, List as Listing, Census}
use Rattle.layer_api.specs.contracts.format.FormatPartialEq.TheImpl as format_eq
use Rattle.tile_shape.specs.Text.{comma}
use Rattle.tile_shape.specs.Words.{texts_between}

-- the name of a format
abbrev pub format_text : Format → List ℕ
format_text Svg = codes "svg"
format_text Listing = codes "list"
format_text Census = codes "census"

-- the format that a text names
abbrev pub format_named : List ℕ → Option Format
format_named text =
    if bytes_eq text (codes "svg") then Some Svg else
    if bytes_eq text (codes "list") then Some Listing else
    if bytes_eq text (codes "census") then Some Census else None

-- true if two formats are the same
abbrev pub same_format : Format → Format → Bool
same_format = (format_eq.ghosts).eq

-- true if a format is one of these
abbrev pub is_among : Format → List Format → Bool
is_among format formats = list_any (λ f. same_format f format) formats

-- the greatest number of formats that may be named
abbrev pub most_formats : ℕ
most_formats = 3

-- true if a format may be named after these: there is room for it, and it is none of them
abbrev pub is_new : Format → List Format → Bool
is_new format before = nat_lt (length before) most_formats && not (is_among format before)

-- the formats before, and those that texts name, if each is new
abbrev pub formats_behind : List Format → List (List ℕ) → Option (List Format)
formats_behind before [] = Some before
formats_behind before (piece ∷ rest) =
    option_and_then (λ f. if is_new f before then formats_behind (before ++ f ∷ []) rest else None)
    (format_named piece)

-- the formats that a text names: one to three different ones, with commas between them
abbrev pub formats_in : List ℕ → Option (List Format)
formats_in text = formats_behind [] (texts_between comma text)

-- the first format named that is none of those handed in
abbrev pub first_lacking : List Format → List Format → Option Format
first_lacking handed named = find (λ f. not (is_among f handed)) named
