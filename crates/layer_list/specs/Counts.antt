-- What the census keeps: counts, and no tiles.
use Rattle.std.specs.Prelude.{◌≡◌, ℕ, ◌+◌, ◌<◌, Bool, List, length, slice_index, slice_set, IsTrue}
use Rattle.layer_api.specs.declared.drawn.Drawn.{Drawn}
use Rattle.layer_api.specs.CensusText.{count_of, census_text}
use Rattle.layer_list.specs.declared.census_layer.CensusLayer.{CensusLayer}

-- these are the numbers of the tiles, by class and in all
pub record IsCountOf (counts : List ℕ) (all : ℕ) (tiles : List Drawn) : Type 0 where
  pub each : (class : ℕ) → class < 256 → slice_index counts class ≡ count_of class tiles
  pub in_all : all ≡ length tiles

-- the counts are those of the tiles put; once the layer has ended, the text is their census
pub record IsCensus (counts : List ℕ) (all : ℕ) (ended : Bool) (text : List ℕ) (kinds : ℕ)
    (tiles : List Drawn) : Type 0 where
  pub counted : IsCountOf counts all tiles
  pub made : IsTrue ended → text ≡ census_text kinds tiles

-- the census with a number of tiles of a class more
abbrev pub counted : CensusLayer → ℕ → ℕ → CensusLayer
counted layer class number = record layer {
  counts = slice_set layer.counts class (slice_index layer.counts class + number);
  all = layer.all + number;
}
