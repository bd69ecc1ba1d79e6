-- Whole tiles by the numbers of their tiles.
use Rattle.std.specs.Prelude.{◌≡◌, ◌⊎◌, ℕ, ◌+◌, ◌*◌, ◌<◌, ◌≤◌, nat_lt, cond, List, [], ◌∷◌, ◌++◌, All, length, map, Option, None, Some, IfSome}
use Rattle.std.specs.List.{Contains}
use Rattle.rule_model.specs.Tiling.{Tiling}
use Rattle.tile_place.specs.declared.placed_tile.PlacedTile.{PlacedTile}
use Rattle.theory_walks.specs.Frames.{FrameValue}
use Rattle.half_glue.specs.declared.half.Found.{Found}
use Rattle.half_glue.specs.declared.half.Found.TheVariants.{Alone, Given, Crossed}
use Rattle.half_glue.specs.declared.pairs.Pair.{Pair}
use Rattle.half_glue.specs.declared.whole_tile.WholeTile.{WholeTile}
use Rattle.half_glue.specs.Found.{given_tile, AreGlued}
use Rattle.half_glue.specs.Given.{IsGiven}
use Rattle.half_glue.specs.WholeTiles.{HasNoGlueEdge}

-- ---- numbers
-- a pair of two halves, the one of the lesser kind first
abbrev pub halves_of : ℕ → ℕ → ℕ → ℕ → Pair
halves_of kind n other m =
    cond (nat_lt kind other) (record { first = n; second = Some m }) (record { first = m; second = Some n })

-- the pairs that tile number n adds, if this number of tiles were crossed to before
abbrev pub added_pairs : List PlacedTile → ℕ → ℕ → Found → List Pair
added_pairs tiles n crossed Alone = record { first = n; second = None } ∷ []
added_pairs tiles n crossed (Given m) =
    cond (nat_lt (given_tile tiles n).kind (given_tile tiles m).kind)
    (record { first = n; second = Some m } ∷ []) []
added_pairs tiles n crossed (Crossed y) =
    halves_of (given_tile tiles n).kind n y.kind (length tiles + crossed) ∷ []

-- the tiles that it adds, by crossing to them
abbrev pub added_tiles : Found → List PlacedTile
added_tiles Alone = []
added_tiles (Given m) = []
added_tiles (Crossed y) = y ∷ []

-- both numbers of the pair are below n
pub record ArePresent (n : ℕ) (p : Pair) : Type 0 where
  pub first : p.first < n
  pub second : IfSome p.second (λ m. m < n)

-- ---- tiles
abbrev pub second_of : List PlacedTile → Option ℕ → Option PlacedTile
second_of tiles None = None
second_of tiles (Some n) = Some (given_tile tiles n)

-- the tiles of a pair, not lifted
abbrev pub loose_of : List PlacedTile → Pair → WholeTile
loose_of tiles p = record { first = given_tile tiles p.first; second = second_of tiles p.second }

abbrev pub AreLoose : Tiling → FrameValue → PlacedTile → Option PlacedTile → Type 0
AreLoose t f a None = IsGiven t f a × HasNoGlueEdge t a.kind
AreLoose t f a (Some b) = IsGiven t f a × IsGiven t f b × AreGlued t f a b × (a.kind < b.kind)

abbrev pub IsEither : PlacedTile → PlacedTile → Option PlacedTile → Type 0
IsEither x a None = a ≡ x
IsEither x a (Some b) = (a ≡ x) ⊎ (b ≡ x)

-- They are glued tiles of the frame, the one of the lesser kind first, or one tile without a glue edge. One
-- of them is among the given tiles.
pub record IsLoose (t : Tiling) (f : FrameValue) (tiles : List PlacedTile) (w : WholeTile) : Type 0 where
  pub glued : AreLoose t f w.first w.second
  pub of_given : (x : PlacedTile) × Contains tiles x × IsEither x w.first w.second

-- the tile x is part of one of these, or its other half is another given tile, of a lesser kind
abbrev pub IsTaken : Tiling → FrameValue → List PlacedTile → List WholeTile → PlacedTile → Type 0
IsTaken t f tiles made x =
    ((w : WholeTile) × Contains made w × IsEither x w.first w.second)
    ⊎ ((y : PlacedTile) × Contains tiles y × AreGlued t f x y × (y.kind < x.kind))

-- the pairs of given tiles and of tiles crossed to; each given tile is taken
pub record ArePairsOf (t : Tiling) (f : FrameValue) (tiles crossed : List PlacedTile)
    (pairs : List Pair) : Type 0 where
  pub few : length pairs ≤ 2 * length tiles
  pub given : All (IsGiven t f) (tiles ++ crossed)
  pub present : All (ArePresent (length (tiles ++ crossed))) pairs
  pub loose : All (IsLoose t f tiles) (map (loose_of (tiles ++ crossed)) pairs)
  pub taken : All (IsTaken t f tiles (map (loose_of (tiles ++ crossed)) pairs)) tiles
