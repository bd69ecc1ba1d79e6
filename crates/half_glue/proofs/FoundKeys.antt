-- A key that is found is that of a tile.
use Rattle.std.proofs.Common.{◌≡◌, ℕ, ◌<◌, [], List, All, length, refl, subst}
use Rattle.std.specs.List.{Contains}
use Rattle.std.proofs.lemmas.List.Sorted.{All-permutation}
use Rattle.cyclo_points.specs.declared.motion.Motion as program
use Rattle.tile_place.specs.Keys.{order_numbers, key_of, FitsKey}
use Rattle.tile_place.specs.declared.order_key.OrderKey.{OrderKey}
use Rattle.tile_place.specs.declared.placed_tile.PlacedTile.{PlacedTile}
use Rattle.tile_place.proofs.KeyOrder.{level-numbers}
use Rattle.half_glue.specs.Found.{no_tile, given_tile}
use Rattle.half_glue.specs.Keys.{HasTileKey, own_keys, AreKeysOf}
use Rattle.half_glue.proofs.Keyed.{IsKeyOf, from-keys}

-- a key found is that of the tile of its number
pub key-found : (tiles : List PlacedTile) (keys : List OrderKey) → AreKeysOf tiles keys → All HasTileKey tiles
    → (m : program.Motion) (k n : ℕ) → FitsKey m k → Contains keys (key_of m k n)
    → (n < length tiles) × (order_numbers m k ≡ order_numbers (given_tile tiles n).motion (given_tile tiles n).kind)
key-found tiles keys are fit m k n fits c =
    let own : All (IsKeyOf (λ (x : PlacedTile). x) tiles) keys = All-permutation
    (IsKeyOf (λ (x : PlacedTile). x) tiles) (own_keys tiles) keys are.same
    (from-keys (λ (x : PlacedTile). x) [] tiles 0 refl) in
    let key = subst (IsKeyOf (λ (x : PlacedTile). x) tiles) c.2 (own c.0 (key_of m k n) c.1) in
    let y = given_tile tiles n in
    (key.below, level-numbers m y.motion k y.kind (key_of m k n) (key_of m k n) fits (fit n no_tile key.below) refl (key.is no_tile) refl refl)
