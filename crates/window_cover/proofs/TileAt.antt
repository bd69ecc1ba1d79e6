-- The tile at a place in the order.
use Rattle.std.proofs.Common.{◌≡◌, ℕ, zero, suc, ◌<◌, List, [], ◌∷◌, map, length, get_or, slice_get, Some, refl, arith}
use Rattle.std.specs.List.{AllByRecursion}
use Rattle.theory_addresses.specs.Address as theory
use Rattle.window_cover.specs.Covered.{placed_as, tile_of, tiles_of}
use Rattle.window_cover.specs.Found.{Found}
use Rattle.window_cover.specs.Words.{tile_number}

pub tiles-at : (above : List theory.Step) (found : List Found) (words : List ℕ) (place : ℕ) → place < length words
    → slice_get (tiles_of above found (map tile_number words)) place ≡ Some (placed_as above (tile_of found (tile_number (get_or words place 0))))
tiles-at above found [] place h = absurd (omega arith)
tiles-at above found (w ∷ ws) zero h = refl
tiles-at above found (w ∷ ws) (suc place) h = tiles-at above found ws place (omega arith)

pub number-at : (found : List Found) (words : List ℕ) (place : ℕ) → place < length words
    → AllByRecursion (λ n. n < length found) (map tile_number words) → tile_number (get_or words place 0) < length found
number-at found [] place l h = absurd (omega arith)
number-at found (w ∷ ws) zero l h = h.0
number-at found (w ∷ ws) (suc place) l h = number-at found ws place (omega arith) h.1

pub long : (above : List theory.Step) (found : List Found) (words : List ℕ) → length (tiles_of above found (map tile_number words)) ≡ length words
long above found [] = refl
long above found (w ∷ ws) = λ i. suc (long above found ws i)
