-- Tiles found, with the digits of a frame behind their own.
use Rattle.std.proofs.Common.{◌≡◌, ℕ, zero, suc, List, [], ◌∷◌, ◌++◌, map, drop, length, refl, sym, ap, ◌∙◌}
use Rattle.std.specs.List.{AllZip}
use Rattle.std.proofs.Math.ListN.{length-map}
use Rattle.theory_addresses.specs.Address as theory
use Rattle.theory_walks.specs.Frames.{FrameValue}
use Rattle.tile_place.specs.declared.placed_tile.PlacedTile.{PlacedTile}
use Rattle.tile_shape.specs.declared.step.Step.{Step}
use Rattle.tile_shape.specs.Views.{step_of, step_as}
use Rattle.tile_shape.proofs.Seen.{steps-there}
use Rattle.tile_place.specs.declared.order_key.OrderKey.{OrderKey}
use Rattle.window_cover.specs.Admitted.{found_as}
use Rattle.window_cover.specs.Covered.{placed_as, tiles_of}
use Rattle.window_cover.specs.Found.{Found}
use Rattle.window_cover.specs.Lifted.{IsLifted}
use Rattle.window_cover.proofs.Keyed.{keyed_in}

map-both : (xs ys : List Step) → map step_as (map step_of xs ++ map step_of ys) ≡ xs ++ ys
map-both [] [] = refl
map-both [] (y ∷ ys) = ap (λ zs. y ∷ zs) (map-both [] ys)
map-both (x ∷ xs) ys = ap (λ zs. x ∷ zs) (map-both xs ys)

drop-steps : (n : ℕ) (xs : List Step) → drop n (map step_of xs) ≡ map step_of (drop n xs)
drop-steps zero xs = refl
drop-steps (suc n) [] = refl
drop-steps (suc n) (x ∷ xs) = drop-steps n xs

-- the tile with more digits is the one that is answered
pub placed-is : (before after : PlacedTile) (above : List Step) → before.addr.kind ≡ before.kind
    → after.kind ≡ before.kind → after.motion ≡ before.motion → after.addr.kind ≡ before.addr.kind
    → after.addr.digits.items ≡ before.addr.digits.items ++ drop (length before.addr.digits.items) above
    → after ≡ placed_as (map step_of above) (found_as before)
placed-is before after above its k m ak d =
    λ i. record { kind = k i; motion = m i; addr = record { kind = (ak ∙ its) i; digits = record { items = (d ∙ sym same) i } } }
  where
    own : List Step
    own = before.addr.digits.items

    same : map step_as (map step_of own ++ drop (length (map step_of own)) (map step_of above)) ≡ own ++ drop (length own) above
    same = ap (λ zs. map step_as (map step_of own ++ zs))
        (ap (λ n. drop n (map step_of above)) (length-map own step_of) ∙ drop-steps (length own) above)
        ∙ map-both own (drop (length own) above)

-- and it is lifted
pub placed-lifted : (f : FrameValue) (above : List theory.Step) (x : Found) → above ≡ f.digits → IsLifted f x (placed_as above x)
placed-lifted f above x e = record {
  same_kind = refl;
  kind_named = refl;
  same_motion = refl;
  its_address = λ i. record {
    kind = x.kind;
    digits
        = (steps-there (x.digits ++ drop (length x.digits) above)
        ∙ ap (λ ds. x.digits ++ drop (length x.digits) ds) e) i;
  };
}

-- so are the tiles of keys
pub zip-placed : (f : FrameValue) (above : List theory.Step) → above ≡ f.digits
    → (found : List Found) (ks : List OrderKey)
    → AllZip (IsLifted f) (map (keyed_in found) ks)
    (tiles_of above found (map (λ (k : OrderKey). k.number) ks))
zip-placed f above e found [] = tt
zip-placed f above e found (k ∷ ks) = (placed-lifted f above (keyed_in found k) e, zip-placed f above e found ks)
