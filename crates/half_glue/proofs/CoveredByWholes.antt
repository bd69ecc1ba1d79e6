-- Whole tiles of tiles that cover a window cover it.
use Rattle.std.proofs.Common.{◌≡◌, inl, inr, ℕ, zero, suc, ◌<◌, ℤ, ◌+ℤ◌, Bool, cond, Option, None, Some, List, [], ◌∷◌, ◌++◌, length, get_or, map, flat_map, refl, sym, ap, ◌∙◌, subst, arith}
use Rattle.std.specs.List.{AllByRecursion, Contains}
use Rattle.theory_ring.specs.Sign.{Signed}
use Rattle.theory_plane.specs.Crossing.{count, member}
use Rattle.theory_plane.specs.Plane.{TestPoint}
use Rattle.theory_addresses.specs.Search.{IsAmong}
use Rattle.theory_addresses.proofs.Lists.{AllByRecursion-from, AllByRecursion-map, IsAmong-flat_map}
use Rattle.theory_addresses.proofs.Ranges.{among-flat_map}
use Rattle.theory_substitution.specs.Points.{Points}
use Rattle.theory_substitution.specs.Supertile.{Placed}
use Rattle.cyclo_points.specs.Order.{NumberOf, points_of}
use Rattle.theory_dissection.specs.Polygons.{tile_polygon}
use Rattle.theory_dissection.specs.Sums.{sum_over, number_of}
use Rattle.theory_frames.specs.Frame.{frame_tiles}
use Rattle.rule_model.specs.declared.rule.Rule.{Rule}
use Rattle.rule_model.specs.Tiling.{Tiling, tiling_of}
use Rattle.tile_place.specs.Searched.{placed_in}
use Rattle.tile_place.proofs.Plane.{its_rule, fits_tables}
use Rattle.tile_place.specs.declared.placed_tile.PlacedTile.{PlacedTile}
use Rattle.theory_windows.specs.Distinct.{AreDistinct}
use Rattle.theory_windows.specs.FramePatch.{frame_patch}
use Rattle.theory_windows.specs.FrameLaws.{FramePatchLaw}
use Rattle.theory_windows.specs.Laws.{WholesLaw}
use Rattle.theory_windows.specs.Outlines.{Polygon}
use Rattle.theory_windows.specs.Patch.{IsDissected}
use Rattle.theory_windows.specs.WholeTiles.{WholeTile as PatchWhole, CountAsTheirParts, WholesCoverBox as PatchWholesCover}
use Rattle.theory_walks.specs.Frames.{FrameValue, whole, IsFrameOf}
use Rattle.theory_walks.proofs.Walks.{whole-fits}
use Rattle.half_glue.specs.declared.whole_tile.WholeTile.{WholeTile}
use Rattle.half_glue.specs.Checked.{HasGlueLaws}
use Rattle.half_glue.specs.Covering.{BoxOf, TilesCover, WholesCover, WholesCoverLaw, all_parts}
use Rattle.half_glue.specs.Given.{lifted_tile}
use Rattle.half_glue.specs.InOrder.{AreWholesInOrder}
use Rattle.half_glue.specs.Outline.{parts_by, whole_parts, polygon_of_whole, WholesCountLaw}
use Rattle.half_glue.specs.WholeTiles.{IsWholeBy, IsWholeTile, IsOneOf, IsPartOf, AreWholeTilesOf}
use Rattle.half_glue.proofs.Growing.{settled}
use Rattle.half_glue.proofs.PartsOnce.{all-among, parts-once}

contains-among : {A : Type 0} (xs : List A) (x : A) → Contains xs x → IsAmong x xs
contains-among {A} xs x c = among xs c.0 c.1 c.2
  where
    among : (ys : List A) (k : ℕ) → k < length ys → get_or ys k x ≡ x → IsAmong x ys
    among [] k l e = absurd (omega (arith, l))
    among (y ∷ ys) zero l e = inl (sym e)
    among (y ∷ ys) (suc k) l e = inr (among ys k (omega (arith, l)) e)

-- ---- the same lists in other words
images-counted : {A B : Type 0} (f : A → B) (test : B → Bool) (xs : List A) → number_of test (map f xs) ≡ number_of (λ x. test (f x)) xs
images-counted f test [] = refl
images-counted f test (x ∷ xs) = ap (λ n. cond (test (f x)) (suc n) n) (images-counted f test xs)

images-summed : {A B : Type 0} (f : A → B) (value : B → ℤ) (xs : List A) → sum_over value (map f xs) ≡ sum_over (λ x. value (f x)) xs
images-summed f value [] = refl
images-summed f value (x ∷ xs) = ap (λ n. value (f x) +ℤ n) (images-summed f value xs)

images-joined : {A B C : Type 0} (f : A → B) (g : B → List C) (xs : List A) → flat_map g (map f xs) ≡ flat_map (λ x. g (f x)) xs
images-joined f g [] = refl
images-joined f g (x ∷ xs) = ap (λ ys. g (f x) ++ ys) (images-joined f g xs)

module _ (t : Tiling) where
  abbrev P : Points
  P = points_of t.order

  abbrev S : Signed
  S = P.real

  abbrev T : Type 0
  T = Placed (NumberOf t.order)

  abbrev polygon : T → Polygon S
  polygon y = tile_polygon P t.rule (λ z. z) y

  -- a whole tile, as one of a patch
  abbrev in_patch : WholeTile → PatchWhole S T
  in_patch w = record { parts = map (placed_in t.order) (whole_parts w); outline = polygon_of_whole t w }

  -- a tile lifted has its polygon
  lifted-counted : (g : FrameValue) (p : TestPoint S.ops.carrier) (tiles : List PlacedTile)
      → number_of (λ y. member S (polygon y) p) (map (lifted_tile t g) tiles) ≡ number_of
      (λ y. member S (polygon y) p) (map (placed_in t.order) tiles)
  lifted-counted g p [] = refl
  lifted-counted g p (x ∷ xs) = ap (λ n. cond (member S (polygon (placed_in t.order x)) p) (suc n) n) (lifted-counted g p xs)

  module _ (g : FrameValue) where
    -- the parts are tiles of the frame
    part-of_frame : (a : PlacedTile) (s : Option PlacedTile) → IsWholeBy t g a s → (y : T)
        → IsAmong y (map (placed_in t.order) (parts_by a s)) → IsAmong y (frame_tiles P t.rule (whole g))
    part-of_frame a None v y (inl e) = subst (λ z. IsAmong z (frame_tiles P t.rule (whole g))) (sym e) v.0.in_frame.among
    part-of_frame a None v y (inr i) = absurd i
    part-of_frame a (Some b) v y (inl e) = subst (λ z. IsAmong z (frame_tiles P t.rule (whole g))) (sym e) v.0.in_frame.among
    part-of_frame a (Some b) v y (inr (inl e)) = subst (λ z. IsAmong z (frame_tiles P t.rule (whole g))) (sym e) v.1.in_frame.among
    part-of_frame a (Some b) v y (inr (inr i)) = absurd i

    -- a part is one of the parts
    is-part : (y : T) (a : PlacedTile) (s : Option PlacedTile) → IsOneOf t y a s → IsAmong y (map (placed_in t.order) (parts_by a s))
    is-part y a None e = inl (sym e)
    is-part y a (Some b) (inl e) = inl (sym e)
    is-part y a (Some b) (inr e) = inr (inl (sym e))

    module _ (law : WholesCountLaw t) (is : IsFrameOf t g) (tiles : List PlacedTile) (wholes : List WholeTile)
        (of : AreWholeTilesOf t g tiles wholes) (in_order : AreWholesInOrder wholes) where
      abbrev parts : PatchWhole S T → List T
      parts w = w.parts

      same-parts : flat_map parts (map in_patch wholes) ≡ all_parts t wholes
      same-parts = images-joined in_patch parts wholes

      are-whole : (w : WholeTile) → IsAmong w wholes → IsWholeTile t g w
      are-whole = all-among (IsWholeTile t g) wholes of.whole

      are-glued : CountAsTheirParts S T (frame_patch P t.rule (whole g)) (map (lifted_tile t g) tiles) (map in_patch wholes)
      are-glued = record {
        of_patch = subst (AllByRecursion (λ y. IsAmong y (frame_tiles P t.rule (whole g)))) (sym same-parts)
            (AllByRecursion-from (λ y. IsAmong y (frame_tiles P t.rule (whole g))) (all_parts t wholes) (λ y i.
            let p = among-flat_map (λ w. map (placed_in t.order) (whole_parts w)) y wholes i in
            part-of_frame p.piece.first p.piece.second (are-whole p.piece p.among) y p.inside));
        counts = AllByRecursion-map (λ (w : PatchWhole S T). (p : TestPoint S.ops.carrier)
            → count S w.outline p ≡ sum_over (λ y. count S (polygon y) p) w.parts) in_patch wholes
            (AllByRecursion-from (λ w. (p : TestPoint S.ops.carrier)
            → count S (polygon_of_whole t w) p ≡ sum_over (λ y. count S (polygon y) p)
            (map (placed_in t.order) (whole_parts w))) wholes
            (λ w i p. law g w is (are-whole w i) p ∙ sym (images-summed (placed_in t.order) (λ y. count S (polygon y) p) (whole_parts w))));
        once = subst AreDistinct (sym same-parts) (parts-once t g wholes of.whole in_order);
        all = subst (λ ys. AllByRecursion (λ y. IsAmong y ys) (map (lifted_tile t g) tiles)) (sym same-parts)
            (AllByRecursion-map (λ y. IsAmong y (all_parts t wholes)) (lifted_tile t g) tiles
            (AllByRecursion-from (λ x. IsAmong (lifted_tile t g x) (all_parts t wholes)) tiles (λ x i.
            let j = all-among (λ x. (w : WholeTile) × Contains wholes w × IsPartOf t g w x) tiles of.each_joined x i in
            IsAmong-flat_map (λ w. map (placed_in t.order) (whole_parts w)) j.0 (lifted_tile t g x) wholes
            (contains-among wholes j.0 j.1) (is-part (lifted_tile t g x) j.0.first j.0.second j.2))));
      }

      pub wholes-cover : PatchWholesCover S T → IsDissected S T (frame_patch P t.rule (whole g))
          → (f : FrameValue) (box : BoxOf t) → TilesCover t f box tiles → WholesCover t box wholes
      wholes-cover covering dissected f box covers p test inside =
          sym (images-counted in_patch (λ (w : PatchWhole S T). member S w.outline p) wholes)
          ∙ covering (frame_patch P t.rule (whole g)) dissected box (map (lifted_tile t g) tiles)
          (λ q at within. lifted-counted g q tiles ∙ covers q at within) (map in_patch wholes) are-glued p
          test inside

pub covered : (m : Rule) → HasGlueLaws m → WholesCountLaw (tiling_of m) → WholesLaw (points_of m.order)
    → FramePatchLaw (points_of m.order) → WholesCoverLaw (tiling_of m)
covered m L counts covering patches f g box tiles wholes is up stand covers of in_order =
    let t = tiling_of m in
    wholes-cover t g counts up.is_frame tiles wholes of in_order covering
    (patches (its_rule m (settled m L)) (whole g) (fits_tables m (settled m L) (whole g) (whole-fits t L.still_fits g up.is_frame))) f box covers
