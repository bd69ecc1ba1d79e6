-- There are no more whole tiles than tiles given: each has a part among them, and no two share a part.
use Rattle.std.proofs.Common.{◌≡◌, inl, inr, ℕ, zero, suc, ◌<◌, ◌≤◌, List, [], ◌∷◌, ◌++◌, length, get_or, map, Option, None, Some, All, sym, ap, subst, arith}
use Rattle.std.specs.List.{Contains}
use Rattle.std.proofs.lemmas.List.{length-map}
use Rattle.theory_addresses.specs.Search.{IsAmong}
use Rattle.theory_substitution.specs.Supertile.{Placed}
use Rattle.cyclo_points.specs.Order.{NumberOf}
use Rattle.rule_model.specs.Tiling.{Tiling}
use Rattle.tile_place.specs.declared.placed_tile.PlacedTile.{PlacedTile}
use Rattle.tile_place.specs.Searched.{placed_in}
use Rattle.theory_walks.specs.Frames.{FrameValue}
use Rattle.theory_windows.specs.Distinct.{AreDistinct}
use Rattle.theory_windows.proofs.Members.{no-more}
use Rattle.half_glue.specs.declared.whole_tile.WholeTile.{WholeTile}
use Rattle.half_glue.specs.Covering.{PartsOnceLaw, all_parts}
use Rattle.half_glue.specs.Given.{lifted_tile}
use Rattle.half_glue.specs.InOrder.{AreWholesInOrder}
use Rattle.half_glue.specs.Outline.{whole_parts, parts_by}
use Rattle.half_glue.specs.WholeTiles.{AreWholeTilesOf, IsOneOf, IsPartOf}

among_image : {A B : Type 0} (f : A → B) (x : A) (xs : List A) → Contains xs x → IsAmong (f x) (map f xs)
among_image {A} f x xs c = at xs c.0 c.1 c.2
  where
    at : (ys : List A) (k : ℕ) → k < length ys → get_or ys k x ≡ x → IsAmong (f x) (map f ys)
    at [] k l e = absurd (omega (arith, l))
    at (y ∷ ys) zero l e = inl (ap f (sym e))
    at (y ∷ ys) (suc k) l e = inr (at ys k (omega (arith, l)) e)

among_left : {A : Type 0} (x : A) (xs ys : List A) → IsAmong x xs → IsAmong x (xs ++ ys)
among_left x [] ys i = elim i [ ]
among_left x (z ∷ zs) ys (inl e) = inl e
among_left x (z ∷ zs) ys (inr i) = inr (among_left x zs ys i)

among_right : {A : Type 0} (x : A) (xs ys : List A) → IsAmong x ys → IsAmong x (xs ++ ys)
among_right x [] ys i = i
among_right x (z ∷ zs) ys i = inr (among_right x zs ys i)

-- what is in the one part of a list without repetitions is not in the other
apart : {A : Type 0} (x : A) (xs ys : List A) → AreDistinct (xs ++ ys) → IsAmong x xs → ¬ IsAmong x ys
apart x [] ys d i j = elim i [ ]
apart x (z ∷ zs) ys d (inl e) j = d.0 (subst (λ u. IsAmong u (zs ++ ys)) e (among_right x zs ys j))
apart x (z ∷ zs) ys d (inr i) j = apart x zs ys d.1 i j

behind : {A : Type 0} (xs ys : List A) → AreDistinct (xs ++ ys) → AreDistinct ys
behind [] ys d = d
behind (x ∷ xs) ys d = behind xs ys d.1

module _ (t : Tiling) (f : FrameValue) (tiles : List PlacedTile) where
  abbrev T : Type 0
  T = Placed (NumberOf t.order)

  is_part : (y : T) (a : PlacedTile) (s : Option PlacedTile) → IsOneOf t y a s → IsAmong y (map (placed_in t.order) (parts_by a s))
  is_part y a None e = inl (sym e)
  is_part y a (Some b) (inl e) = inl (sym e)
  is_part y a (Some b) (inr e) = inr (inl (sym e))

  -- a part of each whole tile that is among the tiles given, all of them different
  record Chosen (wholes : List WholeTile) : Type 0 where
    ys : List T
    long : length ys ≡ length wholes
    given : (y : T) → IsAmong y ys → IsAmong y (map (lifted_tile t f) tiles)
    parts : (y : T) → IsAmong y ys → IsAmong y (all_parts t wholes)
    distinct : AreDistinct ys

  chosen : (wholes : List WholeTile) → All (λ w. (x : PlacedTile) × Contains tiles x × IsPartOf t f w x) wholes
      → AreDistinct (all_parts t wholes) → Chosen wholes
  chosen [] h d = record { ys = []; long = omega arith; given = λ y i. elim i [ ]; parts = λ y i. elim i [ ]; distinct = tt }
  chosen (w ∷ ws) h d = more (h zero w (omega arith)) (chosen ws (λ k e l. h (suc k) e (omega (arith, l))) (behind own (all_parts t ws) d))
    where
      own : List T
      own = map (placed_in t.order) (whole_parts w)

      more : (x : PlacedTile) × Contains tiles x × IsPartOf t f w x → Chosen ws → Chosen (w ∷ ws)
      more p c = record {
        ys = y ∷ c.ys;
        long = ap suc c.long;
        given = λ z i. its_given z i;
        parts = λ z i. its_parts z i;
        distinct = (λ i. apart y own (all_parts t ws) d own-part (c.parts y i), c.distinct);
      }
        where
          y : T
          y = lifted_tile t f p.0

          own-part : IsAmong y own
          own-part = is_part y w.first w.second p.2

          its_given : (z : T) → IsAmong z (y ∷ c.ys) → IsAmong z (map (lifted_tile t f) tiles)
          its_given z (inl e) = subst (λ u. IsAmong u (map (lifted_tile t f) tiles)) (sym e) (among_image (lifted_tile t f) p.0 tiles p.1)
          its_given z (inr i) = c.given z i

          its_parts : (z : T) → IsAmong z (y ∷ c.ys) → IsAmong z (all_parts t (w ∷ ws))
          its_parts z (inl e) = subst (λ u. IsAmong u (all_parts t (w ∷ ws))) (sym e) (among_left y own (all_parts t ws) own-part)
          its_parts z (inr i) = among_right z own (all_parts t ws) (c.parts z i)

  pub wholes_few : (wholes : List WholeTile) → PartsOnceLaw t → AreWholeTilesOf t f tiles wholes → AreWholesInOrder wholes
      → length wholes ≤ length tiles
  wholes_few wholes once of in_order =
      let c : Chosen wholes = chosen wholes of.of_given (once f wholes of.whole in_order) in
      omega (arith, no-more c.ys (map (lifted_tile t f) tiles) c.distinct c.given, c.long, length-map tiles (lifted_tile t f))
