-- Two polygons glued along an edge of each count as both together.
use Rattle.std.proofs.Common.{◌≡◌, ℕ, suc, ◌<◌, ◌≤◌, List, [], ◌∷◌, ◌++◌, ◌+ℤ◌, length, get_or, take, drop, map, sym, ap, ap₂, ◌∙◌, append_assoc}
use Rattle.std.proofs.lemmas.List.{take-append-drop, map-append}
use Rattle.theory_ring.specs.Sign.{Signed}
use Rattle.theory_plane.specs.Plane.{PlanePoint, TestPoint}
use Rattle.theory_plane.specs.Crossing.{count}
use Rattle.theory_windows.specs.Gluing.{Rotation, Gluing}
use Rattle.theory_windows.specs.Outlines.{Polygon}
use Rattle.half_glue.specs.Outline.{begun_behind, inner_of, glued}
use Rattle.half_glue.proofs.BegunBehind.{behind, HasBegun, has-begun, inner}

module _ (S : Signed) (rotation : Rotation S) (gluing : Gluing S) {A : Type 0} (at : A → PlanePoint S.ops.carrier) where
  -- from whichever vertex it begins
  begun-counts : (xs : List A) (e : ℕ) (p : TestPoint S.ops.carrier) → count S (map at (begun_behind e xs)) p ≡ count S (map at xs) p
  begun-counts xs e p =
      ap (λ (vs : Polygon S). count S vs p) (map-append at (drop (suc e) xs) (take (suc e) xs))
      ∙ rotation (map at (drop (suc e) xs)) (map at (take (suc e) xs)) p
      ∙ ap (λ (vs : Polygon S). count S vs p) (sym (map-append at (take (suc e) xs) (drop (suc e) xs)) ∙ ap (map at) (take-append-drop (suc e) xs))

  -- edge f of the second runs from the end of edge e of the first to its start
  module _ (o : A) (xs ys : List A) (e f : ℕ) (e_exists : e < length xs) (f_exists : f < length ys) (some : 2 ≤ length xs) (its_some : 2 ≤ length ys)
      (from_end : get_or ys f o ≡ get_or xs (behind xs e) o) (to_start : get_or ys (behind ys f) o ≡ get_or xs e o) where
    first : HasBegun o xs e (behind xs e)
    first = has-begun o xs e e_exists some

    second : HasBegun o ys f (behind ys f)
    second = has-begun o ys f f_exists its_some

    second-is : begun_behind f ys ≡ get_or xs e o ∷ (second.others ++ get_or xs (behind xs e) o ∷ [])
    second-is = second.is ∙ ap₂ (λ (x y : A). x ∷ (second.others ++ y ∷ [])) to_start from_end

    outline-is : glued e xs f ys ≡ (get_or xs (behind xs e) o ∷ first.others) ++ get_or xs e o ∷ second.others
    outline-is =
        ap₂ (λ (us vs : List A). us ++ inner_of vs) first.is second-is
        ∙ ap (λ (vs : List A). (get_or xs (behind xs e) o ∷ (first.others ++ get_or xs e o ∷ [])) ++ vs)
        (inner (get_or xs e o) second.others (get_or xs (behind xs e) o))
        ∙ append_assoc (get_or xs (behind xs e) o ∷ first.others) (get_or xs e o ∷ []) second.others

    pub glued-counts : (p : TestPoint S.ops.carrier) → count S (map at (glued e xs f ys)) p ≡ count S (map at xs) p +ℤ count S (map at ys) p
    glued-counts p =
        let a = get_or xs e o in
        let b = get_or xs (behind xs e) o in
        ap (λ (vs : Polygon S). count S vs p) (ap (map at) outline-is ∙ map-append at (b ∷ first.others) (a ∷ second.others))
        ∙ gluing (at a) (at b) (map at first.others) (map at second.others) p
        ∙ ap₂ (λ n k. n +ℤ k)
        (ap (λ (vs : Polygon S). count S vs p) (sym (ap (map at) first.is ∙ map-append at (b ∷ first.others) (a ∷ []))) ∙ begun-counts xs e p)
        (ap (λ (vs : Polygon S). count S vs p) (sym (ap (map at) second-is ∙ map-append at (a ∷ second.others) (b ∷ []))) ∙ begun-counts ys f p)
