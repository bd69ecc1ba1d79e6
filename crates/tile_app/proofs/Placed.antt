-- Vertices placed one after the other.
use Rattle.std.proofs.Common.{◌≡◌, ℕ, ℤ, ◌+◌, ◌<◌, List, [], ◌∷◌, ◌++◌, length, get_or, map, take, sym, ap, ap₂, ◌∙◌, append_assoc}
use Rattle.std.proofs.lemmas.List.{take_more, map-append}
use Rattle.theory_substitution.specs.Motion.{moved}
use Rattle.theory_substitution.specs.RuleParts.{vertex}
use Rattle.rule_model.specs.Tiling.{Tiling}
use Rattle.tile_place.specs.Corners.{IsCorner}
use Rattle.cyclo_points.specs.declared.point.Point.{Point}
use Rattle.cyclo_points.specs.declared.motion.Motion.{Motion}
use Rattle.cyclo_points.specs.Motion.{motion_in}
use Rattle.cyclo_points.specs.Order.{points_of}
use Rattle.cyclo_points.proofs.Coefficients.{coefficients_of}
use Rattle.tile_app.specs.DrawnTile.{point_of_number}

-- one more, behind the points that were there
pub one_more_of : {A : Type 0} (F : A → Point) (vs : List A) (os ps qs : List Point) (i : ℕ) (p : Point)
    (d : A) → ps ≡ os ++ map F (take i vs) → qs ≡ ps ++ p ∷ [] → i < length vs → p ≡ F (get_or vs i d)
    → qs ≡ os ++ map F (take (i + 1) vs)
one_more_of F vs os ps qs i p d before is below placed =
    is ∙ ap₂ (λ xs x. xs ++ x ∷ []) before placed ∙ append_assoc os (map F (take i vs)) (F (get_or vs i d) ∷ [])
    ∙ ap (λ xs. os ++ xs) (sym (map-append F (take i vs) (get_or vs i d ∷ [])) ∙ ap (map F) (sym (take_more vs i d below)))

-- a corner is where its vertex is placed
pub corner_placed : (t : Tiling) (kind : ℕ) (m : Motion) (e : ℕ) (p : Point) → length p.c ≡ 4 → IsCorner t kind m e p
    → p ≡ point_of_number t.order (moved (points_of t.order) (motion_in t.order m) (vertex (points_of t.order) t.rule kind e))
corner_placed t kind m e p four is = ap (λ (c : List ℤ). (let s : Point = record { c = c } in s))
    (coefficients_of t.order p four is.in_order) ∙ ap (point_of_number t.order) is.place
