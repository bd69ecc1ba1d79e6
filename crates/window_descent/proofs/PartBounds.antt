-- How a part stands to a window by its bounds, and bounds of a list of points.
use Rattle.std.proofs.Common.{◌≡◌, ℕ, ◌<◌, ◌+◌, false, List, [], ◌∷◌, take, length, map, get_or, refl, sym, ap, ◌∙◌, subst, inl, inr, ◌⊎◌, arith}
use Rattle.std.proofs.Common.{◌≤ℤ◌}
use Rattle.std.proofs.lemmas.Int.{ints}
use Rattle.std.proofs.lemmas.List.{take_more}
use Rattle.std.specs.List.{AllByRecursion}
use Rattle.theory_addresses.proofs.Lists.{AllByRecursion-append, AllByRecursion-each, AllByRecursion-map}
use Rattle.theory_ring.specs.Ring.{power}
use Rattle.theory_substitution.specs.Motion.{moved}
use Rattle.theory_substitution.specs.Plane.{plane_point}
use Rattle.theory_substitution.specs.Points.{Points}
use Rattle.theory_substitution.specs.RuleParts.{vertices_of}
use Rattle.theory_frames.specs.Outline.{outline}
use Rattle.cyclo_points.specs.declared.order.Order.{Order}
use Rattle.cyclo_points.specs.declared.point.Point.{Point}
use Rattle.cyclo_points.specs.Order.{NumberOf, points_of}
use Rattle.cyclo_points.specs.Motion.{motion_in}
use Rattle.cyclo_points.specs.Point.{point_in}
use Rattle.cyclo_points.proofs.OrderLaws.{laws_of}
use Rattle.cyclo_points.proofs.Divisors.{divisors_of}
use Rattle.plane_geom.specs.declared.window.Window.{Window}
use Rattle.plane_geom.specs.Spots.{PlanePointOf, reals_of, spot_of}
use Rattle.rule_model.specs.declared.rule.Rule.{Rule}
use Rattle.rule_model.specs.Tiling.{tiling_of}
use Rattle.rule_model.specs.Usable.{origin}
use Rattle.rule_model.specs.Views.{rule_of}
use Rattle.tile_place.proofs.Plane.{IsSettled, its_rule}
use Rattle.theory_walks.specs.Ancestors.{factor_power}
use Rattle.theory_descents.specs.Insets.{IsInBox, IsBeyondBox, IsWithinBox, inside_right, inside_left, inside_upper, inside_lower}
use Rattle.theory_descents.specs.Parts.{part_polygon}
use Rattle.theory_descents.proofs.Carried as law
use Rattle.window_descent.specs.declared.bounds.Bounds.{Bounds}
use Rattle.window_descent.specs.declared.part.Part.{Part}
use Rattle.window_descent.specs.declared.standing.Standing.{Standing}
use Rattle.window_descent.specs.declared.standing.Standing.TheVariants.{Beyond, Within, Across}
use Rattle.window_descent.specs.Standing.{window_box}
use Rattle.window_descent.specs.Bounds.{AreBounds, AreLimits, LiesBetween, IsEnclosed, shifted_spot}
use Rattle.window_descent.specs.Parts.{IsPlacedPart, IsPlacedBy, only_turned}
use Rattle.window_descent.proofs.RowsMade.{origin-zero}

-- ---- a point more
pub all-more : {A : Type 0} (Q T : A → Type 0) → ((x : A) → Q x → T x) → (xs : List A) (i : ℕ) (d : A) → i < length xs → AllByRecursion Q (take i xs)
    → T (get_or xs i d) → AllByRecursion T (take (i + 1) xs)
all-more Q T f xs i d h all own =
    subst (AllByRecursion T) (sym (take_more xs i d h))
    (AllByRecursion-append T (take i xs) (get_or xs i d ∷ []) (AllByRecursion-each Q T (take i xs) f all) (own, tt))

-- ---- the bounds of the vertices that are found
pub bounds-read : (m : Rule) (o : Order) → o ≡ m.order → (scale : Point) (kind turn : ℕ) (corners : List Point) → map (point_in m.order) corners
    ≡ outline (points_of m.order) (rule_of m) kind (point_in m.order scale) (motion_in m.order (only_turned turn))
    → (b : Bounds) → AllByRecursion (λ p. IsEnclosed o b (spot_of o p)) corners → AreBounds m scale kind turn b
bounds-read m o same scale kind turn corners read b h =
    subst (AllByRecursion (λ z. IsEnclosed m.order b (plane_point (points_of m.order) z))) read
    (AllByRecursion-map (λ z. IsEnclosed m.order b (plane_point (points_of m.order) z)) (point_in m.order) corners
    (subst (λ q. AllByRecursion (λ p. IsEnclosed q b (spot_of q p)) corners) same h))

-- ---- what holds of the images of all holds of other images
pub all-carried : {A B : Type 0} (Q T : B → Type 0) (f g : A → B) → ((x : A) → Q (f x) → T (g x)) → (xs : List A) → AllByRecursion Q (map f xs)
    → AllByRecursion T (map g xs)
all-carried Q T f g h [] all = tt
all-carried Q T f g h (x ∷ xs) all = (h x all.0, all-carried Q T f g h xs all.1)

module _ (m : Rule) (settled : IsSettled m) (w : Window) (level : ℕ) (p : Part) (is : IsPlacedPart m p) (wide : 0 < w.w) (high : 0 < w.h)
    (scale : Point) (e : point_in m.order scale ≡ factor_power (tiling_of m) level) (b limits : Bounds)
    (bounds : AreBounds m scale p.kind p.motion.turn b) (kept : AreLimits m.order w p.motion.shift limits) where
  abbrev P : Points
  P = points_of m.order

  abbrev far : NumberOf m.order → NumberOf m.order
  far v = P.ring.mul (power P.ring P.zeta p.motion.turn) (P.ring.mul (factor_power (tiling_of m) level) v)

  abbrev Enclosed : PlanePointOf m.order → Type 0
  Enclosed v = IsEnclosed m.order b v

  -- the vertices before they are shifted
  enclosed : AllByRecursion (λ z. Enclosed (plane_point P z))
      (outline P (rule_of m) p.kind (factor_power (tiling_of m) level) (motion_in m.order (only_turned p.motion.turn)))
  enclosed = subst (λ z. AllByRecursion (λ v. Enclosed (plane_point P v))
      (outline P (rule_of m) p.kind z (motion_in m.order (only_turned p.motion.turn)))) e bounds

  unshifted : (v : NumberOf m.order) → P.ring.add (far v) (point_in m.order origin) ≡ far v
  unshifted v = ap (P.ring.add (far v)) (origin-zero m.order) ∙ (laws_of m.order).of_ring.add_zero (far v)

  -- what holds of each vertex that is enclosed, shifted, holds of the polygon
  of-polygon : (T : PlanePointOf m.order → Type 0) → ((z : NumberOf m.order) → Enclosed (plane_point P z) → T (shifted_spot m.order p.motion.shift z))
      → AllByRecursion T (part_polygon P (rule_of m) p.kind level (motion_in m.order p.motion))
  of-polygon T f =
      AllByRecursion-map T (plane_point P) (outline P (rule_of m) p.kind (factor_power (tiling_of m) level) (motion_in m.order p.motion))
      (all-carried (λ z. Enclosed (plane_point P z)) (λ z. T (plane_point P z))
      (λ v. moved P (motion_in m.order (only_turned p.motion.turn)) (P.ring.mul (factor_power (tiling_of m) level) v))
      (λ v. moved P (motion_in m.order p.motion) (P.ring.mul (factor_power (tiling_of m) level) v))
      (λ v h. f (far v) (subst (λ z. Enclosed (plane_point P z)) (unshifted v) h)) (vertices_of (rule_of m) p.kind) enclosed)

  -- ---- beyond a limit
  beyond : ((limits.right ≤ℤ b.left) ⊎ (b.right ≤ℤ limits.left)) ⊎ ((limits.upper ≤ℤ b.lower) ⊎ (b.upper ≤ℤ limits.lower))
      → IsBeyondBox (reals_of m.order) (window_box m.order w) (part_polygon P (rule_of m) p.kind level (motion_in m.order p.motion))
  beyond (inl (inl h)) =
      inl (inl (of-polygon (λ v. inside_right (reals_of m.order) (window_box m.order w) v ≡ false)
      (λ z k. (kept.right z k.short_x).fails (let l = k.left in omega (arith, ints)))))
  beyond (inl (inr h)) =
      inl (inr (of-polygon (λ v. inside_left (reals_of m.order) (window_box m.order w) v ≡ false)
      (λ z k. (kept.left z k.short_x).fails (let l = k.right in omega (arith, ints)))))
  beyond (inr (inl h)) =
      inr (inl (of-polygon (λ v. inside_upper (reals_of m.order) (window_box m.order w) v ≡ false)
      (λ z k. (kept.upper z k.short_y).fails (let l = k.lower in omega (arith, ints)))))
  beyond (inr (inr h)) =
      inr (inr (of-polygon (λ v. inside_lower (reals_of m.order) (window_box m.order w) v ≡ false)
      (λ z k. (kept.lower z k.short_y).fails (let l = k.upper in omega (arith, ints)))))

  -- ---- within all
  within : LiesBetween b limits Within
      → IsWithinBox (reals_of m.order) (window_box m.order w) (part_polygon P (rule_of m) p.kind level (motion_in m.order p.motion))
  within h =
      let right = h.right in
      let left = h.left in
      let upper = h.upper in
      let lower = h.lower in
      of-polygon (IsInBox (reals_of m.order) (window_box m.order w))
      (λ z k. record {
        right = (kept.right z k.short_x).passes (let l = k.right in omega (arith, ints));
        left = (kept.left z k.short_x).passes (let l = k.left in omega (arith, ints));
        upper = (kept.upper z k.short_y).passes (let l = k.upper in omega (arith, ints));
        lower = (kept.lower z k.short_y).passes (let l = k.lower in omega (arith, ints));
      })

  pub placed-between : (s : Standing) → LiesBetween b limits s → (s ≡ Across → 0 < level) → IsPlacedBy (tiling_of m) w level p s
  placed-between Beyond h l =
      law.pruned_law P (laws_of m.order) (divisors_of m.order) (its_rule m settled) (window_box m.order w) wide high p.kind level
      (motion_in m.order p.motion) is.kind_exists is.turn_below (beyond h)
  placed-between Within h l =
      law.taken_law P (laws_of m.order) (divisors_of m.order) (its_rule m settled) (window_box m.order w) wide high p.kind level
      (motion_in m.order p.motion) is.kind_exists is.turn_below (within h)
  placed-between Across h l = l refl
