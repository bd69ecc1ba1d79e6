-- What the search from the top down finds is the only tile that holds the point.
use Rattle.std.proofs.Common.{◌≡◌, ◌↔◌, ℕ, ◌<◌, true, cond, length, None, Some, Result, Ok, Err, IsOk, IfOk, IfErr, refl, sym, ap, ◌∙◌, subst}
use Rattle.std.proofs.lemmas.Simd.{map-map}
use Rattle.theory_addresses.specs.Address.{depth, Fits}
use Rattle.theory_addresses.specs.Search.{IsAmong}
use Rattle.theory_plane.specs.Plane.{test_point}
use Rattle.theory_plane.specs.Crossing.{member}
use Rattle.theory_dissection.specs.Polygons.{tile_polygon}
use Rattle.theory_addresses.proofs.Lists.{AllByRecursion-among, IsAmong-map}
use Rattle.theory_substitution.specs.Motion.{moved, followed}
use Rattle.theory_substitution.specs.Plane.{plane_point}
use Rattle.theory_substitution.specs.Points.{Points}
use Rattle.theory_substitution.specs.Rule.{Rule as TheRule}
use Rattle.theory_substitution.specs.RuleParts.{vertices_of}
use Rattle.theory_substitution.specs.Supertile.{Placed, supertile}
use Rattle.theory_substitution.specs.Placement.{placement}
use Rattle.theory_substitution.proofs.Placement.{IsPlaced, supertile-placed}
use Rattle.theory_dissection.specs.Laws.{DissectionLaw}
use Rattle.theory_frames.specs.Outline.{supertile_holds}
use Rattle.theory_frames.specs.Descent.{tile_below, tile_holding}
use Rattle.theory_frames.specs.Looked.{values_looked_at}
use Rattle.theory_frames.proofs.Carried.{held}
use Rattle.theory_frames.proofs.Fitting.{IsFitting, supertile-fits}
use Rattle.theory_frames.proofs.Located.{IsMoved, IsMoved-depth, tile_below-moved, tile_below-some, tile_below-holds}
use Rattle.cyclo_points.specs.Order.{NumberOf, PointsLaw, points_of}
use Rattle.rule_model.specs.declared.rule.Rule.{Rule}
use Rattle.rule_model.specs.Tiling.{tiling_of, children, MotionOf}
use Rattle.rule_model.specs.Views.{rule_of}
use Rattle.tile_place.specs.declared.placed_tile.PlacedTile.{PlacedTile}
use Rattle.tile_place.specs.declared.locate_fault.LocateFault.{LocateFault}
use Rattle.tile_place.specs.declared.locate_fault.LocateFault.TheVariants.{NotInside, CoordLimit}
use Rattle.tile_place.specs.Located.{moved_tiles, IsOnlyTileHolding, HasInside, first_refused_looked_at, IsCauseOf}
use Rattle.tile_place.specs.Searched.{placed_in, IsFoundTile, IsSearchFault}
use Rattle.tile_place.proofs.Plane.{IsSettled, its_rule}
use Rattle.tile_place.proofs.Held.{IsDissected, has_holders, only_one}

module _ (m : Rule) (settled : IsSettled m) (W : PointsLaw m.order) (law : DissectionLaw (points_of m.order))
    (k n : ℕ) (exists : k < length (rule_of m).kinds) (at : MotionOf (tiling_of m))
    (below : at.turn < (points_of m.order).order)
    (p : NumberOf m.order) where
  abbrev P : Points
  P = points_of m.order

  abbrev r : TheRule P.ring.carrier
  r = rule_of m

  dissected : IsDissected P r
  dissected = law (its_rule m settled)

  -- the search ends at a tile exactly where the supertile holds the point
  inside : (t : Placed P.ring.carrier) → tile_holding P r k n at p ≡ Some t → HasInside (tiling_of m) k n at p
  inside t e = (held (supertile_holds P r k n at p) (tile_below P r k n at p) t e).0

  outside : tile_holding P r k n at p ≡ None → ¬ HasInside (tiling_of m) k n at p
  outside e h =
      let t = tile_below-some P W r (has_holders P W r dissected settled.usable.numbered.child_exists) k n at p h in
      absurd (cc (sym e ∙ ap (λ b. cond b (tile_below P r k n at p) None) h ∙ t.1))

  module _ (t : Placed P.ring.carrier) (e : tile_holding P r k n at p ≡ Some t) where
    found : tile_below P r k n at p ≡ Some t
    found = (held (supertile_holds P r k n at p) (tile_below P r k n at p) t e).1

    own : IsMoved P W r k n at t
    own = tile_below-moved P W r k n at p t below found

    pub located-depth : depth t.address ≡ n
    located-depth = IsMoved-depth P W r k n at t own

    pub located-fits : Fits (children (tiling_of m)) t.address
    located-fits = (AllByRecursion-among (λ (x : Placed P.ring.carrier). IsFitting P r
        settled.usable.numbered.child_exists k x.address) (record { address = t.address; motion = own.own })
        (supertile P r k n) own.among
        (supertile-fits P r settled.usable.numbered.child_exists k n exists)).fits

    pub located-motion : t.motion ≡ followed P (placement P r t.address.digits) at
    located-motion = own.moved ∙ ap (λ g. followed P g at)
        (AllByRecursion-among (IsPlaced P W r n) (record { address = t.address; motion = own.own })
        (supertile P r k n) own.among (supertile-placed P W r k n)).motion_is

    pub located-only : IsOnlyTileHolding (tiling_of m) k n at p t
    located-only = record {
      here = record { among = among; holds = holds };
      only = λ y h. only_one P W r dissected settled.usable.numbered.child_exists p k n at exists (inside t e) t y among holds h.among h.holds;
    }
      where
        among : IsAmong t (moved_tiles (tiling_of m) k n at)
        among = subst (λ g. IsAmong (record { address = t.address; motion = g }) (moved_tiles (tiling_of m) k n at)) (sym own.moved)
            (IsAmong-map (λ (x : Placed P.ring.carrier). record
            { address = x.address; motion = followed P x.motion at })
            (record { address = t.address; motion = own.own }) (supertile P r k n) own.among)

        holds : member P.real (tile_polygon P r (λ z. z) t) (test_point P.real.ops (plane_point P p)) ≡ true
        holds = ap (λ vs. member P.real vs (test_point P.real.ops (plane_point P p)))
            (sym (map-map (plane_point P) (moved P t.motion) (vertices_of r t.address.kind)))
            ∙ tile_below-holds P W r k n at p t (inside t e) found

  -- ---- the answer
  module _ (x : Result PlacedTile LocateFault)
      (found : IfOk x (IsFoundTile m.order (values_looked_at P r k n at p) (tile_holding P r k n at p)))
      (fault : IfErr x (IsSearchFault m.order (values_looked_at P r k n at p)
      (tile_holding P r k n at p))) where
    cause_of : (f : LocateFault) → IsSearchFault m.order (values_looked_at P r k n at p)
        (tile_holding P r k n at p) f → IsCauseOf (tiling_of m) k n at p f
    cause_of NotInside h = (h.0, outside h.1)
    cause_of (CoordLimit v) h = h

    pub causes : IfErr x (IsCauseOf (tiling_of m) k n at p)
    causes = by x fault
      where
        by : (x : Result PlacedTile LocateFault)
            → IfErr x (IsSearchFault m.order (values_looked_at P r k n at p) (tile_holding P r k n at p))
            → IfErr x (IsCauseOf (tiling_of m) k n at p)
        by (Ok t) h = tt
        by (Err f) h = cause_of f h

    -- it is a tile exactly where no value is refused and the supertile holds the point
    pub found_exactly : IsOk x ↔ ((first_refused_looked_at (tiling_of m) k n at p ≡ None) × HasInside (tiling_of m) k n at p)
    found_exactly = by x found causes
      where
        by : (x : Result PlacedTile LocateFault) → IfOk x (IsFoundTile m.order (values_looked_at P r k n at p) (tile_holding P r k n at p))
            → IfErr x (IsCauseOf (tiling_of m) k n at p)
            → IsOk x ↔ ((first_refused_looked_at (tiling_of m) k n at p ≡ None) × HasInside (tiling_of m) k n at p)
        by (Ok t) h c = (λ _. (h.none_refused, inside (placed_in m.order t) h.holder), λ _. refl)
        by (Err NotInside) h c = (λ u. absurd (cc u), λ f. absurd (c.1 f.1))
        by (Err (CoordLimit v)) h c = (λ u. absurd (cc u), λ f. absurd (cc (sym f.0 ∙ c.0)))

    -- and NotInside exactly where none is refused and it doesn't
    pub not_inside : (x ≡ Err NotInside) ↔ ((first_refused_looked_at (tiling_of m) k n at p ≡ None) × (¬ HasInside (tiling_of m) k n at p))
    not_inside = by x found causes
      where
        by : (x : Result PlacedTile LocateFault)
            → IfOk x (IsFoundTile m.order (values_looked_at P r k n at p) (tile_holding P r k n at p))
            → IfErr x (IsCauseOf (tiling_of m) k n at p)
            → (x ≡ Err NotInside) ↔ ((first_refused_looked_at (tiling_of m) k n at p ≡ None) × (¬ HasInside (tiling_of m) k n at p))
        by (Ok t) h c = (λ e. absurd (cc e), λ f. absurd (f.1 (inside (placed_in m.order t) h.holder)))
        by (Err NotInside) h c = (λ _. c, λ _. refl)
        by (Err (CoordLimit v)) h c = (λ e. absurd (cc e), λ f. absurd (cc (sym f.0 ∙ c.0)))
