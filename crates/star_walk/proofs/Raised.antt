-- The corners of a turn, each with its tile lifted to the depth of the frame.
use Rattle.std.proofs.Common.{◌≡◌, ◌*◌, ◌^◌, ◌<◌, ◌≤◌, List, [], ◌∷◌, length, map, refl, sym, ap, ap₂, ◌∙◌, subst, arith}
use Rattle.std.specs.List.{AllByRecursion, AllZip}
use Rattle.std.proofs.lemmas.List.Elements.{All-from_recursion}
use Rattle.theory_addresses.specs.Address.{Address, depth}
use Rattle.theory_addresses.proofs.Lists.{AllByRecursion-each}
use Rattle.cyclo_points.specs.declared.motion.Motion.{Motion}
use Rattle.cyclo_points.specs.Order.{NumberOf, points_of}
use Rattle.cyclo_points.specs.Motion.{motion_in}
use Rattle.cyclo_points.specs.Point.{IsOf, IsWithin}
use Rattle.cyclo_points.proofs.Within.{point_wider}
use Rattle.theory_dissection.specs.Accepted.{AcceptedRule}
use Rattle.theory_frames.specs.Frame.{at_level, lifted_in, motion_beside, StandsInFrame}
use Rattle.theory_frames.proofs.Carried.{some_turn}
use Rattle.theory_frames.proofs.Frames.{IsWhole, lifted-whole, StandsInFrame-whole}
use Rattle.theory_walks.specs.Ancestors.{full}
use Rattle.theory_walks.specs.Frames.{FrameValue, whole, IsFrameOf, GrowsTo}
use Rattle.lazy_walk.specs.Standing.{Stands}
use Rattle.theory_walks.proofs.InFull.{names, deep, level-grown, same-full, by_level}
use Rattle.theory_walks.proofs.Walked.{whole-tile_of}
use Rattle.theory_walks.proofs.Walks.{StillFits, whole-fits}
use Rattle.rule_model.specs.declared.rule.Rule.{Rule}
use Rattle.rule_model.specs.Tiling.{Tiling, tiling_of, children}
use Rattle.theory_substitution.specs.Points.{Points}
use Rattle.theory_substitution.specs.Supertile.{Placed}
use Rattle.tile_place.proofs.Plane.{IsSettled, its_rule}
use Rattle.tile_shape.specs.Views.{address_of}
use Rattle.theory_windows.specs.FramePatch.{in_frame}
use Rattle.theory_stars.specs.FrameStar.{lifted_corner, AreOfDepth}
use Rattle.star_walk.specs.declared.corner.Corner.{Corner}
use Rattle.star_walk.specs.Causes.{most_corners}
use Rattle.star_walk.specs.Corners.{CornerOf, corner_in}
use Rattle.star_walk.specs.Found.{IsFoundInTurn, corner_name, IsRaised}
use Rattle.star_walk.specs.Round.{AreInPlace}
use Rattle.star_walk.specs.StarLaws.{HasStarLaws}

module _ (m : Rule) (settled : IsSettled m) (fits : StillFits (children (tiling_of m)))
    (L : HasStarLaws (points_of m.order)) (f : FrameValue) (is : IsFrameOf (tiling_of m) f)
    (g : FrameValue) (grows : GrowsTo (tiling_of m) f g) where
  abbrev t : Tiling
  t = tiling_of m

  abbrev P : Points
  P = points_of m.order

  abbrev T : AcceptedRule P
  T = its_rule m settled

  abbrev F : Address
  F = full t f

  pub grown : at_level F (length g.digits) ≡ whole g
  grown = level-grown m settled fits f is g grows

  pub within : length g.digits ≤ depth F
  within = omega (arith, grows.is_frame.at_most_64, deep m settled fits f is)

  -- ---- one corner
  module _ (c d : Corner) (found : IsFoundInTurn t g most_corners c) (raised : IsRaised g c d) where
    abbrev a : Address
    a = address_of c.tile.addr

    abbrev b : Address
    b = address_of d.tile.addr

    own : IsWhole (children t) (whole g) b
    own = subst (IsWhole (children t) (whole g)) (sym raised.its_address)
        (lifted-whole (children t) (whole g) a (whole-fits t fits g grows.is_frame) found.of_frame)

    pub renamed : in_frame P T.rule F b ≡ in_frame P T.rule F a
    renamed =
        ap (in_frame P T.rule F) (raised.its_address ∙ ap (λ y. lifted_in y a) (sym grown))
        ∙ (L.renamed T F (names m settled fits f is) (length g.digits) within a (by_level m settled fits f is g grows a found.of_frame)).1

    motion-is : motion_in m.order d.tile.motion ≡ (in_frame P T.rule F b).motion
    motion-is =
        ap (motion_in m.order) raised.same_motion ∙ found.motion_is
        ∙ ap (λ y. (in_frame P T.rule y a).motion) (same-full m settled fits f is g grows)
        ∙ ap (λ (x : Placed (NumberOf m.order)). x.motion) (sym renamed)

    pub depth-is : depth b ≡ length g.digits
    depth-is = own.same_depth

    pub lifted-name : lifted_corner F (corner_in m.order d) ≡ corner_name t f c
    lifted-name = λ j. record { tile = (whole-name ∙ renamed) j; vertex = raised.same_vertex j }
      where
        whole-name : record { address = lifted_in F b; motion = motion_in m.order d.tile.motion } ≡ in_frame P T.rule F b
        whole-name = λ j. record { address = lifted_in F b; motion = motion-is j }

    pub stands : Stands t g d.tile
    stands = record {
      its_kind = raised.same_kind ∙ found.its_kind ∙ sym (ap (λ (y : Address). y.kind) raised.its_address);
      of_frame = whole-tile_of (children t) (whole g) b own;
      at_depth = own.same_depth;
      in_frame = subst (StandsInFrame P T.rule (whole g) b) (sym (motion-is ∙ beside))
          (StandsInFrame-whole P L.points (some_turn m.order) T.rule (whole g) b own);
      turn_below = subst (λ (y : Motion). y.turn < P.order) (sym raised.same_motion) found.turn_below;
      in_order = subst (λ (y : Motion). IsOf m.order y.shift) (sym raised.same_motion) found.in_order;
    }
      where
        beside : (in_frame P T.rule F b).motion ≡ motion_beside P T.rule (whole g).digits b.digits
        beside = ap (λ (y : Address). motion_beside P T.rule y.digits b.digits) (ap (at_level F) depth-is ∙ grown)

    pub shift-within : IsWithin (2 ^ 24) d.tile.motion.shift
    shift-within = subst (λ (y : Motion). IsWithin (2 ^ 24) y.shift) (sym raised.same_motion)
        (point_wider (2 ^ 8 * most_corners) (2 ^ 24) _ (omega arith) found.shift_within)

  -- ---- all corners
  pub names-lifted : (cs ds : List Corner) → AllByRecursion (IsFoundInTurn t g most_corners) cs
      → AllZip (IsRaised g) cs ds → map (lifted_corner F) (map (corner_in m.order) ds) ≡ map (corner_name t f) cs
  names-lifted [] [] h z = refl
  names-lifted [] (d ∷ ds) h z = absurd z
  names-lifted (c ∷ cs) [] h z = absurd z
  names-lifted (c ∷ cs) (d ∷ ds) h z = ap₂ (λ (x : CornerOf t) (xs : List (CornerOf t)). x ∷ xs)
      (lifted-name c d h.0 z.0) (names-lifted cs ds h.1 z.1)

  pub all-deep : (cs ds : List Corner) → AllByRecursion (IsFoundInTurn t g most_corners) cs → AllZip (IsRaised g) cs ds
      → AreOfDepth (length g.digits) (map (corner_in m.order) ds)
  all-deep [] [] h z = tt
  all-deep [] (d ∷ ds) h z = absurd z
  all-deep (c ∷ cs) [] h z = absurd z
  all-deep (c ∷ cs) (d ∷ ds) h z = (depth-is c d h.0 z.0, all-deep cs ds h.1 z.1)

  all-stand : (cs ds : List Corner) → AllByRecursion (IsFoundInTurn t g most_corners) cs
      → AllZip (IsRaised g) cs ds → AllByRecursion
      (λ (d : Corner). Stands t g d.tile × IsWithin (2 ^ 24) d.tile.motion.shift) ds
  all-stand [] [] h z = tt
  all-stand [] (d ∷ ds) h z = absurd z
  all-stand (c ∷ cs) [] h z = absurd z
  all-stand (c ∷ cs) (d ∷ ds) h z = ((stands c d h.0 z.0, shift-within c d h.0 z.0), all-stand cs ds h.1 z.1)

  -- so each stands in its place
  pub all-in-place : (cs ds : List Corner) → AllByRecursion (IsFoundInTurn t g most_corners) cs
      → AllZip (IsRaised g) cs ds → AreInPlace t g ds
  all-in-place cs ds h z = record {
    stand = All-from_recursion (λ (c : Corner). Stands t g c.tile) ds
        (AllByRecursion-each _ (λ (c : Corner). Stands t g c.tile) ds (λ c p. p.0) (all-stand cs ds h z));
    shifts_within = All-from_recursion (λ (c : Corner). IsWithin (2 ^ 24) c.tile.motion.shift) ds
        (AllByRecursion-each _ (λ (c : Corner). IsWithin (2 ^ 24) c.tile.motion.shift) ds (λ c p. p.1)
        (all-stand cs ds h z));
  }
