-- From a corner of the turn to the next one: the turn goes on, or is back at the base.
use Rattle.std.proofs.Common.{◌≡◌, ◌⊎◌, inl, inr, ℕ, ◌+◌, ◌<◌, ◌≤◌, max, List, [], ◌∷◌, ◌++◌, length, refl, sym, ap, ◌∙◌, subst, arith, length-append}
use Rattle.std.specs.List.{AllByRecursion}
use Rattle.std.proofs.lemmas.List.{map-append}
use Rattle.theory_plane.specs.Plane.{PlanePoint}
use Rattle.theory_addresses.specs.Address.{Address, depth}
use Rattle.theory_addresses.specs.Search.{IsAmong}
use Rattle.theory_addresses.proofs.Lists.{AllByRecursion-each, AllByRecursion-append}
use Rattle.theory_addresses.proofs.Ranges.{among-append}
use Rattle.cyclo_points.specs.Order.{NumberOf, points_of, is_refused}
use Rattle.theory_dissection.specs.Accepted.{AcceptedRule}
use Rattle.theory_frames.specs.Frame.{lifted_in}
use Rattle.theory_walks.specs.Ancestors.{full}
use Rattle.lazy_walk.specs.Crossed.{IsCrossedTo}
use Rattle.theory_walks.specs.Frames.{FrameValue, whole, at_depth, IsFrameOf, GrowsTo}
use Rattle.theory_walks.proofs.Ancestors.{full-later}
use Rattle.theory_walks.proofs.InFull.{names, deep, level-own, level-grown}
use Rattle.theory_walks.proofs.Walks.{StillFits, GrowsTo-then}
use Rattle.rule_model.specs.declared.rule.Rule.{Rule}
use Rattle.rule_model.specs.Tiling.{Tiling, tiling_of, children}
use Rattle.theory_substitution.specs.Points.{Points}
use Rattle.theory_substitution.specs.RuleParts.{edge_count}
use Rattle.theory_substitution.specs.Supertile.{Placed}
use Rattle.tile_place.specs.Crossed.{edges_of}
use Rattle.tile_place.proofs.Plane.{IsSettled, its_rule}
use Rattle.tile_shape.specs.Views.{address_of}
use Rattle.theory_windows.specs.FramePatch.{growing_frame, frame_patch, level_in}
use Rattle.theory_windows.specs.GrowingPatch.{GrowingPatch}
use Rattle.theory_stars.specs.Corners.{IsCornerAt, IsNext, Turns, last_corner}
use Rattle.theory_stars.specs.FrameStar.{corner_named}
use Rattle.theory_stars.specs.GrownStar.{IsCornerOfDepth, deepest}
use Rattle.theory_stars.specs.Round.{IsSimplyDissected}
use Rattle.theory_stars.proofs.GrownStar.{turns-more, last-more}
use Rattle.theory_stars.proofs.Turning.{turn-at}
use Rattle.star_walk.specs.declared.corner.Corner.{Corner}
use Rattle.star_walk.specs.Causes.{most_corners}
use Rattle.star_walk.specs.Corners.{CornerOf, vertex_of_base}
use Rattle.star_walk.specs.Found.{its_edge, IsFoundInTurn, corner_name, base_name, IsOnTheWay, HasTurned}
use Rattle.star_walk.specs.StarLaws.{HasStarLaws}
use Rattle.star_walk.proofs.Names.{next-named, next-found, found-later}
use Rattle.star_walk.proofs.Turning.{base-at, edge-below}

module _ (m : Rule) (settled : IsSettled m) (fits : StillFits (children (tiling_of m)))
    (L : HasStarLaws (points_of m.order)) (f : FrameValue) (is : IsFrameOf (tiling_of m) f) (i : ℕ)
    (vertex : i < edges_of (tiling_of m) f.base.kind) (g : FrameValue) (corners : List Corner) (last : Corner)
    (w : IsOnTheWay (tiling_of m) f g i corners last)
    (k : FrameValue) (h : GrowsTo (tiling_of m) g k) (b : Corner)
    (x : IsCrossedTo (tiling_of m) g k (address_of last.tile.addr) last.tile.motion
    (its_edge (tiling_of m) last) b.tile b.vertex) where
  abbrev t : Tiling
  t = tiling_of m

  abbrev P : Points
  P = points_of m.order

  abbrev T : AcceptedRule P
  T = its_rule m settled

  abbrev F : Address
  F = full t f

  abbrev v : PlanePoint P.real.ops.carrier
  v = vertex_of_base t f i

  abbrev base : CornerOf t
  base = base_name t f i

  -- the tiles of the frame as they come while it grows
  abbrev G : GrowingPatch P.real (Placed (NumberOf m.order))
  G = growing_frame P (is_refused m.order) T.rule F

  abbrev AtF : CornerOf t → Type 0
  AtF = IsCornerAt P.real (Placed (NumberOf m.order)) (frame_patch P T.rule F) v

  abbrev NextF : CornerOf t → CornerOf t → Type 0
  NextF = IsNext P.real (Placed (NumberOf m.order)) (frame_patch P T.rule F)

  simple : IsSimplyDissected P.real (Placed (NumberOf m.order)) (frame_patch P T.rule F)
  simple = L.simple T F (names m settled fits f is)

  own-base : IsCornerOfDepth P.real (Placed (NumberOf m.order)) G v (length f.digits) base
  own-base = base-at m settled fits L f is i vertex

  few : length f.digits ≤ depth F
  few = omega (arith, is.at_most_64, deep m settled fits f is)

  abbrev now : IsFrameOf t g
  now = w.grows.is_frame

  same : full t g ≡ F
  same = full-later t f g w.grows

  below : its_edge t last < edge_count T.rule last.tile.addr.kind
  below = edge-below m settled fits L f is i vertex g corners last w

  pub both : GrowsTo t f k
  both = GrowsTo-then t f g k w.grows h

  pub next : NextF (last_corner base w.others) (corner_name t f b)
      × (max (length g.digits) (level_in F (lifted_in F (address_of b.tile.addr))) ≡ length k.digits)
  next = subst (λ c. NextF c (corner_name t f b)
      × (max (length g.digits) (level_in F (lifted_in F (address_of b.tile.addr))) ≡ length k.digits))
      w.last_is
      (subst (λ y. IsNext P.real (Placed (NumberOf m.order)) (frame_patch P T.rule y)
      (corner_named P T.rule y (address_of last.tile.addr) last.vertex)
      (corner_named P T.rule y (address_of b.tile.addr) b.vertex)
      × (max (length g.digits) (level_in y (lifted_in y (address_of b.tile.addr))) ≡ length k.digits)) same
      (next-named m settled fits L g now k h last b (length corners) w.last_found below x))

  turned : Turns P.real (Placed (NumberOf m.order)) (frame_patch P T.rule F) base (w.others ++ corner_name t f b ∷ [])
  turned = turns-more P.real L.points.of_real L.points.of_order G simple v base w.others (corner_name t f b) w.in_order next.0

  b-at : AtF (corner_name t f b)
  b-at = turn-at P.real L.points.of_real L.points.of_order (frame_patch P T.rule F) simple v base
      (w.others ++ corner_name t f b ∷ []) own-base.0 turned (corner_name t f b) (inr (more w.others))
    where
      more : (ds : List (CornerOf t)) → IsAmong (corner_name t f b) (ds ++ corner_name t f b ∷ [])
      more [] = inl refl
      more (d ∷ ds) = inr (more ds)

  deepest-more : (n : ℕ) (ds : List (CornerOf t)) → deepest P.real (Placed (NumberOf m.order)) G n (ds ++ corner_name t f b ∷ [])
      ≡ max (deepest P.real (Placed (NumberOf m.order)) G n ds) (level_in F (lifted_in F (address_of b.tile.addr)))
  deepest-more n [] = refl
  deepest-more n (d ∷ ds) = deepest-more (max n (level_in F d.tile.address)) ds

  pub depth-more : length k.digits ≡ deepest P.real (Placed (NumberOf m.order)) G (length f.digits) (w.others ++ corner_name t f b ∷ [])
  depth-more = sym next.1 ∙ ap (λ n. max n (level_in F (lifted_in F (address_of b.tile.addr)))) w.depth_is
      ∙ sym (deepest-more (length f.digits) w.others)

  pub within : length k.digits ≤ depth F
  within = omega (arith, both.is_frame.at_most_64, deep m settled fits f is)

  back : (address_of b.tile.addr ≡ whole k → corner_name t f b ≡ base) × (corner_name t f b ≡ base → address_of b.tile.addr ≡ whole k)
  back =
      let grown = level-grown m settled fits f is k both in
      let own = level-own m settled fits f is in
      let law = L.back T F (names m settled fits f is) v (length f.digits) (length k.digits) few within
      (address_of b.tile.addr) b.vertex i (omega (arith, x.at_depth)) b-at
      (subst (λ a. AtF (corner_named P T.rule F a i)) (sym own) own-base.0) in (
        λ e. law.0 (e ∙ sym grown) ∙ ap (λ a. corner_named P T.rule F a i) own,
        λ e. law.1 (e ∙ ap (λ a. corner_named P T.rule F a i) (sym own)) ∙ grown,
      )

  found-on : (n : ℕ) → length corners ≤ n → AllByRecursion (IsFoundInTurn t k n) corners
  found-on n le = AllByRecursion-each (IsFoundInTurn t g (length corners)) (IsFoundInTurn t k n) corners
      (λ c. found-later m settled fits L g now k h (length corners) n le c) w.found

  -- ---- the base: the turn is at its end
  pub ended : address_of b.tile.addr ≡ whole k → length corners ≤ 64 → HasTurned t f k i corners
  ended e le = record {
    grows = both;
    few = le;
    found = found-on most_corners le;
    others = w.others;
    names_are = w.names_are;
    turn = record { in_order = w.in_order; back = subst (NextF (last_corner base w.others)) (back.0 e) next.0; first_time = w.not_back };
    depth_is = sym shallow ∙ w.depth_is;
  }
    where
      level : level_in F (lifted_in F (address_of b.tile.addr)) ≤ length f.digits
      level = subst (λ (c : CornerOf t). level_in F c.tile.address ≤ length f.digits) (sym (back.0 e)) own-base.1

      shallow : length g.digits ≡ length k.digits
      shallow = omega (arith, next.1, level, w.grows.no_shallower)

  -- ---- another tile
  module _ (other : address_of b.tile.addr ≡ whole k → ⊥) where
    pub new : corner_name t f b ≡ base → ⊥
    new e = other (back.1 e)

    pub stepped : IsOnTheWay t f k i (corners ++ b ∷ []) b
    stepped = record {
      grows = both;
      found = AllByRecursion-append (IsFoundInTurn t k (length (corners ++ b ∷ []))) corners (b ∷ [])
          (found-on (length (corners ++ b ∷ [])) longer) (b-found, tt);
      last_found = b-found;
      others = w.others ++ corner_name t f b ∷ [];
      names_are = map-append (corner_name t f) corners (b ∷ []) ∙ ap (λ cs. cs ++ corner_name t f b ∷ []) w.names_are;
      last_is = sym (last-more P.real L.points.of_real L.points.of_order G simple v base w.others (corner_name t f b));
      in_order = turned;
      not_back = λ j. at_case (among-append base w.others (corner_name t f b ∷ []) j);
      depth_is = depth-more;
    }
      where
        one_more : length (corners ++ b ∷ []) ≡ length corners + 1
        one_more = length-append corners (b ∷ [])

        longer : length corners ≤ length (corners ++ b ∷ [])
        longer = omega (arith, one_more)

        b-found : IsFoundInTurn t k (length (corners ++ b ∷ [])) b
        b-found = subst (λ n. IsFoundInTurn t k n b) (sym one_more)
            (next-found m settled fits L g now k h last b (length corners) w.last_found below x)

        at_case : IsAmong base w.others ⊎ IsAmong base (corner_name t f b ∷ []) → ⊥
        at_case (inl j) = absurd (w.not_back j)
        at_case (inr (inl e)) = new (sym e)
        at_case (inr (inr j)) = elim j [ ]
