-- A turn that has come back, with its tiles lifted to the depth of the frame, is the star.
use Rattle.std.proofs.Common.{◌≡◌, ◌↔◌, ℕ, ◌<◌, ◌≤◌, List, [], ◌∷◌, length, map, refl, sym, ap, ◌∙◌, subst, arith}
use Rattle.std.specs.List.{AllByRecursion, AllZip}
use Rattle.std.proofs.lemmas.List.{length-map}
use Rattle.theory_plane.specs.Plane.{PlanePoint}
use Rattle.theory_addresses.specs.Address.{Address, depth}
use Rattle.cyclo_points.specs.Order.{NumberOf, points_of, is_refused}
use Rattle.theory_dissection.specs.Accepted.{AcceptedRule}
use Rattle.theory_frames.specs.Frame.{at_level}
use Rattle.theory_walks.specs.Ancestors.{full}
use Rattle.theory_walks.specs.Frames.{FrameValue, whole, IsFrameOf}
use Rattle.theory_walks.proofs.InFull.{names, deep, level-own}
use Rattle.theory_walks.proofs.Walks.{StillFits}
use Rattle.rule_model.specs.declared.rule.Rule.{Rule}
use Rattle.rule_model.specs.Tiling.{Tiling, tiling_of, children}
use Rattle.theory_substitution.specs.Plane.{plane_point}
use Rattle.theory_substitution.specs.Points.{Points}
use Rattle.theory_substitution.specs.RuleParts.{vertex as vertex_at}
use Rattle.theory_substitution.specs.Supertile.{Placed}
use Rattle.tile_place.specs.Crossed.{edges_of}
use Rattle.tile_place.proofs.Plane.{IsSettled, its_rule}
use Rattle.tile_shape.specs.Views.{address_of}
use Rattle.theory_windows.specs.FramePatch.{growing_frame, frame_patch, in_frame}
use Rattle.theory_windows.specs.GrowingPatch.{GrowingPatch}
use Rattle.theory_stars.specs.Corners.{IsCornerAt, IsTurn}
use Rattle.theory_stars.specs.FrameStar.{corner_named, lifted_corner, IsFrameStar}
use Rattle.theory_stars.specs.Round.{IsRound}
use Rattle.theory_stars.specs.GrownStar.{IsStar}
use Rattle.star_walk.specs.declared.corner.Corner.{Corner}
use Rattle.star_walk.specs.Causes.{most_corners, IsStarWithinLimits}
use Rattle.star_walk.specs.Corners.{CornerOf, corner_in, vertex_of_base}
use Rattle.star_walk.specs.Found.{IsFoundInTurn, corner_name, base_name, HasTurned, IsRaised}
use Rattle.star_walk.specs.Round.{AreRound, AreInTurn, IsLeastForVertex}
use Rattle.star_walk.specs.Sought.{IsStarFound}
use Rattle.star_walk.specs.StarLaws.{HasStarLaws}
use Rattle.star_walk.proofs.Turning.{base-at}
use Rattle.star_walk.proofs.Raised as lift

head-is : {A : Type 0} {a b : A} {us vs : List A} → a ∷ us ≡ b ∷ vs → a ≡ b
head-is e = cc (e)

tail-is : {A : Type 0} {a b : A} {us vs : List A} → a ∷ us ≡ b ∷ vs → us ≡ vs
tail-is e = cc (e)

module _ (m : Rule) (settled : IsSettled m) (fits : StillFits (children (tiling_of m)))
    (L : HasStarLaws (points_of m.order)) (f : FrameValue) (is : IsFrameOf (tiling_of m) f) (i : ℕ)
    (vertex : i < edges_of (tiling_of m) f.base.kind) (g : FrameValue) (corners : List Corner) (w : HasTurned (tiling_of m) f g i corners) where
  abbrev t : Tiling
  t = tiling_of m

  abbrev P : Points
  P = points_of m.order

  abbrev T : AcceptedRule P
  T = its_rule m settled

  abbrev F : Address
  F = full t f

  abbrev v : PlanePoint P.real.ops.carrier
  v = vertex_of_base t f i

  abbrev base : CornerOf t
  base = base_name t f i

  -- the tiles of the frame as they come while it grows
  abbrev G : GrowingPatch P.real (Placed (NumberOf m.order))
  G = growing_frame P (is_refused m.order) T.rule F

  grown : at_level F (length g.digits) ≡ whole g
  grown = lift.grown m settled fits L f is g w.grows

  within : length g.digits ≤ depth F
  within = lift.within m settled fits L f is g w.grows

  abbrev AtF : CornerOf t → Type 0
  AtF = IsCornerAt P.real (Placed (NumberOf m.order)) (frame_patch P T.rule F) v

  -- ---- the star
  star-named : IsStar P.real (Placed (NumberOf m.order)) G v (length f.digits) (length g.digits) (base ∷ w.others)
  star-named = subst (λ k. IsStar P.real (Placed (NumberOf m.order)) G v (length f.digits) k (base ∷ w.others)) (sym w.depth_is)
      (L.answers G (L.simple T F (names m settled fits f is)) v (length f.digits) base (base-at m settled fits L f is i vertex) w.others w.turn)

  least : IsLeastForVertex t f i (length g.digits)
  least = L.least T F (names m settled fits f is) (is_refused m.order) v (length f.digits) (length g.digits) within star-named.least

  -- depth 64 is enough, and no more tiles have the vertex there
  within-limits : IsStarWithinLimits t f i
  within-limits =
      let d = deep m settled fits f is in
      let all = L.whole G (L.simple T F (names m settled fits f is)) v (length f.digits) base
      (base-at m settled fits L f is i vertex) w.others w.turn in
      record {
        enough = (L.off T F (names m settled fits f is) (is_refused m.order) v 64 (omega (arith, d))).0
            (all.0 64 (omega (arith, w.depth_is, w.grows.is_frame.at_most_64)));
        few = λ cs at. let h = all.1 cs at.distinct at.each in omega (arith, h, w.few, count);
      }
    where
      count : length (base ∷ w.others) ≡ length corners
      count = ap length (sym w.names_are) ∙ length-map corners (corner_name t f)

  -- the vertex of the base is the same in a frame that has grown
  vertex-same : vertex_of_base t g i ≡ v
  vertex-same = ap (λ (y : Address). plane_point P (vertex_at P T.rule y.kind i)) w.grows.same_base

  module _ (first : Corner) (rest : List Corner) (z : AllZip (IsRaised g) corners (first ∷ rest)) where
    abbrev base' : CornerOf t
    base' = corner_in m.order first

    abbrev others' : List (CornerOf t)
    others' = map (corner_in m.order) rest

    same-names : map (lifted_corner F) (base' ∷ others') ≡ base ∷ w.others
    same-names = lift.names-lifted m settled fits L f is g w.grows corners (first ∷ rest) w.found z ∙ w.names_are

    first-is : lifted_corner F base' ≡ base
    first-is = head-is same-names

    rest-is : map (lifted_corner F) others' ≡ w.others
    rest-is = tail-is same-names

    frame-star : IsFrameStar P T.rule (whole g) v base' others'
    frame-star = subst (λ y. IsFrameStar P T.rule y v base' others') grown
        (L.star T F (names m settled fits f is) (is_refused m.order) v (length f.digits) (length g.digits)
        within base' others' (lift.all-deep m settled fits L f is g w.grows corners (first ∷ rest) w.found z)
        (subst (IsStar P.real (Placed (NumberOf m.order)) G v (length f.digits) (length g.digits)) (sym same-names) star-named)
        (subst (λ y. IsTurn P.real (Placed (NumberOf m.order)) (frame_patch P T.rule F) y (map (lifted_corner F) others')) (sym first-is)
        (subst (IsTurn P.real (Placed (NumberOf m.order)) (frame_patch P T.rule F) base) (sym rest-is) w.turn)))

    round : AreRound t g i (map (corner_in m.order) (first ∷ rest))
    round = subst (λ y. IsRound P.real (Placed (NumberOf m.order)) (frame_patch P T.rule (whole g)) y
        (base' ∷ others')) (sym vertex-same) frame-star.round

    in_turn : (c : Corner) (cs : List Corner) → corners ≡ c ∷ cs → AreInTurn t g i (map (corner_in m.order) (first ∷ rest))
    in_turn c cs e = record {
      base = base';
      others = others';
      are = refl;
      base_named = law.1 (named ∙ name-own) ∙ grown;
      base_vertex = ap (λ (x : CornerOf t). x.vertex) first-is;
      turn = frame-star.turn;
    }
      where
        h : AllByRecursion (IsFoundInTurn t g most_corners) (c ∷ cs)
        h = subst (AllByRecursion (IsFoundInTurn t g most_corners)) e w.found

        one : AllZip (IsRaised g) (c ∷ cs) (first ∷ rest)
        one = subst (λ xs. AllZip (IsRaised g) xs (first ∷ rest)) e z

        own-name : lifted_corner F base' ≡ corner_name t f c
        own-name = lift.lifted-name m settled fits L f is g w.grows c first h.0 one.0

        same-tile : in_frame P T.rule F (address_of first.tile.addr) ≡ in_frame P T.rule F (address_of c.tile.addr)
        same-tile = lift.renamed m settled fits L f is g w.grows c first h.0 one.0

        -- its own address names it too
        named : corner_named P T.rule F (address_of first.tile.addr) first.vertex ≡ base
        named = (λ j. record { tile = same-tile j; vertex = one.0.same_vertex j }) ∙ sym own-name ∙ first-is

        name-own : base ≡ corner_named P T.rule F (at_level F (length f.digits)) i
        name-own = ap (λ a. corner_named P T.rule F a i) (sym (level-own m settled fits f is))

        few : length f.digits ≤ depth F
        few = omega (arith, is.at_most_64, deep m settled fits f is)

        law : (address_of first.tile.addr ≡ at_level F (length g.digits))
            ↔ (corner_named P T.rule F (address_of first.tile.addr) first.vertex ≡ corner_named P T.rule F
            (at_level F (length f.digits)) i)
        law = L.back T F (names m settled fits f is) v (length f.digits) (length g.digits) few within
            (address_of first.tile.addr) first.vertex i (lift.depth-is m settled fits L f is g w.grows c first h.0 one.0)
            (subst AtF (sym named) (base-at m settled fits L f is i vertex).0) (subst AtF name-own (base-at m settled fits L f is i vertex).0)

  -- ---- as it is answered: there is a corner
  some-name : (cs : List Corner) → map (corner_name t f) cs ≡ base ∷ w.others → (c : Corner) × (more : List Corner) × (cs ≡ c ∷ more)
  some-name [] e = absurd (cc e)
  some-name (c ∷ cs) e = (c, cs, refl)

  some-raised : (ds : List Corner) → AllZip (IsRaised g) corners ds → (first : Corner) × (rest : List Corner) × (ds ≡ first ∷ rest)
  some-raised (d ∷ ds) z = (d, ds, refl)
  some-raised [] z = let c = some-name corners w.names_are in absurd (none c.0 c.1 (subst (λ cs. AllZip (IsRaised g) cs []) c.2 z))
    where
      none : (c : Corner) (cs : List Corner) → AllZip (IsRaised g) (c ∷ cs) [] → ⊥
      none c cs z = z

  -- so it is the star of the vertex
  pub star-found : (ds : List Corner) → AllZip (IsRaised g) corners ds → IsStarFound t f g i ds
  star-found ds z =
      let c = some-name corners w.names_are in
      let d = some-raised ds z in
      let raised : AllZip (IsRaised g) corners (d.0 ∷ d.1) = subst (AllZip (IsRaised g) corners) d.2 z in
      subst (IsStarFound t f g i) (sym d.2) (record {
        round = round d.0 d.1 raised;
        turning = in_turn d.0 d.1 raised c.0 c.1 c.2;
        stand = lift.all-in-place m settled fits L f is g w.grows corners (d.0 ∷ d.1) w.found raised;
        least = least;
        within = within-limits;
      })
