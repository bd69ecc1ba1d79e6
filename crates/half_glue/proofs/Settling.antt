-- Tiles given, in a frame that grows until their glue edges are inside.
use Rattle.std.proofs.Common.{◌≡◌, ℕ, [], ◌∷◌, length, true, false, refl, sym, ◌∙◌, subst, arith}
use Rattle.std.specs.List.{Contains}
use Rattle.theory_addresses.specs.Address.{Address}
use Rattle.theory_substitution.specs.Points.{Points}
use Rattle.cyclo_points.specs.Order.{points_of, is_refused}
use Rattle.cyclo_points.specs.Point.{point_in}
use Rattle.cyclo_points.specs.Motion.{motion_in}
use Rattle.theory_frames.specs.Frame.{StandsInFrame, lifted_in}
use Rattle.rule_model.specs.declared.rule.Rule.{Rule}
use Rattle.cyclo_points.proofs.Refusal.{within-some_beyond, some_beyond-refused}
use Rattle.theory_frames.proofs.Frames.{IsWhole}
use Rattle.rule_model.specs.Glue.{IsGlueEdge}
use Rattle.rule_model.specs.Tiling.{Tiling, tiling_of, children}
use Rattle.tile_place.specs.Crossed.{IsOnlyAcross}
use Rattle.tile_place.specs.declared.placed_tile.PlacedTile.{PlacedTile}
use Rattle.tile_shape.specs.Views.{address_of}
use Rattle.theory_walks.specs.Ancestors.{full}
use Rattle.theory_walks.specs.Boundary.{IsBoundaryEdge}
use Rattle.theory_walks.specs.Frames.{FrameValue, whole, IsFrameOf, GrowsTo, lifted_at}
use Rattle.theory_walks.specs.Paths.{Crosses}
use Rattle.lazy_walk.specs.Standing.{Stands}
use Rattle.theory_walks.proofs.Ancestors.{full-later}
use Rattle.theory_walks.proofs.Lifting.{IsTileOf-later, lifted-later}
use Rattle.half_glue.specs.Causes.{IsRefusedGlueShift}
use Rattle.half_glue.specs.Checked.{HasGlueLaws}
use Rattle.half_glue.specs.Depth.{IsGluedInside, IsTooShallow}
use Rattle.half_glue.specs.Given.{IsGiven}
use Rattle.half_glue.specs.Found.{AreGlued, IsOtherHalf}
use Rattle.half_glue.specs.Limits.{CanBeJoined}
use Rattle.half_glue.proofs.Across.{crosses}
use Rattle.half_glue.proofs.Growing.{stands-on, lifted-on, boundary-before, crosses-on}
use Rattle.half_glue.proofs.Halves.{given-whole, glue-edge-of, glued-of, glued-joined, unrefused-across, stands-given, lifted-self}

-- a list of one contains it
pub the-one : {A : Type 0} (x : A) → Contains (x ∷ []) x
the-one x = (0, omega arith, refl)

-- a tile of which the glue edge is on the boundary
pub alone-shallow : (t : Tiling) (f : FrameValue) (x : PlacedTile) (edge n : ℕ) → IsGlueEdge t.rule x.kind edge
    → (a : Address) → a ≡ address_of x.addr → IsBoundaryEdge t (lifted_at t f a n) edge → IsTooShallow t f (x ∷ []) n
alone-shallow t f x edge n glue_edge a same on = record {
  tile = x;
  edge = edge;
  is_given = the-one x;
  glue_edge = glue_edge;
  on_boundary = subst (λ b. IsBoundaryEdge t (lifted_at t f b n) edge) same on;
}

module _ (m : Rule) (L : HasGlueLaws m) (f : FrameValue) (is : IsFrameOf (tiling_of m) f) (x : PlacedTile) (given : IsGiven (tiling_of m) f x) where
  abbrev t : Tiling
  t = tiling_of m

  abbrev P : Points
  P = points_of m.order

  module _ (g : FrameValue) (up : GrowsTo t f g) where
    -- a tile given is one in each frame that this one may become
    pub given-on : IsGiven t g x
    given-on = record {
      its_kind = given.its_kind;
      of_frame = IsTileOf-later t f g (address_of x.addr) up is given.of_frame;
      in_frame = subst (λ y. StandsInFrame P t.rule (whole g) y (motion_in m.order x.motion))
          (lifted-on m L f g is up (address_of x.addr) given.of_frame.no_deeper)
          (stands-on m L f g is up (lifted_in (whole f) (address_of x.addr)) (given-whole m L f is x given)
          (motion_in m.order x.motion) given.in_frame);
      turn_below = given.turn_below;
      in_order = given.in_order;
      within = given.within;
    }

    -- a glue edge that is inside stays inside
    pub inside-on : IsGluedInside t f (length f.digits) x → IsGluedInside t f (length g.digits) x
    inside-on inside e glue on =
        let a = lifted_in (whole f) (address_of x.addr) in
        let there : IsBoundaryEdge t (lifted_in (whole g) a) e = subst (λ y. IsBoundaryEdge t y e)
        (sym (lifted-on m L f g is up (address_of x.addr) given.of_frame.no_deeper
        ∙ lifted-later t f g (address_of x.addr) up)) on in
        let here = boundary-before m L f g is up a (given-whole m L f is x given) e (glue-edge-of m L f is x given e glue) there in
        inside e glue (subst (λ y. IsBoundaryEdge t (lifted_in (whole y) (address_of x.addr)) e) is.its_digits here)

    -- two tiles that are glued in this frame
    module _ (y : PlacedTile) (its : IsGiven t g y) (glued : AreGlued t g x y) where
      pub settled-inside : IsGluedInside t f (length g.digits) x
      settled-inside e glue =
          subst (λ d. ¬ IsBoundaryEdge t (lifted_at t f (address_of x.addr) (length g.digits)) d) (sym (glued.glue_edge.only e glue))
          (subst (λ y. ¬ IsBoundaryEdge t y glued.edge) (lifted-later t f g (address_of x.addr) up) glued.across.inside)

      pub settled-joined : CanBeJoined t (full t f) x
      settled-joined = subst (λ z. CanBeJoined t z x) (full-later t f g up) (glued-joined m L g up.is_frame x given-on y its glued)

    -- the tile to which one crosses
    module _ (edge : ℕ) (glue_edge : IsGlueEdge t.rule x.kind edge) (other : PlacedTile)
        (stands : Stands t g other) (back : ℕ) (over : IsOnlyAcross t
        (lifted_in (whole g) (address_of x.addr)) edge (address_of other.addr) back) where
      own-whole : IsWhole (children t) (whole g) (lifted_in (whole g) (address_of x.addr))
      own-whole = given-whole m L g up.is_frame x given-on

      crossing : Crosses t (lifted_in (whole g) (address_of x.addr)) edge (address_of other.addr) back
      crossing =
          crosses m L (lifted_in (whole g) (address_of x.addr)) (address_of other.addr) edge back
          own-whole.fits stands.of_frame.fits (glue-edge-of m L g up.is_frame x given-on edge glue_edge)
          over

      pub crossed-glued : is_refused m.order (point_in m.order other.motion.shift) ≡ false → IsOtherHalf t g x other
      crossed-glued unrefused =
          let its : IsGiven t g other = stands-given t g other stands
          (within-some_beyond other.motion.shift
          (some_beyond-refused m.order other.motion.shift stands.in_order ∙ unrefused)) in
          let same = lifted-self (whole g) (address_of other.addr) stands.at_depth in (
            its,
            glued-of m L g up.is_frame x given-on other its edge back glue_edge
                (subst (λ b. IsOnlyAcross t (lifted_in (whole g) (address_of x.addr)) edge b back) same over),
          )

      pub not-refused : CanBeJoined t (full t f) x → is_refused m.order (point_in m.order other.motion.shift) ≡ false
      not-refused can =
          unrefused-across m L g up.is_frame x given-on
          (subst (λ y. CanBeJoined t y x) (sym (full-later t f g up)) can) edge glue_edge other back
          crossing stands

      pub refused-shift : is_refused m.order (point_in m.order other.motion.shift) ≡ true → IsRefusedGlueShift t g (x ∷ []) other.motion.shift
      refused-shift beyond = record {
        tile = x;
        is_given = the-one x;
        edge = edge;
        glue_edge = glue_edge;
        other = address_of other.addr;
        back = back;
        across = crossing;
        motion = motion_in m.order other.motion;
        stands = stands.in_frame;
        its_shift = refl;
        value_in_order = stands.in_order;
        is_refused = beyond;
      }

    -- tiles that are glued stay glued
    pub glued-on : (y : PlacedTile) → IsGiven t f y → AreGlued t f x y → AreGlued t g x y
    glued-on y its glued =
        let a = lifted_in (whole f) (address_of x.addr) in
        let b = lifted_in (whole f) (address_of y.addr) in
        let own = lifted-on m L f g is up (address_of x.addr) given.of_frame.no_deeper in
        let other = lifted-on m L f g is up (address_of y.addr) its.of_frame.no_deeper in
        record {
          edge = glued.edge;
          its_edge = glued.its_edge;
          glue_edge = glued.glue_edge;
          its_glue_edge = glued.its_glue_edge;
          across = subst (λ z. Crosses t z glued.edge (lifted_in (whole g) (address_of y.addr)) glued.its_edge) own
              (subst (λ z. Crosses t (lifted_in (whole g) a) glued.edge z glued.its_edge) other
              (crosses-on m L f g is up a b glued.edge glued.its_edge (given-whole m L f is x given)
              glued.across));
          back = subst (λ z. Crosses t z glued.its_edge (lifted_in (whole g) (address_of x.addr)) glued.edge) other
              (subst (λ z. Crosses t (lifted_in (whole g) b) glued.its_edge z glued.edge) own
              (crosses-on m L f g is up b a glued.its_edge glued.edge (given-whole m L f is y its)
              glued.back));
          other_kind = glued.other_kind;
        }
