-- Tiles of a frame that grows: what is across stays across, and what is inside stays inside.
use Rattle.std.proofs.Common.{◌≡◌, ℕ, ◌<◌, ◌≤◌, ◌++◌, length, take, drop, refl, sym, ap, ap₂, ◌∙◌, subst}
use Rattle.std.proofs.lemmas.List.{take_at}
use Rattle.std.proofs.Math.Seq.{drop-append_seam}
use Rattle.theory_addresses.specs.Address.{Address, depth, Fits}
use Rattle.theory_substitution.specs.Points.{Points}
use Rattle.cyclo_points.specs.Order.{points_of}
use Rattle.theory_frames.specs.Frame.{at_level, IsTileOf, StandsInFrame, lifted_in}
use Rattle.theory_frames.proofs.Carried.{some_turn}
use Rattle.theory_frames.proofs.Frames.{IsWhole, lifted-whole, lifted-stands}
use Rattle.rule_model.specs.declared.rule.Rule.{Rule}
use Rattle.rule_model.specs.Tiling.{Tiling, MotionOf, tiling_of, children}
use Rattle.tile_place.specs.Crossed.{edges_of}
use Rattle.tile_place.proofs.Plane.{IsSettled}
use Rattle.theory_walks.specs.Boundary.{IsBoundaryEdge}
use Rattle.theory_walks.specs.Frames.{FrameValue, whole, IsFrameOf, GrowsTo}
use Rattle.theory_walks.specs.Paths.{Crosses}
use Rattle.theory_walks.proofs.Lifting.{Longer, longer, IsTileOf-later, lifted-twice}
use Rattle.theory_walks.proofs.Longer.{further_up, across-whole, inside-longer, Crosses-longer}
use Rattle.theory_walks.proofs.Walked.{whole-tile_of}
use Rattle.theory_walks.proofs.Walks.{whole-fits, GrowsTo-is}
use Rattle.half_glue.specs.Checked.{HasGlueLaws}

pub settled : (m : Rule) → HasGlueLaws m → IsSettled m
settled m L = record { accepted = L.accepted; usable = L.usable; same_child_kinds = L.same_child_kinds }

module _ (m : Rule) (L : HasGlueLaws m) (g h : FrameValue) (is : IsFrameOf (tiling_of m) g) (up : GrowsTo (tiling_of m) g h) where
  abbrev t : Tiling
  t = tiling_of m

  abbrev P : Points
  P = points_of m.order

  above : Longer t g (length g.digits) (length h.digits)
  above = longer t g (length g.digits) (length h.digits) is.holds_base up.no_shallower

  digits-are : h.digits ≡ g.digits ++ above.more
  digits-are = ap (λ (x : FrameValue). x.digits) (GrowsTo-is t g h up) ∙ above.is
      ∙ ap (λ (x : FrameValue). x.digits ++ above.more) (sym is.its_digits)

  frame-is : whole h ≡ further_up (whole g) above.more
  frame-is = λ i. record { kind = (up.same_base i).kind; digits = digits-are i }

  tile-is : (a : Address) → depth a ≡ length g.digits → lifted_in (whole h) a ≡ further_up a above.more
  tile-is a e = ap (further_up a) (ap₂ drop e digits-are ∙ drop-append_seam g.digits above.more)

  level-is : at_level (whole h) (length g.digits) ≡ whole g
  level-is = λ i. record {
    kind = (up.same_base i).kind;
    digits = (ap (take (length g.digits)) digits-are ∙ take_at g.digits above.more (length g.digits) refl)
        i;
  }

  frame-fits : Fits (children t) (whole h)
  frame-fits = whole-fits t L.still_fits h up.is_frame

  -- a tile lifted twice
  pub lifted-on : (a : Address) → depth a ≤ length g.digits → lifted_in (whole h) (lifted_in (whole g) a) ≡ lifted_in (whole h) a
  lifted-on a l = subst (λ y. lifted_in y (lifted_in (whole g) a) ≡ lifted_in y a) (sym frame-is) (lifted-twice (whole g) a above.more l)

  module _ (a : Address) (own : IsWhole (children t) (whole g) a) where
    pub tile-on : IsTileOf (children t) (whole h) a
    tile-on = IsTileOf-later t g h a up is (whole-tile_of (children t) (whole g) a own)

    pub whole-on : IsWhole (children t) (whole h) (lifted_in (whole h) a)
    whole-on = lifted-whole (children t) (whole h) a frame-fits tile-on

    -- it stays in its place
    pub stands-on : (n : MotionOf t) → StandsInFrame P t.rule (whole g) a n → StandsInFrame P t.rule (whole h) (lifted_in (whole h) a) n
    stands-on n stands =
        lifted-stands P L.points (some_turn m.order) t.rule (whole h) a n frame-fits tile-on
        (subst (λ y. StandsInFrame P t.rule y a n) (sym (ap (at_level (whole h)) own.same_depth ∙ level-is)) stands)

    -- an edge that is on the boundary was so before
    pub boundary-before : (e : ℕ) → e < edges_of t a.kind → IsBoundaryEdge t (lifted_in (whole h) a) e → IsBoundaryEdge t a e
    boundary-before e edge on =
        let same = tile-is a own.same_depth in
        inside-longer m (settled m L) L.across L.boundary a e above.more own.fits
        (subst (Fits (children t)) same whole-on.fits) edge (subst (λ y. IsBoundaryEdge t y e) same on)

  -- what is across stays across
  pub crosses-on : (a b : Address) (e f : ℕ) → IsWhole (children t) (whole g) a → Crosses t a e b f
      → Crosses t (lifted_in (whole h) a) e (lifted_in (whole h) b) f
  crosses-on a b e f own x =
      let its : IsWhole (children t) (whole g) b = across-whole m (settled m L) L.across (whole g) a b e f own x in
      let p = tile-is a own.same_depth in
      let q = tile-is b its.same_depth in
      subst (λ y. Crosses t y e (lifted_in (whole h) b) f) (sym p) (subst (λ y. Crosses t (further_up a above.more) e y f) (sym q)
      (Crosses-longer m (settled m L) L.across L.boundary a b e f above.more own.fits
      (subst (Fits (children t)) p (whole-on a own).fits)
      (subst (Fits (children t)) q (whole-on b its).fits) x))
