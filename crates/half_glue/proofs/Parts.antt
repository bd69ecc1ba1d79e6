-- The parts of a whole tile are a tile given and the one across, and the shift of neither is refused.
use Rattle.std.proofs.Common.{◌≡◌, inl, inr, ℕ, ◌^◌, Bool, true, false, List, [], ◌∷◌, Option, None, Some, All, get_or, refl, sym, ap, ◌∙◌, subst}
use Rattle.std.proofs.lemmas.List.Elements.{All-from_recursion}
use Rattle.theory_addresses.specs.Address.{Address}
use Rattle.theory_substitution.specs.Supertile.{Placed}
use Rattle.cyclo_points.specs.declared.point.Point.{Point}
use Rattle.cyclo_points.specs.Order.{NumberOf, is_refused}
use Rattle.cyclo_points.specs.Point.{IsWithin}
use Rattle.cyclo_points.proofs.Refusal.{some_beyond, within-some_beyond, some_beyond-decides, some_beyond-refused}
use Rattle.theory_frames.specs.Frame.{lifted_in}
use Rattle.rule_model.specs.declared.rule.Rule.{Rule}
use Rattle.rule_model.specs.Glue.{IsGlueEdge}
use Rattle.rule_model.specs.Tiling.{Tiling, tiling_of}
use Rattle.tile_place.specs.Searched.{placed_in}
use Rattle.tile_place.specs.declared.placed_tile.PlacedTile.{PlacedTile}
use Rattle.tile_shape.specs.Views.{address_of}
use Rattle.theory_walks.specs.Ancestors.{full}
use Rattle.theory_walks.specs.Frames.{FrameValue, whole, IsFrameOf, GrowsTo}
use Rattle.theory_walks.specs.Paths.{Crosses}
use Rattle.lazy_walk.specs.Standing.{Stands}
use Rattle.theory_walks.proofs.Ancestors.{full-later}
use Rattle.half_glue.specs.declared.whole_tile.WholeTile.{WholeTile}
use Rattle.half_glue.specs.Checked.{HasGlueLaws}
use Rattle.half_glue.specs.Given.{lifted_tile, IsGiven, AreGiven}
use Rattle.half_glue.specs.Limits.{CanBeJoined, CanBeGlued}
use Rattle.half_glue.specs.Outline.{parts_by}
use Rattle.half_glue.specs.Parts.{HasPartsWithin}
use Rattle.half_glue.specs.WholeTiles.{IsWholeBy, IsOneOf, AreWholeTilesOf}
use Rattle.half_glue.proofs.Halves.{unrefused-across}
use Rattle.half_glue.proofs.Settling.{given-on}

not-beyond : (p : Point) → IsWithin (2 ^ 24) p → some_beyond p ≡ false
not-beyond p h = at_test (some_beyond p) refl
  where
    at_test : (b : Bool) → some_beyond p ≡ b → b ≡ false
    at_test true e = absurd ((some_beyond-decides p).0 e h)
    at_test false e = refl

module _ (m : Rule) (L : HasGlueLaws m) (f g : FrameValue) (is : IsFrameOf (tiling_of m) f) (up : GrowsTo (tiling_of m) f g) where
  abbrev t : Tiling
  t = tiling_of m

  abbrev AreWithin : List PlacedTile → Type 0
  AreWithin tiles = All (λ y. IsWithin (2 ^ 24) y.motion.shift) tiles

  module _ (x : PlacedTile) (given : IsGiven t f x) (can : CanBeJoined t (full t f) x) where
    unrefused : (y : PlacedTile) → Stands t g y → is_refused m.order (placed_in m.order y).motion.shift ≡ false → IsWithin (2 ^ 24) y.motion.shift
    unrefused y stands e = within-some_beyond y.motion.shift (some_beyond-refused m.order y.motion.shift stands.in_order ∙ e)

    -- the part that was given
    own-within : (a : PlacedTile) → Stands t g a → placed_in m.order a ≡ lifted_tile t g x → IsWithin (2 ^ 24) a.motion.shift
    own-within a stands e =
        unrefused a stands (ap (λ (y : Placed (NumberOf m.order)). is_refused m.order y.motion.shift) e
        ∙ sym (some_beyond-refused m.order x.motion.shift given.in_order)
        ∙ not-beyond x.motion.shift given.within)

    -- and the one across
    other-within : (a b : PlacedTile) (e back : ℕ) → Stands t g a → Stands t g b
        → placed_in m.order a ≡ lifted_tile t g x → IsGlueEdge t.rule a.kind e
        → Crosses t (address_of a.addr) e (address_of b.addr) back
        → IsWithin (2 ^ 24) b.motion.shift
    other-within a b e back sa sb same glue over =
        let address : address_of a.addr ≡ lifted_in (whole g) (address_of x.addr) = ap (λ (y : Placed (NumberOf m.order)). y.address) same in
        let kind : a.kind ≡ x.kind = sa.its_kind ∙ ap (λ (y : Address). y.kind) address ∙ sym given.its_kind in
        unrefused b sb
        (unrefused-across m L g up.is_frame x (given-on m L f is x given g up)
        (subst (λ y. CanBeJoined t y x) (sym (full-later t f g up)) can) e
        (subst (λ k. IsGlueEdge t.rule k e) kind glue) b back
        (subst (λ y. Crosses t y e (address_of b.addr) back) address over) sb)

    parts-within : (a : PlacedTile) (second : Option PlacedTile) → IsWholeBy t g a second
        → IsOneOf t (lifted_tile t g x) a second → AreWithin (parts_by a second)
    parts-within a None w e = All-from_recursion (λ y. IsWithin (2 ^ 24) y.motion.shift) (a ∷ []) (own-within a w.0 e, tt)
    parts-within a (Some b) w (inl e) =
        All-from_recursion (λ y. IsWithin (2 ^ 24) y.motion.shift) (a ∷ b ∷ [])
        (own-within a w.0 e, (other-within a b w.2.edge w.2.its_edge w.0 w.1 e w.2.glue_edge.glue_edge w.2.across, tt))
    parts-within a (Some b) w (inr e) =
        All-from_recursion (λ y. IsWithin (2 ^ 24) y.motion.shift) (a ∷ b ∷ [])
        (other-within b a w.2.its_edge w.2.edge w.1 w.0 e w.2.its_glue_edge.glue_edge w.2.back, (own-within b w.1 e, tt))

  pub all-within : (tiles : List PlacedTile) (wholes : List WholeTile) → AreGiven t f tiles
      → CanBeGlued t f tiles → AreWholeTilesOf t g tiles wholes → All HasPartsWithin wholes
  all-within tiles wholes given can h = λ i d l.
      let w = get_or wholes i d in
      let part = h.of_given i d l in
      let x = part.0 in
      let among = part.1 in
      parts-within x (subst (IsGiven t f) among.2 (given among.0 x among.1))
      (subst (CanBeJoined t (full t f)) among.2 (can among.0 x among.1)) w.first w.second (h.whole i d l)
      part.2
