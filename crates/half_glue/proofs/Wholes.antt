-- The whole tiles of pairs, arranged, are the whole tiles of the tiles given.
use Rattle.std.proofs.Common.{◌≡◌, inl, inr, None, Some, Option, ℕ, ◌<◌, List, ◌++◌, All, map, get_or, sym, ap, ◌∙◌, subst, arith}
use Rattle.std.specs.List.{Contains}
use Rattle.std.proofs.lemmas.List.{get_or_default}
use Rattle.theory_addresses.specs.Address as theory
use Rattle.theory_substitution.specs.Points.{Points}
use Rattle.cyclo_points.specs.Order.{points_of}
use Rattle.cyclo_points.specs.Motion.{motion_in}
use Rattle.theory_frames.specs.Frame.{IsTileOf, StandsInFrame, lifted_in}
use Rattle.theory_frames.proofs.Frames.{IsWhole}
use Rattle.rule_model.specs.declared.rule.Rule.{Rule}
use Rattle.rule_model.specs.Glue.{IsGlueEdge}
use Rattle.rule_model.specs.Tiling.{Tiling, tiling_of, children}
use Rattle.tile_place.specs.Crossed.{placed_tile}
use Rattle.tile_place.specs.Searched.{placed_in}
use Rattle.tile_place.specs.declared.placed_tile.PlacedTile.{PlacedTile}
use Rattle.tile_shape.specs.Views.{address_of}
use Rattle.tile_shape.proofs.Seen.{address-there}
use Rattle.theory_walks.specs.Frames.{FrameValue, whole, IsFrameOf}
use Rattle.theory_walks.specs.Paths.{Crosses}
use Rattle.lazy_walk.specs.Standing.{Stands}
use Rattle.theory_walks.proofs.Walked.{whole-tile_of}
use Rattle.half_glue.specs.declared.pairs.Pair.{Pair}
use Rattle.half_glue.specs.declared.whole_tile.WholeTile.{WholeTile}
use Rattle.half_glue.specs.Arranged.{AreWholesArranged}
use Rattle.half_glue.specs.Checked.{HasGlueLaws}
use Rattle.half_glue.specs.Found.{AreGlued}
use Rattle.half_glue.specs.Given.{lifted_tile, IsGiven}
use Rattle.half_glue.specs.InOrder.{first_numbers}
use Rattle.half_glue.specs.Keys.{HasTileKey}
use Rattle.half_glue.specs.Lifted.{IsNoDeeper, lifted_to, second_to, whole_to, whole_of, wholes_of}
use Rattle.half_glue.specs.Pairs.{loose_of, AreLoose, IsEither, IsLoose, IsTaken, ArePairsOf}
use Rattle.half_glue.specs.WholeTiles.{IsWholeBy, IsWholeTile, IsOneOf, IsPartOf, AreWholeTilesOf}
use Rattle.half_glue.proofs.Alike.{alike}
use Rattle.half_glue.proofs.Elements.{contains-left, of-all, contains-map, contained}
use Rattle.half_glue.proofs.Halves.{given-whole, given-key}
use Rattle.half_glue.proofs.GluedBack.{glued-back}

module _ (m : Rule) (L : HasGlueLaws m) (f : FrameValue) (is : IsFrameOf (tiling_of m) f) where
  abbrev t : Tiling
  t = tiling_of m

  abbrev P : Points
  P = points_of m.order

  abbrev tile : PlacedTile → theory.Address
  tile x = lifted_in (whole f) (address_of x.addr)

  -- ---- tiles, lifted
  lifted-placed : (a : PlacedTile) → placed_in m.order (lifted_to f a) ≡ lifted_tile t f a
  lifted-placed a = λ i. record { address = address-there (tile a) i; motion = motion_in m.order a.motion }

  lifted-stands : (a : PlacedTile) → IsGiven t f a → Stands t f (lifted_to f a)
  lifted-stands a given =
      let own : IsWhole (children t) (whole f) (tile a) = given-whole m L f is a given in
      record {
        its_kind = given.its_kind;
        of_frame = subst (IsTileOf (children t) (whole f)) (sym (address-there (tile a))) (whole-tile_of (children t) (whole f) (tile a) own);
        at_depth = ap theory.depth (address-there (tile a)) ∙ own.same_depth;
        in_frame = subst (λ y. StandsInFrame P t.rule (whole f) y (motion_in m.order a.motion)) (sym (address-there (tile a))) given.in_frame;
        turn_below = given.turn_below;
        in_order = given.in_order;
      }

  lifted-crosses : (a b : PlacedTile) (e g : ℕ) → Crosses t (tile a) e (tile b) g
      → Crosses t (address_of (lifted_to f a).addr) e (address_of (lifted_to f b).addr) g
  lifted-crosses a b e g x =
      subst (λ y. Crosses t y e (address_of (lifted_to f b).addr) g) (sym (address-there (tile a)))
      (subst (λ y. Crosses t (tile a) e y g) (sym (address-there (tile b))) x)

  whole-by : (a : PlacedTile) (s : Option PlacedTile) → AreLoose t f a s → IsWholeBy t f (lifted_to f a) (second_to f s)
  whole-by a None h = (lifted-stands a h.0, h.1)
  whole-by a (Some b) h = (
    lifted-stands a h.0,
    lifted-stands b h.1,
    record {
      edge = h.2.edge;
      its_edge = h.2.its_edge;
      glue_edge = h.2.glue_edge;
      its_glue_edge = h.2.its_glue_edge;
      across = lifted-crosses a b h.2.edge h.2.its_edge h.2.across;
      back = lifted-crosses b a h.2.its_edge h.2.edge h.2.back;
      lesser_first = h.3;
    },
  )

  part-by : (x a : PlacedTile) (s : Option PlacedTile) → IsEither x a s → IsOneOf t (lifted_tile t f x) (lifted_to f a) (second_to f s)
  part-by x a None e = lifted-placed a ∙ ap (lifted_tile t f) e
  part-by x a (Some b) (inl e) = inl (lifted-placed a ∙ ap (lifted_tile t f) e)
  part-by x a (Some b) (inr e) = inr (lifted-placed b ∙ ap (lifted_tile t f) e)

  -- ---- tiles that are glued
  -- a tile is glued to one alone
  one-other : (y x b : PlacedTile) → IsGiven t f x → IsGiven t f b → AreGlued t f y x → AreGlued t f y b
      → (lifted_tile t f b ≡ lifted_tile t f x) × (b.kind ≡ x.kind)
  one-other y x b own its h k = (
    λ i. record { address = same i; motion = motion i },
    its.its_kind
        ∙ ap (λ (z : theory.Address). z.kind) same ∙ sym own.its_kind,
  )
    where
      over : Crosses t (tile y) h.edge (tile b) k.its_edge
      over = subst (λ e. Crosses t (tile y) e (tile b) k.its_edge) (h.glue_edge.only k.edge k.glue_edge.glue_edge) k.across

      same : tile b ≡ tile x
      same = ap (λ z. z.address) (h.across.across.only (placed_tile t (tile b)) k.its_edge over.across.across).0

      motion : motion_in m.order b.motion ≡ motion_in m.order x.motion
      motion = own.in_frame.alone (motion_in m.order b.motion)
          (subst (λ y. StandsInFrame P t.rule (whole f) y (motion_in m.order b.motion)) same
          its.in_frame).among

  -- so the other half of a part is a part
  other-part : (x y a : PlacedTile) (s : Option PlacedTile) → IsGiven t f x → AreGlued t f x y
      → AreLoose t f a s → IsEither y a s → IsOneOf t (lifted_tile t f x) (lifted_to f a) (second_to f s)
  other-part x y a None own g h e = absurd (h.1 g.its_edge
      (subst (λ (z : PlacedTile). IsGlueEdge t.rule z.kind g.its_edge) (sym e) g.its_glue_edge.glue_edge))
  other-part x y a (Some b) own g h (inl e) = inr (lifted-placed b ∙ (one-other y x b own h.1 (glued-back t f x y g)
      (subst (λ z. AreGlued t f z b) e h.2)).0)
  other-part x y a (Some b) own g h (inr e) = inl (lifted-placed a ∙ (one-other y x a own h.0 (glued-back t f x y g)
      (subst (λ z. AreGlued t f z a) e (glued-back t f a b h.2))).0)

  -- ---- pairs
  module _ (tiles crossed : List PlacedTile) (pairs : List Pair) (are : ArePairsOf t f tiles crossed pairs) where
    abbrev all : List PlacedTile
    all = tiles ++ crossed

    abbrev loose : List WholeTile
    loose = map (loose_of all) pairs

    abbrev made : List WholeTile
    made = wholes_of f all pairs

    pub all-keyed : All HasTileKey all
    all-keyed i d l = given-key m L f is (get_or all i d) (are.given i d l)

    pub all-no_deeper : All (IsNoDeeper f) all
    all-no_deeper i d l = (are.given i d l).of_frame.no_deeper

    abbrev no_pair : Pair
    no_pair = record { first = 0; second = None }

    -- a pair for each whole tile
    pair-of : (w : WholeTile) → Contains made w → (p : Pair) × Contains pairs p × (whole_of f all p ≡ w)
    pair-of w c = contained (whole_of f all) pairs no_pair w c

    loose-at : (p : Pair) → Contains pairs p → IsLoose t f tiles (loose_of all p)
    loose-at p c = of-all (IsLoose t f tiles) loose (loose_of all p) are.loose (contains-map (loose_of all) pairs p c)

    whole-at : (w : WholeTile) → Contains made w → IsWholeTile t f w
    whole-at w c =
        let p = pair-of w c in
        let v = loose_of all p.0 in
        subst (IsWholeTile t f) p.2 (whole-by v.first v.second (loose-at p.0 p.1).glued)

    -- a whole tile for each tile given
    held : (x : PlacedTile) → IsGiven t f x → IsTaken t f tiles loose x → (w : WholeTile) × Contains loose w
        × IsOneOf t (lifted_tile t f x) (lifted_to f w.first) (second_to f w.second)
    held x own (inl h) = (h.0, h.1, part-by x h.0.first h.0.second h.2)
    held x own (inr h) = elim (of-all (IsTaken t f tiles loose) tiles h.0 are.taken h.1) [
      | inl k ↦ (k.0, k.1, other-part x h.0 k.0.first k.0.second own h.2 (of-all (IsLoose t f tiles) loose k.0 are.loose k.1).glued k.2)
      | inr k ↦ absurd (circle h.0 k.0 k.1 h.2 h.3 k.2 k.3)
    ]
      where
        circle : (y z : PlacedTile) → Contains tiles z → AreGlued t f x y → y.kind < x.kind → AreGlued t f y z → z.kind < y.kind → ⊥
        circle y z c g less h lesser =
            let its : IsGiven t f z = of-all (IsGiven t f) all z are.given (contains-left tiles crossed z c) in
            let same = (one-other y x z own its (glued-back t f x y g) h).1 in
            omega (arith, less, lesser, same)

    pub are-wholes : (wholes : List WholeTile) → AreWholesArranged made wholes → AreWholeTilesOf t f tiles wholes
    are-wholes wholes arranged = record {
      whole = λ i d l. whole-at (get_or wholes i d) (arranged.from_made i d l);
      of_given = λ i d l.
          let p = pair-of (get_or wholes i d) (arranged.from_made i d l) in
          let v = loose_of all p.0 in
          let h = (loose-at p.0 p.1).of_given in
          (h.0, h.1, subst (λ w. IsPartOf t f w h.0) p.2 (part-by h.0 v.first v.second h.2));
      each_joined = λ i d l. joined (get_or tiles i d) (given-at i d l) (are.taken i d l);
    }
      where
        given-at : All (IsGiven t f) tiles
        given-at i d l = of-all (IsGiven t f) all (get_or tiles i d) are.given (contains-left tiles crossed (get_or tiles i d)
            (i, l, get_or_default tiles i (get_or tiles i d) d l))

        joined : (x : PlacedTile) → IsGiven t f x → IsTaken t f tiles loose x → (w : WholeTile) × Contains wholes w × IsPartOf t f w x
        joined x own taken =
            let h = held x own taken in
            let p = contained (loose_of all) pairs no_pair h.0 h.1 in
            let w = whole_of f all p.0 in
            let there : Contains made w = contains-map (whole_of f all) pairs p.0 p.1 in
            let v = of-all (λ u. (w : WholeTile) × Contains wholes w × (first_numbers w ≡ first_numbers u)) made w arranged.each there in
            let part : IsPartOf t f w x = subst (λ (u : WholeTile). IsPartOf t f (whole_to f u) x) (sym p.2) h.2 in (
              v.0,
              v.1,
              alike m L f is v.0 w (whole-at v.0
                  (of-all (λ u. Contains made u) wholes v.0 arranged.from_made v.1)) (whole-at w there) v.2 x
                  part,
            )
