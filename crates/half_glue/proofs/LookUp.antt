-- A tile given that stands where the other half would is the other half.
use Rattle.std.proofs.Common.{◌≡◌, inl, inr, ℕ, ◌<◌, List, ℤ, pos, All, length, get_or, Option, None, Some, IfSome, sym, ap, ◌∙◌, subst, arith}
use Rattle.std.specs.List.{Contains}
use Rattle.theory_addresses.specs.Address.{Address, depth, top_kind}
use Rattle.theory_addresses.specs.Search.{IsAmong}
use Rattle.theory_substitution.specs.Motion.{moved, followed}
use Rattle.theory_substitution.specs.Placement.{placement}
use Rattle.theory_substitution.specs.Points.{Points}
use Rattle.theory_substitution.specs.RuleParts.{edge_count, vertex, next}
use Rattle.theory_substitution.specs.Supertile.{supertile}
use Rattle.theory_substitution.proofs.Addresses.{StandsBeside-placement}
use Rattle.theory_substitution.proofs.Motions.{moved-followed}
use Rattle.theory_edge_to_edge.proofs.ChildEdges.{kind-with_edge}
use Rattle.cyclo_points.specs.declared.motion.Motion as program
use Rattle.cyclo_points.specs.declared.order.Order.{Order}
use Rattle.cyclo_points.specs.Motion.{motion_in}
use Rattle.cyclo_points.specs.Order.{NumberOf, points_of}
use Rattle.theory_dissection.specs.Accepted.{HasEdge}
use Rattle.theory_dissection.specs.Across.{RunsBack, IsTileAcross}
use Rattle.theory_dissection.specs.TileEdges.{IsTileBeside, tile_at, edge_of}
use Rattle.theory_frames.specs.Back.{back}
use Rattle.theory_frames.specs.Frame.{motion_beside, lifted_in}
use Rattle.theory_frames.proofs.Carried.{some_turn}
use Rattle.theory_frames.proofs.Frames.{IsWhole, placement-turn, StandsInFrame-whole}
use Rattle.theory_frames.proofs.Group.{followed-assoc, followed-still, back-followed}
use Rattle.cyclo_points.proofs.SamePoints.{point_in-exact}
use Rattle.rule_model.specs.declared.rule.Rule.{Rule}
use Rattle.rule_model.specs.Glue.{IsGlueEdge}
use Rattle.rule_model.specs.Tiling.{Tiling, MotionOf, tiling_of, children}
use Rattle.tile_place.specs.Glued.{Glues}
use Rattle.tile_place.specs.Keys.{order_numbers, key_of, FitsKey}
use Rattle.tile_place.specs.declared.order_key.OrderKey.{OrderKey}
use Rattle.tile_place.specs.declared.placed_tile.PlacedTile.{PlacedTile}
use Rattle.tile_place.proofs.EachOrder.{order-fits}
use Rattle.tile_place.proofs.Plane.{its_rule, fits_tables, has_edge}
use Rattle.tile_shape.specs.Views.{address_of}
use Rattle.theory_walks.specs.Frames.{FrameValue, whole, IsFrameOf}
use Rattle.theory_windows.proofs.Members.{same_whole}
use Rattle.half_glue.specs.declared.glue_side.GlueSide.{GlueSide}
use Rattle.half_glue.specs.declared.glue_side.OtherSide.{OtherSide}
use Rattle.half_glue.specs.Checked.{HasGlueLaws}
use Rattle.half_glue.specs.Found.{no_tile, given_tile, IsBeside, KeyStandsBeside, AreGlued}
use Rattle.half_glue.specs.Given.{IsGiven}
use Rattle.half_glue.specs.Keys.{HasTileKey, AreKeysOf}
use Rattle.half_glue.specs.Sides.{IsOtherSide, IsSide}
use Rattle.half_glue.proofs.Alike.{quad_at}
use Rattle.half_glue.proofs.Growing.{settled}
use Rattle.half_glue.proofs.Halves.{given-whole, given-key, glue-edge-of, glued-of}
use Rattle.half_glue.proofs.FoundKeys.{key-found}

module _ (m : Rule) (L : HasGlueLaws m) where
  abbrev t : Tiling
  t = tiling_of m

  abbrev P : Points
  P = points_of m.order

  -- motions of the same numbers
  same-motion : (g h : program.Motion) (k l : ℕ) → order_numbers g k ≡ order_numbers h l → motion_in m.order g ≡ motion_in m.order h
  same-motion g h k l e = λ i. record {
    turn = same_whole g.turn h.turn (ap (λ (ns : List ℤ). get_or ns 4 (pos 0)) e) i;
    shift = point_in-exact m.order g.shift h.shift (ap quad_at e) i;
  }

  -- an edge that runs back does so from another place
  runs-back : (k e l g : ℕ) (glue own its : MotionOf t) → Glues t k e l g glue → its ≡ followed P glue own → (a b : Address) → a.kind ≡ k → b.kind ≡ l
      → RunsBack (edge_of P t.rule (record { address = a; motion = own }) e) (edge_of P t.rule (record { address = b; motion = its }) g)
  runs-back k e l g glue own its glues is a b ka kb = record {
    from_end = at (vertex P t.rule b.kind g) ∙ ap (moved P own)
        (ap (λ n. moved P glue (vertex P t.rule n g)) kb ∙ glues.runs_back.from_end
        ∙ ap (λ n. vertex P t.rule n (next t.rule n e)) (sym ka));
    to_start = at (vertex P t.rule b.kind (next t.rule b.kind g))
        ∙ ap (moved P own) (ap (λ n. moved P glue (vertex P t.rule n (next t.rule n g))) kb
        ∙ glues.runs_back.to_start ∙ ap (λ n. vertex P t.rule n e) (sym ka));
  }
    where
      at : (z : NumberOf m.order) → moved P its z ≡ moved P own (moved P glue z)
      at z = ap (λ (n : MotionOf t). moved P n z) is ∙ moved-followed P L.points glue own z

  module _ (f : FrameValue) (is : IsFrameOf t f) (x y : PlacedTile) (given : IsGiven t f x) (its : IsGiven t f y) where
    abbrev a : Address
    a = lifted_in (whole f) (address_of x.addr)

    abbrev b : Address
    b = lifted_in (whole f) (address_of y.addr)

    whole_a : IsWhole (children t) (whole f) a
    whole_a = given-whole m L f is x given

    whole_b : IsWhole (children t) (whole f) b
    whole_b = given-whole m L f is y its

    -- the motion of a tile of the frame, followed by the base's own in the supertile, is the tile's there
    in-supertile : (z : PlacedTile) → IsGiven t f z
        → placement P t.rule (lifted_in (whole f) (address_of z.addr)).digits ≡ followed P
        (motion_in m.order z.motion) (placement P t.rule (whole f).digits)
    in-supertile z own =
        let c = lifted_in (whole f) (address_of z.addr) in
        let n = placement P t.rule c.digits in
        let base = placement P t.rule (whole f).digits in
        let turn = placement-turn P L.points (some_turn m.order) t.rule (whole f).digits in
        let beside = StandsInFrame-whole P L.points (some_turn m.order) t.rule (whole f) c (given-whole m L f is z own) in
        sym (followed-still P L.points n (placement-turn P L.points (some_turn m.order) t.rule c.digits))
        ∙ ap (followed P n) (sym (back-followed P L.points base turn)) ∙ sym (followed-assoc P L.points n (back P base) base)
        ∙ ap (λ (g : MotionOf t). followed P g base) (own.in_frame.alone (motion_beside P t.rule (whole f).digits c.digits) beside.among)

    module _ (e : ℕ) (o : OtherSide) (side : IsOtherSide t x.kind e o) (n : program.Motion)
        (beside : IsBeside m.order o x.motion n)
        (numbers : order_numbers n o.kind ≡ order_numbers y.motion y.kind) where
      same-kind : o.kind ≡ y.kind
      same-kind = same_whole o.kind y.kind (ap (λ (ns : List ℤ). get_or ns 5 (pos 0)) numbers)

      abbrev glue : MotionOf t
      glue = motion_in m.order o.glue

      beyond : placement P t.rule b.digits ≡ followed P glue (placement P t.rule a.digits)
      beyond =
          let base = placement P t.rule (whole f).digits in
          in-supertile y its ∙ ap (λ (g : MotionOf t). followed P g base) (sym (same-motion n y.motion o.kind y.kind numbers) ∙ beside.followed_by)
          ∙ followed-assoc P L.points glue (motion_in m.order x.motion) base ∙ ap (followed P glue) (sym (in-supertile x given))

      own-beside : IsTileBeside P t.rule a (tile_at P t.rule a)
      own-beside = (StandsBeside-placement P L.points t.rule a whole_a.fits).among

      its-beside : IsTileBeside P t.rule a (tile_at P t.rule b)
      its-beside =
          subst (λ n. IsAmong (tile_at P t.rule b) (supertile P t.rule (top_kind a) n)) (whole_b.same_depth ∙ sym whole_a.same_depth)
          (subst (λ k. IsAmong (tile_at P t.rule b) (supertile P t.rule k (depth b)))
          (whole_b.same_top ∙ sym whole_a.same_top)
          (StandsBeside-placement P L.points t.rule b whole_b.fits).among)

      over : IsTileAcross P t.rule (tile_at P t.rule a) e (tile_at P t.rule b) side.back_edge
      over = record {
        own = own-beside;
        beside = its-beside;
        other = λ s. side.other_kind (same-kind ∙ its.its_kind ∙ ap (λ (c : Address). c.kind) s ∙ sym given.its_kind);
        edge_exists = subst (λ k. side.back_edge < edge_count t.rule k) (same-kind ∙ its.its_kind) side.glue_edge.exists;
        runs_back = runs-back x.kind e o.kind side.back_edge glue (placement P t.rule a.digits)
            (placement P t.rule b.digits) side.glues beyond a b (sym given.its_kind)
            (sym (same-kind ∙ its.its_kind));
      }

      -- so its glue edge is inside, and that tile is the only one across
      pub beside-glued : IsGlueEdge t.rule x.kind e → AreGlued t f x y
      beside-glued glue_edge = glued-of m L f is x given y its e side.back_edge glue_edge (elim (L.crossing (its_rule m (settled m L)) a e edge) [
        | inl c ↦ record {
          across = over;
          only = λ d h across. let one = c.across.only d h across in let own = c.across.only
              (tile_at P t.rule b) side.back_edge over in (one.0 ∙ sym own.0, one.1 ∙ sym own.1);
        }
        | inr o ↦ absurd (o.none (tile_at P t.rule b) side.back_edge over)
      ])
        where
          edge : HasEdge P t.rule a e
          edge = has_edge m (settled m L) a e (fits_tables m (settled m L) a whole_a.fits) (glue-edge-of m L f is x given e glue_edge)

  -- the tile given of the number found is the other half
  module _ (f : FrameValue) (is : IsFrameOf t f) (tiles : List PlacedTile) (given : All (IsGiven t f) tiles)
      (keys : List OrderKey) (are : AreKeysOf tiles keys) (x : PlacedTile) (own : IsGiven t f x) where
    fit : All HasTileKey tiles
    fit i d l = given-key m L f is (get_or tiles i d) (given i d l)

    beside-known : (e n : ℕ) → IsGlueEdge t.rule x.kind e → (o : Option OtherSide)
        → IfSome o (IsOtherSide t x.kind e) → KeyStandsBeside m.order o x.motion keys n → (n < length tiles)
        × AreGlued t f x (given_tile tiles n)
    beside-known e n glue_edge None side there = absurd there
    beside-known e n glue_edge (Some o) side there =
        let exists = kind-with_edge P t.rule o.kind side.back_edge side.glue_edge.exists in
        let fits : FitsKey there.0 o.kind = record {
          within = there.1.within;
          turn_fits = let l = there.1.turn_below in let k = order-fits m.order in omega (arith, l, k);
          kind_fits = let k = L.usable.numbered.at_most_16_kinds in omega (arith, exists, k);
        } in
        let found = key-found tiles keys are fit there.0 o.kind n fits there.2 in
        (found.0, beside-glued f is x (given_tile tiles n) own (given n no_tile found.0) e o side there.0 there.1 found.1 glue_edge)

    pub given-glued : (side : GlueSide) (n : ℕ) → IsSide t x.kind side
        → KeyStandsBeside m.order side.other x.motion keys n → (n < length tiles)
        × AreGlued t f x (given_tile tiles n)
    given-glued side n is there = beside-known side.edge n is.only.glue_edge side.other is.other there

-- what is found by the other side is found by what a kind has
pub each-number : (o : Order) (s : Option OtherSide) (side : OtherSide) → s ≡ Some side
    → (own m : program.Motion) → IsBeside o side own m → (keys : List OrderKey) (x : Option ℕ)
    → IfSome x (λ n. Contains keys (key_of m side.kind n))
    → IfSome x (KeyStandsBeside o s own keys)
each-number o s side e own m beside keys None h = tt
each-number o s side e own m beside keys (Some n) h = subst (λ q. KeyStandsBeside o q own keys n) (sym e) (m, beside, h)
