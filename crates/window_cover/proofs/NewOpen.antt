-- The open edges once a new tile is taken in: those of the next state of the search, in the same order.
use Rattle.std.proofs.Common.{◌≡◌, inl, inr, ℕ, zero, suc, ◌+◌, ◌<◌, Bool, false, not, cond, ◌&&◌, ◌||◌, List, [], ◌∷◌, ◌++◌, map, length, nat_lt, Some, slice_get, refl, sym, ap, ap₂, ◌∙◌, subst, arith}
use Rattle.std.specs.List.{filter, list_any, enumerate_from, AllZip, AllByRecursion}
use Rattle.std.proofs.lemmas.Bool.{lt-ltb, le-ltb, cases_lt}
use Rattle.theory_ring.specs.Sign.{Signed}
use Rattle.theory_plane.specs.Box.{OpenBox}
use Rattle.theory_plane.specs.BoxTest.{box_test}
use Rattle.theory_addresses.specs.Search.{some_below, below, IsAmong, chosen_below}
use Rattle.theory_addresses.proofs.Ranges.{place-among, map-below, image-at}
use Rattle.theory_addresses.proofs.Lists.{AllByRecursion-among}
use Rattle.theory_substitution.specs.Points.{Points}
use Rattle.theory_substitution.specs.Plane.{plane_point}
use Rattle.theory_substitution.specs.Motion.{moved}
use Rattle.theory_substitution.specs.RuleParts.{edge_count, vertex}
use Rattle.theory_substitution.specs.Supertile.{Placed}
use Rattle.theory_dissection.specs.Accepted.{AcceptedRule}
use Rattle.theory_dissection.specs.Polygons.{tile_polygon}
use Rattle.cyclo_points.specs.declared.order.Order.{Order}
use Rattle.cyclo_points.specs.declared.point.Point.{Point}
use Rattle.cyclo_points.specs.declared.motion.Motion.{Motion}
use Rattle.cyclo_points.specs.Order.{NumberOf, points_of, PointsLaw}
use Rattle.cyclo_points.specs.Motion.{motion_in}
use Rattle.plane_geom.specs.declared.window.Window.{Window}
use Rattle.rule_model.specs.Tiling.{Tiling}
use Rattle.theory_windows.specs.Distinct.{AreDistinct}
use Rattle.theory_windows.specs.Outlines.{Polygon, PlaneEdge, edges, is_reverse}
use Rattle.theory_windows.specs.OpenEdges.{NumberedEdge, edges_of_tile}
use Rattle.theory_windows.specs.OpenTest.{is_met, open_edges_of}
use Rattle.theory_windows.specs.OpenNumbers.{OpenNumbers}
use Rattle.theory_windows.specs.OpenStep.{closes_one}
use Rattle.theory_windows.specs.Patch.{Patch, IsDissected}
use Rattle.theory_windows.specs.FramePatch.{line_of}
use Rattle.theory_windows.specs.FrameLaws.{LinesLaw, NumberedLaw}
use Rattle.theory_windows.proofs.Reverses.{reverse-turned}
use Rattle.tile_place.specs.Corners.{AreCorners}
use Rattle.window_cover.specs.Border.{Waiting, have_same_ends}
use Rattle.window_cover.specs.NewEdges.{reversed, start_at, end_at, ends_at, meets_window, waiting_at, closes, left_open, opened, AreNew}
use Rattle.window_cover.specs.Windows.{window_box}
use Rattle.window_cover.specs.Working.{IsEdgeWaiting}
use Rattle.window_cover.proofs.NewEdges.{fails}
use Rattle.window_cover.proofs.OwnLines.{filter-below, any-below, some-same, AllZip-append, AllZip-filter, AllZip-any, AllZip-chosen, line_between, spot, ends-reverse, ends-same}
use Rattle.window_cover.proofs.SamePoints.{IsShortIn}

-- the lines of numbered edges
lines-of : (S : Signed) (i k : ℕ) (es : List (PlaneEdge S))
    → map (λ (n : NumberedEdge S). n.line) (map
    (λ (e : ℕ × PlaneEdge S). record { tile = i; edge = e.0; line = e.1 }) (enumerate_from k es)) ≡ es
lines-of S i k [] = refl
lines-of S i k (e ∷ es) = ap (λ xs. e ∷ xs) (lines-of S i (k + 1) es)

-- two places of distinct elements are one
distinct-places : {A : Type 0} (xs : List A) (i j : ℕ) (x : A) → AreDistinct xs → slice_get xs i ≡ Some x → slice_get xs j ≡ Some x → i ≡ j
distinct-places [] i j x d h k = cc
distinct-places (y ∷ ys) zero zero x d h k = refl
distinct-places {A} (y ∷ ys) zero (suc j) x d h k = let same : y ≡ x = cc in absurd
    (d.0 (subst (λ z. IsAmong z ys) (sym same) (place-among x ys j k)))
distinct-places {A} (y ∷ ys) (suc i) zero x d h k = let same : y ≡ x = cc in absurd
    (d.0 (subst (λ z. IsAmong z ys) (sym same) (place-among x ys i h)))
distinct-places (y ∷ ys) (suc i) (suc j) x d h k = ap suc (distinct-places ys i j x d.1 h k)

-- none passes, place by place
AllZip-none : {A B : Type 0} (R : A → B → Type 0) (p : A → Bool) (xs : List A) (us : List B)
    → ((x : A) (u : B) → IsAmong u us → R x u → p x ≡ false) → AllZip R xs us → list_any p xs ≡ false
AllZip-none R p [] us none h = refl
AllZip-none R p (x ∷ xs) [] none h = absurd h
AllZip-none R p (x ∷ xs) (u ∷ us) none h = ap₂ (λ a b. a || b) (none x u (inl refl) h.0) (AllZip-none R p xs us (λ y v i. none y v (inr i)) h.1)

-- the edges of a tile's outline by their numbers
pub outline-edges : (P : Points) (T : AcceptedRule P) → NumberedLaw P → (u : Placed P.ring.carrier) → u.address.kind < length T.rule.kinds
    → edges (tile_polygon P T.rule (λ z. z) u) ≡ below (line_of P T.rule u) (edge_count T.rule u.address.kind)
outline-edges P T numbered u exists =
    sym (lines-of P.real 0 0 (edges (tile_polygon P T.rule (λ z. z) u))) ∙ ap (map (λ (n : NumberedEdge P.real). n.line)) (numbered T u exists 0)
    ∙ map-below (λ (n : NumberedEdge P.real). n.line)
    (λ e. record { tile = 0; edge = e; line = line_of P T.rule u e }) (edge_count T.rule u.address.kind)

module _ (o : Order) (W : PointsLaw o) (T : AcceptedRule (points_of o)) (lines : LinesLaw (points_of o)) (numbered : NumberedLaw (points_of o))
    (u : Placed (NumberOf o)) (exists : u.address.kind < length T.rule.kinds) (m : Motion) (placed : motion_in o m ≡ u.motion)
    (corners : List Point) (are : AreCorners (record { order = o; rule = T.rule }) u.address.kind m corners) where
  abbrev P : Points
  P = points_of o

  abbrev S : Signed
  S = P.real

  abbrev t : Tiling
  t = record { order = o; rule = T.rule }

  abbrev outline : Polygon S
  outline = tile_polygon P T.rule (λ z. z) u

  abbrev line : ℕ → PlaneEdge S
  line e = line_of P T.rule u e

  abbrev count : ℕ
  count = edge_count T.rule u.address.kind

  abbrev end_number : ℕ → ℕ
  end_number e = cond (nat_lt (suc e) (length corners)) (suc e) 0

  end-below : (e : ℕ) → e < length corners → end_number e < length corners
  end-below e h = elim (cases_lt (suc e) (length corners)) [
    | inl l ↦ subst (λ b. cond b (suc e) 0 < length corners) (sym (lt-ltb (suc e) (length corners) l)) l
    | inr l ↦ subst (λ b. cond b (suc e) 0 < length corners) (sym (le-ltb (suc e) (length corners) l)) (omega (arith, h))
  ]

  corner-spot : (e : ℕ) → e < length corners → spot o W (start_at corners e) ≡ plane_point P (moved P u.motion (vertex P T.rule u.address.kind e))
  corner-spot e h = ap (plane_point P) ((are.each e h).place ∙ ap (λ k. moved P k (vertex P T.rule u.address.kind e)) placed)

  own-line : (e : ℕ) → e < length corners → line_between o W (start_at corners e) (end_at corners e) ≡ line e
  own-line e h =
      let from = corner-spot e h in
      let to = corner-spot (end_number e) (end-below e h)
      ∙ ap (λ n. plane_point P (moved P u.motion
      (vertex P T.rule u.address.kind (cond (nat_lt (suc e) n) (suc e) 0)))) are.count in
      λ i. record { from = from i; to = to i }

  short-start : (e : ℕ) → e < length corners → IsShortIn o (start_at corners e)
  short-start e h = let c = are.each e h in (c.in_order, c.within)

  short-end : (e : ℕ) → e < length corners → IsShortIn o (end_at corners e)
  short-end e h = short-start (end_number e) (end-below e h)

  edges-are : edges outline ≡ below line count
  edges-are = outline-edges P T numbered u exists

  line-there : (e : ℕ) → e < length corners → slice_get (edges outline) e ≡ Some (line e)
  line-there e h = lines T u exists e (subst (λ n. e < n) are.count h)

  own-among : (e : ℕ) → e < length corners → IsAmong (line e) (edges outline)
  own-among e h = place-among (line e) (edges outline) e (line-there e h)

  line-waiting : (x : Waiting) (n : NumberedEdge S) → (w : IsEdgeWaiting t x n) → line_between o W w.from w.to ≡ n.line
  line-waiting x n w = λ i. record { from = w.starts i; to = w.ends_there i }

  -- an open edge against its edge number e
  against : (e : ℕ) → e < length corners → (x : Waiting) (n : NumberedEdge S) → IsEdgeWaiting t x n
      → have_same_ends (reversed (ends_at corners e)) x.ends ≡ is_reverse S (line e) n.line
  against e h x n w =
      ap (have_same_ends (reversed (ends_at corners e))) w.its_ends
      ∙ ends-reverse o W (start_at corners e) (end_at corners e) w.from w.to (short-start e h) (short-end e h)
      (w.from_in_order, w.from_within) (w.to_in_order, w.to_within)
      ∙ ap₂ (λ a b. is_reverse S a b) (own-line e h) (line-waiting x n w)

  met-same : (x : Waiting) (n : NumberedEdge S) → IsEdgeWaiting t x n
      → not (some_below (length corners) (λ e. have_same_ends (reversed (ends_at corners e)) x.ends)) ≡ not (is_met S (edges outline) n.line)
  met-same x n w = ap not (
      some-same _ (λ e. is_reverse S n.line (line e)) (length corners)
      (λ e h. against e h x n w ∙ reverse-turned S W.of_real W.of_order (line e) n.line)
      ∙ ap (λ k. some_below k (λ e. is_reverse S n.line (line e))) are.count
      ∙ sym (any-below (is_reverse S n.line) line count)
      ∙ ap (list_any (is_reverse S n.line)) (sym edges-are)
      )

  meets-same : (w : Window) (e : ℕ) → e < length corners
      → meets_window o w (start_at corners e) (end_at corners e) ≡ box_test S (line e).from (line e).to
      (window_box o w)
  unfolding meets_window
  meets-same w e h = ap (λ (l : PlaneEdge S). box_test S l.from l.to (window_box o w)) (own-line e h)

  own-waits : (i e : ℕ) → e < length corners → IsEdgeWaiting t (waiting_at i corners e) (record { tile = i; edge = e; line = line e })
  own-waits i e h =
      let c = are.each e h in
      let d = are.each (end_number e) (end-below e h) in
      record {
        same_tile = refl;
        same_edge = refl;
        from = start_at corners e;
        to = end_at corners e;
        from_within = c.within;
        to_within = d.within;
        from_in_order = c.in_order;
        to_in_order = d.in_order;
        its_ends = refl;
        starts = ap (λ (l : PlaneEdge S). l.from) (own-line e h);
        ends_there = ap (λ (l : PlaneEdge S). l.to) (own-line e h);
      }

  module _ (border : List Waiting) (open_now : List (NumberedEdge S)) (zip : AllZip (IsEdgeWaiting t) border open_now) where
    closes-same : (e : ℕ) → e < length corners → closes (ends_at corners e) border ≡ closes_one S open_now (line e)
    closes-same e h = AllZip-any (IsEdgeWaiting t) (λ x. have_same_ends (reversed (ends_at corners e)) x.ends)
        (λ n. is_reverse S (line e) n.line) border open_now (against e h) zip

    -- the new border is in step with the open edges of the next state
    pub border-next : (w : Window) (i : ℕ) → AllZip (IsEdgeWaiting t)
        (left_open corners (length corners) border ++ opened o w i corners (length corners) border)
        (filter (λ n. not (is_met S (edges outline) n.line)) open_now
        ++ filter (λ n. box_test S n.line.from n.line.to (window_box o w) && not (closes_one S open_now n.line)) (edges_of_tile S i outline))
    border-next w i =
        AllZip-append (IsEdgeWaiting t) (left_open corners (length corners) border) (opened o w i corners (length corners) border) _ _
        (AllZip-filter (IsEdgeWaiting t) _ _ border open_now met-same zip)
        (subst (λ us. AllZip (IsEdgeWaiting t) (opened o w i corners (length corners) border) us)
        (ap (chosen_below (λ e. keep (own e)) own) are.count ∙ sym (filter-below keep own count) ∙ ap (filter keep) (sym (numbered T u exists i)))
        (AllZip-chosen (IsEdgeWaiting t) _ _ (waiting_at i corners) own (length corners)
        (λ e h. (ap₂ (λ a b. a && not b) (meets-same w e h) (closes-same e h), own-waits i e h))))
      where
        own : ℕ → NumberedEdge S
        own e = record { tile = i; edge = e; line = line e }

        keep : NumberedEdge S → Bool
        keep n = box_test S n.line.from n.line.to (window_box o w) && not (closes_one S open_now n.line)

    -- the edges of a tile of a dissected patch that isn't found yet are new
    module _ (F : Patch S (Placed (NumberOf o)))
        (outlines : (x : Placed (NumberOf o)) → F.outline x ≡ tile_polygon P T.rule (λ z. z) x)
        (dissected : IsDissected S (Placed (NumberOf o)) F) (among : IsAmong u F.tiles)
        (found : List (Placed (NumberOf o))) (of_patch : AllByRecursion (λ x. IsAmong x F.tiles) found) (box : OpenBox S.ops.carrier)
        (numbers : OpenNumbers S) (open_is : open_now ≡ open_edges_of S box (map F.outline found)) (new : ¬ IsAmong u found) where
      own-there : (l : PlaneEdge S) → IsAmong l (edges outline) → IsAmong l (edges (F.outline u))
      own-there l i = subst (λ v. IsAmong l (edges v)) (sym (outlines u)) i

      -- an open edge isn't its edge number e
      not-open : (e : ℕ) → e < length corners → (x : Waiting) (n : NumberedEdge S) → IsAmong n open_now
          → IsEdgeWaiting t x n → have_same_ends (ends_at corners e) x.ends ≡ false
      not-open e h x n i w = fails _ (λ k.
          let same : line e ≡ n.line = sym (own-line e h)
          ∙ ends-same o W (start_at corners e) (end_at corners e) w.from w.to (short-start e h)
          (short-end e h) (w.from_in_order, w.from_within) (w.to_in_order, w.to_within)
          (ap (have_same_ends (ends_at corners e)) (sym w.its_ends) ∙ k)
          ∙ line-waiting x n w in
          let at = (numbers box (map F.outline found) n (subst (λ ns. IsAmong n ns) open_is i)).0 in
          let of = image-at F.outline at.polygon found n.tile at.tile_at in
          let theirs : IsAmong n.line (edges (F.outline of.source)) = subst (λ v. IsAmong n.line (edges v))
          (sym of.image) (place-among n.line (edges at.polygon) n.edge at.edge_at) in
          let its = place-among of.source found n.tile of.at in
          let one : u ≡ of.source = dissected.one_owner u of.source among
          (AllByRecursion-among (λ x. IsAmong x F.tiles) of.source found its of_patch) (line e)
          (own-there (line e) (own-among e h)) (subst (λ l. IsAmong l (edges (F.outline of.source)))
          (sym same) theirs) in
          new (subst (λ x. IsAmong x found) (sym one) its))

      pub are-new : AreNew corners border
      are-new = record {
        apart = λ e f h k differ. fails _ (λ r. differ (
            let same : line e ≡ line f = sym (own-line e h)
            ∙ ends-same o W (start_at corners e) (end_at corners e) (start_at corners f)
            (end_at corners f) (short-start e h) (short-end e h) (short-start f k) (short-end f k) r
            ∙ own-line f k in
            distinct-places (edges outline) e f (line e)
            (subst (λ v. AreDistinct (edges v)) (outlines u) (dissected.own_edges u among))
            (line-there e h) (line-there f k ∙ ap (λ l. Some l) (sym same))));
        no_return = λ e f h k. ends-reverse o W (start_at corners e) (end_at corners e) (start_at corners f)
            (end_at corners f) (short-start e h) (short-end e h) (short-start f k) (short-end f k)
            ∙ ap₂ (λ a b. is_reverse S a b) (own-line e h) (own-line f k)
            ∙ dissected.no_return u among (line e) (line f) (own-there (line e) (own-among e h)) (own-there (line f) (own-among f k));
        fresh = λ e h. AllZip-none (IsEdgeWaiting t) (λ x. have_same_ends (ends_at corners e) x.ends) border open_now (not-open e h) zip;
      }
