-- A walk through a listing: each tile that it comes to meets the window; at its end the tiles found are all
-- that do; and where all are listed it doesn't stop.
use Rattle.std.proofs.Common.{◌≡◌, inl, inr, ◌↔◌, ℕ, suc, ◌<◌, ◌≤◌, List, [], ◌∷◌, ◌++◌, length, refl, sym, ap, ◌∙◌, subst, false, arith, IsTrue}
use Rattle.std.specs.List.{AllByRecursion}
use Rattle.std.proofs.lemmas.List.{length-map}
use Rattle.theory_ring.specs.Ring.{Laws}
use Rattle.theory_ring.specs.Sign.{Signed, OrderLaws}
use Rattle.theory_ring.specs.Divisor.{DividesWhole}
use Rattle.theory_plane.specs.Plane.{test_point}
use Rattle.theory_plane.specs.Crossing.{member}
use Rattle.theory_addresses.specs.Search.{IsAmong}
use Rattle.theory_addresses.proofs.Lists.{AllByRecursion-among, AllByRecursion-from, AllByRecursion-append}
use Rattle.theory_windows.specs.Outlines.{PlaneEdge, edges, MeetsBox}
use Rattle.theory_windows.specs.Meeting.{PolygonMeetsBox}
use Rattle.theory_windows.specs.Patch.{Patch, IsDissected, HasAcross, IsClosed, HasAll}
use Rattle.theory_windows.specs.GrowingPatch.{GrowingPatch, IsOfDepth, IsInner}
use Rattle.theory_windows.specs.EnoughDepth.{IsEnough, IsLeastEnough}
use Rattle.theory_windows.specs.PatchWindow.{PatchWindow, LiesAcross, HoldsCentre}
use Rattle.theory_windows.specs.Refusals.{IsDepthLimit}
use Rattle.theory_windows.proofs.Members.{distinct-append, no-more}
use Rattle.theory_windows.proofs.Reverses.{reverse-is}
use Rattle.theory_windows.proofs.Window.{centre-in_box, has_all}
use Rattle.theory_windows.proofs.EnoughDepth.{meets-turned, tile-meets, enough_holds_all}
use Rattle.theory_listings.specs.Lines.{ListLine, named_tiles, deepest_line, IsFirstLine, AreLinesOf, IsListed}
use Rattle.theory_listings.specs.Walk.{MeetsIn, IsWalk, IsWalkedOut, WalkFault, Missing, WrongPlace, Refused, NoneAcross, HasWalkCause}
use Rattle.theory_listings.specs.RightList.{IsRightList, AreNoneRefused, IsAllListed, IsStrayLine}
use Rattle.theory_listings.specs.Theorem.{ComesOn, IsEdgeOfWalk, WalkHolds, WalkTheorem}
use Rattle.theory_listings.proofs.Lines.{line-among, one-line, tile-line, line-tile, deepest-line, first-same, not-both}

at_most : (n : ℕ) → n ≤ n
at_most n = omega arith

at_most-trans : (a b c : ℕ) → a ≤ b → b ≤ c → a ≤ c
at_most-trans a b c h k = omega arith

both-ways : (m n : ℕ) → m ≤ n → n ≤ m → n ≡ m
both-ways m n h k = omega arith

module _ (S : Signed) (L : Laws S.ops) (O : OrderLaws S) (whole : DividesWhole S) {T M : Type 0} (G : PatchWindow S T) (motion_of : T → M) (m : ℕ)
    (lines : List (ListLine T M)) (A : AreLinesOf S T M G.growing lines) where
  abbrev F : GrowingPatch S T
  F = G.growing

  abbrev P : Patch S T
  P = G.growing.patch

  abbrev D : IsDissected S T P
  D = G.dissected

  abbrev low : ℕ
  low = deepest_line m lines

  abbrev Meets : T → Type 0
  Meets t = PolygonMeetsBox S G.box (P.outline t)

  abbrev Walked : List T → Type 0
  Walked found = IsWalk S T M F G.box motion_of lines found

  abbrev Listed : T → Type 0
  Listed = IsListed motion_of lines

  -- ---- lines and their tiles
  listed-tile : (t : T) → Listed t → IsAmong t (named_tiles lines)
  listed-tile t h = subst (λ u. IsAmong u (named_tiles lines)) h.2 (line-tile lines h.0 h.1)

  line-depth : (l : ListLine T M) → IsAmong l lines → IsOfDepth S T F low l.tile
  line-depth l i =
      let d : IsOfDepth S T F l.digits l.tile = AllByRecursion-among (λ (l : ListLine T M). IsOfDepth S T F l.digits l.tile) l lines i A.of_depth in
      (d.0, at_most-trans (F.level l.tile) l.digits low d.1 (deepest-line m lines l i))

  named-depth : (t : T) → IsAmong t (named_tiles lines) → IsOfDepth S T F low t
  named-depth t i = let l = tile-line lines t i in subst (IsOfDepth S T F low) (sym l.2) (line-depth l.0 l.1)

  -- the motion of a line is its tile's where that tile is listed
  listed-motion : (l : ListLine T M) → IsAmong l lines → Listed l.tile → l.motion ≡ motion_of l.tile
  listed-motion l i h = ap (λ (k : ListLine T M). k.motion) (sym (one-line lines A.distinct h.0 l h.1 i h.2)) ∙ h.3

  -- ---- the walk
  found-meets : (found : List T) → Walked found → (t : T) → IsAmong t found → MeetsIn S T P G.box t
  found-meets found w t i = AllByRecursion-among (MeetsIn S T P G.box) t found i w.each_meets

  found-listed : (found : List T) → Walked found → (t : T) → IsAmong t found → Listed t
  found-listed found w t i = AllByRecursion-among Listed t found i w.each_listed

  start : (t : T) → HoldsCentre S T F G.box t → ComesOn S T M G motion_of lines [] t
  start t h = record {
    meets = meets;
    onward = λ new kept listed. record {
      each_meets = (meets, tt);
      distinct = ((λ i. elim i [ ]), tt);
      none_refused = (kept, tt);
      each_listed = (listed, tt);
      holds_centre = (t, inl refl, h.holds);
    };
  }
    where
      meets : MeetsIn S T P G.box t
      meets = (h.of_patch, (test_point S.ops G.box.centre, (0, refl), centre-in_box S L O G.box G.wide G.high, h.holds))

  across-meets : (e : PlaneEdge S) → MeetsBox S G.box e → (u : T) → LiesAcross S T F e u → MeetsIn S T P G.box u
  across-meets e k u a = (
    a.of_patch,
    tile-meets S L O whole G u a.of_patch a.edge a.among
        (subst (MeetsBox S G.box) (sym (reverse-is S L O e a.edge a.back))
        (meets-turned S L O whole G.box e.from e.to k)),
  )

  one-more : (found : List T) → Walked found → (u : T) → MeetsIn S T P G.box u → (¬ IsAmong u found)
      → F.refused u ≡ false → Listed u → Walked (found ++ u ∷ [])
  one-more found w u meets new kept listed = record {
    each_meets = AllByRecursion-append (MeetsIn S T P G.box) found (u ∷ []) w.each_meets (meets, tt);
    distinct = distinct-append found (u ∷ []) w.distinct ((λ i. elim i [ ]), tt) (λ x i j. apart x i j);
    none_refused = AllByRecursion-append (λ t. F.refused t ≡ false) found (u ∷ []) w.none_refused (kept, tt);
    each_listed = AllByRecursion-append Listed found (u ∷ []) w.each_listed (listed, tt);
    holds_centre = (w.holds_centre.0, IsAmong-left found w.holds_centre.1, w.holds_centre.2);
  }
    where
      apart : (x : T) → IsAmong x found → IsAmong x (u ∷ []) → ⊥
      apart x i (inl e) = absurd (new (subst (λ v. IsAmong v found) e i))
      apart x i (inr j) = elim j [ ]

      IsAmong-left : (xs : List T) → IsAmong w.holds_centre.0 xs → IsAmong w.holds_centre.0 (xs ++ u ∷ [])
      IsAmong-left [] i = elim i [ ]
      IsAmong-left (x ∷ xs) (inl e) = inl e
      IsAmong-left (x ∷ xs) (inr i) = inr (IsAmong-left xs i)

  step : (found : List T) (t : T) (e : PlaneEdge S) → IsEdgeOfWalk S T M G motion_of lines found t e → (u : T)
      → LiesAcross S T F e u → ComesOn S T M G motion_of lines found u
  step found t e h u across =
      let meets : MeetsIn S T P G.box u = across-meets e h.edge_meets u across in
      record { meets = meets; onward = λ new kept listed. one-more found h.walk u meets (λ i. absurd (new i)) kept listed }

  room : (found : List T) → Walked found → (u : T) → ¬ IsAmong u found → Listed u → length found < length lines
  room found w u new listed = fewer (no-more (u ∷ found) (named_tiles lines)
      ((λ i. absurd (new i)), w.distinct) each) (length-map lines (λ l. l.tile))
    where
      each : (t : T) → IsAmong t (u ∷ found) → IsAmong t (named_tiles lines)
      each t (inl e) = subst (λ v. IsAmong v (named_tiles lines)) (sym e) (listed-tile u listed)
      each t (inr i) = listed-tile t (found-listed found w t i)

      fewer : {n k l : ℕ} → suc n ≤ k → k ≡ l → n < l
      fewer h e = omega arith

  stop : (found : List T) (t : T) (e : PlaneEdge S) → IsEdgeOfWalk S T M G motion_of lines found t e
      → ((u : T) → ¬ LiesAcross S T F e u) → IsDepthLimit S T F G.box e t
  stop found t e h none =
      let k : MeetsIn S T P G.box t = found-meets found h.walk t h.among in
      record {
        of_tile = h.of_tile;
        edge_meets = h.edge_meets;
        tile_meets = k.1;
        none_enough = λ n E.
            let u : IsInner S T F n e = E.none_on_boundary t (k.0, enough_holds_all S L O whole G n E t k.0 k.1) e h.of_tile h.edge_meets in
            absurd (none u.0 (record { of_patch = u.2.0; edge = u.1; among = u.3; back = u.4 }));
      }

  -- ---- the end
  module _ (found : List T) (w : Walked found) (out : IsWalkedOut S T P G.box found) where
    closed : IsClosed S T P G.box found
    closed = record {
      of_patch = AllByRecursion-from (λ t. IsAmong t P.tiles) found (λ t i. (found-meets found w t i).0);
      distinct = w.distinct;
      holds_centre = w.holds_centre;
      closed = AllByRecursion-from _ found (λ t i. AllByRecursion-from _ (edges (P.outline t)) (λ e j k. out t i e j k));
    }

    all_found : HasAll S T P G.box found
    all_found = has_all S L O whole P D G.box found closed G.wide G.high

    found-depth : (t : T) → IsAmong t found → IsOfDepth S T F low t
    found-depth t i = named-depth t (listed-tile t (found-listed found w t i))

    enough : IsEnough S T F G.box low
    enough = record {
      holds_centre = (w.holds_centre.0, found-depth w.holds_centre.0 w.holds_centre.1, w.holds_centre.2);
      none_on_boundary = λ t h e j k.
          let u : HasAcross S T P found e = out t (all_found t h.0 (tile-meets S L O whole G t h.0 e j k)) e j k in
          (u.0, u.1, found-depth u.0 u.2, u.3, u.4);
    }

    least : IsLeastEnough S T F G.box low low
    least = record { not_below = at_most low; enough = enough; least = λ k h E. h }

    all_listed : IsAllListed S T M F G.box motion_of m lines
    all_listed = record {
      depth = low;
      least = least;
      each_listed = λ t h k. found-listed found w t (all_found t h.0 k);
      none_refused = λ t h k. AllByRecursion-among (λ t. F.refused t ≡ false) t found (all_found t h.0 k) w.none_refused;
    }

    -- a line's tile meets the window exactly where it is found
    line-found : (l : ListLine T M) → IsAmong l lines → IsAmong l.tile found ↔ Meets l.tile
    line-found l i = (λ j. (found-meets found w l.tile j).1, λ k. all_found l.tile (line-depth l i).0 k)

    stray : (i : ℕ) → IsFirstLine (λ l. ¬ IsAmong l.tile found) lines i → IsStrayLine S T M F G.box motion_of m lines i
    stray i f = record {
      all_listed = all_listed;
      first = first-same (λ (l : ListLine T M). ¬ IsAmong l.tile found) (λ (l : ListLine T M). ¬ Meets l.tile)
          lines i (λ l j. not-both (line-found l j)) f;
    }

    module _ (each : AllByRecursion (λ t. IsAmong t found) (named_tiles lines)) where
      each-found : (t : T) → IsAmong t (named_tiles lines) → IsAmong t found
      each-found t i = AllByRecursion-among (λ t. IsAmong t found) t (named_tiles lines) i each

      right_list : IsRightList S T M F G.box motion_of m lines
      right_list = record {
        depth = low;
        least = least;
        drawn = record {
          of_depth = AllByRecursion-from (IsOfDepth S T F low) (named_tiles lines) named-depth;
          distinct = A.distinct;
          meeting = λ t h. (λ k. listed-tile t (found-listed found w t (all_found t h.0 k)), λ i. (found-meets found w t (each-found t i)).1);
        };
        placed = AllByRecursion-from (λ (l : ListLine T M). l.motion ≡ motion_of l.tile) lines
            (λ l i. listed-motion l i (found-listed found w l.tile
            (each-found l.tile (line-tile lines l i))));
      }

      none_refused : AreNoneRefused S T M F lines
      none_refused = AllByRecursion-from (λ t. F.refused t ≡ false) (named_tiles lines)
          (λ t i. AllByRecursion-among (λ t. F.refused t ≡ false) t found (each-found t i) w.none_refused)

  -- ---- where all are listed
  no_fault : IsAllListed S T M F G.box motion_of m lines → (a : WalkFault S T M) → HasWalkCause S T M F G.box motion_of lines a → ⊥
  no_fault h a c = at_fault a c
    where
      of_depth : (t : T) → MeetsIn S T P G.box t → IsOfDepth S T F h.depth t
      of_depth t k = (k.0, enough_holds_all S L O whole G h.depth h.least.enough t k.0 k.1)

      listed : (t : T) → MeetsIn S T P G.box t → Listed t
      listed t k = h.each_listed t (of_depth t k) k.1

      at_fault : (a : WalkFault S T M) → HasWalkCause S T M F G.box motion_of lines a → ⊥
      at_fault (Missing t) c = absurd (c.1 (listed-tile t (listed t c.0)))
      at_fault (WrongPlace i g) c = absurd (c.other
          (listed-motion c.line (line-among lines i c.line c.is_line) (listed c.line.tile c.meets)
          ∙ c.motion))
      at_fault (Refused t) c = absurd (cc (sym (h.none_refused t (of_depth t c.0) c.0.1) ∙ c.1))
      at_fault (NoneAcross e t) c = absurd (c.none_enough h.depth h.least.enough)

  -- ---- a right listing
  module _ (r : IsRightList S T M F G.box motion_of m lines) where
    meets-named : (t : T) → MeetsIn S T P G.box t → IsAmong t (named_tiles lines)
    meets-named t k = (r.drawn.meeting t (k.0, enough_holds_all S L O whole G r.depth r.least.enough t k.0 k.1)).0 k.1

    named-meets : (t : T) → IsAmong t (named_tiles lines) → Meets t
    named-meets t i = (r.drawn.meeting t (AllByRecursion-among (IsOfDepth S T F r.depth) t (named_tiles lines) i r.drawn.of_depth)).1 i

    each_meets : AllByRecursion Meets (named_tiles lines)
    each_meets = AllByRecursion-from Meets (named_tiles lines) named-meets

    right_listed : AreNoneRefused S T M F lines → IsAllListed S T M F G.box motion_of m lines
    right_listed kept = record {
      depth = r.depth;
      least = r.least;
      each_listed = λ t h k. listed t (tile-line lines t (meets-named t (h.0, k)));
      none_refused = λ t h k. AllByRecursion-among (λ t. F.refused t ≡ false) t (named_tiles lines) (meets-named t (h.0, k)) kept;
    }
      where
        listed : (t : T) → (l : ListLine T M) × IsAmong l lines × (t ≡ l.tile) → Listed t
        listed t l = (
          l.0,
          l.1,
          sym l.2,
          AllByRecursion-among
              (λ (l : ListLine T M). l.motion ≡ motion_of l.tile) l.0 lines l.1 r.placed
              ∙ ap motion_of (sym l.2),
        )

    -- the depth to which the lines grow the patch is enough, so it is the least
    meets-level : (t : T) → MeetsIn S T P G.box t → F.level t ≤ low
    meets-level t k = (named-depth t (meets-named t k)).1

    low-enough : IsEnough S T F G.box low
    low-enough = record {
      holds_centre = (
        holder.0,
        (
          holder.1.0,
          meets-level holder.0 (
            holder.1.0,
            (
              test_point S.ops G.box.centre,
              (0, refl),
              centre-in_box S L O G.box G.wide G.high,
              holder.2,
            ),
          ),
        ),
        holder.2,
      );
      none_on_boundary = λ t h e j k.
          let u : IsInner S T F r.depth e = r.least.enough.none_on_boundary t
          (h.0, at_most-trans (F.level t) low r.depth h.1 r.least.not_below) e j k in
          let a : LiesAcross S T F e u.0 = record { of_patch = u.2.0; edge = u.1; among = u.3; back = u.4 } in
          (u.0, u.1, (u.2.0, meets-level u.0 (across-meets e k u.0 a)), u.3, u.4);
    }
      where
        holder : (t : T) × IsOfDepth S T F r.depth t × IsTrue (member S (P.outline t) (test_point S.ops G.box.centre))
        holder = r.least.enough.holds_centre

    right_depth : r.depth ≡ low
    right_depth = both-ways low r.depth r.least.not_below (r.least.least low (at_most low) low-enough)

  pub walk-holds : WalkHolds S T M G motion_of m lines
  walk-holds = record {
    start = start;
    step = step;
    room = room;
    stop = stop;
    finish = λ found w out. (all_found found w out, all_listed found w out);
    right = λ found w out each. (right_list found w out each, none_refused found w out each);
    stray = stray;
    no_fault = λ h a c. absurd (no_fault h a c);
    all_listed = right_listed;
    each_meets = each_meets;
    right_depth = right_depth;
  }

pub walk_theorem : (S : Signed) (L : Laws S.ops) (O : OrderLaws S) → DividesWhole S → {T M : Type 0} → WalkTheorem S T M
walk_theorem S L O whole G motion_of m lines A = walk-holds S L O whole G motion_of m lines A
