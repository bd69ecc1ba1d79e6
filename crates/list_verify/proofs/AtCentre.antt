-- A walk begins at the tile that holds the centre of the window.
use Rattle.std.proofs.Common.{◌≡◌, inl, inr, ℕ, ◌<◌, ◌≤◌, true, List, [], length, slice_get, Some, sym, ap, ◌∙◌, subst}
use Rattle.std.specs.List.{AllByRecursion}
use Rattle.theory_addresses.specs.Search.{IsAmong}
use Rattle.cyclo_points.specs.declared.point.Point.{Point}
use Rattle.cyclo_points.specs.Point.{point_in, IsOf}
use Rattle.theory_walks.specs.Containing.{FrameHolds, IsOnlyHolder}
use Rattle.theory_walks.specs.Frames.{FrameValue, at_depth, GrowsTo}
use Rattle.lazy_walk.specs.Standing.{Stands}
use Rattle.theory_walks.proofs.Brought.{Brings}
use Rattle.listing_text.specs.declared.entry.Entry.{Entry}
use Rattle.rule_model.specs.declared.rule.Rule.{Rule}
use Rattle.rule_model.specs.Tiling.{Tiling, tiling_of}
use Rattle.tile_place.specs.declared.placed_tile.PlacedTile.{PlacedTile}
use Rattle.tile_place.specs.Searched.{placed_in}
use Rattle.window_cover.proofs.StartLimits.{not_beyond_start}
use Rattle.window_cover.specs.Windows.{IsLeastForWindow}
use Rattle.list_verify.specs.declared.crossed_edges.CrossedEdges.{CrossedEdges}
use Rattle.list_verify.specs.declared.found_lines.FoundLines.{FoundLines}
use Rattle.list_verify.specs.declared.list_fault.ListFault.{ListFault}
use Rattle.list_verify.specs.declared.list_fault.ListFault.TheVariants.{CoordLimit}
use Rattle.list_verify.specs.declared.walk.Walk.{Walk}
use Rattle.list_verify.specs.Faults.{OrNoRoom}
use Rattle.list_verify.specs.FoundLines.{IsInPlace, AreMarked}
use Rattle.list_verify.specs.ListLaws.{HasListLaws, HasWalkLaws}
use Rattle.list_verify.specs.LookedUp.{IsLookedUp, IsNotFound}
use Rattle.list_verify.specs.Walk.{IsOnFrame, HasNone, WalkGoesOn, Stops}
use Rattle.list_verify.specs.Walked.{first_refused_at}
use Rattle.list_verify.proofs.Came.{HasCome}
use Rattle.list_verify.proofs.NextFound.{IsNext, looked-up}
use Rattle.list_verify.proofs.NotFound.{not-found}
use Rattle.list_verify.proofs.Sides.{sides-start}
use Rattle.list_verify.proofs.Start.{come, refused-centre}
use Rattle.list_verify.proofs.WalkLaws.{brings}

module _ (walk : Walk) (W : HasWalkLaws walk.machine.now) (f : FrameValue) (on : IsOnFrame walk f) (old : FoundLines)
    (start : HasNone (length walk.lines.now) old) where
  abbrev m : Rule
  m = walk.machine.now

  abbrev t : Tiling
  t = tiling_of m

  abbrev B : Brings HasListLaws m
  B = brings m W

  abbrev lines : List Entry
  lines = walk.lines.now

  -- nothing is found at first
  none_marked : AreMarked t f lines old.lines.items old.marks.items
  none_marked = record {
    in_place = subst (AllByRecursion (IsInPlace t f lines)) (sym start.none) tt;
    count = start.count;
    marked = λ i. (λ k. absurd (start.unmarked i k), λ k. absurd (elim (subst (IsAmong i) start.none k) [ ]));
  }

  module _ (g : FrameValue) (grows : GrowsTo t f g)
      (least : (n : ℕ) → length f.digits ≤ n → n < length g.digits → ¬ FrameHolds t (at_depth t n f) (point_in m.order walk.window.now.centre)) where
    within : (n : ℕ) → IsLeastForWindow t f walk.window.now n → length g.digits ≤ n
    within = not_beyond_start m B.settled B.fits B.laws.search f on.lines.frame g grows walk.window.now on.window_fits least

    -- a value on the way to the centre is refused
    pub stops-before : (value : Point) → first_refused_at t f walk.window.now ≡ Some (point_in m.order value)
        → IsOf m.order value → Stops walk f g (CoordLimit value)
    stops-before value e its_order = record {
      grows = grows;
      not_beyond = within;
      cause = inr (refused-centre m B.settled B.fits B.laws f walk.window.now on.window_fits lines on.lines g grows value e its_order);
    }

    module _ (x : PlacedTile) (stands : Stands t g x)
        (holder : IsOnlyHolder t g (point_in m.order walk.window.now.centre) (placed_in m.order x)) where
      abbrev Come : Type 0
      Come = HasCome m B.settled B.fits B.laws f walk.window.now on.window_fits lines on.lines g grows x []

      its_come : Come
      its_come = come m B.settled B.fits B.laws f walk.window.now on.window_fits lines on.lines g grows x stands holder least

      -- its line is looked for
      pub stops-looking : (fault : ListFault) → OrNoRoom (IsNotFound t lines x) fault → Stops walk f g fault
      stops-looking fault (inl e) = record { grows = grows; not_beyond = within; cause = inl e }
      stops-looking fault (inr n) = record {
        grows = grows;
        not_beyond = within;
        cause = inr (not-found m B.settled B.fits B.laws f walk.window.now on.window_fits lines on.lines g grows x [] its_come fault n);
      }

      pub goes-on : (found : FoundLines) (number : ℕ) → IsLookedUp old found lines x number
          → found.crossed ≡ old.crossed → WalkGoesOn walk f g old found
      goes-on found number n same_edges = record {
        stays = next.stays;
        more = next.more;
        under_way = record {
          on_frame = on;
          lines_found = record {
            are_marked = next.are_marked;
            walk = next.walk (inl (λ i e. absurd (start.unmarked i e)));
          };
          sides = sides-start t f walk.window.now lines found.lines.items found.crossed.marks.items
              (ap (λ (o : CrossedEdges). length o.marks.items) same_edges ∙ start.sides)
              (λ i e. absurd (start.none_crossed i (subst (λ (o : CrossedEdges). slice_get o.marks.items i ≡ Some true) same_edges e)));
        };
      }
        where
          next : IsNext m B.settled B.fits B.laws f walk.window.now on.window_fits lines on.lines
              g grows x [] its_come old found
          next = looked-up m B.settled B.fits B.laws f walk.window.now on.window_fits lines on.lines
              g grows x [] its_come old found start.none none_marked number n
