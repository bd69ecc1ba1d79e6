use Rattle.std.proofs.Common.{◌≡◌, ℕ, Result, Ok, Err, IfOk, Some, List, Option, ap, ◌∙◌, subst}
use Rattle.std.proofs.lemmas.Result.{IfOk-weaker}
use Rattle.theory_addresses.specs.Address.{depth as depth_of, Fits}
use Rattle.theory_substitution.specs.Motion.{followed}
use Rattle.theory_substitution.specs.Placement.{placement}
use Rattle.theory_substitution.specs.Supertile.{Placed}
use Rattle.theory_frames.specs.Descent.{tile_holding}
use Rattle.cyclo_points.specs.declared.order.Order.{Order}
use Rattle.cyclo_points.specs.Order.{NumberOf, PointsLaw, points_of}
use Rattle.cyclo_points.specs.Point.{point_in}
use Rattle.cyclo_points.specs.Motion.{motion_in}
use Rattle.theory_dissection.specs.Laws.{DissectionLaw}
use Rattle.rule_model.specs.declared.rule.Rule.{Rule}
use Rattle.rule_model.specs.Tiling.{Tiling, tiling_of, children}
use Rattle.rule_model.specs.Views.{rule_of}
use Rattle.tile_shape.specs.Views.{address_of}
use Rattle.tile_place.specs.declared.placed_tile.PlacedTile.{PlacedTile}
use Rattle.tile_place.specs.declared.locate_fault.LocateFault.{LocateFault}
use Rattle.tile_place.specs.Located.{IsOfSupertile, IsOnlyTileHolding}
use Rattle.tile_place.specs.Searched.{placed_in, IsFoundTile}
use Rattle.tile_place.proofs.Plane.{IsSettled}
use Rattle.tile_place.proofs.Located.{located-only, located-depth, located-fits, located-motion, causes, found_exactly, not_inside}
use Rattle.tile_place.proofs.machine.Machine.locate.Goals.{After-search}
use Rattle.tile_place.proofs.machine.Machine.locate.Goals as goal

-- what is so of the tile that a search finds is so of its answer
so_of : (o : Order) (x : Result PlacedTile LocateFault) (values : List (NumberOf o)) (tile : Option (Placed (NumberOf o)))
    (Q : Placed (NumberOf o) → Type 0) → ((t : Placed (NumberOf o)) → tile ≡ Some t → Q t)
    → IfOk x (IsFoundTile o values tile) → IfOk x (λ t. Q (placed_in o t))
so_of o (Ok t) values tile Q each h = each (placed_in o t) h.holder
so_of o (Err f) values tile Q each h = tt

settled : (m : Rule) (o : Order) (r : Rule) → o ≡ r.order → r ≡ m → PointsLaw o → DissectionLaw (points_of o)
    → PointsLaw m.order × DissectionLaw (points_of m.order)
settled m o r e f points law =
    let same : o ≡ m.order = e ∙ ap (λ (q : Rule). q.order) f in (subst PointsLaw same points, subst (λ o. DissectionLaw (points_of o)) same law)

-- the rule is settled, and the laws are those of its order
its : (c : After-search) → IsSettled c.args.self.now
its c = record {
  accepted = c.checked.ensures.accepted;
  usable = c.checked.ensures.usable;
  same_child_kinds = c.checked.ensures.same_child_kinds;
}

laws : (c : After-search) → PointsLaw c.args.self.now.order × DissectionLaw (points_of c.args.self.now.order)
laws c = settled c.args.self.now c.order-order.result c.checked.result.now c.order-order.ensures.order
    c.checked.ensures.rule c.points_law.ensures c.dissection_law.ensures

-- what a search finds is so of its answer, where it follows of the tile
found : (c : After-search) (Q : Placed (NumberOf c.args.self.now.order) → Type 0)
    → ((t : Placed (NumberOf c.args.self.now.order))
    → tile_holding (points_of c.args.self.now.order) (rule_of c.args.self.now) c.args.kind c.args.depth
    (motion_in c.args.self.now.order c.args.at.now) (point_in c.args.self.now.order c.args.point.now) ≡ Some t → Q t)
    → IfOk c.search.result (λ t. Q (placed_in c.args.self.now.order t))
found c Q each = so_of c.args.self.now.order c.search.result _ _ Q each c.search.ensures.found

pub returns-clause-only_tile : goal.returns-clause-only_tile
returns-clause-only_tile c =
    found c (IsOnlyTileHolding (tiling_of c.args.self.now) c.args.kind c.args.depth (motion_in c.args.self.now.order c.args.at.now)
    (point_in c.args.self.now.order c.args.point.now))
    (located-only c.args.self.now (its c) (laws c).0 (laws c).1 c.args.kind c.args.depth c.requires.supertile.exists _ c.requires.moves.turn_below _)

-- the facts of an answer
all_of : (t : Tiling) (n : ℕ) (x : Result PlacedTile LocateFault) (values : List (NumberOf t.order)) (tile : Option (Placed (NumberOf t.order)))
    → IfOk x (λ y. (depth_of (address_of y.addr) ≡ n) × Fits (children t) (address_of y.addr))
    → IfOk x (IsFoundTile t.order values tile) → IfOk x (IsOfSupertile t n)
all_of t n (Ok y) values tile at found = record { its_kind = found.its_kind; its_depth = at.0; its_address = at.1; moves = found.moves }
all_of t n (Err f) values tile at found = tt

pub returns-clause-of_supertile : goal.returns-clause-of_supertile
returns-clause-of_supertile c =
    let m = c.args.self.now in
    let below = c.requires.moves.turn_below in
    let exists = c.requires.supertile.exists in
    all_of (tiling_of m) c.args.depth c.search.result _ _
    (found c (λ t. (depth_of t.address ≡ c.args.depth) × Fits (children (tiling_of m)) t.address) (λ t e. (
      located-depth m (its c) (laws c).0 (laws c).1 c.args.kind c.args.depth exists _ below _ t e,
      located-fits m (its c) (laws c).0 (laws c).1 c.args.kind c.args.depth exists _ below _ t e,
    )))
    c.search.ensures.found

pub returns-clause-its_motion : goal.returns-clause-its_motion
returns-clause-its_motion c = found c (λ t. t.motion ≡ followed (points_of c.args.self.now.order)
    (placement (points_of c.args.self.now.order) (rule_of c.args.self.now) t.address.digits) (motion_in c.args.self.now.order c.args.at.now))
    (located-motion c.args.self.now (its c) (laws c).0 (laws c).1 c.args.kind c.args.depth
    c.requires.supertile.exists _ c.requires.moves.turn_below _)

pub returns-clause-not_inside : goal.returns-clause-not_inside
returns-clause-not_inside c =
    not_inside c.args.self.now (its c) (laws c).0 (laws c).1 c.args.kind c.args.depth c.requires.supertile.exists _ c.requires.moves.turn_below _
    c.search.result c.search.ensures.found c.search.ensures.fault

pub returns-clause-found_exactly : goal.returns-clause-found_exactly
returns-clause-found_exactly c =
    found_exactly c.args.self.now (its c) (laws c).0 (laws c).1 c.args.kind c.args.depth c.requires.supertile.exists _ c.requires.moves.turn_below _
    c.search.result c.search.ensures.found c.search.ensures.fault

pub returns-clause-fault : goal.returns-clause-fault
returns-clause-fault c =
    causes c.args.self.now (its c) (laws c).0 (laws c).1 c.args.kind c.args.depth c.requires.supertile.exists _ c.requires.moves.turn_below _
    c.search.result c.search.ensures.found c.search.ensures.fault

pub returns-clause-by_descent : goal.returns-clause-by_descent
returns-clause-by_descent c = IfOk-weaker c.search.result _ _ (λ t h. h.holder) c.search.ensures.found
