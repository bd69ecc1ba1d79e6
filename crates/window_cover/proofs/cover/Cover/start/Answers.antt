use Rattle.std.specs.List.{AllByRecursion}
use Rattle.std.proofs.Common.{◌≡◌, inl, ℕ, ◌≤◌, List, [], length, map, refl, sym, ap, ap₂, subst, arith}
use Rattle.std.proofs.lemmas.Result.{IfOk-from_err}
use Rattle.cyclo_points.specs.declared.point.Point.{Point}
use Rattle.rule_model.specs.Tiling.{tiling_of}
use Rattle.window_cover.specs.declared.cover_fault.CoverFault.TheVariants.{CoordLimit}
use Rattle.window_cover.specs.declared.found_tile.FoundTile.{FoundTile}
use Rattle.tile_place.specs.Corners.{AreCorners}
use Rattle.window_cover.specs.Causes.{HasCoverCause}
use Rattle.window_cover.specs.Kept.{found_in, AreKept}
use Rattle.tile_place.specs.Keys.{FitsKey}
use Rattle.window_cover.specs.NewEdges.{AreNew}
use Rattle.window_cover.specs.Windows.{IsLeastForWindow}
use Rattle.theory_walks.proofs.Brought.{Brings, brought}
use Rattle.window_cover.specs.SearchLaws.{HasSearchLaws}
use Rattle.theory_walks.proofs.Outcomes.{if_err-is}
use Rattle.window_cover.proofs.Outcomes.{no_memory-on}
use Rattle.window_cover.proofs.HandedOn.{came_to}
use Rattle.window_cover.proofs.StartState.{kind_exists, edges_new, right-first, one_tile, its_window}
use Rattle.window_cover.proofs.StartLimits.{not_beyond_start, answered_first, cause_first}
use Rattle.window_cover.specs.Packed.{packed, unpacked}
use Rattle.window_cover.specs.Working.{Working, working}
use Rattle.window_cover.proofs.Works.{right-of}
use Rattle.window_cover.proofs.cover.Cover.start.Goals.{After-contain}
use Rattle.window_cover.proofs.cover.Cover.start.Goals as goal

-- what the rule and the laws bring
brings : (c : After-contain) → Brings HasSearchLaws c.args.machine.now
brings c = brought HasSearchLaws c.args.machine.now _ _ _ c.checked-checked.ensures.rule
    c.checked-checked.ensures.accepted c.checked-checked.ensures.usable
    c.checked-checked.ensures.same_child_kinds
    c.uses.ensures c.kinds-usable.ensures.limits c.order-order.ensures.order c.search_laws.ensures c.grown_fits_law.ensures

not_beyond : (c : After-contain) (n : ℕ) → IsLeastForWindow (tiling_of c.args.machine.now) c.args.frame.now
    c.args.window.now n → length c.contain.new.self.digits ≤ n
not_beyond c =
    let B = brings c in
    not_beyond_start c.args.machine.now B.settled B.fits B.laws c.args.frame.now c.requires.frame
    c.contain.new.self c.contain.ensures.frame c.args.window.now c.requires.window_fits
    c.contain.ensures.least

pub contain-requires-clause-frame : goal.contain-requires-clause-frame
contain-requires-clause-frame c = c.requires.frame

pub contain-requires-clause-point_within : goal.contain-requires-clause-point_within
contain-requires-clause-point_within c = c.requires.window_fits.centre_within

pub returns-in_err-tile-clause-right : goal.returns-in_err-tile-clause-right
returns-in_err-tile-clause-right c = IfOk-from_err c.from_residual.result _ c.from_residual.ensures.0

pub returns-in_err-tile-clause-begun : goal.returns-in_err-tile-clause-begun
returns-in_err-tile-clause-begun c = IfOk-from_err c.from_residual.result _ c.from_residual.ensures.0

pub returns-in_err-tile-clause-one_tile : goal.returns-in_err-tile-clause-one_tile
returns-in_err-tile-clause-one_tile c = IfOk-from_err c.from_residual.result _ c.from_residual.ensures.0

pub returns-in_err-admit-clause-right : goal.returns-in_err-admit-clause-right
returns-in_err-admit-clause-right c = IfOk-from_err c.from_residual-in_err-admit.result _ c.from_residual-in_err-admit.ensures.0

pub returns-in_err-admit-clause-begun : goal.returns-in_err-admit-clause-begun
returns-in_err-admit-clause-begun c = IfOk-from_err c.from_residual-in_err-admit.result _ c.from_residual-in_err-admit.ensures.0

pub returns-in_err-admit-clause-one_tile : goal.returns-in_err-admit-clause-one_tile
returns-in_err-admit-clause-one_tile c = IfOk-from_err c.from_residual-in_err-admit.result _ c.from_residual-in_err-admit.ensures.0

pub invariant_of-cover : goal.invariant_of-cover
invariant_of-cover c =
    let m = c.args.machine.now in
    let found = ap length c.new.ensures.items in
    let border = ap length c.new-3.ensures in
    record {
      spans = subst (AreKept c.new-2.result.items) (sym c.new.ensures.items) tt;
      keyed = subst (AllByRecursion (λ (y : FoundTile). FitsKey y.motion y.kind)) (sym c.new.ensures.items)
          tt;
      few_tiles = omega (arith, found);
      few_open = omega (arith, found, border);
    }

pub admit-requires-clause-exists : goal.admit-requires-clause-exists
admit-requires-clause-exists c =
    let m = c.args.machine.now in
    let f = c.args.frame.now in
    let k = c.contain.new.self in
    let w = c.args.window.now in
    let B = brings (goal.at.admit-requires-clause-exists c).After-contain in
    let tile = c.in_ok-tile.tile in
    kind_exists m B.settled B.fits B.laws f c.requires.frame k c.contain.ensures.frame w
    c.requires.window_fits tile c.in_ok-tile.ensures.stands c.in_ok-tile.ensures.only_tile
    c.contain.ensures.least

pub admit-requires-clause-turn_below : goal.admit-requires-clause-turn_below
admit-requires-clause-turn_below c = c.in_ok-tile.ensures.stands.turn_below

pub admit-requires-clause-in_order : goal.admit-requires-clause-in_order
admit-requires-clause-in_order c = c.in_ok-tile.ensures.stands.in_order

pub admit-requires-clause-window : goal.admit-requires-clause-window
admit-requires-clause-window c = c.requires.window_fits

pub admit-requires-clause-new : goal.admit-requires-clause-new
admit-requires-clause-new c =
    let m = c.args.machine.now in
    let t = tiling_of m in
    let f = c.args.frame.now in
    let k = c.contain.new.self in
    let w = c.args.window.now in
    let B = brings (goal.at.admit-requires-clause-new c).After-contain in
    let tile = c.in_ok-tile.tile in
    subst (λ b. (corners : List Point) → AreCorners t tile.kind tile.motion corners
    → AreNew corners (map packed (map unpacked b))) (sym c.new-3.ensures)
    (edges_new m B.settled B.fits B.laws f c.requires.frame k c.contain.ensures.frame w
    c.requires.window_fits tile c.in_ok-tile.ensures.stands c.in_ok-tile.ensures.only_tile
    c.contain.ensures.least)

pub returns-clause-right : goal.returns-clause-right
returns-clause-right c =
    let m = c.args.machine.now in
    let f = c.args.frame.now in
    let k = c.contain.new.self in
    let w = c.args.window.now in
    let B = brings (goal.at.returns-clause-right c).After-contain in
    let tile = c.in_ok-tile.tile in
    let c0 : Working = record {
      window = w;
      found = found_in c.new-2.result.items c.new.result.items;
      border = map packed (map unpacked c.new-3.result);
    } in
    let empty : c0 ≡ record { window = w; found = []; border = [] } = ap₂
    (λ xs b. record {
      window = w;
      found = found_in c.new-2.result.items xs;
      border = map packed (map unpacked b);
    }) c.new.ensures.items c.new-3.ensures in
    right-of (tiling_of m) B.laws.open_test k c.admit.new.self c.in_ok-admit.ensures.same_ends
    (right-first m B.settled B.fits B.laws f c.requires.frame k c.contain.ensures.frame w
    c.requires.window_fits tile c.in_ok-tile.ensures.stands c.in_ok-tile.ensures.only_tile
    c.contain.ensures.least c0 (working c.admit.new.self) empty c.in_ok-admit.ensures.admitted)

pub returns-clause-begun : goal.returns-clause-begun
returns-clause-begun c =
    let m = c.args.machine.now in
    let f = c.args.frame.now in
    let k = c.contain.new.self in
    let w = c.args.window.now in
    let B = brings (goal.at.returns-clause-begun c).After-contain in
    let tile = c.in_ok-tile.tile in
    let c0 : Working = record {
      window = w;
      found = found_in c.new-2.result.items c.new.result.items;
      border = map packed (map unpacked c.new-3.result);
    } in
    let empty : c0 ≡ record { window = w; found = []; border = [] } = ap₂
    (λ xs b. record {
      window = w;
      found = found_in c.new-2.result.items xs;
      border = map packed (map unpacked b);
    }) c.new.ensures.items c.new-3.ensures in
    record {
      its_window = its_window m B.settled B.fits B.laws f c.requires.frame k c.contain.ensures.frame w c.requires.window_fits
          tile c.in_ok-tile.ensures.stands c.in_ok-tile.ensures.only_tile c.contain.ensures.least c0
          (working c.admit.new.self) empty c.in_ok-admit.ensures.admitted;
      centre_found = c.in_ok-tile.ensures.found_exactly.0 refl;
    }

pub returns-clause-one_tile : goal.returns-clause-one_tile
returns-clause-one_tile c =
    let m = c.args.machine.now in
    let f = c.args.frame.now in
    let k = c.contain.new.self in
    let w = c.args.window.now in
    let B = brings (goal.at.returns-clause-one_tile c).After-contain in
    let tile = c.in_ok-tile.tile in
    let c0 : Working = record {
      window = w;
      found = found_in c.new-2.result.items c.new.result.items;
      border = map packed (map unpacked c.new-3.result);
    } in
    let empty : c0 ≡ record { window = w; found = []; border = [] } = ap₂
    (λ xs b. record {
      window = w;
      found = found_in c.new-2.result.items xs;
      border = map packed (map unpacked b);
    }) c.new.ensures.items c.new-3.ensures in
    one_tile m B.settled B.fits B.laws f c.requires.frame k c.contain.ensures.frame w c.requires.window_fits
    tile c.in_ok-tile.ensures.stands c.in_ok-tile.ensures.only_tile c.contain.ensures.least c0
    (working c.admit.new.self) empty c.in_ok-admit.ensures.admitted

-- ---- how it ends
pub returns-in_err-tile-clause-ends : goal.returns-in_err-tile-clause-ends
returns-in_err-tile-clause-ends c = record {
  frame = c.contain.ensures.frame;
  not_beyond = not_beyond (goal.at.returns-in_err-tile-clause-ends c).After-contain;
  answered = λ within. let e = c.in_err-tile.ensures.found_exactly.1 within.centre_found in cc (e);
  cause = if_err-is (HasCoverCause (tiling_of c.args.machine.now) c.args.frame.now c.contain.new.self c.args.window.now)
      c.from_residual.result (CoordLimit c.in_err-tile.field-0.0.value) c.from_residual.ensures.1
      (inl (record { is_first = c.in_err-tile.ensures.limit.first; value_in_order = c.in_err-tile.ensures.limit.in_order }));
}

pub returns-in_err-admit-clause-ends : goal.returns-in_err-admit-clause-ends
returns-in_err-admit-clause-ends c =
    let m = c.args.machine.now in
    let f = c.args.frame.now in
    let k = c.contain.new.self in
    let w = c.args.window.now in
    let B = brings (goal.at.returns-in_err-admit-clause-ends c).After-contain in
    let tile = c.in_ok-tile.tile in
    let fault = c.in_err-admit.field-0.0 in
    let c0 : Working = record {
      window = w;
      found = found_in c.new-2.result.items c.new.result.items;
      border = map packed (map unpacked c.new-3.result);
    } in
    let none : length c0.found ≡ 0 = ap (λ xs. length (found_in c.new-2.result.items xs)) c.new.ensures.items in
    record {
      frame = c.contain.ensures.frame;
      not_beyond = not_beyond (goal.at.returns-in_err-admit-clause-ends c).After-contain;
      answered = λ within. no_memory-on c.admit.result c.from_residual-in_err-admit.result fault
          c.in_err-admit.was c.from_residual-in_err-admit.ensures.1
          (answered_first m B.settled B.fits B.laws f c.requires.frame k c.contain.ensures.frame w
          c.requires.window_fits c.contain.ensures.least tile c.in_ok-tile.ensures.stands
          c.in_ok-tile.ensures.only_tile c0 none within c.admit.result c.admit.ensures.cause);
      cause = if_err-is (HasCoverCause (tiling_of m) f k w) c.from_residual-in_err-admit.result fault
          c.from_residual-in_err-admit.ensures.1
          (cause_first m B.settled B.fits B.laws f c.requires.frame k c.contain.ensures.frame w c.requires.window_fits
          c.contain.ensures.least tile c.in_ok-tile.ensures.stands c.in_ok-tile.ensures.only_tile c0 none fault
          c.in_err-admit.ensures.cause);
    }

pub returns-clause-ends : goal.returns-clause-ends
returns-clause-ends c = came_to (tiling_of c.args.machine.now) c.args.frame.now c.contain.new.self c.args.window.now c.admit.new.self
    c.contain.ensures.frame (not_beyond (goal.at.returns-clause-ends c).After-contain)
