-- A part whose tiles are taken as a run of its block.
use Rattle.std.proofs.Common.{◌≡◌, ℕ, zero, suc, ◌+◌, ◌-◌, ◌<◌, ◌≤◌, ◌^◌, Bool, true, List, [], ◌∷◌, ◌++◌, map, drop, length, pos, Some, refl, sym, ap, ap₂, ◌∙◌, subst, arith, lit≤}
use Rattle.std.specs.List.{AllByRecursion}
use Rattle.std.proofs.lemmas.List.{map-append, append-nil}
use Rattle.theory_addresses.specs.Address.{Step as TheStep}
use Rattle.theory_addresses.proofs.Lists.{AllByRecursion-append}
use Rattle.cyclo_points.specs.declared.order.Order.{Order}
use Rattle.cyclo_points.specs.declared.order.Order.TheVariants.{Four, Six, Eight, Ten}
use Rattle.cyclo_points.specs.declared.point.Point.{Point}
use Rattle.cyclo_points.specs.Order.{NumberOf, points_of}
use Rattle.cyclo_points.specs.Point.{coefficient, point_in, IsWithin}
use Rattle.cyclo_points.proofs.OrderLaws.{laws_of}
use Rattle.cyclo_points.proofs.Sizes.{point_in-add, in_order-add, within_sum}
use Rattle.cyclo_points.proofs.Within.{point_wider}
use Rattle.theory_frames.specs.Descent.{of_whole}
use Rattle.rule_model.specs.declared.rule.Rule.{Rule}
use Rattle.rule_model.specs.Tiling.{tiling_of}
use Rattle.rule_model.specs.Usable.{origin}
use Rattle.rule_model.specs.Views.{rule_of}
use Rattle.theory_substitution.specs.Supertile.{Placed}
use Rattle.tile_place.proofs.EachOrder.{order-fits}
use Rattle.tile_shape.specs.declared.step.Step.{Step}
use Rattle.tile_shape.specs.Views.{step_of}
use Rattle.window_descent.specs.declared.part.Part.{Part}
use Rattle.window_descent.specs.Parts.{IsPlacedPart, all_of}
use Rattle.window_cover.specs.declared.block.Block.{Block}
use Rattle.window_cover.specs.declared.blocks.Blocks.{Blocks}
use Rattle.window_cover.specs.declared.runs.Runs.{Runs}
use Rattle.window_descent.specs.declared.rows.Rows.{Rows}
use Rattle.window_descent.specs.Rows.{AreRows, levels_of}
use Rattle.window_cover.specs.Blocks.{IsBlock}
use Rattle.window_cover.specs.Covered.{tile_of}
use Rattle.window_cover.specs.Descending.{tile_in, tiles_in, IsKeptTile, digits_above, found_of, IsDescended}
use Rattle.window_cover.specs.Found.{Found}
use Rattle.window_cover.specs.Gathering.{gathered, AreGathering, IsGathered}
use Rattle.window_cover.specs.Runs.{moved_by, run_tile, seen, leaves_from, leaves_in, CanRun}
use Rattle.window_cover.proofs.BlockTiles.{each-of}
use Rattle.window_cover.proofs.PartSteps.{no-more}
use Rattle.window_cover.proofs.MovedParts.{shifted, below-shifted}

origin-zero : (o : Order) → point_in o origin ≡ (points_of o).ring.int (pos 0)
origin-zero Four = refl
origin-zero Six = refl
origin-zero Eight = refl
origin-zero Ten = refl

-- ---- the tiles of a run
moved-sum : (o : Order) (by p : Point) → point_in o (moved_by by p) ≡ (points_of o).ring.add (point_in o p) (point_in o by)
moved-sum o by p = point_in-add o (moved_by by p) p by refl

tile-in : (o : Order) (by : Point) (digits : List TheStep) (x : Found)
    → tile_in o (run_tile (Some by) digits x) ≡ of_whole digits (shifted (points_of o) (point_in o by) (tile_in o x))
tile-in o by digits x = λ i. record {
  address = record { kind = x.kind; digits = x.digits ++ digits };
  motion = record { turn = x.motion.turn; shift = moved-sum o by x.motion.shift i };
}

tiles-in : (o : Order) (by : Point) (digits : List TheStep) (xs : List Found) → tiles_in o (map (run_tile (Some by) digits) xs)
    ≡ map (of_whole digits) (map (shifted (points_of o) (point_in o by)) (tiles_in o xs))
tiles-in o by digits [] = refl
tiles-in o by digits (x ∷ xs) = ap₂ (λ (t : Placed (NumberOf o)) (ts : List (Placed (NumberOf o))). t ∷ ts)
    (tile-in o by digits x) (tiles-in o by digits xs)

-- ---- of a block
module _ (m : Rule) (level : ℕ) (p : Part) (is : IsPlacedPart m p) (leaves : List Found) (b : Block)
    (block : IsBlock m leaves level p.kind p.motion.turn b) where
  abbrev by : Point
  by = p.motion.shift

  pub run-tiles : (digits : List TheStep) → tiles_in m.order (map (run_tile (Some by) digits) (leaves_in b leaves))
      ≡ map (of_whole digits) (all_of (tiling_of m) level p)
  run-tiles digits =
      tiles-in m.order by digits (leaves_in b leaves)
      ∙ ap (map (of_whole digits)) (ap (map (shifted (points_of m.order) (point_in m.order by))) block.tiles
      ∙ sym (below-shifted (points_of m.order) (laws_of m.order) (rule_of m) p.kind level p.motion.turn
      (point_in m.order origin) (point_in m.order by)
      is.turn_below (origin-zero m.order)))

  module _ (near : IsWithin (2 ^ 24 - 2 ^ 20) by) (all_kept : AllByRecursion (IsKeptTile (tiling_of m)) leaves) where
    kept_at : (i : ℕ) → b.first ≤ i → i < b.first + b.count → IsKeptTile (tiling_of m) (tile_of leaves i)
    kept_at i first end = let fits = block.fits in each-of (IsKeptTile (tiling_of m)) leaves all_kept i (omega (arith, fits, end))

    sum-within : (x : Found) → IsWithin (2 ^ 20) x.motion.shift → IsWithin (2 ^ 24) (moved_by by x.motion.shift)
    sum-within x h = record {
      at_0 = within_sum (2 ^ 20) (2 ^ 24 - 2 ^ 20) (coefficient x.motion.shift 0) (coefficient by 0) h.at_0 near.at_0;
      at_1 = within_sum (2 ^ 20) (2 ^ 24 - 2 ^ 20) (coefficient x.motion.shift 1) (coefficient by 1) h.at_1 near.at_1;
      at_2 = within_sum (2 ^ 20) (2 ^ 24 - 2 ^ 20) (coefficient x.motion.shift 2) (coefficient by 2) h.at_2 near.at_2;
      at_3 = within_sum (2 ^ 20) (2 ^ 24 - 2 ^ 20) (coefficient x.motion.shift 3) (coefficient by 3) h.at_3 near.at_3;
    }

    -- the leaves can be a run
    pub can-run : length (rule_of m).kinds ≤ 16 → (digits : List Step) → length digits + level ≤ 64 → CanRun leaves b (Some by) digits
    can-run few_kinds digits short = record {
      fits = block.fits;
      few = block.few;
      by_within = is.within;
      at_most_64 = omega (arith, short);
      each = λ i first end.
          let x : Found = tile_of leaves i in
          let kept = kept_at i first end in
          let kinds = kept.kind_exists in
          let turns = kept.turn_below in
          let orders = order-fits m.order in
          let own = block.near.short i first end in
          record {
            within = point_wider (2 ^ 20) (2 ^ 24) x.motion.shift (lit≤ tt) (block.near.near i first end);
            short = omega (arith, own, short);
            key = record {
              within = sum-within x (block.near.near i first end);
              turn_fits = omega (arith, turns, orders);
              kind_fits = omega (arith, kinds, few_kinds);
            };
          };
    }

    kept-from : (digits : List TheStep) (first count : ℕ) → ((i : ℕ) → first ≤ i → i < first + count → IsKeptTile (tiling_of m) (tile_of leaves i))
        → ((i : ℕ) → first ≤ i → i < first + count → IsWithin (2 ^ 20) (tile_of leaves i).motion.shift)
        → AllByRecursion (IsKeptTile (tiling_of m)) (map (run_tile (Some by) digits) (leaves_from first count leaves))
    kept-from digits first zero kept close = tt
    kept-from digits first (suc count) kept close = (
      let k = kept first (omega arith) (omega arith) in
          let x : Found = tile_of leaves first in
          record {
            kind_exists = k.kind_exists;
            turn_below = k.turn_below;
            within = sum-within x (close first (omega arith) (omega arith));
            in_order = in_order-add m.order (moved_by by x.motion.shift) x.motion.shift by refl k.in_order is.in_order;
          },
      kept-from digits (suc first) count (λ i a e. kept i (omega (arith, a)) (omega (arith, e)))
          (λ i a e. close i (omega (arith, a)) (omega (arith, e))),
    )

    -- a run of it is found behind the tiles before
    pub run-descended : (r s : Runs) (path digits : List Step) → digits ≡ drop level path → s.leaves.window ≡ r.leaves.window
        → seen s ≡ seen r ++ map (run_tile (Some by) (map step_of digits)) (leaves_in b leaves)
        → IsDescended (tiling_of m) (gathered r) (gathered s) path path true level p
    run-descended r s path digits own window found = record {
      same_window = window;
      same_border = refl;
      same_above = refl;
      longer = record { more = map (run_tile (Some by) (map step_of digits)) (leaves_in b leaves); is = found };
      found = ap (tiles_in m.order) found ∙ map-append (tile_in m.order) (seen r) (map (run_tile (Some by) (map step_of digits)) (leaves_in b leaves))
          ∙ ap (λ ts. tiles_in m.order (seen r) ++ ts) (run-tiles (map step_of digits)
          ∙ ap (λ (ds : List Step). map (of_whole (map step_of ds)) (all_of (tiling_of m) level p)) own);
      kept = λ k. subst (AllByRecursion (IsKeptTile (tiling_of m))) (sym found) (AllByRecursion-append (IsKeptTile (tiling_of m)) (seen r) _ k
          (kept-from (map step_of digits) b.first b.count kept_at block.near.near));
    }

-- ---- what is known of a part without a look at it
-- the rows may have more bounds then
pub gathering-with : (m : Rule) (r : Runs) (children between : Rows) (bs : Blocks) → AreGathering m r children bs → AreRows m between
    → AreGathering m r between bs
gathering-with m r children between bs state rows = record { runs = state.runs; rows = rows; blocks = state.blocks; window = state.window }

module _ (m : Rule) (r : Runs) (children between : Rows) (bs : Blocks) (path : List Step) (all : Bool) (level : ℕ) (p : Part)
    (levels : levels_of between ≡ levels_of children) where
  -- one that has no tile that is sought
  pub gathered-none : AreGathering m r children bs → AreRows m between → found_of (tiling_of m) r.leaves.window all level p ≡ []
      → IsGathered m r r children between bs path path all level p
  gathered-none state rows none = record {
    state = gathering-with m r children between bs state rows;
    levels = levels;
    descended = record {
      same_window = refl;
      same_border = refl;
      same_above = refl;
      longer = no-more (seen r);
      found = sym (ap (λ ts. tiles_in m.order (seen r) ++ map (of_whole (digits_above level path)) ts) none ∙ append-nil (tiles_in m.order (seen r)));
      kept = λ k. k;
    };
  }

  -- one whose tiles that are sought are known to be these
  pub gathered-as : (known : Bool) (s : Runs) (later : Rows) (bs_later : Blocks) (after : List Step)
      → found_of (tiling_of m) r.leaves.window all level p ≡ found_of (tiling_of m) r.leaves.window known level p
      → IsGathered m r s between later bs_later path after known level p → IsGathered m r s children later bs_later path after all level p
  gathered-as known s later bs_later after e h = record {
    state = h.state;
    levels = h.levels ∙ levels;
    descended = record {
      same_window = h.descended.same_window;
      same_border = h.descended.same_border;
      same_above = h.descended.same_above;
      longer = h.descended.longer;
      found = h.descended.found ∙ ap (λ ts. tiles_in m.order (seen r) ++ map (of_whole (digits_above level path)) ts) (sym e);
      kept = h.descended.kept;
    };
  }
