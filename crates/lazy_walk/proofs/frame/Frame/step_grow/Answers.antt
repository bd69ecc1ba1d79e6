use Rattle.std.proofs.Common.{refl, sym, ap, ◌∙◌, subst}
use Rattle.theory_frames.specs.Frame.{lifted_in}
use Rattle.rule_model.specs.declared.rule.Rule.{Rule}
use Rattle.rule_model.specs.Tiling.{tiling_of, children}
use Rattle.tile_place.specs.Glued.{Meets, Glues}
use Rattle.tile_shape.specs.Usable.{AreUsable}
use Rattle.tile_shape.specs.Views.{address_of}
use Rattle.theory_walks.specs.Frames.{whole}
use Rattle.theory_walks.proofs.Crossings.{lifted-is_whole}
use Rattle.theory_walks.proofs.Walks.{StillFits}
use Rattle.lazy_walk.proofs.frame.Frame.step_grow.Goals as goal

pub cross_grow_in_place-requires-clause-of_frame : goal.cross_grow_in_place-requires-clause-of_frame
cross_grow_in_place-requires-clause-of_frame g c = c.requires.tile.of_frame

pub returns-in_err-back-clause-limit_exactly : goal.returns-in_err-back-clause-limit_exactly
returns-in_err-back-clause-limit_exactly g c = (λ h. c.in_err-back.ensures.limit_exactly.0 refl, λ k. c.from_residual.ensures.0)

pub returns-clause-limit_exactly : goal.returns-clause-limit_exactly
returns-clause-limit_exactly g c = (λ h. c.in_ok-back.ensures.limit_exactly.0 h, λ k. c.in_ok-back.ensures.limit_exactly.1 k)

pub motion_across-tile-requires-clause-meets : goal.motion_across-tile-requires-clause-meets
motion_across-tile-requires-clause-meets g c =
    let m = c.args.machine.now in
    let fits : StillFits (children (tiling_of m)) = λ base start n h. c.grown_fits_law.ensures (children (tiling_of m)) base start n
    (subst AreUsable (c.uses.ensures ∙ ap (λ (r : Rule). children (tiling_of r)) c.checked-checked.ensures.rule) c.kinds-usable.ensures.limits) h in
    let a = lifted_in (whole c.cross_grow_in_place.new.self) (address_of c.args.tile.now.addr) in
    let own = (lifted-is_whole m fits c.args.self.now (address_of c.args.tile.now.addr) c.requires.frame
    c.requires.tile.of_frame c.cross_grow_in_place.new.self c.in_ok-back.ensures.frame).fits in
    subst (λ k. Meets (tiling_of m) k c.args.edge c.cross_grow_in_place.new.tile.kind c.in_ok-back.back) (sym c.requires.tile.its_kind)
    (c.gluing_law.ensures a (address_of c.cross_grow_in_place.new.tile) c.args.edge c.in_ok-back.back own
    c.requires.edge_exists c.in_ok-back.ensures.crossed.only_tile_across).0

pub motion_across-tile-requires-clause-turn_below : goal.motion_across-tile-requires-clause-turn_below
motion_across-tile-requires-clause-turn_below g c = c.requires.tile.motion.turn_below

pub motion_across-tile-requires-clause-shift_within : goal.motion_across-tile-requires-clause-shift_within
motion_across-tile-requires-clause-shift_within g c = c.requires.tile.motion.within

pub motion_across-tile-requires-clause-in_order : goal.motion_across-tile-requires-clause-in_order
motion_across-tile-requires-clause-in_order g c = c.requires.tile.motion.in_order

pub returns-clause-crossed : goal.returns-clause-crossed
returns-clause-crossed g c =
    let m = c.args.machine.now in
    let b = address_of c.cross_grow_in_place.new.tile in
    let across = c.motion_across-tile.ensures.across in
    record {
      its_kind = refl;
      of_frame = c.in_ok-back.ensures.crossed.of_frame;
      at_depth = c.in_ok-back.ensures.crossed.at_depth;
      only_tile_across = c.in_ok-back.ensures.crossed.only_tile_across;
      inside = c.in_ok-back.ensures.crossed.inside;
      least = c.in_ok-back.ensures.least;
      glue = across.glue;
      glues = subst (λ k. Glues (tiling_of m) k c.args.edge b.kind c.in_ok-back.back across.glue) c.requires.tile.its_kind across.glues;
      motion_is = across.motion_is;
      turn_below = c.motion_across-tile.ensures.turn_below;
      shift_within = c.motion_across-tile.ensures.bounded;
      in_order = c.motion_across-tile.ensures.in_order;
    }
