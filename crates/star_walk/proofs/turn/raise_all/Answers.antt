use Rattle.std.proofs.Common.{◌≤◌, length, get_or, sym, ap, ◌∙◌, subst}
use Rattle.theory_addresses.specs.Address.{depth}
use Rattle.theory_frames.specs.Frame.{lifted_in}
use Rattle.theory_walks.specs.Frames.{whole}
use Rattle.tile_shape.specs.Views.{address_of}
use Rattle.star_walk.specs.declared.corner.Corner.{Corner}
use Rattle.star_walk.specs.Found.{IsRaised}
use Rattle.star_walk.proofs.InTurn.{same-at, below-as, one-more}
use Rattle.star_walk.proofs.turn.raise_all.Goals as goal

pub raise-requires : goal.raise-requires
raise-requires c =
    let same = same-at c.args.corners.now c.loop-corner.corners c.loop-corner.corner-index
    c.corner-item.result c.loop-corner-test.true c.loop-corner.invariant.1 in
    record {
      no_deeper = subst (λ (k : Corner). depth (address_of k.tile.addr) ≤ length c.args.frame.now.digits)
          (sym same) (c.requires.no_deeper c.loop-corner.corner-index c.corner-item.result
          c.loop-corner-test.true);
    }

pub loop-corner-preserved : goal.loop-corner-preserved
loop-corner-preserved c =
    let i = c.loop-corner.corner-index in
    let old = get_or c.args.corners.now i c.corner-item.result in
    let same = same-at c.args.corners.now c.loop-corner.corners i c.corner-item.result c.loop-corner-test.true c.loop-corner.invariant.1 in
    let below = below-as c.loop-corner.corners c.args.corners.now i c.loop-corner-test.true (sym c.loop-corner.invariant.1) in
    one-more (IsRaised c.args.frame.now) c.args.corners.now c.loop-corner.corners i _ c.corner-item.result
    below c.loop-corner.invariant.0 c.loop-corner.invariant.1
    (record {
      same_kind = ap (λ (k : Corner). k.tile.kind) same;
      same_motion = ap (λ (k : Corner). k.tile.motion) same;
      its_address = c.raise.ensures ∙ ap (λ (k : Corner). lifted_in (whole c.args.frame.now) (address_of k.tile.addr)) same;
      same_vertex = ap (λ (k : Corner). k.vertex) same;
    })
