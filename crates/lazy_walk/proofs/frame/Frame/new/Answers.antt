use Rattle.std.proofs.Common.{rules, ◌≡◌, ◌≤◌, length, map, ap, arith}
use Rattle.std.proofs.lemmas.List.{length-map}
use Rattle.tile_shape.specs.Views.{address_of, step_of}
use Rattle.theory_walks.specs.Frames.{FrameValue}
use Rattle.theory_walks.proofs.Walks.{new-is_frame}
use Rattle.lazy_walk.proofs.frame.Frame.new.Goals as goal

pub returns-clause-is_frame : goal.returns-clause-is_frame
returns-clause-is_frame c = λ t fits.
    let f : FrameValue = record {
      base = address_of c.args.base;
      start = c.new.result.start;
      digits = map step_of c.try_extend_from_slice.new.self.items;
    } in
    let digits : f.digits ≡ f.base.digits = search rules in
    let few : length f.digits ≤ 64 = omega (
      arith,
      ap length digits,
      length-map c.args.base.digits.items
          step_of,
      ap length c.as_slice.ensures.value,
      c.as_slice.ensures.fits,
    ) in
    new-is_frame t f fits digits few
