use Rattle.std.proofs.Common.{arith}
use Rattle.layer_svg.proofs.path.put_kept_vertex.Goals as goal

pub put_last-requires-clause-count : goal.put_last-requires-clause-count
put_last-requires-clause-count c =
    let found = c.in-Some.ensures c.args.view.now (c.requires.kept c.place_of-place.result _ (omega arith)) in
    omega (arith, found.0, c.in-Some.count-is)
