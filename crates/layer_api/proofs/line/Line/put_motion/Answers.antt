use Rattle.std.proofs.Common.{◌≡◌, pos, get_or, to_z, of_z, w64, arith}
use Rattle.std.proofs.lemmas.Int.{to_z-of_z}
use Rattle.layer_api.proofs.Figures.{motion_numbers}
use Rattle.layer_api.proofs.line.Line.put_motion.Goals as goal

-- each coefficient is passed as it is
pub returns-clause-motion : goal.returns-clause-motion
returns-clause-motion c =
    let p = c.args.motion.now.shift.c in
    let e0 : to_z w64 (of_z w64 (get_or p 0 (pos 0))) ≡ get_or p 0 (pos 0) = grind (arith, to_z-of_z) in
    let e1 : to_z w64 (of_z w64 (get_or p 1 (pos 0))) ≡ get_or p 1 (pos 0) = grind (arith, to_z-of_z) in
    let e2 : to_z w64 (of_z w64 (get_or p 2 (pos 0))) ≡ get_or p 2 (pos 0) = grind (arith, to_z-of_z) in
    let e3 : to_z w64 (of_z w64 (get_or p 3 (pos 0))) ≡ get_or p 3 (pos 0) = grind (arith, to_z-of_z) in
    motion_numbers _ _ _ _ _ _ _ _ _ c.args.self.now _ _ _ _ _ _ e3 e2 e1 e0
    c.put_signed.ensures.number c.put.ensures c.put_signed-2.ensures.number c.put_pair.ensures.pair c.put-2.ensures c.put_small.ensures.number
