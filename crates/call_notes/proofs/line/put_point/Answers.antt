use Rattle.std.proofs.Common.{◌≡◌, ◌++◌, get_or, pos, to_z, of_z, w64, arith, ap, ◌∙◌}
use Rattle.std.proofs.lemmas.Int.{to_z-of_z}
use Rattle.std.specs.Fmt.{signed_decimal}
use Rattle.call_notes.proofs.Fields.{four_texts}
use Rattle.call_notes.proofs.line.put_point.Goals as goal

-- each coefficient is passed as it is
pub returns-clause-point : goal.returns-clause-point
returns-clause-point c =
    let p = c.args.point.now.c in
    let e0 : to_z w64 (of_z w64 (get_or p 0 (pos 0))) ≡ get_or p 0 (pos 0) = grind (arith, to_z-of_z) in
    let e1 : to_z w64 (of_z w64 (get_or p 1 (pos 0))) ≡ get_or p 1 (pos 0) = grind (arith, to_z-of_z) in
    let e2 : to_z w64 (of_z w64 (get_or p 2 (pos 0))) ≡ get_or p 2 (pos 0) = grind (arith, to_z-of_z) in
    let e3 : to_z w64 (of_z w64 (get_or p 3 (pos 0))) ≡ get_or p 3 (pos 0) = grind (arith, to_z-of_z) in
    four_texts 44 _ _ _ _ _ _ _ _ _ _ _ _ _
    c.push_str.ensures.bytes (c.put_signed.ensures.number ∙ ap (λ x. c.push_str.new.self.bytes ++ signed_decimal x) e0)
    c.push_str-2.ensures.bytes (c.put_signed-2.ensures.number ∙ ap (λ x. c.push_str-2.new.self.bytes ++ signed_decimal x) e1)
    c.push_str-3.ensures.bytes (c.put_signed-3.ensures.number ∙ ap (λ x. c.push_str-3.new.self.bytes ++ signed_decimal x) e2)
    c.push_str-4.ensures.bytes (c.put_signed-4.ensures.number ∙ ap (λ x. c.push_str-4.new.self.bytes ++ signed_decimal x) e3)
