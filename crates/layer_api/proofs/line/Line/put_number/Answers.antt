use Rattle.std.proofs.Common.{arith, length, ap, ◌≡◌, ◌≤◌, ◌-◌, sym, ◌∙◌}
use Rattle.std.specs.Fmt.{decimal}
use Rattle.std.proofs.lemmas.Fmt.{length-decimal-le}
use Rattle.std.proofs.lemmas.List.{length-drop}
use Rattle.layer_api.proofs.line.Line.put_number.Goals as goal

pub write_digits-self-inside-requires : goal.write_digits-self-inside-requires
write_digits-self-inside-requires c =
    let digits : length (decimal c.args.number) ≤ 20 = length-decimal-le 20 c.args.number (omega arith) (omega arith) (omega arith) in
    let size : length c.args.self.now ≡ length c.self.inside.bytes - c.self.inside.start = ap length
    (sym c.self.view_is) ∙ length-drop c.self.inside.start c.self.inside.bytes in
    (omega (arith, c.self.told), omega (arith, c.self.told, c.self.invariant.0))

pub returns-clause-at_most : goal.returns-clause-at_most
returns-clause-at_most c =
    let w = c.write_digits-self-inside in
    let digits : length (decimal c.args.number) ≤ 20 = length-decimal-le 20 c.args.number (omega arith) (omega arith) (omega arith) in
    let size : length c.args.self.now ≡ length c.self.inside.bytes - c.self.inside.start = ap length
    (sym c.self.view_is) ∙ length-drop c.self.inside.start c.self.inside.bytes in
    let kept = w.auto.buf in
    omega (arith, c.self.told, length-drop w.result w.new.buf)
