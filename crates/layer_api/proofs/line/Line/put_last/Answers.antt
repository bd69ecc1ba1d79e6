use Rattle.std.proofs.Common.{◌≡◌, ◌-◌, ◌++◌, drop, length, ap, sym, ◌∙◌, arith}
use Rattle.std.proofs.lemmas.List.{length-drop}
use Rattle.layer_api.proofs.Words.{last_bytes}
use Rattle.layer_api.proofs.line.Line.put_last.Goals as goal

pub returns-clause-last : goal.returns-clause-last
returns-clause-last c =
    let size : length c.args.self.now ≡ length c.self.inside.bytes - c.self.inside.start = ap length
    (sym c.self.view_is) ∙ length-drop c.self.inside.start c.self.inside.bytes in
    last_bytes c.self.inside.start c.args.count c.self.inside.bytes c.args.text.now c.overwrite.new.out
    (omega (arith, c.self.told)) (omega (arith, c.self.told, c.self.invariant.0)) c.requires.count (omega (arith, c.told-text)) c.overwrite.ensures
    ∙ ap (λ t. drop (32 - c.args.count) c.args.text.now ++ t) c.self.view_is
