use Rattle.std.proofs.Common.{◌∙◌, ◌+◌, ◌-◌, ◌*◌, ◌<◌, get_or, sym, drop, arith}
use Rattle.tile_shape.proofs.Decimals.{number_up_to-none, continued-drop}
use Rattle.tile_shape.proofs.decimal.read_number.Goals as goal

pub returns-then-number-from : goal.returns-then-number-from
returns-then-number-from c =
    let text = c.args.text.now in
    let i = c.loop-byte.byte-index in
    let begins = sym c.begins_right.ensures ∙ c.if-not-begins_right.false in
    let figure = sym c.is_figure.ensures ∙ c.if-not-is_figure.false in
    let on = continued-drop text i c.loop-byte.number c.loop-byte-test.true figure in
    let past : c.args.most < 10 * c.loop-byte.number + (get_or text i 0 - 48) = omega
    (arith, c.from.ensures, c.if-number-from.true, c.from-in-loop-byte.ensures) in
    sym (number_up_to-none c.args.most _ text (drop (i + 1) text) begins (sym c.loop-byte.invariant.same ∙ on) past)
