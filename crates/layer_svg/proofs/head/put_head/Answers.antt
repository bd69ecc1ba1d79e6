use Rattle.std.proofs.Common.{◌*◌, ap₂, refl}
use Rattle.layer_svg.proofs.Heads.{head_from}
use Rattle.layer_svg.proofs.head.put_head.Goals as goal

pub returns : goal.returns
returns c =
    head_from c.args.view.now _ _ _ c.scale_text.result.now c.args.line.now _ _ _ _ _ _ _ _ _ _ _
    (ap₂ (λ h k. h * k) c.from.ensures c.height.ensures.value) refl c.from-2.ensures
    c.scale_text.ensures.text
    c.put_text.ensures c.put_text-2.ensures c.put_text-3.ensures c.put_millionths.ensures.millionths
    c.put.ensures c.put_number.ensures.number c.put-2.ensures
    c.put_millionths-2.ensures.millionths c.put_text-4.ensures c.put_half.ensures.half c.put_text-5.ensures
