use Rattle.std.proofs.Common.{◌∷◌, ◌++◌, codes, decimal, ap, ◌∙◌}
use Rattle.cyclo_points.specs.Text.{blank}
use Rattle.tile_shape.specs.Text.{address_text}
use Rattle.tile_shape.specs.Views.{address_of}
use Rattle.call_notes.proofs.Fields.{three_words}
use Rattle.call_notes.proofs.line.put_depth_limit.Goals as goal

pub returns-clause-limit : goal.returns-clause-limit
returns-clause-limit c =
    three_words c.args.line.now.bytes _ _ _ (codes "DepthLimit") (address_text (address_of c.args.addr.now))
    (decimal c.args.edge) c.put_word.ensures c.put_address.ensures.address
    (c.put_number.ensures.number ∙ ap (λ n. c.put_address.new.line.bytes ++ blank ∷ decimal n) c.from.ensures)
