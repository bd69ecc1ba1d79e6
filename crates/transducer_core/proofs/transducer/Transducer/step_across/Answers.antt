use Rattle.tile_shape.specs.Views.{address_of}
use Rattle.transducer_core.proofs.HandedOn.{found, refused}
use Rattle.transducer_core.proofs.transducer.Transducer.step_across.Goals as goal

pub returns-in-Ok-clause-crossing : goal.returns-in-Ok-clause-crossing
returns-in-Ok-clause-crossing g c =
    found c.args.self.now (address_of c.args.addr.now) c.put_digits.new.there c.args.edge
    c.step_across_in_place.new.addr c.put_digits.ensures.seen c.in-Ok.back c.in-Ok.ensures.crossing

pub returns-in-Err-clause-crossing : goal.returns-in-Err-clause-crossing
returns-in-Err-clause-crossing g c =
    refused c.args.self.now (address_of c.args.addr.now) c.put_digits.new.there c.args.edge
    c.step_across_in_place.new.addr c.put_digits.ensures.seen c.in-Err.outside c.in-Err.ensures.crossing
