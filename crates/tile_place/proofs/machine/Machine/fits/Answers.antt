use Rattle.std.proofs.Common.{arith}
use Rattle.tile_place.proofs.machine.Machine.fits.Goals as goal

pub returns : goal.returns
returns c = grind arith
