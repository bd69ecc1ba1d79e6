use Rattle.std.proofs.Common.{◌≡◌, ◌+◌, ◌*◌, Some, ap, arith}
use Rattle.std.proofs.lemmas.Bool.{eqb-true, eq-eqb}
use Rattle.transducer_core.specs.Merged.{last_cell}
use Rattle.transducer_core.proofs.KindCells.{kind_exists}
use Rattle.transducer_core.proofs.flat_table.FlatTable.fits.Goals as goal

pub returns-in-Some : goal.returns-in-Some
returns-in-Some c = (
  λ yes.
      let found : c.in-Some.found ≡ last_cell c.args.kind = omega
      (arith, eqb-true c.in-Some.found (c.from.result * 256 + 255) yes, c.from.ensures) in
      let climbs = (c.in-Some.ensures c.args.kind).0 (ap Some found) in
      record {
        kind_exists = kind_exists c.args.self.now c.coherent.ensures c.args.digits.now c.args.kind (omega (arith, c.if-depth-eq0.false)) climbs;
        climbs = climbs;
      },
  λ fits.
      let is = (c.in-Some.ensures c.args.kind).1 fits.climbs in
      let found : c.in-Some.found ≡ last_cell c.args.kind = cc in
      eq-eqb c.in-Some.found (c.from.result * 256 + 255) (omega (arith, found, c.from.ensures)),
)
