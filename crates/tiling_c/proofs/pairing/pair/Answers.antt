use Rattle.std.proofs.Common.{refl}
use Rattle.rule_model.specs.Tiling.{tiling_of}
use Rattle.tiling_c.specs.Pairing.{ShowsRelation}
use Rattle.tiling_c.proofs.Moved.{given_moved}
use Rattle.tiling_c.proofs.pairing.pair.Goals as goal

pub returns-in_default-clause-named : goal.returns-in_default-clause-named
returns-in_default-clause-named g c = (λ e. absurd (cc e), λ w. absurd (cc (c.in_default.ensures.named.1 w.0)))

pub returns-in_default-tile-clause-named : goal.returns-in_default-tile-clause-named
returns-in_default-tile-clause-named g c = (λ e. absurd (cc e), λ w. absurd (cc (c.in_default-tile.ensures.named.1 w.1)))

pub returns-clause-relation : goal.returns-clause-relation
returns-clause-relation g c =
    given_moved (λ x y. ShowsRelation (tiling_of c.args.machine.now) x y
    (record { relation = c.relation_of-relation.result; backs = c.backs_of-backs.result })) _ _ _ _
    c.in-Some.ensures.seen c.in-Some-tile.ensures.seen (record { backs = c.backs_of-backs.ensures; how = c.relation_of-relation.ensures })

pub returns-clause-named : goal.returns-clause-named
returns-clause-named g c = (λ _. (c.in-Some.ensures.named.0 refl, c.in-Some-tile.ensures.named.0 refl), λ _. refl)
