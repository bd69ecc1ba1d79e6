use Rattle.std.proofs.Common.{length, ap, ◌∙◌}
use Rattle.theory_substitution.specs.RuleParts.{vertices_of}
use Rattle.rule_model.specs.Tiling.{tiling_of}
use Rattle.rule_model.specs.Views.{as_rule}
use Rattle.tile_place.specs.Crossed.{edges_of}
use Rattle.tile_place.proofs.Corners.{vertices_few}
use Rattle.tiling_c.proofs.shapes.prototile.Goals as goal

pub returns-clause-lists : goal.returns-clause-lists
returns-clause-lists c = c.vertices.ensures.lists ∙ ap (λ r. vertices_of (as_rule r) c.args.kind) c.checked.ensures.rule

pub returns-clause-each_edge : goal.returns-clause-each_edge
returns-clause-each_edge c = c.vertices.ensures.each_edge ∙ ap (λ r. edges_of (tiling_of r) c.args.kind) c.checked.ensures.rule

pub returns-clause-at_most_12 : goal.returns-clause-at_most_12
returns-clause-at_most_12 c =
    (vertices_few c.checked.result.now c.args.machine.now c.args.kind (length c.vertices.result.now) c.checked.ensures.rule
    c.vertices.ensures.each_edge c.checked.ensures.usable c.requires.exists).1
