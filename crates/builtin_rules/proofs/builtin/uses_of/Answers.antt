use Rattle.std.proofs.Common.{sym, subst, ap, ◌∙◌}
use Rattle.std.proofs.lemmas.Result.{IfOk-weaker}
use Rattle.theory_addresses.specs.Tables.{Tables, child_kinds}
use Rattle.tile_shape.specs.Usable.{AreUsable}
use Rattle.builtin_rules.proofs.Constants.{usable, its_kinds}
use Rattle.builtin_rules.proofs.builtin.uses_of.Goals as goal

pub uses_from-requires : goal.uses_from-requires
uses_from-requires c = record { usable = subst (λ (t : Tables). AreUsable (child_kinds t)) (sym c.numbers.ensures.contacts) (usable c.args.name) }

pub returns : goal.returns
returns c = IfOk-weaker c.uses_from.result _ _ (λ uses h. h ∙ ap child_kinds c.numbers.ensures.contacts ∙ its_kinds c.args.name) c.uses_from.ensures
