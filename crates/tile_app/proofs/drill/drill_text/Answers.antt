use Rattle.std.proofs.Common.{rules, ◌≡◌, string_bytes, ◌∙◌, subst}
use Rattle.rule_model.specs.Tiling.{tiling_of}
use Rattle.tile_app.specs.Drill.{IsSummary}
use Rattle.tile_app.proofs.drill.drill_text.Goals as goal

pub returns-clause-printed : goal.returns-clause-printed
returns-clause-printed c =
    let same : c.into_bytes.result.items ≡ string_bytes c.in_ok-summary_text.field-0 = search rules in
    record {
      summary = c.in_ok-summary.summary;
      is_summary = subst (λ m. IsSummary (tiling_of m) c.args.seed c.args.count c.in_ok-summary.summary) c.in_ok-machine.ensures.its_rule
          c.in_ok-summary.ensures;
      is_text = same ∙ c.in_ok-summary_text.ensures;
    }
