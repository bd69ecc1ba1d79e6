use Rattle.std.proofs.Common.{◌∙◌, ap, subst}
use Rattle.std.proofs.lemmas.List.Elements.{All-map}
use Rattle.toml.specs.View.{view}
use Rattle.rule_model.specs.declared.kind_row.KindRow.{KindRow}
use Rattle.rule_model.specs.Views.{as_kind}
use Rattle.rule_text.specs.Written.{kind_data, HasFours}
use Rattle.rule_text.proofs.Items.{list_data-all}
use Rattle.rule_text.proofs.Pushes.{map-more, All-more, All-whole}
use Rattle.rule_text.proofs.values.kinds.Goals as goal

pub loop-row-preserved : goal.loop-row-preserved
loop-row-preserved c =
    let xs = c.args.rows.now in
    let x = c.row-item.result in
    record {
      values = map-more view (λ (row : KindRow). kind_data (as_kind row)) xs c.loop-row.row-index x
          c.loop-row.values.items c.push.new.self.items _ c.loop-row-test.true c.in_ok-push.ensures.items
          (c.in_ok-kind_entry.ensures.value ∙ ap (λ (row : KindRow). kind_data (as_kind row)) c.row-item.is)
          c.loop-row.invariant.values;
      fours = All-more (λ (row : KindRow). HasFours (as_kind row)) xs c.loop-row.row-index x
          c.loop-row-test.true (subst (λ (row : KindRow). HasFours (as_kind row)) c.row-item.is
          c.in_ok-kind_entry.ensures.fours) c.loop-row.invariant.fours;
    }

pub returns-clause-value : goal.returns-clause-value
returns-clause-value c = c.from.ensures ∙ list_data-all view kind_data as_kind c.args.rows.now
    c.loop-row.values.items c.loop-row.row-index c.loop-row-test.false c.loop-row.invariant.values

pub returns-clause-fours : goal.returns-clause-fours
returns-clause-fours c =
    All-map HasFours as_kind c.args.rows.now
    (All-whole (λ (row : KindRow). HasFours (as_kind row)) c.args.rows.now c.loop-row.row-index c.loop-row-test.false c.loop-row.invariant.fours)
