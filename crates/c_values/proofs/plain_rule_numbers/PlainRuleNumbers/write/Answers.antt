use Rattle.std.proofs.Common.{◌≡◌, map, length, sym, ap, ◌∙◌, rules}
use Rattle.std.proofs.lemmas.List.{length-map}
use Rattle.rule_model.specs.Tiling.{listed}
use Rattle.rule_model.specs.Views.{as_kind, as_rule, as_type}
use Rattle.c_values.specs.Rules.{kind_as, no_kind, no_type, padded, point_as, rule_as, type_as}
use Rattle.c_values.proofs.plain_rule_numbers.PlainRuleNumbers.write.Goals as goal

pub returns : goal.returns
returns c =
    let r = c.rule-rule.result.now in
    let kinds_room : length c.args.self.now.kinds ≡ 16 = search rules in
    let types_room : length c.args.self.now.types ≡ 32 = search rules in
    let glue_room : length c.args.self.now.glue ≡ 16 = search rules in
    let kinds = c.put_kinds.ensures ∙ ap (λ n. padded n no_kind (map kind_as (as_rule r).kinds)) kinds_room in
    let types = c.put_types.ensures ∙ ap (λ n. padded n no_type (map type_as (as_rule r).types)) types_room in
    let glue = c.put_numbers.ensures ∙ ap (λ n. padded n 0 c.deref.result.now) glue_room ∙ ap (padded 16 0) c.deref.ensures.value in
    let kinds_counted : c.len.result ≡ length r.kinds.items = search rules in
    let types_counted : c.len-2.result ≡ length r.types.items = search rules in
    let glue_counted : c.len-3.result ≡ length r.glue.items = search rules in
    let kind_count = kinds_counted ∙ sym (length-map r.kinds.items as_kind) in
    let type_count = types_counted ∙ sym (length-map r.types.items as_type) in
    let written : _ ≡ rule_as (listed r) = λ i. record {
      factor = point_as r.factor;
      kinds = kinds i;
      types = types i;
      glue = glue i;
      format = c.file_format-self.ensures i;
      order = c.n-self.ensures i;
      kind_count = kind_count i;
      type_count = type_count i;
      glue_count = glue_counted i;
    } in
    written ∙ ap (λ x. rule_as (listed x)) c.rule-rule.ensures.rule
