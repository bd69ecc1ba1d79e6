use Rattle.std.proofs.Common.{◌∙◌, List, Result, Bor, BTreeMap, String, Global, subst, sym, ap, map, ◌≤◌, length, arith, codes}
use Rattle.toml.specs.Data.{Members}
use Rattle.toml.specs.View.{table_view}
use Rattle.toml.specs.declared.value.Value.{Value}
use Rattle.theory_substitution.specs.Rule.{Kind}
use Rattle.cyclo_points.specs.declared.point.Point.{Point}
use Rattle.rule_model.specs.Views.{as_kind}
use Rattle.rule_text.specs.declared.key.Key.TheVariants as key
use Rattle.rule_text.specs.declared.text_fault.TextFault.{TextFault}
use Rattle.rule_text.specs.Agrees.{ReadsAs}
use Rattle.rule_text.specs.Document.{kind_in}
use Rattle.rule_text.specs.Steps.{in_order}
use Rattle.rule_text.proofs.Rows.{in_order-map}
use Rattle.rule_text.proofs.Entries.{kinds_in-entries, seen-few}
use Rattle.rule_text.proofs.reading.kinds.Goals as goal

pub kind_rows-requires : goal.kind_rows-requires
kind_rows-requires c =
    let seen : Bor (BTreeMap (String Global) Value) → Members = λ t. table_view t.now in
    let few : length c.as_slice.result.now ≤ 1048578 = seen-few 1048578 key.KindList (codes "kind")
    (table_view c.args.table.now) seen c.in_ok-entries.entries.items c.as_slice.result.now c.requires.few
    c.in_ok-entries.ensures c.as_slice.ensures.value in
    record { numbered = omega (arith, few) }

pub returns : goal.returns
returns c =
    let o = c.args.order in
    let seen : Bor (BTreeMap (String Global) Value) → Members = λ t. table_view t.now in
    let entries = c.in_ok-entries.entries.items in
    let same = kinds_in-entries o (table_view c.args.table.now) (map seen entries) c.in_ok-entries.ensures
    ∙ in_order-map (kind_in o) seen 0 entries
    ∙ ap (in_order (λ kind entry. kind_in o kind (table_view entry.now)) 0) (sym c.as_slice.ensures.value) in
    subst (λ (r : Result (List (Kind Point)) TextFault). ReadsAs (λ v. map as_kind v.items) c.kind_rows.result r) (sym same) c.kind_rows.ensures
