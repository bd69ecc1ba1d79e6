use Rattle.std.proofs.Common.{◌∙◌, List, Result, Bor, BTreeMap, String, Global, subst, sym, ap, map, ◌≤◌, length, arith, codes}
use Rattle.toml.specs.Data.{Members}
use Rattle.toml.specs.View.{table_view}
use Rattle.toml.specs.declared.value.Value.{Value}
use Rattle.theory_substitution.specs.Rule.{EdgeType}
use Rattle.rule_model.specs.Views.{as_type}
use Rattle.rule_text.specs.declared.key.Key.TheVariants as key
use Rattle.rule_text.specs.declared.text_fault.TextFault.{TextFault}
use Rattle.rule_text.specs.Agrees.{ReadsAs}
use Rattle.rule_text.specs.Document.{type_in}
use Rattle.rule_text.specs.Steps.{in_order}
use Rattle.rule_text.proofs.Rows.{in_order-map}
use Rattle.rule_text.proofs.Entries.{types_in-entries, seen-few}
use Rattle.rule_text.proofs.reading.types.Goals as goal

pub type_rows-requires : goal.type_rows-requires
type_rows-requires c =
    let seen : Bor (BTreeMap (String Global) Value) → Members = λ t. table_view t.now in
    let few : length c.as_slice.result.now ≤ 1048578 = seen-few 1048578 key.TypeList (codes "type")
    (table_view c.args.table.now) seen c.in_ok-entries.entries.items c.as_slice.result.now c.requires.few
    c.in_ok-entries.ensures c.as_slice.ensures.value in
    record { numbered = omega (arith, few) }

pub returns : goal.returns
returns c =
    let seen : Bor (BTreeMap (String Global) Value) → Members = λ t. table_view t.now in
    let entries = c.in_ok-entries.entries.items in
    let same = types_in-entries (table_view c.args.table.now) (map seen entries) c.in_ok-entries.ensures
    ∙ in_order-map type_in seen 0 entries
    ∙ ap (in_order (λ ty entry. type_in ty (table_view entry.now)) 0) (sym c.as_slice.ensures.value) in
    subst (λ (r : Result (List EdgeType) TextFault). ReadsAs (λ v. map as_type v.items) c.type_rows.result r) (sym same) c.type_rows.ensures
