use Rattle.std.proofs.Common.{◌≡◌, ◌∙◌, ◌++◌, ◌∷◌, [], ℕ, Bor, BTreeMap, String, Global, Result, Ok, ap, map, arith}
use Rattle.std.proofs.lemmas.Grind.{common_steps}
use Rattle.std.proofs.lemmas.List.{map_push}
use Rattle.toml.specs.declared.value.Value.{Value}
use Rattle.toml.specs.View.{table_view}
use Rattle.theory_substitution.specs.Rule.{Kind}
use Rattle.cyclo_points.specs.declared.point.Point.{Point}
use Rattle.rule_model.specs.Views.{as_kind}
use Rattle.rule_text.specs.declared.text_fault.TextFault.{TextFault}
use Rattle.rule_text.specs.Document.{kind_in}
use Rattle.rule_text.proofs.Rows.{in_order-more}
use Rattle.rule_text.proofs.reading.kind_rows.Goals as goal

pub loop-i-preserved : goal.loop-i-preserved
loop-i-preserved c =
    let o = c.args.order in
    let read : ℕ → Bor (BTreeMap (String Global) Value) → Result (Kind Point) TextFault = λ kind entry. kind_in o kind (table_view entry.now) in
    let x = c.index-entries-i.result in
    let here : read c.loop-i.i x ≡ Ok (as_kind c.in_ok-row.row) = c.in_ok-row.ensures in
    let done : map as_kind c.push.new.self.items ≡ map as_kind c.loop-i.rows.items ++ as_kind c.in_ok-row.row ∷ [] =
    ap (map as_kind) c.in_ok-push.ensures.items ∙ map_push as_kind c.loop-i.rows.items c.in_ok-row.row in
    rw done (in_order-more read c.args.entries.now c.loop-i.i x (as_kind c.in_ok-row.row)
    (map as_kind c.loop-i.rows.items) _ c.loop-i-test.true c.index-entries-i.is here c.loop-i.invariant)

pub returns-in_err-row : goal.returns-in_err-row
returns-in_err-row c = grind (arith, common_steps)

pub returns : goal.returns
returns c = grind (arith, common_steps)

pub returns-in_err-push : goal.returns-in_err-push
returns-in_err-push c = grind arith
