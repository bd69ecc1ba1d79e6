use Rattle.std.proofs.Common.{◌≡◌, ◌∙◌, ℤ, List, Some, Vec, Global, map, option_map, codes, sym, ap}
use Rattle.toml.specs.View.{view, table_view}
use Rattle.cyclo_points.specs.declared.point.Point.{Point}
use Rattle.theory_substitution.specs.Rule.{Child as TheChild}
use Rattle.rule_model.specs.declared.child.Child.{Child}
use Rattle.rule_model.specs.Views.{as_child}
use Rattle.rule_text.specs.Forms.{each, rows}
use Rattle.rule_text.specs.Ranges.{child_in_row}
use Rattle.rule_text.proofs.Items.{each-map}
use Rattle.rule_text.proofs.KeyLaws.{value_at-formed, Gives-ok_or}
use Rattle.rule_text.proofs.keys.children.Goals as goal

pub returns : goal.returns
returns c =
    let o = c.args.order in
    let items : Vec ℤ Global → List ℤ = λ w. w.items in
    let given = c.in-Some-2.rows.items in
    let seen : Vec Child Global → List (TheChild Point) = λ v. map as_child v.items in
    let form : rows 6 (view c.in-Some.value.now) ≡ Some (map items given) = sym (rw c.in-Some-2.is at c.in_ok-rows.ensures.read) in
    let range : each (child_in_row o) (map items given) ≡ option_map seen c.in_ok-children_of.field-0 =
    each-map (child_in_row o) items given ∙ ap (each (λ (row : Vec ℤ Global). child_in_row o row.items))
    (sym c.as_slice.ensures.value) ∙ sym c.in_ok-children_of.ensures in
    rw c.ok_or.ensures.value (Gives-ok_or seen c.in_ok-children_of.field-0 _ _
    (value_at-formed c.args.key (codes "children") (rows 6) (each (child_in_row o))
    (table_view c.args.table.now) _ _ _ (sym c.in-Some.ensures) form range))
