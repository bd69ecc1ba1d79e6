use Rattle.std.proofs.Common.{◌≡◌, ◌∙◌, ℤ, List, Some, Vec, Global, map, option_map, codes, sym, ap}
use Rattle.toml.specs.View.{view, table_view}
use Rattle.cyclo_points.specs.declared.point.Point.{Point}
use Rattle.rule_text.specs.Forms.{each, rows}
use Rattle.rule_text.specs.Ranges.{file_point}
use Rattle.rule_text.proofs.Items.{each-map}
use Rattle.rule_text.proofs.KeyLaws.{value_at-formed, Gives-ok_or}
use Rattle.rule_text.proofs.keys.vertices.Goals as goal

pub returns : goal.returns
returns c =
    let o = c.args.order in
    let items : Vec ℤ Global → List ℤ = λ w. w.items in
    let given = c.in-Some-2.rows.items in
    let seen : Vec Point Global → List Point = λ v. v.items in
    let form : rows 4 (view c.in-Some.value.now) ≡ Some (map items given) = sym (rw c.in-Some-2.is at c.in_ok-rows.ensures.read) in
    let range : each (file_point o) (map items given) ≡ option_map seen c.in_ok-points_of.field-0 =
    each-map (file_point o) items given ∙ ap (each (λ (row : Vec ℤ Global). file_point o row.items))
    (sym c.as_slice.ensures.value) ∙ sym c.in_ok-points_of.ensures in
    rw c.ok_or.ensures.value (Gives-ok_or seen c.in_ok-points_of.field-0 _ _
    (value_at-formed c.args.key (codes "vertices") (rows 4) (each (file_point o))
    (table_view c.args.table.now) _ _ _ (sym c.in-Some.ensures) form range))
