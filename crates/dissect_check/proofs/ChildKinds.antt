-- The kinds of children, as the rows of a rule list them.
use Rattle.std.proofs.Common.{◌≡◌, ℕ, List, [], ◌∷◌, map, refl, ap, ap₂}
use Rattle.theory_substitution.specs.Rule.{Child as TheChild}
use Rattle.theory_substitution.specs.RuleParts.{map_kind, map_child}
use Rattle.rule_model.specs.declared.child.Child.{Child}
use Rattle.rule_model.specs.declared.kind_row.KindRow.{KindRow}
use Rattle.rule_model.specs.Views.{as_kind, as_child}
use Rattle.cyclo_points.specs.declared.point.Point.{Point}

-- the kinds of a row's children
abbrev pub kinds_listed : KindRow → List ℕ
kinds_listed row = map (λ (c : Child). c.kind) row.children.items

row-listed : {B : Type 0} (f : Point → B) (cs : List Child)
    → map (λ (c : Child). c.kind) cs ≡ map (λ (c : TheChild B). c.kind) (map (map_child f) (map as_child cs))
row-listed f [] = refl
row-listed f (c ∷ cs) = ap (λ ks. c.kind ∷ ks) (row-listed f cs)

pub rows-listed : {B : Type 0} (f : Point → B) (rows : List KindRow)
    → map kinds_listed rows ≡ map (λ k. map (λ (c : TheChild B). c.kind) k.children)
    (map (map_kind f) (map as_kind rows))
rows-listed f [] = refl
rows-listed f (row ∷ rows) = ap₂ (λ k ks. k ∷ ks) (row-listed f row.children.items) (rows-listed f rows)
