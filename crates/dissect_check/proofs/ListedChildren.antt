-- The child kinds of lists that no clause refuses are usable for addresses.
use Rattle.std.specs.Prelude.{nat_lt}
use Rattle.std.specs.List.{list_all}
use Rattle.std.proofs.Common.{◌≡◌, ℕ, ◌<◌, ◌≤◌, Bool, true, ◌&&◌, List, [], ◌∷◌, map, length, None, refl, sym, ap, ◌∙◌, subst}
use Rattle.std.proofs.lemmas.Bool.{and_parts, and_from}
use Rattle.std.proofs.lemmas.List.{length-map}
use Rattle.theory_substitution.specs.Rule.{Child, Kind, Rule, children_of, child_kinds}
use Rattle.theory_substitution.specs.RuleParts.{map_rule, map_kind, map_child}
use Rattle.theory_edge_to_edge.specs.Limits.{is_from_to, is_child}
use Rattle.theory_edge_to_edge.specs.Limited.{WithinLimits}
use Rattle.cyclo_points.specs.declared.order.Order.{Order}
use Rattle.cyclo_points.specs.declared.point.Point.{Point}
use Rattle.cyclo_points.specs.Order.{points_of}
use Rattle.cyclo_points.specs.Point.{point_in}
use Rattle.tile_shape.specs.Usable.{AreUsable}
use Rattle.rule_model.specs.declared.edition.Edition.{Edition}
use Rattle.rule_model.specs.Small.{is_small}
use Rattle.rule_model.proofs.Usable.{from_to}
use Rattle.rule_model.proofs.Views.{kind_of-map}
use Rattle.dissect_check.specs.FirstFault.{fault_of_lists}
use Rattle.dissect_check.proofs.Accepted.{limits-where, edge_to_edge-where}
use Rattle.rule_model.proofs.EachUse.{HasChildren, uses-usable}

module _ {A B : Type 0} (f : A → B) (n : ℕ) (small : A → Bool) (r : Rule A) (limits : WithinLimits n small r) where
  -- as many kinds with each point replaced
  same_count : length (map_rule f r).kinds ≡ length r.kinds
  same_count = length-map r.kinds (map_kind f)

  same_children : (k : ℕ) → children_of (map_rule f r) k ≡ map (map_child f) (children_of r k)
  same_children k = ap (λ (x : Kind B). x.children) (kind_of-map f r k)

  -- how many children a kind has
  as_many : (k : ℕ) → length (children_of (map_rule f r) k) ≡ length (children_of r k)
  as_many k = ap length (same_children k) ∙ length-map (children_of r k) (map_child f)

  kind_in : (k : ℕ) → k < length (map_rule f r).kinds → k < length r.kinds
  kind_in k l = subst (λ m. k < m) same_count l

  record Children (k : ℕ) : Type 0 where
    count : (1 ≤ length (children_of r k)) × (length (children_of r k) ≤ 16)
    fit : list_all (is_child n small r) (children_of r k) ≡ true

  children : (k : ℕ) → k < length r.kinds → Children k
  children k l =
      let q = and_parts (is_from_to 1 16 (length (children_of r k))) (list_all (is_child n small r) (children_of r k)) (limits.children k l) in
      record { count = from_to 1 16 (length (children_of r k)) q.0; fit = q.1 }

  -- children that fit are of kinds that there are
  kinds_exist : (cs : List (Child A)) → list_all (is_child n small r) cs ≡ true
      → list_all (λ (c : Child B). nat_lt c.kind (length r.kinds)) (map (map_child f) cs) ≡ true
  kinds_exist [] h = refl
  kinds_exist (c ∷ cs) h =
      let q = and_parts (is_child n small r c) (list_all (is_child n small r) cs) h in
      let numbers = and_parts (nat_lt c.kind (length r.kinds) && nat_lt c.motion.turn n) (small c.motion.shift) q.0 in
      let kind = and_parts (nat_lt c.kind (length r.kinds)) (nat_lt c.motion.turn n) numbers.0 in
      and_from (nat_lt c.kind (length r.kinds))
      (list_all (λ (c : Child B). nat_lt c.kind (length r.kinds)) (map (map_child f) cs)) kind.0
      (kinds_exist cs q.1)

  pub listed-children : HasChildren (map_rule f r)
  listed-children =
      let kinds = from_to 1 16 (length r.kinds) limits.kinds in
      record {
        some_kind = subst (λ m. 1 ≤ m) (sym same_count) kinds.0;
        at_most_16_kinds = subst (λ m. m ≤ 16) (sym same_count) kinds.1;
        some_child = λ k l. subst (λ m. 1 ≤ m) (sym (as_many k)) (children k (kind_in k l)).count.0;
        at_most_16_children = λ k l. subst (λ m. m ≤ 16) (sym (as_many k)) (children k (kind_in k l)).count.1;
        each_exists = λ k l. subst (λ cs. list_all (λ (c : Child B). nat_lt c.kind (length (map_rule f r).kinds)) cs ≡ true) (sym (same_children k))
            (subst (λ m. list_all (λ (c : Child B). nat_lt c.kind m) (map (map_child f) (children_of r k)) ≡ true) (sym same_count)
            (kinds_exist (children_of r k) (children k (kind_in k l)).fit));
      }

pub children-usable : (edition : Edition) (o : Order) (lists : Rule Point)
    → fault_of_lists edition o lists ≡ None → AreUsable (child_kinds (map_rule (point_in o) lists))
children-usable edition o lists h =
    uses-usable (map_rule (point_in o) lists) (listed-children (point_in o) (points_of o).order (is_small o)
    lists (limits-where edition o lists h)) (edge_to_edge-where edition o lists h).each_used
