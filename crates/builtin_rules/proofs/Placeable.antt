-- The numbers of the built-in rules may be multiplied, by evaluation; and their children are those of their tilings.
use Rattle.std.proofs.Common.{◌≡◌, ℕ, ◌<◌, Bool, true, pos, List, map, length, get_or, nat_lt, refl, sym, ap, ◌∙◌, subst}
use Rattle.std.proofs.lemmas.Bool.{ltb-true}
use Rattle.std.proofs.lemmas.List as lists
use Rattle.std.proofs.lemmas.List.{length-map}
use Rattle.theory_addresses.specs.Search.{all_below}
use Rattle.theory_substitution.specs.Rule.{Rule, Kind, Child as TheChild, children_of}
use Rattle.theory_substitution.specs.RuleParts.{map_rule, map_kind, map_child, child_of}
use Rattle.cyclo_points.specs.declared.order.Order.{Order}
use Rattle.cyclo_points.specs.declared.point.Point.{Point}
use Rattle.cyclo_points.specs.Order.{NumberOf, points_of}
use Rattle.cyclo_points.specs.Point.{point_in}
use Rattle.rule_model.specs.declared.child.Child.{Child}
use Rattle.rule_model.specs.Small.{is_small}
use Rattle.rule_model.specs.Tiling.{ListedRule}
use Rattle.rule_model.specs.Usable.{no_child}
use Rattle.rule_model.specs.Views.{as_child, child_in}
use Rattle.rule_model.proofs.Usable.{small}
use Rattle.rule_model.proofs.Views.{kind_of-map}
use Rattle.builtin_rules.specs.declared.name.Name.{Name}
use Rattle.builtin_rules.specs.declared.name.Name.TheVariants.{Chair, P2, P3, AmmannBeenker, HalfHex}
use Rattle.builtin_rules.specs.Named.{named}
use Rattle.builtin_rules.specs.Placeable.{IsPlaceable, written_child}
use Rattle.builtin_rules.proofs.Numbered.{below_each}

-- the same, as tests
record PassesTests (w : ListedRule) : Type 0 where
  factor : is_small w.order w.rule.factor ≡ true
  shifts : all_below (length w.rule.kinds) (λ k. all_below (length (children_of w.rule k))
      (λ c. is_small w.order (written_child w k c).motion.shift)) ≡ true
  turns : all_below (length w.rule.kinds) (λ k. all_below (length (children_of w.rule k))
      (λ c. nat_lt (written_child w k c).motion.turn (points_of w.order).order)) ≡ true

passes : (name : Name) → PassesTests (named name)
passes Chair = record { factor = refl; shifts = refl; turns = refl }
passes P2 = record { factor = refl; shifts = refl; turns = refl }
passes P3 = record { factor = refl; shifts = refl; turns = refl }
passes AmmannBeenker = record { factor = refl; shifts = refl; turns = refl }
passes HalfHex = record { factor = refl; shifts = refl; turns = refl }

by_tests : (w : ListedRule) → PassesTests w → IsPlaceable w
by_tests w t = record {
  factor_small = small w.order w.rule.factor t.factor;
  shift_small = λ k c l m. small w.order (written_child w k c).motion.shift
      (below_each _ (λ k. length (children_of w.rule k)) (λ k c. is_small w.order (written_child w k c).motion.shift) t.shifts k c l m);
  turn_below = λ k c l m. ltb-true _ _ (below_each _ (λ k. length (children_of w.rule k))
      (λ k c. nat_lt (written_child w k c).motion.turn (points_of w.order).order) t.turns k c l m);
}

pub placeable : (name : Name) → IsPlaceable (named name)
placeable name = by_tests (named name) (passes name)

module _ (o : Order) (r : Rule Point) (k : ℕ) where
  -- a number of a kind, and of a child, of the points is one of the lists
  pub kind_listed : k < length (map_rule (point_in o) r).kinds → k < length r.kinds
  kind_listed l = subst (λ m. k < m) (length-map r.kinds (map_kind (point_in o))) l

  pub child_listed : (c : ℕ) → c < length (children_of (map_rule (point_in o) r) k) → c < length (children_of r k)
  child_listed c l = subst (λ m. c < m) (ap (λ (x : Kind (NumberOf o)). length x.children)
      (kind_of-map (point_in o) r k) ∙ length-map (children_of r k) (map_child (point_in o))) l

  -- a child of the lists is that of the numbers
  pub child_number : (c : ℕ) (child : Child) (none : TheChild Point) → c < length (children_of r k) → as_child child ≡ get_or (children_of r k) c none
      → child_in o child ≡ child_of (points_of o) (map_rule (point_in o) r) k c
  child_number c child none l h =
      let none_in : TheChild (NumberOf o) = record { kind = 0; motion = record { turn = 0; shift = (points_of o).ring.int (pos 0) } } in
      ap (map_child (point_in o)) h
      ∙ sym (lists.get_or-map (map_child (point_in o)) (children_of r k) c none none_in l)
      ∙ sym (ap (λ (x : Kind (NumberOf o)). get_or x.children c none_in) (kind_of-map (point_in o) r k))

-- a child of the program is the one that is written down
pub child_at : (w : ListedRule) (k i : ℕ) (children : List Child) (none : Child)
    → map as_child children ≡ children_of w.rule k → i < length (children_of w.rule k)
    → as_child (get_or children i none) ≡ written_child w k i
child_at w k i children none same l =
    sym (lists.get_or-map as_child children i none no_child (subst (λ n. i < n) (sym (ap length same) ∙ length-map children as_child) l))
    ∙ ap (λ (cs : List (TheChild Point)). get_or cs i no_child) same
