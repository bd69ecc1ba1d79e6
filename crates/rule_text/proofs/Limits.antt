-- The numbers of a rule within its limits are in the ranges of a rule file.
use Rattle.std.proofs.Common.{◌≡◌, ℕ, suc, ◌<◌, ◌≤◌, true, ◌&&◌, List, [], All, length, get_or, nat_le, nat_lt, nat_eq, subst, arith}
use Rattle.std.specs.List.{list_all}
use Rattle.std.proofs.lemmas.Bool.{and_parts, leb-true}
use Rattle.std.proofs.lemmas.List.{get_or_default}
use Rattle.std.proofs.lemmas.List.Sums.{AllPass-from_list_all}
use Rattle.theory_substitution.specs.Rule.{Child, Rule, kind_of, children_of}
use Rattle.theory_substitution.specs.RuleParts.{edge_type_of, mate, parts, vertices_of, edge_types, edge_count}
use Rattle.theory_edge_to_edge.specs.Limits.{is_from_to, is_type, is_child}
use Rattle.theory_edge_to_edge.specs.Limited.{WithinLimits}
use Rattle.cyclo_points.specs.declared.point.Point.{Point}
use Rattle.cyclo_points.specs.Order.{points_of}
use Rattle.rule_model.specs.Small.{is_small}
use Rattle.rule_model.specs.Tiling.{ListedRule}
use Rattle.rule_text.specs.Written.{IsFour, HasFours}
use Rattle.rule_text.proofs.ReadBack.{IsFit, IsFitType, IsFitKind, IsFitChild}

-- what holds at each number holds of each item
pub All-at : {A : Type 0} (P : A → Type 0) (xs : List A) (none : A) → ((k : ℕ) → k < length xs → P (get_or xs k none)) → All P xs
All-at P xs none h = λ k d lt. subst P (get_or_default xs k none d lt) (h k lt)

pub high : (low most n : ℕ) → is_from_to low most n ≡ true → n ≤ most
high low most n e = leb-true n most (and_parts (nat_le low n) (nat_le n most) e).1

types_below : {A : Type 0} (r : Rule A) (tys : List ℕ) → length r.types ≤ 32 → list_all (is_type r) tys ≡ true → All (λ ty. ty < 32) tys
types_below r tys le e = λ k d lt. omega (
  arith,
  le,
  leb-true (suc (get_or tys k d)) (length r.types)
      (AllPass-from_list_all (is_type r) tys e k d lt),
)

abbrev pub AreLimits : ListedRule → Type 0
AreLimits x = WithinLimits (points_of x.order).order (is_small x.order) x.rule

pub few_types : (x : ListedRule) → AreLimits x → length x.rule.types ≤ 32
few_types x h = high 1 32 (length x.rule.types) h.types

pub few_kinds : (x : ListedRule) → AreLimits x → length x.rule.kinds ≤ 16
few_kinds x h = high 1 16 (length x.rule.kinds) h.kinds

type-fits : (x : ListedRule) → AreLimits x → (ty : ℕ) → ty < length x.rule.types → IsFitType (edge_type_of x.rule ty)
type-fits x h ty lt = record {
  mate = omega (arith, few_types x h, leb-true (suc (mate x.rule ty)) (length x.rule.types) (h.mates ty lt));
  parts = types_below x.rule (parts x.rule ty) (few_types x h)
      (and_parts (is_from_to 1 8 (length (parts x.rule ty))) (list_all (is_type x.rule) (parts x.rule ty))
      (h.parts ty lt)).1;
}

child-fits : (x : ListedRule) (c : Child Point) → length x.rule.kinds ≤ 16 → IsFour c.motion.shift
    → is_child (points_of x.order).order (is_small x.order) x.rule c ≡ true → IsFitChild x.order c
child-fits x c le four e =
    let n = (points_of x.order).order in
    let (front, small) = and_parts (nat_lt c.kind (length x.rule.kinds) && nat_lt c.motion.turn n) (is_small x.order c.motion.shift) e in
    let (kind, turn) = and_parts (nat_lt c.kind (length x.rule.kinds)) (nat_lt c.motion.turn n) front in
    record {
      kind = omega (arith, le, leb-true (suc c.kind) (length x.rule.kinds) kind);
      turn = leb-true (suc c.motion.turn) n turn;
      shift = record { four = four; small = small };
    }

kind-fits : (x : ListedRule) → AreLimits x → All HasFours x.rule.kinds → (k : ℕ) → k < length x.rule.kinds → IsFitKind x.order (kind_of x.rule k)
kind-fits x h fours k lt =
    let r = x.rule in
    let four = fours k (record { vertices = []; edges = []; children = [] }) lt in
    let counts = is_from_to 3 12 (edge_count r k) && nat_eq (length (vertices_of r k)) (edge_count r k) in
    record {
      vertices = λ i d at. record {
        four = four.0 i d at;
        small = AllPass-from_list_all (is_small x.order) (vertices_of r k) (h.vertices k lt) i d at;
      };
      edges = types_below r (edge_types r k) (few_types x h) (and_parts counts (list_all (is_type r) (edge_types r k)) (h.edges k lt)).1;
      children = λ i d at.
          let each = (and_parts (is_from_to 1 16 (length (children_of r k)))
          (list_all (is_child (points_of x.order).order (is_small x.order) r) (children_of r k))
          (h.children k lt)).1 in
          child-fits x _ (few_kinds x h) (four.1 i d at)
          (AllPass-from_list_all (is_child (points_of x.order).order (is_small x.order) r)
          (children_of r k) each i d at);
    }

pub fits-limits : (x : ListedRule) → AreLimits x → IsFour x.rule.factor → All HasFours x.rule.kinds → IsFit x
fits-limits x h four fours = record {
  factor = record { four = four; small = h.factor };
  glue = types_below x.rule x.rule.glue (few_types x h) (and_parts (nat_le (length x.rule.glue) 16) (list_all (is_type x.rule) x.rule.glue) h.glue).1;
  types = All-at IsFitType x.rule.types (record { mate = 0; parts = [] }) (type-fits x h);
  kinds = All-at (IsFitKind x.order) x.rule.kinds (record { vertices = []; edges = []; children = [] }) (kind-fits x h fours);
}
