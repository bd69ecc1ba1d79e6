-- The document of a rule is shallow.
use Rattle.std.proofs.Common.{ℕ, ◌≤◌, List, [], ◌∷◌, map, arith}
use Rattle.toml.specs.Data.{Data, integer, depth, items_depth, members_depth}
use Rattle.toml.specs.View.{items_of}
use Rattle.theory_substitution.specs.Rule.{Child, EdgeType, Kind}
use Rattle.cyclo_points.specs.declared.point.Point.{Point}
use Rattle.rule_model.specs.Tiling.{ListedRule}
use Rattle.rule_text.specs.Written.{number_data, list_data, point_data, child_data, type_data, kind_data, rule_members}

items-shallow : {A : Type 0} (n : ℕ) (f : A → Data) → ((x : A) → depth (f x) ≤ n) → (xs : List A) → items_depth (items_of (map f xs)) ≤ n
items-shallow n f h [] = omega arith
items-shallow n f h (x ∷ xs) = omega (arith, h x, items-shallow n f h xs)

numbers-shallow : (ns : List ℕ) → depth (list_data number_data ns) ≤ 1
numbers-shallow ns = omega (arith, items-shallow 0 number_data (λ n. omega arith) ns)

point-shallow : (p : Point) → depth (point_data p) ≤ 1
point-shallow p = omega (arith, items-shallow 0 integer (λ z. omega arith) p.c)

child-shallow : (c : Child Point) → depth (child_data c) ≤ 1
child-shallow c = omega (arith, items-shallow 0 integer (λ z. omega arith) c.motion.shift.c)

type-shallow : (t : EdgeType) → depth (type_data t) ≤ 2
type-shallow t = omega (arith, numbers-shallow t.parts)

kind-shallow : (k : Kind Point) → depth (kind_data k) ≤ 3
kind-shallow k = omega (
  arith,
  items-shallow 1 point_data point-shallow k.vertices,
  numbers-shallow k.edges,
  items-shallow 1 child_data child-shallow k.children,
)

pub rule-shallow : (x : ListedRule) → members_depth (rule_members x) ≤ 80
rule-shallow x = omega (
  arith,
  numbers-shallow x.rule.glue,
  items-shallow 3 kind_data kind-shallow
      x.rule.kinds,
  point-shallow x.rule.factor,
  items-shallow 2 type_data type-shallow x.rule.types,
)
