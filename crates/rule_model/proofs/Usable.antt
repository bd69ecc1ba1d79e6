-- What the limits of a rule say, as facts.
use Rattle.std.proofs.Common.{◌≡◌, ℕ, zero, suc, ℤ, pos, neg_ℤ, ◌≤ℤ◌, ◌<◌, ◌≤◌, Bool, true, false, not, ◌&&◌, ◌||◌, List, [], ◌∷◌, length, get_or, All, nat_abs, sym, ap, ◌∙◌, subst, arith}
use Rattle.std.specs.Prelude.{nat_lt, nat_le, nat_eq}
use Rattle.std.specs.Ordering.{int_eq}
use Rattle.std.specs.List.{list_all}
use Rattle.std.proofs.lemmas.Int.{ints}
use Rattle.std.proofs.lemmas.List as lists
use Rattle.std.proofs.lemmas.List.{get_or_default}
use Rattle.std.proofs.lemmas.Bool.Decides.{Decides-int_eq}
use Rattle.std.proofs.lemmas.Bool.{and_parts, or_parts, not-true, ltb-true, ltb-false, leb-true, eqb-true}
use Rattle.theory_substitution.specs.Rule.{Kind, Child as TheChild, children_of}
use Rattle.theory_substitution.specs.RuleParts.{parts, map_child, vertices_of, edge_types, edge_count, child_of}
use Rattle.theory_edge_to_edge.specs.Limits.{is_from_to, is_type, is_child}
use Rattle.theory_edge_to_edge.specs.Limited.{WithinLimits}
use Rattle.theory_edge_to_edge.specs.Numbered.{IsNumbered}
use Rattle.cyclo_points.specs.declared.order.Order.{Order}
use Rattle.cyclo_points.specs.declared.order.Order.TheVariants.{Four, Six, Eight, Ten}
use Rattle.cyclo_points.specs.declared.point.Point.{Point}
use Rattle.cyclo_points.specs.Order.{points_of, NumberOf}
use Rattle.cyclo_points.specs.Point.{coefficient, point_in, Within, IsOf}
use Rattle.rule_model.specs.declared.rule.Rule.{Rule}
use Rattle.rule_model.specs.Small.{is_small, is_above, is_of}
use Rattle.rule_model.specs.Usable.{IsSmall, IsUsable, origin, no_child, listed_vertex, listed_child}
use Rattle.rule_model.specs.Views.{as_rule, rule_of}
use Rattle.rule_model.proofs.Views.{kind_of-map, kind_count-in, edge_count-in, vertex_count-in, child_count-in}

-- each element of a list passes a test
passes_at : {X : Type 0} (p : X → Bool) (xs : List X) (i : ℕ) (d : X) → list_all p xs ≡ true → i < length xs → p (get_or xs i d) ≡ true
passes_at p [] i d h l = absurd (omega arith)
passes_at p (x ∷ xs) zero d h l = (and_parts (p x) (list_all p xs) h).0
passes_at p (x ∷ xs) (suc i) d h l = passes_at p xs i d (and_parts (p x) (list_all p xs) h).1 (omega arith)

pub from_to : (low high n : ℕ) → is_from_to low high n ≡ true → (low ≤ n) × (n ≤ high)
from_to low high n h = let q = and_parts (nat_le low n) (nat_le n high) h in (leb-true low n q.0, leb-true n high q.1)

int_eq-true : (x : ℤ) → int_eq x (pos 0) ≡ true → x ≡ pos 0
int_eq-true x h = (Decides-int_eq x (pos 0)).0 h

within_64 : (x : ℤ) → nat_lt 64 (nat_abs x) ≡ false → Within 64 x
within_64 x h = let l : nat_abs x ≤ 64 = ltb-false 64 (nat_abs x) h in record { low = low x l; high = high x l }
  where
    low : (x : ℤ) → nat_abs x ≤ 64 → neg_ℤ (pos 64) ≤ℤ x
    low x l = omega (arith, ints)

    high : (x : ℤ) → nat_abs x ≤ 64 → x ≤ℤ pos 64
    high x l = omega (arith, ints)

of_order : (o : Order) (p : Point) → is_of o p ≡ true → IsOf o p
of_order Four p h =
    let q = and_parts (int_eq (coefficient p 2) (pos 0)) (int_eq (coefficient p 3) (pos 0)) h in
    (int_eq-true (coefficient p 2) q.0, int_eq-true (coefficient p 3) q.1)
of_order Six p h =
    let q = and_parts (int_eq (coefficient p 2) (pos 0)) (int_eq (coefficient p 3) (pos 0)) h in
    (int_eq-true (coefficient p 2) q.0, int_eq-true (coefficient p 3) q.1)
of_order Eight p h = tt
of_order Ten p h = tt

-- a point that passes the test is small
pub small : (o : Order) (p : Point) → is_small o p ≡ true → IsSmall o p
small o p h =
    let test = and_parts (not (is_above 64 p)) (is_of o p) h in
    let beyond : ℕ → Bool = λ k. nat_lt 64 (nat_abs (coefficient p k)) in
    let a = or_parts (beyond 0 || beyond 1 || beyond 2) (beyond 3) (not-true _ test.0) in
    let b = or_parts (beyond 0 || beyond 1) (beyond 2) a.0 in
    let d = or_parts (beyond 0) (beyond 1) b.0 in
    record {
      within = record { at_0 = within_64 _ d.0; at_1 = within_64 _ d.1; at_2 = within_64 _ b.1; at_3 = within_64 _ a.1 };
      in_order = of_order o p test.1;
    }

module _ (r : Rule) (limits : WithinLimits (points_of r.order).order (is_small r.order) (as_rule r)) where
  abbrev n : ℕ
  n = (points_of r.order).order

  -- a number of a kind of the points is that of a kind of the lists
  kind_in : (k : ℕ) → k < length (rule_of r).kinds → k < length (as_rule r).kinds
  kind_in k l = subst (λ m. k < m) (kind_count-in r.order r) l

  glue : (length (as_rule r).glue ≤ 16) × (list_all (is_type (as_rule r)) (as_rule r).glue ≡ true)
  glue = let q = and_parts (nat_le (length (as_rule r).glue) 16)
      (list_all (is_type (as_rule r)) (as_rule r).glue) limits.glue in (leb-true _ 16 q.0, q.1)

  type_parts : (ty : ℕ) → ty < length (as_rule r).types
      → (is_from_to 1 8 (length (parts (as_rule r) ty)) ≡ true)
      × (list_all (is_type (as_rule r)) (parts (as_rule r) ty) ≡ true)
  type_parts ty l = and_parts (is_from_to 1 8 (length (parts (as_rule r) ty)))
      (list_all (is_type (as_rule r)) (parts (as_rule r) ty)) (limits.parts ty l)

  record Edges (k : ℕ) : Type 0 where
    count : (3 ≤ edge_count (as_rule r) k) × (edge_count (as_rule r) k ≤ 12)
    same : length (vertices_of (as_rule r) k) ≡ edge_count (as_rule r) k
    types : list_all (is_type (as_rule r)) (edge_types (as_rule r) k) ≡ true

  edges : (k : ℕ) → k < length (rule_of r).kinds → Edges k
  edges k l =
      let lengths = is_from_to 3 12 (edge_count (as_rule r) k) in
      let vertices = nat_eq (length (vertices_of (as_rule r) k)) (edge_count (as_rule r) k) in
      let all = and_parts (lengths && vertices) (list_all (is_type (as_rule r)) (edge_types (as_rule r) k)) (limits.edges k (kind_in k l)) in
      let both = and_parts lengths vertices all.0 in
      record { count = from_to 3 12 (edge_count (as_rule r) k) both.0; same = eqb-true _ _ both.1; types = all.1 }

  record Children (k : ℕ) : Type 0 where
    count : (1 ≤ length (children_of (as_rule r) k)) × (length (children_of (as_rule r) k) ≤ 16)
    fit : list_all (is_child n (is_small r.order) (as_rule r)) (children_of (as_rule r) k) ≡ true

  children : (k : ℕ) → k < length (rule_of r).kinds → Children k
  children k l =
      let all = and_parts (is_from_to 1 16 (length (children_of (as_rule r) k)))
      (list_all (is_child n (is_small r.order) (as_rule r)) (children_of (as_rule r) k))
      (limits.children k (kind_in k l)) in
      record { count = from_to 1 16 (length (children_of (as_rule r) k)) all.0; fit = all.1 }

  record Fits (k c : ℕ) : Type 0 where
    kind : (listed_child r k c).kind < length (as_rule r).kinds
    turn : (listed_child r k c).motion.turn < n
    shift : is_small r.order (listed_child r k c).motion.shift ≡ true

  child_in : (k c : ℕ) → k < length (rule_of r).kinds → c < length (children_of (rule_of r) k) → c < length (children_of (as_rule r) k)
  child_in k c l m = subst (λ m. c < m) (child_count-in r.order r k) m

  fits : (k c : ℕ) → k < length (rule_of r).kinds → c < length (children_of (rule_of r) k) → Fits k c
  fits k c l m =
      let child = listed_child r k c in
      let passes = passes_at (is_child n (is_small r.order) (as_rule r)) (children_of (as_rule r) k) c
      no_child (children k l).fit (child_in k c l m) in
      let all = and_parts (nat_lt child.kind (length (as_rule r).kinds) && nat_lt child.motion.turn n) (is_small r.order child.motion.shift) passes in
      let both = and_parts (nat_lt child.kind (length (as_rule r).kinds)) (nat_lt child.motion.turn n) all.0 in
      record { kind = ltb-true _ _ both.0; turn = ltb-true _ _ both.1; shift = all.1 }

  -- the child of the points is that of the lists
  same_child : (k c : ℕ) → k < length (rule_of r).kinds → c < length (children_of (rule_of r) k)
      → child_of (points_of r.order) (rule_of r) k c ≡ map_child (point_in r.order) (listed_child r k c)
  same_child k c l m =
      let none : TheChild (NumberOf r.order) = record { kind = 0; motion = record { turn = 0; shift = (points_of r.order).ring.int (pos 0) } } in
      ap (λ (x : Kind (NumberOf r.order)). get_or x.children c none) (kind_of-map (point_in r.order) (as_rule r) k)
      ∙ lists.get_or-map (map_child (point_in r.order)) (children_of (as_rule r) k) c no_child none (child_in k c l m)

  edge_in : (k e : ℕ) → e < edge_count (rule_of r) k → e < edge_count (as_rule r) k
  edge_in k e l = subst (λ m. e < m) (edge_count-in r.order r k) l

  numbered : IsNumbered (points_of r.order) (rule_of r)
  numbered =
      let kinds = from_to 1 16 (length (as_rule r).kinds) limits.kinds in
      let types = from_to 1 32 (length (as_rule r).types) limits.types in
      record {
        some_kind = subst (λ m. 1 ≤ m) (sym (kind_count-in r.order r)) kinds.0;
        at_most_16_kinds = subst (λ m. m ≤ 16) (sym (kind_count-in r.order r)) kinds.1;
        some_type = types.0;
        at_most_32_types = types.1;
        at_most_16_glue_types = glue.0;
        glue_exists = λ i l. ltb-true _ _ (passes_at (is_type (as_rule r)) (as_rule r).glue i 0 glue.1 l);
        mate_exists = λ ty l. ltb-true _ _ (limits.mates ty l);
        some_part = λ ty l. (from_to 1 8 _ (type_parts ty l).0).0;
        at_most_8_parts = λ ty l. (from_to 1 8 _ (type_parts ty l).0).1;
        part_exists = λ ty i l m. ltb-true _ _ (passes_at (is_type (as_rule r)) (parts (as_rule r) ty) i 0 (type_parts ty l).1 m);
        at_least_3_edges = λ k l. subst (λ m. 3 ≤ m) (sym (edge_count-in r.order r k)) (edges k l).count.0;
        at_most_12_edges = λ k l. subst (λ m. m ≤ 12) (sym (edge_count-in r.order r k)) (edges k l).count.1;
        vertex_each = λ k l. vertex_count-in r.order r k ∙ (edges k l).same ∙ sym (edge_count-in r.order r k);
        type_exists = λ k e l m. subst (λ t. t < length (rule_of r).types)
            (sym (ap (λ (x : Kind (NumberOf r.order)). get_or x.edges e 0)
            (kind_of-map (point_in r.order) (as_rule r) k)))
            (ltb-true _ _ (passes_at (is_type (as_rule r)) (edge_types (as_rule r) k) e 0 (edges k l).types (edge_in k e m)));
        some_child = λ k l. subst (λ m. 1 ≤ m) (sym (child_count-in r.order r k)) (children k l).count.0;
        at_most_16_children = λ k l. subst (λ m. m ≤ 16) (sym (child_count-in r.order r k)) (children k l).count.1;
        child_exists = λ k c l m. subst (λ (x : TheChild (NumberOf r.order)). x.kind < length (rule_of r).kinds) (sym (same_child k c l m))
            (subst (λ w. (listed_child r k c).kind < w) (sym (kind_count-in r.order r)) (fits k c l m).kind);
        turn_below = λ k c l m. subst (λ (x : TheChild (NumberOf r.order)). x.motion.turn < n) (sym (same_child k c l m)) (fits k c l m).turn;
      }

  vertex_in : (k i : ℕ) → k < length (rule_of r).kinds → i < edge_count (rule_of r) k → i < length (vertices_of (as_rule r) k)
  vertex_in k i l m = let same = (edges k l).same in let low = edge_in k i m in omega arith

  -- a rule within its limits is usable
  pub usable : IsUsable r
  usable = record {
    numbered = numbered;
    factor_small = small r.order r.factor limits.factor;
    vertex_small = λ k i l m. small r.order (listed_vertex r k i)
        (passes_at (is_small r.order) (vertices_of (as_rule r) k) i origin (limits.vertices k (kind_in k l)) (vertex_in k i l m));
    shift_small = λ k c l m. small r.order (listed_child r k c).motion.shift (fits k c l m).shift;
  }

-- the vertices of a kind are small
pub vertices_small : (r : Rule) (k : ℕ) (vs : List Point) → IsUsable r → k < length (rule_of r).kinds
    → vs ≡ vertices_of (as_rule r) k → All (IsSmall r.order) vs
vertices_small r k vs is_usable l same i d m =
    let listed : length vs ≡ edge_count (rule_of r) k = ap length same ∙ sym (vertex_count-in r.order r k) ∙ is_usable.numbered.vertex_each k l in
    subst (IsSmall r.order) (ap (λ (ps : List Point). get_or ps i origin) (sym same) ∙ get_or_default vs i origin d m)
    (is_usable.vertex_small k i l (omega (arith, m, listed)))
