-- The child kinds of a rule within its limits, each kind of which has a use, are a table of uses.
use Rattle.std.specs.Prelude.{nat_eq, nat_lt, nat_le, ◌==◌}
use Rattle.std.specs.List.{list_all, list_any, range_with_len}
use Rattle.std.proofs.Common.{◌≡◌, ℕ, zero, suc, ◌<◌, ◌≤◌, Bool, true, false, ◌&&◌, ◌||◌, List, [], ◌∷◌, map, length, get_or, pos, refl, sym, ap, ◌∙◌, subst, arith, zero-add}
use Rattle.std.proofs.lemmas.Bool.{and_from}
use Rattle.std.proofs.lemmas.Bool.Decides.{nat_tests}
use Rattle.std.proofs.lemmas.List.{length-map, get_or-map}
use Rattle.std.proofs.lemmas.List.Folds.{list_any_at}
use Rattle.std.proofs.lemmas.List.FromFn.{length-range_with_len, get_or-range_with_len}
use Rattle.theory_substitution.specs.Points.{Points}
use Rattle.theory_substitution.specs.Rule.{Child, Kind, Rule, children_of, child_kinds}
use Rattle.theory_addresses.specs.Search.{some_below}
use Rattle.theory_edge_to_edge.specs.Numbered.{IsNumbered}
use Rattle.theory_edge_to_edge.specs.EdgeToEdge.{HasEachUsed}
use Rattle.tile_shape.specs.Usable.{AreUsable}

-- what each place passes, the list passes
each_place : {A : Type 0} (p : A → Bool) (xs : List A) (d : A) → ((i : ℕ) → i < length xs → p (get_or xs i d) ≡ true) → list_all p xs ≡ true
each_place p [] d h = refl
each_place p (x ∷ xs) d h = and_from (p x) (list_all p xs) (h 0 (omega arith)) (each_place p xs d (λ i l. h (suc i) (omega arith)))

-- a number that passes
pub record Passing (n : ℕ) (f : ℕ → Bool) : Type 0 where
  pub at : ℕ
  pub within : at < n
  pub passes : f at ≡ true

passing : (n : ℕ) (f : ℕ → Bool) → some_below n f ≡ true → Passing n f
passing zero f h = absurd (cc)
passing (suc n) f h = by_case (some_below n f) refl h (passing n f)
  where
    by_case : (b : Bool) → some_below n f ≡ b → (b || f n) ≡ true → (some_below n f ≡ true → Passing n f) → Passing (suc n) f
    by_case true e q later = let p = later e in record { at = p.at; within = let l = p.within in omega arith; passes = p.passes }
    by_case false e q later = record { at = n; within = omega arith; passes = q }

-- among the children's kinds is one that is a child's
any-kinds : {A : Type 0} (k : ℕ) (cs : List (Child A))
    → list_any (λ (c : Child A). nat_eq c.kind k) cs ≡ list_any (λ child. child == k)
    (map (λ (c : Child A). c.kind) cs)
any-kinds k [] = refl
any-kinds k (c ∷ cs) = ap (λ b. nat_eq c.kind k || b) (any-kinds k cs)

-- and all of them are below n where the children's are
all-kinds : {A : Type 0} (n : ℕ) (cs : List (Child A))
    → list_all (λ (c : Child A). nat_lt c.kind n) cs ≡ list_all (λ kind. nat_lt kind n)
    (map (λ (c : Child A). c.kind) cs)
all-kinds n [] = refl
all-kinds n (c ∷ cs) = ap (λ b. nat_lt c.kind n && b) (all-kinds n cs)

-- 1 to 16 kinds, each with 1 to 16 children, each of a kind that there is
pub record HasChildren {A : Type 0} (r : Rule A) : Type 0 where
  pub some_kind : 1 ≤ length r.kinds
  pub at_most_16_kinds : length r.kinds ≤ 16
  pub some_child : (k : ℕ) → k < length r.kinds → 1 ≤ length (children_of r k)
  pub at_most_16_children : (k : ℕ) → k < length r.kinds → length (children_of r k) ≤ 16
  pub each_exists : (k : ℕ) → k < length r.kinds → list_all (λ (c : Child A). nat_lt c.kind (length r.kinds)) (children_of r k) ≡ true

-- a rule within its limits has
pub has-children : (P : Points) (r : Rule P.ring.carrier) → IsNumbered P r → HasChildren r
has-children P r N = record {
  some_kind = N.some_kind;
  at_most_16_kinds = N.at_most_16_kinds;
  some_child = N.some_child;
  at_most_16_children = N.at_most_16_children;
  each_exists = λ k l. each_place (λ (c : Child P.ring.carrier). nat_lt c.kind (length r.kinds))
      (children_of r k) (record { kind = 0; motion = record { turn = 0; shift = P.ring.int (pos 0) } })
      (λ c m. let b = N.child_exists k c l m in grind (arith, nat_tests, b));
}

module _ {A : Type 0} (r : Rule A) (N : HasChildren r) (U : HasEachUsed r) where
  -- the kinds of a kind's children
  abbrev kinds_in : Kind A → List ℕ
  kinds_in k = map (λ (c : Child A). c.kind) k.children

  abbrev empty : Kind A
  empty = record { vertices = []; edges = []; children = [] }

  row-is : (k : ℕ) → k < length r.kinds → get_or (child_kinds r) k [] ≡ map (λ (c : Child A). c.kind) (children_of r k)
  row-is k l = get_or-map kinds_in r.kinds k empty [] l

  as_many : length (child_kinds r) ≡ length r.kinds
  as_many = length-map r.kinds kinds_in

  -- how many children a row has
  row-long : (k : ℕ) → k < length r.kinds → length (get_or (child_kinds r) k []) ≡ length (children_of r k)
  row-long k l = ap length (row-is k l) ∙ length-map (children_of r k) (λ (c : Child A). c.kind)

  -- each child's kind exists
  exists : (k : ℕ) → k < length r.kinds → list_all (λ kind. nat_lt kind (length (child_kinds r))) (get_or (child_kinds r) k []) ≡ true
  exists k l =
      subst (λ row. list_all (λ kind. nat_lt kind (length (child_kinds r))) row ≡ true) (sym (row-is k l))
      (subst (λ n. list_all (λ kind. nat_lt kind n) (map (λ (c : Child A). c.kind) (children_of r k)) ≡ true) (sym as_many)
      (sym (all-kinds (length r.kinds) (children_of r k)) ∙ N.each_exists k l))

  -- each kind is used
  used : (k : ℕ) → k < length r.kinds → list_any (λ row. list_any (λ child. child == k) row) (child_kinds r) ≡ true
  used k l =
      let p = passing (length r.kinds) _ (U k l) in
      list_any_at (λ row. list_any (λ child. child == k) row) (child_kinds r) p.at [] (subst (λ n. p.at < n) (sym as_many) p.within)
      (subst (λ row. list_any (λ child. child == k) row ≡ true) (sym (row-is p.at p.within)) (sym (any-kinds k (children_of r p.at)) ∙ p.passes))

  pub uses-usable : AreUsable (child_kinds r)
  uses-usable = record {
    some_kind = subst (λ n. 1 ≤ n) (sym as_many) N.some_kind;
    at_most_16_kinds = subst (λ n. n ≤ 16) (sym as_many) N.at_most_16_kinds;
    some_child = each_place (λ row. nat_le 1 (length row)) (child_kinds r) []
        (λ k l. let m = subst (λ n. k < n) as_many l in let e = row-long k m in let b = N.some_child k
        m in grind (arith, nat_tests, e, b));
    at_most_16_children = each_place (λ row. nat_le (length row) 16) (child_kinds r) []
        (λ k l. let m = subst (λ n. k < n) as_many l in let e = row-long k m in let b = N.at_most_16_children
        k m in grind (arith, nat_tests, e, b));
    each_exists = each_place (λ row. list_all (λ kind. nat_lt kind (length (child_kinds r))) row)
        (child_kinds r) [] (λ k l. exists k (subst (λ n. k < n) as_many l));
    each_used = each_place (λ kind. list_any (λ row. list_any (λ child. child == kind) row) (child_kinds r))
        (range_with_len 0 (length (child_kinds r))) 0 (λ i l. at i l);
  }
    where
      at : (i : ℕ) → i < length (range_with_len 0 (length (child_kinds r)))
          → list_any (λ row. list_any (λ child. child == get_or (range_with_len 0 (length (child_kinds r))) i
          0) row) (child_kinds r) ≡ true
      at i l =
          let n = length-range_with_len 0 (length (child_kinds r)) in
          let m = subst (λ x. i < x) n l in
          let e = get_or-range_with_len 0 (length (child_kinds r)) i 0 m in
          subst (λ k. list_any (λ row. list_any (λ child. child == k) row) (child_kinds r) ≡ true)
          (sym (e ∙ zero-add i)) (used i (subst (λ x. i < x) as_many m))
