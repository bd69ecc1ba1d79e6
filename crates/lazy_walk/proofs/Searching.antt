-- The search outward from the base of a frame: what was looked at up to a level, and what each way on answers.
use Rattle.std.proofs.Common.{◌≡◌, ◌↔◌, ℕ, suc, ◌+◌, ◌-◌, ◌<◌, ◌≤◌, max, Bool, true, false, inl, inr, length, ◌∷◌, find, None, Some, Result, IsOk, IfErr, sym, ap, ◌∙◌, subst, arith}
use Rattle.std.proofs.lemmas.Bool.{cases_lt}
use Rattle.std.proofs.lemmas.Result.{IfErr-weaker, IfOk-weaker}
use Rattle.theory_addresses.specs.Address.{Address}
use Rattle.theory_substitution.specs.Points.{Points}
use Rattle.theory_substitution.specs.Rule.{Rule as TheRule}
use Rattle.cyclo_points.specs.declared.order.Order.{Order}
use Rattle.cyclo_points.specs.Point.{point_in}
use Rattle.cyclo_points.specs.Order.{NumberOf, points_of, is_refused}
use Rattle.theory_frames.specs.Contain.{ancestor_motion, ancestor_holds}
use Rattle.theory_frames.specs.Laws.{AncestorLaw}
use Rattle.theory_frames.specs.Outward.{HasTurnsBelow}
use Rattle.theory_frames.proofs.Carried.{some_turn}
use Rattle.theory_frames.proofs.Outwards.{turns_below}
use Rattle.rule_model.specs.declared.rule.Rule.{Rule}
use Rattle.rule_model.specs.Accepted.{IsAccepted}
use Rattle.rule_model.specs.Tiling.{Tiling, tiling_of}
use Rattle.rule_model.specs.Usable.{IsUsable}
use Rattle.rule_model.specs.Views.{rule_of, as_edition}
use Rattle.tile_place.specs.declared.coord_limit.CoordLimit.{CoordLimit}
use Rattle.tile_place.specs.declared.placed_tile.PlacedTile.{PlacedTile}
use Rattle.tile_place.proofs.FactorPowers.{one-unrefused}
use Rattle.tile_place.proofs.Parts.{first_not}
use Rattle.theory_walks.specs.Ancestors.{full, factor_power, values_of_level, vertices_of_ancestor, values_in}
use Rattle.theory_walks.specs.Containing.{FrameHolds, first_refused_outward}
use Rattle.theory_walks.specs.Frames.{FrameValue, at_depth, IsFrameOf, GrowsTo}
use Rattle.theory_walks.proofs.Ancestors.{full-later}
use Rattle.theory_walks.proofs.Walks.{GrowsTo-self, GrowsTo-then}
use Rattle.tile_place.specs.Refused.{IsRefusedFirst, Visits}
use Rattle.lazy_walk.specs.declared.ancestor.Ancestor.{Ancestor}
use Rattle.lazy_walk.specs.Ancestors.{IsAncestor, IsAncestorIn, IsNextOut}
use Rattle.lazy_walk.specs.Contained.{IsRefusedOutward}
use Rattle.lazy_walk.proofs.Aheads.{ahead, vertex_refused, held, onward, next_refused, next_passed, some_power_refused, zero-unrefused, exactly}
use Rattle.lazy_walk.proofs.Leasts.{not_before}

-- the levels below this ancestor's were looked at: none of them holds the point, and nothing looked at is refused
pub record IsOutward (m : Rule) (old : FrameValue) (p : NumberOf m.order) (now : FrameValue) (a : Ancestor) : Type 0 where
  pub grown : GrowsTo (tiling_of m) old now
  pub ancestor : IsAncestor (tiling_of m) (full (tiling_of m) old) a
  pub least : length now.digits ≡ max (length old.digits) a.level
  pub first : (j : ℕ) → j < a.level → ancestor_holds (points_of m.order) (rule_of m) (full (tiling_of m) old) j p ≡ false
  pub powers : (j : ℕ) → j ≤ a.level → is_refused m.order (factor_power (tiling_of m) j) ≡ false
  pub values : find (is_refused m.order) (ahead (points_of m.order) (rule_of m) (full (tiling_of m) old) p a.level (64 - a.level))
      ≡ first_refused_outward (tiling_of m) old p

-- what the laws of a call say of a machine's rule
pub record HasAncestors (m : Rule) : Type 0 where
  pub law : AncestorLaw (points_of m.order)
  pub below : HasTurnsBelow (points_of m.order) (rule_of m)

pub ancestors_of : (o : Order) (inside m : Rule) → o ≡ inside.order → inside ≡ m → IsUsable m → AncestorLaw (points_of o) → HasAncestors m
ancestors_of o inside m order same usable law = record {
  law = subst (λ o. AncestorLaw (points_of o)) (order ∙ ap (λ (r : Rule). r.order) same) law;
  below = turns_below (points_of m.order) (rule_of m) (some_turn m.order) usable.numbered.turn_below;
}

-- at the base
pub at_start : (m : Rule) (old : FrameValue) (p : NumberOf m.order) (a : Ancestor) → a.level ≡ 0
    → IsAncestor (tiling_of m) (full (tiling_of m) old) a → IsFrameOf (tiling_of m) old → IsOutward m old p old a
at_start m old p a zero own is = record {
  grown = GrowsTo-self (tiling_of m) old is;
  ancestor = own;
  least = omega (arith, zero);
  first = λ j h. absurd (omega (arith, h, zero));
  powers = λ j h. ap (λ n. is_refused m.order (factor_power (tiling_of m) n)) (none_below j (omega (arith, h, zero))) ∙ one-unrefused m.order;
  values = ap (λ n. find (is_refused m.order) (ahead (points_of m.order) (rule_of m) (full (tiling_of m) old) p n (64 - n))) zero
      ∙ sym (first_not (is_refused m.order) (factor_power (tiling_of m) 0)
      ((ancestor_motion (points_of m.order) (rule_of m) (full (tiling_of m) old) 0).shift
      ∷ ahead (points_of m.order) (rule_of m) (full (tiling_of m) old) p 0 64) (one-unrefused m.order)
      ∙ first_not (is_refused m.order) (ancestor_motion (points_of m.order) (rule_of m) (full (tiling_of m) old) 0).shift
      (ahead (points_of m.order) (rule_of m) (full (tiling_of m) old) p 0 64) (zero-unrefused m.order));
}
  where
    none_below : (j : ℕ) → j ≤ 0 → j ≡ 0
    none_below j h = omega arith

module _ {m : Rule} {old : FrameValue} {p : NumberOf m.order} {now : FrameValue} {a : Ancestor} (inv : IsOutward m old p now a) where
  abbrev t : Tiling
  t = tiling_of m

  abbrev P : Points
  P = points_of m.order

  abbrev r : TheRule P.ring.carrier
  r = rule_of m

  abbrev test : P.ring.carrier → Bool
  test = is_refused m.order

  abbrev F : Address
  F = full t old

  same : full t now ≡ F
  same = full-later t old now inv.grown

  pub ancestor-now : IsAncestor t (full t now) a
  ancestor-now = subst (λ f. IsAncestor t f a) (sym same) inv.ancestor

  pub ancestor-in : IsAncestorIn t now a
  ancestor-in = record { frame = inv.grown.is_frame; deep = omega (arith, inv.least); is_ancestor = ancestor-now }

  -- not all powers up to 64 are within the limit
  pub few : IsAccepted m → a.level < 64
  few accepted = elim (cases_lt a.level 64) [
    | inl h ↦ h
    | inr h ↦ absurd (some_power_refused P (as_edition m.edition) test r.factor accepted.edge_to_edge.inflation_factor
        (λ j k. inv.powers j (omega (arith, h, k))))
  ]

  -- a vertex is refused
  pub vertex_is : (v : P.ring.carrier) → find test (vertices_of_ancestor t (full t now) a.level) ≡ Some v → first_refused_outward t old p ≡ Some v
  vertex_is v e = sym inv.values ∙ vertex_refused P r F p test a.level (64 - a.level) v
      (subst (λ f. find test (vertices_of_ancestor t f a.level) ≡ Some v) same e)

  -- no frame below the present depth holds the point
  pub not_yet : IsFrameOf t old → HasAncestors m → (n : ℕ) → length old.digits ≤ n → n < length now.digits
      → ¬ FrameHolds t (at_depth t n old) p
  not_yet is laws = not_before t old now is laws.law laws.below p a.level (omega (arith, inv.least)) inv.ancestor.at_most_64 inv.first

  -- nor, where this ancestor doesn't, one below the next level
  pub not_next : IsFrameOf t old → HasAncestors m → IsAccepted m
      → ancestor_holds P r (full t now) a.level p ≡ false
      → (g : FrameValue) → length g.digits ≤ max (length now.digits) (a.level + 1)
      → (n : ℕ) → length old.digits ≤ n → n < length g.digits → ¬ FrameHolds t (at_depth t n old) p
  not_next is laws accepted out g deep = not_before t old g is laws.law laws.below p (a.level + 1)
      (omega (arith, deep, inv.least)) (omega (arith, few accepted)) (λ j h. elim (cases_lt j a.level) [
        | inl b ↦ inv.first j b
        | inr b ↦ let last : a.level ≡ j = omega (arith, h, b) in
            subst (λ n. ancestor_holds P r F n p ≡ false) last (subst (λ f. ancestor_holds P r f a.level p ≡ false) same out)
      ])

  module _ (vertices : find test (vertices_of_ancestor t (full t now) a.level) ≡ None) where
    passed : find test (vertices_of_ancestor t F a.level) ≡ None
    passed = subst (λ f. find test (vertices_of_ancestor t f a.level) ≡ None) same vertices

    -- what is looked at in an ancestor that holds the point comes next
    inside_is : ancestor_holds P r (full t now) a.level p ≡ true
        → find test (values_in t (full t now) p a.level) ≡ first_refused_outward t old p
    inside_is h =
        ap (λ f. find test (values_in t f p a.level)) same
        ∙ sym (held P r F p test a.level (64 - a.level) passed (subst (λ f. ancestor_holds P r f a.level p ≡ true) same h)) ∙ inv.values

    module _ (holds : ancestor_holds P r (full t now) a.level p ≡ true) (answer : Result PlacedTile CoordLimit)
        (visits : Visits m.order (values_in t (full t now) p a.level) answer) where
      pub inside_refused : IfErr answer (IsRefusedOutward t old p)
      inside_refused = IfErr-weaker answer (IsRefusedFirst m.order (values_in t (full t now) p a.level)) (IsRefusedOutward t old p)
          (λ limit h. record { first = sym (inside_is holds) ∙ h.first; in_order = h.in_order }) visits.limit

      pub inside_exactly : IsOk answer ↔ (first_refused_outward t old p ≡ None)
      inside_exactly =
          exactly answer (first_refused_outward t old p) (λ (limit : CoordLimit). point_in m.order limit.value)
          (IfOk-weaker answer (λ (tile : PlacedTile). find test (values_in t (full t now) p a.level) ≡ None)
          (λ (tile : PlacedTile). first_refused_outward t old p ≡ None) (λ tile h. sym (inside_is holds) ∙ h) visits.none_refused)
          (IfErr-weaker answer (IsRefusedOutward t old p)
          (λ (limit : CoordLimit). first_refused_outward t old p ≡ Some (point_in m.order limit.value)) (λ limit h. h.first) inside_refused)

    module _ (out : ancestor_holds P r (full t now) a.level p ≡ false) (accepted : IsAccepted m) where
      own_out : ancestor_holds P r F a.level p ≡ false
      own_out = subst (λ f. ancestor_holds P r f a.level p ≡ false) same out

      most : 64 - a.level ≡ suc (64 - (a.level + 1))
      most = omega (arith, few accepted)

      -- the next power or shift is refused
      pub next_is : (v : P.ring.carrier) → find test (values_of_level t (full t now) (a.level + 1)) ≡ Some v
          → first_refused_outward t old p ≡ Some v
      next_is v e =
          sym inv.values ∙ onward P r F p test a.level (64 - a.level) passed own_out
          ∙ next_refused P r F p test a.level (64 - a.level) (64 - (a.level + 1)) v most
          (subst (λ f. find test (values_of_level t f (a.level + 1)) ≡ Some v) same e)

      -- or neither is
      pub one_out : (g : FrameValue) (b : Ancestor) → GrowsTo t now g → IsNextOut t now g a.level b → IsOutward m old p g b
      one_out g b grows h = record {
        grown = GrowsTo-then t old now g inv.grown grows;
        ancestor = subst (λ f. IsAncestor t f b) same h.ancestor;
        least = omega (arith, h.grown, inv.least, h.one_more);
        first = λ j k. elim (cases_lt j a.level) [
          | inl l ↦ inv.first j l
          | inr l ↦ let last : a.level ≡ j = omega (arith, k, l, h.one_more) in subst (λ n. ancestor_holds P r F n p ≡ false) last own_out
        ];
        powers = λ j k. elim (cases_lt a.level j) [
          | inl l ↦ let last : a.level + 1 ≡ j = omega (arith, k, l, h.one_more) in
              subst (λ n. test (factor_power t n) ≡ false) last h.power_unrefused
          | inr l ↦ inv.powers j l
        ];
        values =
            ap (λ n. find test (ahead P r F p n (64 - n))) h.one_more
            ∙ sym (onward P r F p test a.level (64 - a.level) passed own_out
            ∙ next_passed P r F p test a.level (64 - a.level) (64 - (a.level + 1)) most
            (subst (λ f. find test (values_of_level t f (a.level + 1)) ≡ None) same h.none_refused))
            ∙ inv.values;
      }
