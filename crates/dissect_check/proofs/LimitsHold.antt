-- A rule is within its limits exactly where none of them is found passed.
use Rattle.std.specs.List.{AllByRecursion}
use Rattle.std.proofs.Common.{◌≡◌, ℕ, ◌<◌, Bool, true, List, [], ◌∷◌, length, Option}
use Rattle.theory_substitution.specs.Rule.{Rule as TheRule}
use Rattle.theory_addresses.specs.Search.{unless, first_some}
use Rattle.theory_edge_to_edge.specs.Limited.{WithinLimits}
use Rattle.theory_substitution.specs.RuleParts.{mate}
use Rattle.theory_edge_to_edge.specs.Limits.{is_type, parts_fit, edges_fit, vertices_fit, children_fit, kinds_fit, types_fit, glue_fits}
use Rattle.cyclo_points.specs.declared.order.Order.{Order}
use Rattle.cyclo_points.specs.declared.point.Point.{Point}
use Rattle.cyclo_points.specs.Order.{points_of}
use Rattle.rule_model.specs.declared.rule.Rule.{Rule}
use Rattle.rule_model.specs.Small.{is_small}
use Rattle.rule_model.specs.Views.{as_rule}
use Rattle.rule_model.specs.Usable.{IsUsable}
use Rattle.rule_model.proofs.Usable.{usable}
use Rattle.dissect_check.specs.declared.what.What.TheVariants.{Kinds, Types, Factor, Glue, Mate, Parts, Edges, Vertex, Child}
use Rattle.dissect_check.specs.declared.check_fault.CheckFault.{CheckFault}
use Rattle.dissect_check.specs.declared.check_fault.CheckFault.TheVariants.{TooMany}
use Rattle.dissect_check.specs.FirstFault as fault
use Rattle.theory_addresses.proofs.Searches.{unless-none, first_below-each, first_below-all}
use Rattle.theory_addresses.proofs.FirstSome.{IsNone, first_some-each, first_some-all, unless-true}

-- two tests in a row, and three
two_tests : {F : Type 0} (a b : Bool) (e f : F) → IsNone (first_some (unless a e ∷ (unless b f ∷ []))) → (a ≡ true) × (b ≡ true)
two_tests a b e f h = let p = first_some-each (unless a e ∷ (unless b f ∷ [])) h in (unless-none a e p.0, unless-none b f p.1.0)

three_tests : {F : Type 0} (a b c : Bool) (e f g : F)
    → IsNone (first_some (unless a e ∷ (unless b f ∷ (unless c g ∷ [])))) → (a ≡ true) × (b ≡ true)
    × (c ≡ true)
three_tests a b c e f g h =
    let p = first_some-each (unless a e ∷ (unless b f ∷ (unless c g ∷ []))) h in
    (unless-none a e p.0, unless-none b f p.1.0, unless-none c g p.1.1.0)

two_pass : {F : Type 0} (a b : Bool) (e f : F) → a ≡ true → b ≡ true → IsNone (first_some (unless a e ∷ (unless b f ∷ [])))
two_pass a b e f h k = first_some-all (unless a e ∷ (unless b f ∷ [])) (unless-true a e h, (unless-true b f k, tt))

three_pass : {F : Type 0} (a b c : Bool) (e f g : F) → a ≡ true → b ≡ true → c ≡ true
    → IsNone (first_some (unless a e ∷ (unless b f ∷ (unless c g ∷ []))))
three_pass a b c e f g h k l = first_some-all (unless a e ∷ (unless b f ∷ (unless c g ∷ [])))
    (unless-true a e h, (unless-true b f k, (unless-true c g l, tt)))

module _ (o : Order) (lists : TheRule Point) where
  -- the limits, in order
  abbrev limit_faults : List (Option CheckFault)
  limit_faults =
      unless (kinds_fit lists) (TooMany Kinds)
      ∷ (unless (types_fit lists) (TooMany Types)
      ∷ (unless (is_small o lists.factor) (TooMany Factor)
      ∷ (unless (glue_fits lists) (TooMany Glue)
      ∷ (fault.types_limits o lists
      ∷ (fault.kinds_limits o lists
      ∷ [])))))

  type_where : IsNone (fault.types_limits o lists) → (ty : ℕ) → ty < length lists.types
      → (is_type lists (mate lists ty) ≡ true) × (parts_fit lists ty ≡ true)
  type_where h ty l = two_tests _ _ (TooMany (Mate ty)) (TooMany (Parts ty))
      (first_below-each (fault.type_limits o lists) (length lists.types) h ty l)

  kind_where : IsNone (fault.kinds_limits o lists) → (k : ℕ) → k < length lists.kinds
      → (edges_fit lists k ≡ true) × (vertices_fit (is_small o) lists k ≡ true) × (children_fit (points_of o).order (is_small o) lists k ≡ true)
  kind_where h k l = three_tests _ _ _ (TooMany (Edges k)) (TooMany (Vertex k)) (TooMany (Child k))
      (first_below-each (fault.kind_limits o lists) (length lists.kinds) h k l)

  -- no limit is passed
  pub within-where : IsNone (fault.limits o lists) → WithinLimits (points_of o).order (is_small o) lists
  within-where h =
      let p : AllByRecursion IsNone limit_faults = first_some-each limit_faults h in
      let type_at = type_where p.1.1.1.1.0 in
      let kind_at = kind_where p.1.1.1.1.1.0 in
      record {
        kinds = unless-none _ (TooMany Kinds) p.0;
        types = unless-none _ (TooMany Types) p.1.0;
        factor = unless-none _ (TooMany Factor) p.1.1.0;
        glue = unless-none _ (TooMany Glue) p.1.1.1.0;
        mates = λ ty l. (type_at ty l).0;
        parts = λ ty l. (type_at ty l).1;
        edges = λ k l. (kind_at k l).0;
        vertices = λ k l. (kind_at k l).1;
        children = λ k l. (kind_at k l).2;
      }

  -- and none is found of a rule within them
  none-types : WithinLimits (points_of o).order (is_small o) lists → IsNone (fault.types_limits o lists)
  none-types w =
      first_below-all (fault.type_limits o lists) (length lists.types)
      (λ ty l. two_pass _ _ (TooMany (Mate ty)) (TooMany (Parts ty)) (w.mates ty l) (w.parts ty l))

  none-kinds : WithinLimits (points_of o).order (is_small o) lists → IsNone (fault.kinds_limits o lists)
  none-kinds w =
      first_below-all (fault.kind_limits o lists) (length lists.kinds)
      (λ k l. three_pass _ _ _ (TooMany (Edges k)) (TooMany (Vertex k)) (TooMany (Child k)) (w.edges k l) (w.vertices k l) (w.children k l))

  pub none-within : WithinLimits (points_of o).order (is_small o) lists → IsNone (fault.limits o lists)
  none-within w =
      first_some-all limit_faults (
        unless-true _ (TooMany Kinds) w.kinds,
        (
          unless-true _ (TooMany Types) w.types,
          (
            unless-true _ (TooMany Factor) w.factor,
            (unless-true _ (TooMany Glue) w.glue, (none-types w, (none-kinds w, tt))),
          ),
        ),
      )

-- then a rule of these is usable
pub usable-where : (r : Rule) → IsNone (fault.limits r.order (as_rule r)) → IsUsable r
usable-where r h = usable r (within-where r.order (as_rule r) h)
