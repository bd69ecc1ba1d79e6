-- A rule within its limits.
use Rattle.std.specs.Prelude.{◌≡◌, ℕ, ◌<◌, Bool, true, length}
use Rattle.theory_substitution.specs.Rule.{Rule}
use Rattle.theory_substitution.specs.RuleParts.{mate}
use Rattle.theory_edge_to_edge.specs.Limits.{is_type, kinds_fit, types_fit, glue_fits, parts_fit, edges_fit, vertices_fit, children_fit}

-- no count and no number passes a limit
pub record WithinLimits {A : Type 0} (n : ℕ) (small : A → Bool) (r : Rule A) : Type 0 where
  pub kinds : kinds_fit r ≡ true
  pub types : types_fit r ≡ true
  pub factor : small r.factor ≡ true
  pub glue : glue_fits r ≡ true
  pub mates : (ty : ℕ) → ty < length r.types → is_type r (mate r ty) ≡ true
  pub parts : (ty : ℕ) → ty < length r.types → parts_fit r ty ≡ true
  pub edges : (k : ℕ) → k < length r.kinds → edges_fit r k ≡ true
  pub vertices : (k : ℕ) → k < length r.kinds → vertices_fit small r k ≡ true
  pub children : (k : ℕ) → k < length r.kinds → children_fit n small r k ≡ true
