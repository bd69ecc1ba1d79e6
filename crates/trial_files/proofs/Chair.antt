-- The chair's numbers are within the limits.
use Rattle.std.proofs.Common.{◌≡◌, ℕ, zero, suc, ◌<◌, pos, List, [], ◌∷◌, refl, arith}
use Rattle.theory_substitution.specs.Rule.{Child, EdgeType, Kind, Rule}
use Rattle.theory_edge_to_edge.specs.Limited.{WithinLimits}
use Rattle.cyclo_points.specs.declared.order.Order.TheVariants.{Four}
use Rattle.cyclo_points.specs.declared.point.Point.{Point}
use Rattle.rule_model.specs.Small.{is_small}

abbrev pub at : ℕ → ℕ → Point
at a0 a1 = record { c = pos a0 ∷ pos a1 ∷ pos 0 ∷ pos 0 ∷ [] }

abbrev pub child : ℕ → Point → Child Point
child turn shift = record { kind = 0; motion = record { turn = turn; shift = shift } }

abbrev pub chair_type : EdgeType
chair_type = record { mate = 0; parts = 0 ∷ 0 ∷ [] }

abbrev pub chair_kind : Kind Point
chair_kind = record {
  vertices = at 1 1 ∷ at 1 2 ∷ at 0 2 ∷ at 0 1 ∷ at 0 0 ∷ at 1 0 ∷ at 2 0 ∷ at 2 1 ∷ [];
  edges = 0 ∷ 0 ∷ 0 ∷ 0 ∷ 0 ∷ 0 ∷ 0 ∷ 0 ∷ [];
  children = child 0 (at 0 0) ∷ child 0 (at 1 1) ∷ child 1 (at 4 0) ∷ child 3 (at 0 4) ∷ [];
}

abbrev chair : Rule Point
chair = record { factor = at 2 0; glue = []; types = chair_type ∷ []; kinds = chair_kind ∷ [] }

-- what holds at 0 holds at each number below 1
only-first : (P : ℕ → Type 0) → P 0 → (k : ℕ) → k < 1 → P k
only-first P h zero lt = h
only-first P h (suc k) lt = absurd (omega arith)

chair-limits : WithinLimits 4 (is_small Four) chair
chair-limits = record {
  kinds = refl;
  types = refl;
  factor = refl;
  glue = refl;
  mates = only-first _ refl;
  parts = only-first _ refl;
  edges = only-first _ refl;
  vertices = only-first _ refl;
  children = only-first _ refl;
}

pub chair-limits-at : (factor : Point) (glue : List ℕ) (types : List EdgeType) (kinds : List (Kind Point))
    → factor ≡ at 2 0 → glue ≡ [] → types ≡ chair_type ∷ [] → kinds ≡ chair_kind ∷ []
    → WithinLimits 4 (is_small Four) (record { factor = factor; glue = glue; types = types; kinds = kinds })
chair-limits-at factor glue types kinds e1 e2 e3 e4 = rw (e1, e2, e3, e4) chair-limits
