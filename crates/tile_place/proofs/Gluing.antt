-- What gluing says of the machine's rule.
use Rattle.std.proofs.Common.{◌≡◌, ◌↔◌, ◌<◌, ◌+◌, ◌-◌, ◌/◌, ◌%◌, ℕ, length, pos, negsuc, [], ◌∷◌, refl, sym, ap, ap₂, ◌∙◌, subst}
use Rattle.std.proofs.Math.Nat.{mod-lt}
use Rattle.theory_ring.specs.Ring.{difference}
use Rattle.theory_ring.proofs.Normaliser.{var, con, ring, ring_from, ◌⊕◌, ◌⊖◌, ◌⊗◌}
use Rattle.theory_ring.specs.Ring.{power}
use Rattle.theory_substitution.specs.RuleParts.{next, vertex}
use Rattle.theory_edge_to_edge.specs.EdgeTypes.{edge_vector}
use Rattle.theory_edge_to_edge.proofs.ChildEdges.{kind-with_edge}
use Rattle.cyclo_points.specs.declared.order.Order.{Order}
use Rattle.cyclo_points.specs.Order.{NumberOf, PointsLaw, points_of}
use Rattle.theory_dissection.specs.Glue.{TurnsOnto}
use Rattle.theory_dissection.specs.Laws.{GlueLaw}
use Rattle.theory_dissection.proofs.GlueMotions.{glue_motion, glues}
use Rattle.rule_model.specs.declared.rule.Rule.{Rule}
use Rattle.rule_model.specs.Tiling.{tiling_of}
use Rattle.rule_model.specs.Views.{rule_of}
use Rattle.tile_place.specs.Crossed.{placed_tile}
use Rattle.tile_place.specs.EdgeTurns.{IsGreatest}
use Rattle.tile_place.specs.Glued.{HasKindEdge, Meets, Glues, IsMotionAcross, GluingLaw}
use Rattle.tile_place.specs.TurnedVertices.{turned_by}
use Rattle.tile_place.proofs.GreatestTurns.{some_order, turned-twice, turned-mod, one-greatest, onto-itself, onto-reverse}
use Rattle.tile_place.proofs.Plane.{IsSettled, its_rule, fits_tables, has_edge}

-- the law over the points of an order
abbrev pub GlueLawOf : Order → Type 0
GlueLawOf o = GlueLaw (points_of o)

pub gluing : (m : Rule) → IsSettled m → GlueLawOf m.order → GluingLaw (tiling_of m)
gluing m settled law a b e f fits edge only =
    let h = law (its_rule m settled) a e (has_edge m settled a e (fits_tables m settled a fits) edge) (placed_tile (tiling_of m) b) f only.across in
    (h.met, h.alone, h.motion_is)

module _ (m : Rule) where
  pub kind_listed : (kind edge : ℕ) → HasKindEdge (tiling_of m) kind edge → kind < length (rule_of m).kinds
  kind_listed kind edge h = kind-with_edge (points_of m.order) (rule_of m) kind edge h

  -- two edges, by their vectors and the turns that make these greatest
  module _ (W : PointsLaw m.order) (k e l f a b : ℕ) where
    abbrev own : NumberOf m.order
    own = edge_vector (points_of m.order) (rule_of m) k e

    abbrev its : NumberOf m.order
    its = edge_vector (points_of m.order) (rule_of m) l f

    -- how the one is turned onto the reverse of the other
    abbrev pub glue_turn : ℕ
    glue_turn = (b + ((points_of m.order).order / 2 + (points_of m.order).order - a)) % (points_of m.order).order

    module _ (of_own : IsGreatest m.order own a) (of_its : IsGreatest m.order its b) where
      pub one_vector : Meets (tiling_of m) k e l f → turned_by m.order a own ≡ turned_by m.order b its
      one_vector met = one-greatest m.order W own its a b ((points_of m.order).order / 2 + met.turn) of_own
          of_its (onto-itself m.order W own its met.turn met.turns)

      pub turn_below : glue_turn < (points_of m.order).order
      turn_below = mod-lt (b + ((points_of m.order).order / 2 + (points_of m.order).order - a)) (some_order m.order)

      pub turns_onto : turned_by m.order a own ≡ turned_by m.order b its → TurnsOnto (points_of m.order) (rule_of m) k e l f glue_turn
      turns_onto same = onto-reverse m.order W own its a b of_own.below same

      pub met : turned_by m.order a own ≡ turned_by m.order b its ↔ Meets (tiling_of m) k e l f
      met = ((λ same. record { turn = glue_turn; below = turn_below; turns = turns_onto same }), one_vector)

  -- the motions that such a turn gives
  module _ (W : PointsLaw m.order) (k e l f turn : ℕ) (below : turn < (points_of m.order).order)
      (turns : TurnsOnto (points_of m.order) (rule_of m) k e l f turn) where
    abbrev end_vertex : NumberOf m.order
    end_vertex = vertex (points_of m.order) (rule_of m) k (next (rule_of m) k e)

    abbrev start_vertex : NumberOf m.order
    start_vertex = vertex (points_of m.order) (rule_of m) l f

    pub glued : (end start shift : NumberOf m.order) → end ≡ turned_by m.order 0 end_vertex
        → start ≡ turned_by m.order turn start_vertex → shift ≡ difference (points_of m.order).ring end start
        → Glues (tiling_of m) k e l f (record { turn = turn; shift = shift })
    glued end start shift end_is start_is shift_is =
        subst (λ (s : NumberOf m.order). Glues (tiling_of m) k e l f (record { turn = turn; shift = s }))
        (sym (shift_is ∙ ap₂ (difference (points_of m.order).ring)
        (end_is ∙ ring (points_of m.order).ring W.of_ring (end_vertex ∷ []) (con (pos 1) ⊗ var 0) (var 0)
        refl) start_is))
        (glues (points_of m.order) W (rule_of m) k e l f turn below turns)

    pub across : (at : ℕ) (s end start shift : NumberOf m.order) → end ≡ turned_by m.order at end_vertex
        → start ≡ turned_by m.order ((at + turn) % (points_of m.order).order) start_vertex
        → shift ≡ difference (points_of m.order).ring ((points_of m.order).ring.add end s) start
        → IsMotionAcross (tiling_of m) k e l f (record { turn = at; shift = s })
        (record { turn = (at + turn) % (points_of m.order).order; shift = shift })
    across at s end start shift end_is start_is shift_is = record {
      glue = glue_motion (points_of m.order) (rule_of m) k e l f turn;
      glues = glues (points_of m.order) W (rule_of m) k e l f turn below turns;
      motion_is = ap (λ (v : NumberOf m.order). record { turn = (at + turn) % (points_of m.order).order; shift = v })
          (shift_is ∙ ring_from (points_of m.order).ring W.of_ring
          (power (points_of m.order).ring (points_of m.order).zeta at
          ∷ (power (points_of m.order).ring (points_of m.order).zeta turn
          ∷ (end_vertex ∷ (start_vertex ∷ (s ∷ (end ∷ (start ∷ [])))))))
          ((var 5 ⊕ var 4) ⊖ var 6) (var 0 ⊗ (var 2 ⊖ var 1 ⊗ var 3) ⊕ var 4)
          ((con (pos 1), var 5, var 0 ⊗ var 2) ∷ ((con (negsuc 0), var 6, var 0 ⊗ (var 1 ⊗ var 3)) ∷ []))
          (end_is, (start_is ∙ turned-mod m.order W (at + turn) start_vertex ∙ turned-twice m.order W at turn start_vertex, tt)) refl);
    }
