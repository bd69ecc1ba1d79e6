-- Motions that glue two edges: by their turn and their shift, and that there is one where the edges meet.
use Rattle.std.proofs.Common.{◌≡◌, ℕ, ◌<◌, [], ◌∷◌, pos, negsuc, refl, ap}
use Rattle.theory_ring.specs.Ring.{Ops, difference, power}
use Rattle.theory_ring.proofs.Normaliser.{var, con, neg, ring_from, ◌⊕◌, ◌⊖◌, ◌⊗◌}
use Rattle.theory_substitution.specs.Points.{Points, PointLaws}
use Rattle.theory_substitution.specs.Motion.{Motion}
use Rattle.theory_substitution.specs.Rule.{Rule}
use Rattle.theory_substitution.specs.RuleParts.{next, vertex}
use Rattle.theory_edge_to_edge.specs.EdgeTypes.{edge_vector}
use Rattle.theory_dissection.specs.Glue.{TurnsOnto, IsGlueMotion}

-- the motion of a turn, with the shift that takes the start of edge f of kind l to the end of edge e of kind k
abbrev pub glue_motion : (P : Points) → Rule P.ring.carrier → ℕ → ℕ → ℕ → ℕ → ℕ → Motion P.ring.carrier
glue_motion P r k e l f turn = record {
  turn = turn;
  shift = difference P.ring (vertex P r k (next r k e))
      (P.ring.mul (power P.ring P.zeta turn) (vertex P r l f));
}

module _ (P : Points) (W : PointLaws P) (r : Rule P.ring.carrier) (k e l f : ℕ) where
  abbrev K : Ops
  K = P.ring

  abbrev a : K.carrier
  a = vertex P r k e

  abbrev b : K.carrier
  b = vertex P r k (next r k e)

  abbrev c : K.carrier
  c = vertex P r l f

  abbrev d : K.carrier
  d = vertex P r l (next r l f)

  -- a turn of the one vector onto the other, with that shift, is one
  pub glues : (turn : ℕ) → turn < P.order → TurnsOnto P r k e l f turn → IsGlueMotion P r k e l f (glue_motion P r k e l f turn)
  glues turn below turns = record {
    below = below;
    runs_back = record {
      from_end =
          ring_from K W.of_ring (power K P.zeta turn ∷ (b ∷ (c ∷ []))) (var 0 ⊗ var 2 ⊕ (var 1 ⊖ var 0 ⊗ var 2)) (var 1) [] tt refl;
      to_start =
          ring_from K W.of_ring (power K P.zeta turn ∷ (a ∷ (b ∷ (c ∷ (d ∷ []))))) (var 0 ⊗ var 4 ⊕ (var 2 ⊖ var 0 ⊗ var 3)) (var 1)
          ((con (pos 1), var 0 ⊗ (var 4 ⊖ var 3), neg (var 2 ⊖ var 1)) ∷ []) (turns, tt) refl;
    };
  }

  module _ (m : Motion K.carrier) (h : IsGlueMotion P r k e l f m) where
    -- the other way round: its turn takes the one vector onto the other
    pub its_turn : TurnsOnto P r k e l f m.turn
    its_turn =
        ring_from K W.of_ring (power K P.zeta m.turn ∷ (a ∷ (b ∷ (c ∷ (d ∷ (m.shift ∷ [])))))) (var 0 ⊗ (var 4 ⊖ var 3)) (neg (var 2 ⊖ var 1))
        ((con (pos 1), var 0 ⊗ var 4 ⊕ var 5, var 1) ∷ ((con (negsuc 0), var 0 ⊗ var 3 ⊕ var 5, var 2) ∷ []))
        (h.runs_back.to_start, (h.runs_back.from_end, tt)) refl

    -- and its shift is that one
    shift_is : m.shift ≡ difference K b (K.mul (power K P.zeta m.turn) c)
    shift_is =
        ring_from K W.of_ring (power K P.zeta m.turn ∷ (b ∷ (c ∷ (m.shift ∷ [])))) (var 3) (var 1 ⊖ var 0 ⊗ var 2)
        ((con (pos 1), var 0 ⊗ var 2 ⊕ var 3, var 1) ∷ []) (h.runs_back.from_end, tt) refl

    pub motion_is : m ≡ glue_motion P r k e l f m.turn
    motion_is = ap (λ (v : K.carrier). record { turn = m.turn; shift = v }) shift_is
