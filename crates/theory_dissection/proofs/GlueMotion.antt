-- The motion of the tile across an edge is the motion that glues the two edges, followed by that of the edge's own tile.
use Rattle.std.proofs.Common.{◌≡◌, ◌⊎◌, inl, inr, ℕ, ◌<◌, true, not, ◌||◌, nat_eq, List, [], ◌∷◌, pos, refl, sym, ap, ap₂, ◌∙◌, subst, eqb-true}
use Rattle.std.proofs.Math.Nat.{mod-lt}
use Rattle.theory_ring.specs.Ring.{Ops, difference, power}
use Rattle.theory_ring.proofs.Booleans.{either, denied}
use Rattle.theory_ring.proofs.Normaliser.{var, con, ring, ◌⊕◌, ◌⊖◌, ◌⊗◌}
use Rattle.theory_substitution.specs.Points.{Points, PointLaws}
use Rattle.theory_substitution.specs.Motion.{Motion, moved, followed}
use Rattle.theory_addresses.specs.Address.{Step, Address, top_kind, depth, Fits}
use Rattle.theory_edge_to_edge.specs.Contacts.{tables_of}
use Rattle.theory_addresses.specs.Tables.{child_kinds}
use Rattle.theory_addresses.specs.Search.{all_below}
use Rattle.theory_substitution.specs.Supertile.{Placed}
use Rattle.theory_substitution.specs.Placement.{placement}
use Rattle.theory_substitution.proofs.Motions.{moved-followed}
use Rattle.theory_addresses.proofs.CoherenceTests.{all_below-at}
use Rattle.theory_addresses.proofs.Chains.{chain_of}
use Rattle.theory_dissection.specs.TileEdges.{tile_at}
use Rattle.theory_dissection.specs.Across.{IsTileAcross}
use Rattle.theory_dissection.specs.Glue.{TurnsDiffer, turns_differ, IsGlueMotion, IsGlued}
use Rattle.theory_dissection.proofs.Setting.{Setting}
use Rattle.theory_dissection.proofs.GlueMotions.{glue_motion, its_turn, motion_is}
use Rattle.theory_dissection.proofs.Glue.{some_order, across-glued, glued-turn, edge_has_length}
use Rattle.theory_dissection.proofs.RuleAddresses.{top_exists}
use Rattle.theory_dissection.proofs.Members.{member}

-- the test says so
pub turns_differ-is : (P : Points) → PointLaws P → turns_differ P ≡ true → TurnsDiffer P
turns_differ-is P W h i j hi hj e =
    let row = all_below-at P.order (λ i. all_below P.order
    (λ j. not (P.same (power P.ring P.zeta i) (power P.ring P.zeta j)) || nat_eq i j)) h i hi in
    let cell = all_below-at P.order (λ j. not (P.same (power P.ring P.zeta i) (power P.ring P.zeta j)) || nat_eq i j) row j hj in
    at_case (either _ _ cell)
  where
    same : P.same (power P.ring P.zeta i) (power P.ring P.zeta j) ≡ true
    same = ap (P.same (power P.ring P.zeta i)) (sym e) ∙ W.same_self (power P.ring P.zeta i)

    at_case : (not (P.same (power P.ring P.zeta i) (power P.ring P.zeta j)) ≡ true) ⊎ (nat_eq i j ≡ true) → i ≡ j
    at_case (inl k) = absurd (cc (denied _ k, same))
    at_case (inr k) = eqb-true i j k

module _ (T : Setting) (differ : TurnsDiffer T.points) where
  open T use {points as P, laws as W, accepted.{rule as r, numbered as N, edge_to_edge as D}}

  abbrev K : Ops
  K = P.ring

  -- a tile's turn is below the order
  turn_below : (ds : List Step) → (placement P r ds).turn < P.order
  turn_below [] = some_order T
  turn_below (d ∷ ds) = mod-lt _ (some_order T)

  pub across-motion : (a : Address) (e : ℕ) (b : Placed K.carrier) (f : ℕ)
      → Fits (child_kinds (tables_of P r)) a → IsTileAcross P r (tile_at P r a) e b f
      → IsGlued P r (tile_at P r a) e b f
  across-motion a e b f fits across =
      let m = member T (top_kind a) (depth a) (top_exists T a.kind a.digits (chain_of (tables_of P r) a fits)) b across.beside in
      let has = edge_has_length T b.address.kind f m.tile.kind_exists across.edge_exists in
      let both = across-glued T a e b f fits across in
      let t = both.0.0 in
      let small : b.motion.turn < P.order = subst (λ (g : Motion K.carrier). g.turn < P.order) (sym m.motion_is) (turn_below b.address.digits) in
      record {
        met = record { turn = t; below = both.0.1; turns = both.0.2 };
        alone = λ m g x y.
            let k = a.kind in let l = b.address.kind in
            let one = differ m.turn g.turn x.below y.below
            (glued-turn P W r k e l f m.turn g.turn (its_turn P W r k e l f m x)
            (its_turn P W r k e l f g y) has) in
            motion_is P W r k e l f m x ∙ ap (glue_motion P r k e l f) one ∙ sym (motion_is P W r k e l f g y);
        motion_is = λ m glues.
            let turns = its_turn P W r a.kind e b.address.kind f m glues in
            motions m.turn small (both.1 m.turn turns)
            ∙ ap (λ (g : Motion K.carrier). followed P g (placement P r a.digits)) (sym (motion_is P W r a.kind e b.address.kind f m glues));
      }
    where
      motions : (t : ℕ) → b.motion.turn < P.order
          → ((z : K.carrier) → moved P (placement P r a.digits)
          (moved P (glue_motion P r a.kind e b.address.kind f t) z) ≡ moved P b.motion z)
          → b.motion ≡ followed P (glue_motion P r a.kind e b.address.kind f t) (placement P r a.digits)
      motions t small moves = λ i. record { turn = turns i; shift = shifts i }
        where
          both_moves : (z : K.carrier) → moved P (followed P (glue_motion P r a.kind e b.address.kind f t)
              (placement P r a.digits)) z ≡ moved P b.motion z
          both_moves z = moved-followed P W (glue_motion P r a.kind e b.address.kind f t) (placement P r a.digits) z ∙ moves z

          at_zero : (h : Motion K.carrier) → moved P h (K.int (pos 0)) ≡ h.shift
          at_zero h = ring K W.of_ring (power K P.zeta h.turn ∷ (h.shift ∷ [])) (var 0 ⊗ con (pos 0) ⊕ var 1) (var 1) refl

          at_one : (h : Motion K.carrier) → moved P h (K.int (pos 1)) ≡ K.add (power K P.zeta h.turn) h.shift
          at_one h = ring K W.of_ring (power K P.zeta h.turn ∷ (h.shift ∷ [])) (var 0 ⊗ con (pos 1) ⊕ var 1) (var 0 ⊕ var 1) refl

          shifts : b.motion.shift ≡ (followed P (glue_motion P r a.kind e b.address.kind f t) (placement P r a.digits)).shift
          shifts = sym (at_zero b.motion) ∙ sym (both_moves (K.int (pos 0)))
              ∙ at_zero (followed P (glue_motion P r a.kind e b.address.kind f t) (placement P r a.digits))

          powers : power K P.zeta b.motion.turn ≡ power K P.zeta
              (followed P (glue_motion P r a.kind e b.address.kind f t) (placement P r a.digits)).turn
          powers =
              ring K W.of_ring (power K P.zeta b.motion.turn ∷ (b.motion.shift ∷ [])) (var 0) ((var 0 ⊕ var 1) ⊖ var 1) refl
              ∙ ap₂ (difference K) (sym (at_one b.motion) ∙ sym (both_moves (K.int (pos 1)))
              ∙ at_one (followed P (glue_motion P r a.kind e b.address.kind f t)
              (placement P r a.digits))) shifts
              ∙ ring K W.of_ring (power K P.zeta (followed P (glue_motion P r a.kind e b.address.kind f t)
              (placement P r a.digits)).turn ∷ ((followed P (glue_motion P r a.kind e b.address.kind f t)
              (placement P r a.digits)).shift ∷ [])) ((var 0 ⊕ var 1) ⊖ var 1) (var 0) refl

          turns : b.motion.turn ≡ (followed P (glue_motion P r a.kind e b.address.kind f t) (placement P r a.digits)).turn
          turns = differ b.motion.turn _ small (mod-lt _ (some_order T)) powers
