-- What is still to be looked at from a level on.
use Rattle.std.proofs.Common.{◌≡◌, ◌↔◌, ℕ, zero, suc, ◌+◌, ◌<◌, ◌≤◌, Bool, true, false, cond, List, [], ◌∷◌, ◌++◌, find, None, Some, Option, Result, Ok, Err, IsOk, IfOk, IfErr, IsErrAnd, pos, refl, sym, ap, ◌∙◌, arith}
use Rattle.std.proofs.lemmas.Bool.{and_parts}
use Rattle.theory_ring.specs.Ring.{power}
use Rattle.theory_substitution.specs.Points.{Points}
use Rattle.theory_substitution.specs.Rule.{Rule}
use Rattle.theory_addresses.specs.Address.{Address, top_kind}
use Rattle.theory_addresses.specs.Search.{some_below}
use Rattle.theory_edge_to_edge.specs.Edition.{Edition}
use Rattle.theory_edge_to_edge.specs.Factor.{is_growing, is_inflation_factor}
use Rattle.theory_frames.specs.Frame.{at_level}
use Rattle.theory_frames.specs.Outline.{outline}
use Rattle.theory_frames.specs.Looked.{values_looked_at}
use Rattle.theory_frames.specs.Contain.{ancestor_motion, ancestor_holds, values_outward}
use Rattle.cyclo_points.specs.declared.order.Order.{Order}
use Rattle.cyclo_points.specs.declared.order.Order.TheVariants.{Four, Six, Eight, Ten}
use Rattle.cyclo_points.specs.Order.{points_of, is_refused}
use Rattle.tile_place.proofs.Holders.{find-front}
use Rattle.tile_place.proofs.Values.{find-append_found}

-- at a level whose power and shift were looked at: the vertices, and what comes after them
abbrev pub ahead : (P : Points) → Rule P.ring.carrier → Address → P.ring.carrier → ℕ → ℕ → List P.ring.carrier
ahead P r f p level most =
    outline P r (top_kind (at_level f level)) (power P.ring r.factor level) (ancestor_motion P r f level)
    ++ cond (ancestor_holds P r f level p) (values_looked_at P r (top_kind (at_level f level)) level
    (ancestor_motion P r f level) p) (values_outward P r f p (level + 1) most)

module _ (P : Points) (r : Rule P.ring.carrier) (f : Address) (p : P.ring.carrier) (test : P.ring.carrier → Bool) (level most : ℕ) where
  abbrev vertices : List P.ring.carrier
  vertices = outline P r (top_kind (at_level f level)) (power P.ring r.factor level) (ancestor_motion P r f level)

  abbrev next_two : List P.ring.carrier
  next_two = power P.ring r.factor (level + 1) ∷ ((ancestor_motion P r f (level + 1)).shift ∷ [])

  -- a vertex is refused
  pub vertex_refused : (v : P.ring.carrier) → find test vertices ≡ Some v → find test (ahead P r f p level most) ≡ Some v
  vertex_refused v e = find-append_found test vertices _ v e

  -- none is, and the ancestor holds the point
  pub held : find test vertices ≡ None → ancestor_holds P r f level p ≡ true
      → find test (ahead P r f p level most) ≡ find test (values_looked_at P r (top_kind (at_level f level)) level (ancestor_motion P r f level) p)
  held e h =
      find-front test vertices _ e
      ∙ ap (λ b. find test (cond b (values_looked_at P r (top_kind (at_level f level)) level
      (ancestor_motion P r f level) p) (values_outward P r f p (level + 1) most))) h

  -- none is, and it doesn't
  pub onward : find test vertices ≡ None → ancestor_holds P r f level p ≡ false
      → find test (ahead P r f p level most) ≡ find test (values_outward P r f p (level + 1) most)
  onward e h =
      find-front test vertices _ e
      ∙ ap (λ b. find test (cond b (values_looked_at P r (top_kind (at_level f level)) level
      (ancestor_motion P r f level) p) (values_outward P r f p (level + 1) most))) h

  -- the power or the shift of the next is refused, or neither
  pub next_refused : (rest : ℕ) (v : P.ring.carrier) → most ≡ suc rest → find test next_two ≡ Some v
      → find test (values_outward P r f p (level + 1) most) ≡ Some v
  next_refused rest v e g = ap (λ n. find test (values_outward P r f p (level + 1) n)) e
      ∙ find-append_found test next_two (ahead P r f p (level + 1) rest) v g

  pub next_passed : (rest : ℕ) → most ≡ suc rest → find test next_two ≡ None
      → find test (values_outward P r f p (level + 1) most) ≡ find test (ahead P r f p (level + 1) rest)
  next_passed rest e g = ap (λ n. find test (values_outward P r f p (level + 1) n)) e ∙ find-front test next_two (ahead P r f p (level + 1) rest) g

-- a test that fails at each number below a bound holds at none
none_below : (n : ℕ) (test : ℕ → Bool) → ((j : ℕ) → j < n → test j ≡ false) → some_below n test ≡ false
none_below zero test h = refl
none_below (suc n) test h = rw (none_below n test (λ j l. h j (omega arith))) (h n (omega arith))

-- a test that computes doesn't both pass and fail
passes-fails : (b : Bool) → b ≡ true → b ≡ false → ⊥
passes-fails true e f = cc (f)
passes-fails false e f = cc (e)

-- the powers of the factor up to 64 are not all within the limit
pub some_power_refused : (P : Points) (edition : Edition) (test : P.ring.carrier → Bool) (l : P.ring.carrier)
    → is_inflation_factor P edition test l ≡ true
    → ((j : ℕ) → j ≤ 64 → test (power P.ring l j) ≡ false) → ⊥
some_power_refused P edition test l e h =
    passes-fails (some_below 65 (λ n. test (power P.ring l n)))
    (and_parts (is_growing P edition l) (some_below 65 (λ n. test (power P.ring l n))) e).1
    (none_below 65 (λ n. test (power P.ring l n)) (λ j k. h j (omega (arith, k))))

-- an answer is Ok exactly where there is no refused value
pub exactly : {T E A : Type 0} (x : Result T E) (o : Option A) (v : E → A) → IfOk x (λ _. o ≡ None)
    → IfErr x (λ e. o ≡ Some (v e)) → IsOk x ↔ (o ≡ None)
exactly (Ok y) o v h k = (λ _. h, λ _. refl)
exactly (Err e) o v h k = (λ u. absurd (cc u), λ n. absurd (cc (sym n ∙ k)))

-- 0 is never refused
pub zero-unrefused : (o : Order) → is_refused o ((points_of o).ring.int (pos 0)) ≡ false
zero-unrefused Four = refl
zero-unrefused Six = refl
zero-unrefused Eight = refl
zero-unrefused Ten = refl

pub refused_exactly : {T E A : Type 0} (x : Result T E) (o : Option A) (e : E) (v : A) → IsErrAnd x (λ y. y ≡ e) → o ≡ Some v → IsOk x ↔ (o ≡ None)
refused_exactly (Ok y) o e v told k = absurd told
refused_exactly (Err y) o e v told k = (λ u. absurd (cc u), λ n. absurd (cc (sym n ∙ k)))
