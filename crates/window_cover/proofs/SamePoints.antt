-- Two edges of an order have the same ends exactly where they have the same points.
use Rattle.std.proofs.Common.{◌≡◌, ◌^◌, ℤ, pos, true, sym, ap, ap₂, ◌∙◌}
use Rattle.std.specs.Bool.{Decides}
use Rattle.theory_ring.specs.Surd.{Pair}
use Rattle.cyclo_points.specs.Quad.{Quad}
use Rattle.cyclo_points.specs.declared.order.Order.{Order}
use Rattle.cyclo_points.specs.declared.order.Order.TheVariants.{Four, Six, Eight, Ten}
use Rattle.cyclo_points.specs.declared.point.Point.{Point}
use Rattle.cyclo_points.specs.Point.{IsWithin, IsOf, coefficient, quad_of, pair_of, point_in}
use Rattle.cyclo_points.proofs.SamePoints.{point_in-exact}
use Rattle.window_cover.specs.declared.ends.Ends.{Ends}
use Rattle.window_cover.specs.Border.{have_same_ends}
use Rattle.window_cover.specs.Packed.{word_of, ends_of}
use Rattle.window_cover.proofs.SameEnds.{have_same_ends-refl, have_same_ends-exact}
use Rattle.window_cover.proofs.Unpacked.{quad, ends_of-exact}

-- a point of the order, with coefficients within 2^25
abbrev pub IsShortIn : Order → Point → Type 0
IsShortIn o p = IsOf o p × IsWithin (2 ^ 25) p

abbrev pack : Quad ℤ → Quad ℤ → Ends
pack s e = record { start_low = word_of s.a0 s.a1; start_high = word_of s.a2 s.a3; end_low = word_of e.a0 e.a1; end_high = word_of e.a2 e.a3 }

from_pair : (p q : Point) → (coefficient p 2 ≡ pos 0) × (coefficient p 3 ≡ pos 0) → (coefficient q 2 ≡ pos 0)
    × (coefficient q 3 ≡ pos 0) → pair_of p ≡ pair_of q → quad_of p ≡ quad_of q
from_pair p q f g e =
    ap (λ (z : Pair ℤ). quad z.a z.b (coefficient p 2) (coefficient p 3)) e
    ∙ ap₂ (λ (c d : ℤ). quad (coefficient q 0) (coefficient q 1) c d) (f.0 ∙ sym g.0) (f.1 ∙ sym g.1)

-- where the points are of the order, also the other way round
pub quad_of-exact : (o : Order) (p q : Point) → IsOf o p → IsOf o q → point_in o p ≡ point_in o q → quad_of p ≡ quad_of q
quad_of-exact Four p q f g e = from_pair p q f g e
quad_of-exact Six p q f g e = from_pair p q f g e
quad_of-exact Eight p q f g e = e
quad_of-exact Ten p q f g e = e

pub have_same_ends-points : (o : Order) (s e t f : Point) → IsShortIn o s → IsShortIn o e → IsShortIn o t → IsShortIn o f
    → Decides (have_same_ends (ends_of s e) (ends_of t f)) ((point_in o s ≡ point_in o t) × (point_in o e ≡ point_in o f))
have_same_ends-points o s e t f a b c d = (exact, same)
  where
    exact : have_same_ends (ends_of s e) (ends_of t f) ≡ true → (point_in o s ≡ point_in o t) × (point_in o e ≡ point_in o f)
    exact h =
        let q = ends_of-exact s e t f a.1 b.1 c.1 d.1 (have_same_ends-exact (ends_of s e) (ends_of t f) h) in
        (point_in-exact o s t q.0, point_in-exact o e f q.1)

    same : (point_in o s ≡ point_in o t) × (point_in o e ≡ point_in o f) → have_same_ends (ends_of s e) (ends_of t f) ≡ true
    same h =
        let one : ends_of s e ≡ ends_of t f = ap₂ pack (quad_of-exact o s t a.0 c.0 h.0) (quad_of-exact o e f b.0 d.0 h.1) in
        ap (have_same_ends (ends_of s e)) (sym one) ∙ have_same_ends-refl (ends_of s e)
