-- Equations of pairs and of quadruples, coefficient by coefficient: from equations of whole numbers, and from identities of polynomials.
use Rattle.std.proofs.Common.{◌≡◌, ℤ, Bool, true, ◌&&◌, List, refl, ◌+ℤ◌, int_eq, arith}
use Rattle.std.proofs.lemmas.Int.{ints}
use Rattle.std.proofs.lemmas.Bool.Decides.{Decides-int_eq}
use Rattle.theory_ring.specs.Ring.{integers}
use Rattle.theory_ring.specs.Surd.{Pair}
use Rattle.theory_ring.proofs.Normaliser.{Expr, eval, agree, ring}
use Rattle.theory_ring.proofs.Integers.{integers_laws}
use Rattle.cyclo_points.specs.Quad.{Quad}
use Rattle.std.proofs.lemmas.Bool.{and_parts as both}

pub quad_path : (p q : Quad ℤ) → p.a0 ≡ q.a0 → p.a1 ≡ q.a1 → p.a2 ≡ q.a2 → p.a3 ≡ q.a3 → p ≡ q
quad_path p q e f g h = λ i. record { a0 = e i; a1 = f i; a2 = g i; a3 = h i }

pub pair_path : (p q : Pair ℤ) → p.a ≡ q.a → p.b ≡ q.b → p ≡ q
pair_path p q e f = λ i. record { a = e i; b = f i }

-- ---- identities of polynomials
abbrev pub agree_pair : Pair Expr → Pair Expr → Bool
agree_pair e f = agree e.a f.a && agree e.b f.b

abbrev pub agree_quad : Quad Expr → Quad Expr → Bool
agree_quad e f = agree e.a0 f.a0 && agree e.a1 f.a1 && agree e.a2 f.a2 && agree e.a3 f.a3

module _ (xs : List ℤ) where
  abbrev pub pair_at : Pair Expr → Pair ℤ
  pair_at e = record { a = eval integers xs e.a; b = eval integers xs e.b }

  abbrev pub quad_at : Quad Expr → Quad ℤ
  quad_at e = record { a0 = eval integers xs e.a0; a1 = eval integers xs e.a1; a2 = eval integers xs e.a2; a3 = eval integers xs e.a3 }

  pub pair_ring : (e f : Pair Expr) → agree_pair e f ≡ true → pair_at e ≡ pair_at f
  pair_ring e f h =
      let g : (agree e.a f.a ≡ true) × (agree e.b f.b ≡ true) = both _ _ h in
      pair_path (pair_at e) (pair_at f) (ring integers integers_laws xs e.a f.a g.0) (ring integers integers_laws xs e.b f.b g.1)

  pub quad_ring : (e f : Quad Expr) → agree_quad e f ≡ true → quad_at e ≡ quad_at f
  quad_ring e f h =
      let k : (agree e.a0 f.a0 && agree e.a1 f.a1 && agree e.a2 f.a2 ≡ true) × (agree e.a3 f.a3 ≡ true) = both _ _ h in
      let j : (agree e.a0 f.a0 && agree e.a1 f.a1 ≡ true) × (agree e.a2 f.a2 ≡ true) = both _ _ k.0 in
      let i : (agree e.a0 f.a0 ≡ true) × (agree e.a1 f.a1 ≡ true) = both _ _ j.0 in
      quad_path (quad_at e) (quad_at f)
      (ring integers integers_laws xs e.a0 f.a0 i.0) (ring integers integers_laws xs e.a1 f.a1 i.1)
      (ring integers integers_laws xs e.a2 f.a2 j.1) (ring integers integers_laws xs e.a3 f.a3 k.1)

-- ---- numbers
pub int_same : (x y : ℤ) → int_eq x y ≡ true → x ≡ y
int_same x y e = (Decides-int_eq x y).0 e

pub int_self : (x : ℤ) → int_eq x x ≡ true
int_self x = (Decides-int_eq x x).1 refl

pub same_doubles : (x y : ℤ) → x +ℤ x ≡ y +ℤ y → x ≡ y
same_doubles x y e = omega (arith, ints)
