-- The laws of sums of quadruples, which are those of the rings of orders eight and ten; and variables for quadruples in polynomials.
use Rattle.std.proofs.Common.{◌≡◌, ℤ, pos, ◌+ℤ◌, neg_ℤ, true, ◌&&◌, List, [], ◌∷◌, refl, ap₂, int_eq}
use Rattle.theory_ring.specs.Ring.{integers}
use Rattle.theory_ring.proofs.Normaliser.{Expr, var, con, neg, exprs, ◌⊕◌}
use Rattle.cyclo_points.specs.Quad.{Quad, add_quad, neg_quad, int_quad, same_quad}
use Rattle.cyclo_points.proofs.Identities.{quad_ring, quad_path, int_same, int_self}
use Rattle.std.proofs.lemmas.Bool.{and_parts as both}

-- three quadruples of variables
abbrev pub P : Quad Expr
P = record { a0 = var 0; a1 = var 1; a2 = var 2; a3 = var 3 }

abbrev pub Q : Quad Expr
Q = record { a0 = var 4; a1 = var 5; a2 = var 6; a3 = var 7 }

abbrev pub S : Quad Expr
S = record { a0 = var 8; a1 = var 9; a2 = var 10; a3 = var 11 }

-- and their values
abbrev pub these : Quad ℤ → Quad ℤ → Quad ℤ → List ℤ
these p q s = p.a0 ∷ (p.a1 ∷ (p.a2 ∷ (p.a3 ∷ (q.a0 ∷ (q.a1 ∷ (q.a2 ∷ (q.a3 ∷ (s.a0 ∷ (s.a1 ∷ (s.a2 ∷ (s.a3 ∷ [])))))))))))

-- a whole number that is an expression
abbrev pub whole : Expr → Quad Expr
whole e = record { a0 = e; a1 = con (pos 0); a2 = con (pos 0); a3 = con (pos 0) }

pub add_quad_assoc : (p q s : Quad ℤ) → add_quad integers (add_quad integers p q) s ≡ add_quad integers p (add_quad integers q s)
add_quad_assoc p q s = quad_ring (these p q s) (add_quad exprs (add_quad exprs P Q) S) (add_quad exprs P (add_quad exprs Q S)) refl

pub add_quad_comm : (p q : Quad ℤ) → add_quad integers p q ≡ add_quad integers q p
add_quad_comm p q = quad_ring (these p q q) (add_quad exprs P Q) (add_quad exprs Q P) refl

pub add_quad_zero : (p : Quad ℤ) → add_quad integers p (int_quad integers (pos 0)) ≡ p
add_quad_zero p = quad_ring (these p p p) (add_quad exprs P (int_quad exprs (pos 0))) P refl

pub add_quad_neg : (p : Quad ℤ) → add_quad integers p (neg_quad integers p) ≡ int_quad integers (pos 0)
add_quad_neg p = quad_ring (these p p p) (add_quad exprs P (neg_quad exprs P)) (int_quad exprs (pos 0)) refl

pub int_quad-add : (m n : ℤ) → int_quad integers (m +ℤ n) ≡ add_quad integers (int_quad integers m) (int_quad integers n)
int_quad-add m n = quad_ring (m ∷ (n ∷ [])) (whole (var 0 ⊕ var 1)) (add_quad exprs (whole (var 0)) (whole (var 1))) refl

pub int_quad-neg : (m : ℤ) → int_quad integers (neg_ℤ m) ≡ neg_quad integers (int_quad integers m)
int_quad-neg m = quad_ring (m ∷ []) (whole (neg (var 0))) (neg_quad exprs (whole (var 0))) refl

pub same_quad-is : (p q : Quad ℤ) → same_quad p q ≡ true → p ≡ q
same_quad-is p q e =
    let h : (int_eq p.a0 q.a0 && int_eq p.a1 q.a1 && int_eq p.a2 q.a2 ≡ true) × (int_eq p.a3 q.a3 ≡ true) = both _ _ e in
    let g : (int_eq p.a0 q.a0 && int_eq p.a1 q.a1 ≡ true) × (int_eq p.a2 q.a2 ≡ true) = both _ _ h.0 in
    let f : (int_eq p.a0 q.a0 ≡ true) × (int_eq p.a1 q.a1 ≡ true) = both _ _ g.0 in
    quad_path p q (int_same _ _ f.0) (int_same _ _ f.1) (int_same _ _ g.1) (int_same _ _ h.1)

pub same_quad_self : (p : Quad ℤ) → same_quad p p ≡ true
same_quad_self p = ap₂ (λ a b. a && b) (ap₂ (λ a b. a && b) (ap₂ (λ a b. a && b) (int_self p.a0) (int_self p.a1)) (int_self p.a2)) (int_self p.a3)
