-- The laws of sums of pairs, which are those of the rings of orders four and six; and variables for pairs in polynomials.
use Rattle.std.proofs.Common.{◌≡◌, ℤ, pos, ◌+ℤ◌, neg_ℤ, true, ◌&&◌, List, [], ◌∷◌, refl, ap₂, int_eq}
use Rattle.theory_ring.specs.Ring.{integers}
use Rattle.theory_ring.specs.Surd.{Pair}
use Rattle.theory_ring.proofs.Normaliser.{Expr, var, con, neg, exprs, ◌⊕◌}
use Rattle.cyclo_points.specs.Pairs.{add_pair, neg_pair, int_pair, same_pair}
use Rattle.cyclo_points.proofs.Identities.{pair_ring, pair_path, int_same, int_self}
use Rattle.std.proofs.lemmas.Bool.{and_parts as both}

-- three pairs of variables
abbrev pub P : Pair Expr
P = record { a = var 0; b = var 1 }

abbrev pub Q : Pair Expr
Q = record { a = var 2; b = var 3 }

abbrev pub S : Pair Expr
S = record { a = var 4; b = var 5 }

-- and their values
abbrev pub these : Pair ℤ → Pair ℤ → Pair ℤ → List ℤ
these p q s = p.a ∷ (p.b ∷ (q.a ∷ (q.b ∷ (s.a ∷ (s.b ∷ [])))))

-- a whole number that is an expression
abbrev pub whole : Expr → Pair Expr
whole e = record { a = e; b = con (pos 0) }

pub add_pair_assoc : (p q s : Pair ℤ) → add_pair integers (add_pair integers p q) s ≡ add_pair integers p (add_pair integers q s)
add_pair_assoc p q s = pair_ring (these p q s) (add_pair exprs (add_pair exprs P Q) S) (add_pair exprs P (add_pair exprs Q S)) refl

pub add_pair_comm : (p q : Pair ℤ) → add_pair integers p q ≡ add_pair integers q p
add_pair_comm p q = pair_ring (these p q q) (add_pair exprs P Q) (add_pair exprs Q P) refl

pub add_pair_zero : (p : Pair ℤ) → add_pair integers p (int_pair integers (pos 0)) ≡ p
add_pair_zero p = pair_ring (these p p p) (add_pair exprs P (int_pair exprs (pos 0))) P refl

pub add_pair_neg : (p : Pair ℤ) → add_pair integers p (neg_pair integers p) ≡ int_pair integers (pos 0)
add_pair_neg p = pair_ring (these p p p) (add_pair exprs P (neg_pair exprs P)) (int_pair exprs (pos 0)) refl

pub int_pair-add : (m n : ℤ) → int_pair integers (m +ℤ n) ≡ add_pair integers (int_pair integers m) (int_pair integers n)
int_pair-add m n = pair_ring (m ∷ (n ∷ [])) (whole (var 0 ⊕ var 1)) (add_pair exprs (whole (var 0)) (whole (var 1))) refl

pub int_pair-neg : (m : ℤ) → int_pair integers (neg_ℤ m) ≡ neg_pair integers (int_pair integers m)
int_pair-neg m = pair_ring (m ∷ []) (whole (neg (var 0))) (neg_pair exprs (whole (var 0))) refl

pub same_pair-is : (p q : Pair ℤ) → same_pair p q ≡ true → p ≡ q
same_pair-is p q e = let f : (int_eq p.a q.a ≡ true) × (int_eq p.b q.b ≡ true) = both _ _ e in pair_path p q (int_same _ _ f.0) (int_same _ _ f.1)

pub same_pair_self : (p : Pair ℤ) → same_pair p p ≡ true
same_pair_self p = ap₂ (λ u v. u && v) (int_self p.a) (int_self p.b)
