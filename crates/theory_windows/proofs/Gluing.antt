-- The count of two polygons glued along an edge.
use Rattle.std.proofs.Common.{◌≡◌, List, [], ◌∷◌, ◌++◌, ℤ, ◌+ℤ◌, neg_ℤ, refl, sym, ap, ap₂, ◌∙◌, arith}
use Rattle.std.proofs.lemmas.Int.{ints}
use Rattle.std.proofs.lemmas.List.{append-nil}
use Rattle.theory_ring.specs.Ring.{Laws}
use Rattle.theory_ring.specs.Sign.{Signed, OrderLaws}
use Rattle.theory_plane.specs.Plane.{PlanePoint, TestPoint}
use Rattle.theory_plane.specs.Crossing.{crossing, count_from, count}
use Rattle.theory_plane.proofs.Crossing.{crossing-turned}
use Rattle.theory_dissection.proofs.Sums.{regroup}
use Rattle.theory_windows.specs.Gluing.{Rotation, Gluing}

swapped : (x y : ℤ) → x +ℤ y ≡ y +ℤ x
swapped x y = omega (arith, ints)

both_ways : (x y c d : ℤ) → d ≡ neg_ℤ c → x +ℤ y ≡ (x +ℤ c) +ℤ (y +ℤ d)
both_ways x y c d e = omega (arith, ints)

module _ (S : Signed) where
  -- a way over the vertex a is the way to it and the way from it
  over : (p : TestPoint S.ops.carrier) (first cur a : PlanePoint S.ops.carrier) (vs ws : List (PlanePoint S.ops.carrier))
      → count_from S p first cur (vs ++ a ∷ ws) ≡ count_from S p a cur vs +ℤ count_from S p first a ws
  over p first cur a [] ws = refl
  over p first cur a (v ∷ vs) ws = ap (λ z. crossing S cur v p +ℤ z) (over p first v a vs ws)
      ∙ regroup (crossing S cur v p) (count_from S p a v vs) (count_from S p first a ws)

  pub rotation : Rotation S
  rotation [] ws p = ap (λ l. count S l p) (sym (append-nil ws))
  rotation (v ∷ vs) [] p = ap (λ l. count S l p) (append-nil (v ∷ vs))
  rotation (v ∷ vs) (w ∷ ws) p = over p v v w vs ws ∙ swapped (count_from S p w v vs) (count_from S p v w ws) ∙ sym (over p w w v ws vs)

  pub gluing : Laws S.ops → OrderLaws S → Gluing S
  gluing L O a b vs ws p =
      over p b b a vs ws
      ∙ both_ways (count_from S p a b vs) (count_from S p b a ws) (crossing S a b p) (crossing S b a p) (crossing-turned S L O a b p)
      ∙ sym (ap₂ (λ x y. x +ℤ y) (over p b b a vs []) (over p a a b ws []))
