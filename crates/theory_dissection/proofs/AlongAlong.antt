-- What lies along a line that lies along a whole lies along the whole.
use Rattle.std.proofs.Common.{◌≡◌, ◌⊎◌, inl, inr, [], ◌∷◌, pos, negsuc, refl, sym, ap, ◌∙◌}
use Rattle.theory_ring.specs.Ring.{Ops, Laws}
use Rattle.theory_ring.specs.Sign.{Signed, OrderLaws, IsPositive, IsNonNegative}
use Rattle.theory_plane.specs.Plane.{PlanePoint}
use Rattle.theory_plane.specs.Segment.{Between}
use Rattle.theory_ring.proofs.Normaliser.{Expr, var, con, neg, ring, ring_from, ◌⊕◌, ◌⊖◌, ◌⊗◌}
use Rattle.theory_ring.proofs.Signs.{nonneg_cases, nonneg_add, nonneg_mul, pos_nonneg}
use Rattle.theory_plane.proofs.Inside.{both_zero}
use Rattle.theory_plane.proofs.Linear.{cancel}
use Rattle.theory_plane.proofs.OnSegment.{between-on_segment, on_segment-between}
use Rattle.theory_substitution.specs.Points.{Points, PointLaws}
use Rattle.theory_substitution.specs.Plane.{plane_point}
use Rattle.theory_edge_to_edge.specs.Edges.{Edge}
use Rattle.theory_substitution.proofs.Betweenness.{between-trans}
use Rattle.theory_dissection.proofs.Injective.{Along, between-start}

module _ (S : Signed) (L : Laws S.ops) (O : OrderLaws S) where
  abbrev R : Ops
  R = S.ops

  abbrev zero_of : R.carrier
  zero_of = R.int (pos 0)

  module _ (c b a v : PlanePoint R.carrier) (h : Between S c b a) (g : Between S a b v) where
    abbrev I : Expr
    I = var 0

    abbrev J : Expr
    J = var 1

    abbrev K : Expr
    K = var 2

    abbrev M : Expr
    M = var 3

    -- a between c and b, and v between a and b: v is between c and b
    pub between-further : Between S c b v
    between-further = record {
      i = R.mul g.i h.i;
      j = R.add (R.mul g.i h.j) (R.mul g.j (R.add h.i h.j));
      i_nonneg = nonneg_mul S L O _ _ g.i_nonneg h.i_nonneg;
      j_nonneg = nonneg_add S L O _ _ (nonneg_mul S L O _ _ g.i_nonneg h.j_nonneg) (nonneg_mul S L O _ _ g.j_nonneg (pos_nonneg S L O _ h.some));
      some = ap S.sign (ring R L (h.i ∷ (h.j ∷ (g.i ∷ (g.j ∷ [])))) (K ⊗ I ⊕ (K ⊗ J ⊕ M ⊗ (I ⊕ J)))
          ((K ⊕ M) ⊗ (I ⊕ J)) refl) ∙ O.sign-mul _ _ g.some h.some;
      at_x = one_way c.x b.x a.x v.x h.at_x g.at_x;
      at_y = one_way c.y b.y a.y v.y h.at_y g.at_y;
    }
      where
        one_way : (c b a v : R.carrier) → R.mul (R.add h.i h.j) a ≡ R.add (R.mul h.i c) (R.mul h.j b)
            → R.mul (R.add g.i g.j) v ≡ R.add (R.mul g.i a) (R.mul g.j b)
            → R.mul (R.add (R.mul g.i h.i) (R.add (R.mul g.i h.j) (R.mul g.j (R.add h.i h.j)))) v ≡ R.add
            (R.mul (R.mul g.i h.i) c) (R.mul (R.add (R.mul g.i h.j) (R.mul g.j (R.add h.i h.j))) b)
        one_way c b a v e f =
            ring_from R L (h.i ∷ (h.j ∷ (g.i ∷ (g.j ∷ (c ∷ (b ∷ (a ∷ (v ∷ []))))))))
            ((K ⊗ I ⊕ (K ⊗ J ⊕ M ⊗ (I ⊕ J))) ⊗ var 7) ((K ⊗ I) ⊗ var 4 ⊕ (K ⊗ J ⊕ M ⊗ (I ⊕ J)) ⊗ var 5)
            ((I ⊕ J, (K ⊕ M) ⊗ var 7, K ⊗ var 6 ⊕ M ⊗ var 5) ∷ ((K, (I ⊕ J) ⊗ var 6, I ⊗ var 4 ⊕ J ⊗ var 5) ∷ [])) (f, (e, tt)) refl

    abbrev left_weight : R.carrier
    left_weight = R.mul g.j h.i

    abbrev right_weight : R.carrier
    right_weight = R.mul h.j (R.add g.i g.j)

    left_nonneg : IsNonNegative S left_weight
    left_nonneg = nonneg_mul S L O _ _ g.j_nonneg h.i_nonneg

    right_nonneg : IsNonNegative S right_weight
    right_nonneg = nonneg_mul S L O _ _ h.j_nonneg (pos_nonneg S L O _ g.some)

    -- and a is between c and v
    pub between-before : Between S c v a
    between-before = at_case (nonneg_cases S L O _ (nonneg_add S L O _ _ left_nonneg right_nonneg))
      where
        one_way : (c b a v : R.carrier) → R.mul (R.add h.i h.j) a ≡ R.add (R.mul h.i c) (R.mul h.j b)
            → R.mul (R.add g.i g.j) v ≡ R.add (R.mul g.i a) (R.mul g.j b)
            → R.mul (R.add left_weight right_weight) a ≡ R.add (R.mul left_weight c) (R.mul right_weight v)
        one_way c b a v e f =
            ring_from R L (h.i ∷ (h.j ∷ (g.i ∷ (g.j ∷ (c ∷ (b ∷ (a ∷ (v ∷ []))))))))
            ((M ⊗ I ⊕ J ⊗ (K ⊕ M)) ⊗ var 6) ((M ⊗ I) ⊗ var 4 ⊕ (J ⊗ (K ⊕ M)) ⊗ var 7)
            ((neg J, (K ⊕ M) ⊗ var 7, K ⊗ var 6 ⊕ M ⊗ var 5) ∷ ((M, (I ⊕ J) ⊗ var 6, I ⊗ var 4 ⊕ J ⊗ var 5) ∷ [])) (f, (e, tt)) refl

        -- no weight: a is c
        at_start : h.j ≡ zero_of → (c b a : R.carrier) → R.mul (R.add h.i h.j) a ≡ R.add (R.mul h.i c) (R.mul h.j b) → c ≡ a
        at_start k c b a e =
            cancel S L O (R.add h.i h.j) c a h.some
            (ring_from R L (h.i ∷ (h.j ∷ (c ∷ (b ∷ (a ∷ []))))) ((var 0 ⊕ var 1) ⊗ (var 2 ⊖ var 4)) (con (pos 0))
            ((con (negsuc 0), (var 0 ⊕ var 1) ⊗ var 4, var 0 ⊗ var 2 ⊕ var 1 ⊗ var 3) ∷ ((var 2 ⊖ var 3, var 1, con (pos 0)) ∷ [])) (e, (k, tt)) refl)

        no_right : right_weight ≡ zero_of → h.j ≡ zero_of
        no_right e =
            cancel S L O (R.add g.i g.j) h.j zero_of g.some
            (ring_from R L (h.j ∷ (R.add g.i g.j ∷ [])) (var 1 ⊗ (var 0 ⊖ con (pos 0))) (con (pos 0))
            ((con (pos 1), var 0 ⊗ var 1, con (pos 0)) ∷ []) (e, tt) refl)

        at_case : IsPositive S (R.add left_weight right_weight) ⊎ (R.add left_weight right_weight ≡ zero_of) → Between S c v a
        at_case (inl p) = record {
          i = left_weight;
          j = right_weight;
          i_nonneg = left_nonneg;
          j_nonneg = right_nonneg;
          some = p;
          at_x = one_way c.x b.x a.x v.x h.at_x g.at_x;
          at_y = one_way c.y b.y a.y v.y h.at_y g.at_y;
        }
        at_case (inr e) =
            let k = no_right (both_zero S L O _ _ left_nonneg right_nonneg e).1 in
            let s = between-start S L O c v in
            record {
              i = s.i;
              j = s.j;
              i_nonneg = s.i_nonneg;
              j_nonneg = s.j_nonneg;
              some = s.some;
              at_x = ap (R.mul (R.add s.i s.j)) (sym (at_start k c.x b.x a.x h.at_x)) ∙ s.at_x;
              at_y = ap (R.mul (R.add s.i s.j)) (sym (at_start k c.y b.y a.y h.at_y)) ∙ s.at_y;
            }

module _ (P : Points) (W : PointLaws P) where
  pub Along-trans : (whole middle e : Edge P.ring.carrier) → Along P W whole middle → Along P W middle e → Along P W whole e
  Along-trans whole middle e h g =
      let c = plane_point P whole.from in
      let d = plane_point P whole.to in
      let a = plane_point P middle.from in
      let b = plane_point P middle.to in
      let u = plane_point P e.from in
      let v = plane_point P e.to in
      let cdb = between-on_segment P.real W.of_real W.of_order c d b h.end_on in
      let cba = between-on_segment P.real W.of_real W.of_order c b a h.start_on in
      let abv = between-on_segment P.real W.of_real W.of_order a b v g.end_on in
      let avu = between-on_segment P.real W.of_real W.of_order a v u g.start_on in
      let cbv = between-further P.real W.of_real W.of_order c b a v cba abv in
      let cva = between-before P.real W.of_real W.of_order c b a v cba abv in
      record {
        ends_differ = g.ends_differ;
        end_on = on_segment-between P.real W.of_real W.of_order c d v (between-trans P.real W.of_real W.of_order c b v cbv d cdb);
        start_on = on_segment-between P.real W.of_real W.of_order c v u (between-further P.real W.of_real W.of_order c v a u cva avu);
      }
