-- Edges whose types are mates are equally long.
use Rattle.std.proofs.Common.{◌≡◌, inl, inr, ℕ, zero, suc, ◌<◌, pos, Bool, true, false, not, ◌||◌, [], ◌∷◌, length, nat_eq, Option, Some, None, refl, sym, ap, ◌∙◌, eqb-true, arith}
use Rattle.std.proofs.lemmas.Bool.{cases_lt, eq-eqb}
use Rattle.theory_ring.specs.Ring.{Ops, difference}
use Rattle.theory_ring.proofs.Normaliser.{var, con, ring_from, ◌⊖◌}
use Rattle.theory_ring.proofs.Booleans.{is_equal}
use Rattle.theory_substitution.specs.Points.{Points, PointLaws}
use Rattle.theory_substitution.specs.Plane.{twice_squared_length, same_length}
use Rattle.theory_substitution.specs.Rule.{Rule}
use Rattle.theory_substitution.specs.RuleParts.{mate, edge_count, edge_type}
use Rattle.theory_addresses.specs.Search.{unless, or_else, first_below}
use Rattle.theory_edge_to_edge.specs.EdgeTypes.{edge_vector, vector_if, first_vector, is_as_long}
use Rattle.theory_edge_to_edge.specs.EdgeToEdge.{MatesBack, HasEqualLengths}

-- a search that finds nothing has nothing to find
or_else-none : {F : Type 0} (a b : Option F) → or_else a b ≡ None → (a ≡ None) × (b ≡ None)
or_else-none (Some x) b h = absurd cc
or_else-none None b h = (refl, h)

first_below-none : {F : Type 0} (f : ℕ → Option F) (n k : ℕ) → first_below f n ≡ None → k < n → f k ≡ None
first_below-none f zero k h r = absurd (omega arith)
first_below-none f (suc n) k h r =
    let both = or_else-none (first_below f n) (f n) h in
    elim (cases_lt k n) [ inl lt ↦ first_below-none f n k both.0 lt | inr ge ↦ let last : k ≡ n = omega arith in ap f last ∙ both.1 ]

either_order : (a b : Bool) → a || b ≡ b || a
either_order true true = refl
either_order true false = refl
either_order false true = refl
either_order false false = refl

module _ (P : Points) (W : PointLaws P) (r : Rule P.ring.carrier) (back : MatesBack r) (equal : HasEqualLengths P r) where
  abbrev A : Type 0
  A = P.ring.carrier

  abbrev V : Ops
  V = P.real.ops

  abbrev norm : A → V.carrier
  norm = twice_squared_length P

  same_norm : (d e : A) → same_length P d e ≡ true → norm d ≡ norm e
  same_norm d e h =
      let gone = W.of_order.equal_zero (difference V (norm d) (norm e)) (is_equal _ h) in
      ring_from V W.of_real (norm d ∷ (norm e ∷ [])) (var 0) (var 1) ((con (pos 1), var 0 ⊖ var 1, con (pos 0)) ∷ []) (gone, tt) refl

  -- the first edge of a type or its mate is that of the mate or its mate
  vector_of_mate : (ty k e : ℕ) → mate r (mate r ty) ≡ ty → vector_if P r (mate r ty) k e ≡ vector_if P r ty k e
  vector_of_mate ty k e h =
      ap (λ b. unless (not b) (edge_vector P r k e))
      (ap (λ u. nat_eq (edge_type r k e) (mate r ty) || nat_eq (edge_type r k e) u) h
      ∙ either_order (nat_eq (edge_type r k e) (mate r ty)) (nat_eq (edge_type r k e) ty))

  first_of_mate : (ty : ℕ) → mate r (mate r ty) ≡ ty → first_vector P r (mate r ty) ≡ first_vector P r ty
  first_of_mate ty h = λ i. first_below (λ k. first_below (λ e. vector_of_mate ty k e h i) (edge_count r k)) (length r.kinds)

  -- there is a first edge, and this one is as long
  as_long : (k e : ℕ) → k < length r.kinds → e < edge_count r k → (o : Option A)
      → first_vector P r (edge_type r k e) ≡ o → (v : A) × (first_vector P r (edge_type r k e) ≡ Some v)
      × (norm (edge_vector P r k e) ≡ norm v)
  as_long k e hk he None is =
      let at_kind = first_below-none (λ k'. first_below (vector_if P r (edge_type r k e) k') (edge_count r k')) (length r.kinds) k is hk in
      let at_edge = first_below-none (vector_if P r (edge_type r k e) k) (edge_count r k) e at_kind he in
      let own = ap (λ b. unless (not (b || nat_eq (edge_type r k e) (mate r (edge_type r k e))))
      (edge_vector P r k e)) (eq-eqb (edge_type r k e) (edge_type r k e) refl) in
      let two : Some (edge_vector P r k e) ≡ None = sym own ∙ at_edge in
      absurd cc
  as_long k e hk he (Some v) is = (v, is, same_norm (edge_vector P r k e) v (ap (is_as_long P (edge_vector P r k e)) (sym is) ∙ equal k e hk he))

  pub mates-as_long : (k e l f : ℕ) → k < length r.kinds → e < edge_count r k → l < length r.kinds
      → f < edge_count r l → edge_type r k e < length r.types
      → edge_type r l f ≡ mate r (edge_type r k e) → norm (edge_vector P r k e) ≡ norm (edge_vector P r l f)
  mates-as_long k e l f hk he hl hf ht is =
      let a = as_long k e hk he (first_vector P r (edge_type r k e)) refl in
      let b = as_long l f hl hf (first_vector P r (edge_type r l f)) refl in
      let again : mate r (mate r (edge_type r k e)) ≡ edge_type r k e = eqb-true _ _ (back (edge_type r k e) ht) in
      let one : first_vector P r (edge_type r l f) ≡ first_vector P r (edge_type r k e) = ap
      (first_vector P r) is ∙ first_of_mate (edge_type r k e) again in
      let two : Some a.0 ≡ Some b.0 = sym a.1 ∙ sym one ∙ b.1 in
      let same : a.0 ≡ b.0 = cc in
      a.2 ∙ ap norm same ∙ sym b.2
