-- The mate of a glue type is one too, and neither is its own mate.
use Rattle.std.proofs.Common.{◌≡◌, ◌⊎◌, inl, inr, ℕ, ◌<◌, true, not, ◌||◌, length, sym, ap, ◌∙◌, subst}
use Rattle.std.specs.Prelude.{nat_eq}
use Rattle.std.proofs.lemmas.Bool.{and_parts, eqb-true, not-true, false≢true}
use Rattle.std.proofs.lemmas.Bool.Decides.{Decides-eqb}
use Rattle.theory_addresses.proofs.BoolLoops.{some_below-found}
use Rattle.theory_substitution.specs.Rule.{Rule}
use Rattle.theory_substitution.specs.RuleParts.{mate, edge_count, edge_type}
use Rattle.theory_edge_to_edge.specs.Glue.{glue_type, holders, are_halves}
use Rattle.theory_edge_to_edge.specs.EdgeToEdge.{HasRightGlue, MatesBack}
use Rattle.rule_model.specs.Glue.{is_glued, IsGlueEdge}
use Rattle.rule_model.proofs.Glue.{either, one_of, one_glue_edge}
use Rattle.rule_model.proofs.Searches.{found}

module _ {A : Type 0} (r : Rule A) (right : HasRightGlue r) (mates : MatesBack r)
    (glue_in : (i : ℕ) → i < length r.glue → glue_type r i < length r.types) where
  -- the type is glue type number i, or its mate
  record Is (ty i : ℕ) : Type 0 where
    below : i < length r.glue
    is : (ty ≡ glue_type r i) ⊎ (ty ≡ mate r (glue_type r i))

  glued : (ty : ℕ) → is_glued r ty ≡ true → (i : ℕ) × Is ty i
  glued ty g =
      let f = found (λ i. nat_eq ty (glue_type r i) || nat_eq ty (mate r (glue_type r i))) (length r.glue) g in
      (f.at, record { below = f.below; is = one_of (glue_type r f.at) (mate r (glue_type r f.at)) ty f.passes })

  back : (i : ℕ) → i < length r.glue → mate r (mate r (glue_type r i)) ≡ glue_type r i
  back i l = eqb-true (mate r (mate r (glue_type r i))) (glue_type r i) (mates (glue_type r i) (glue_in i l))

  mate-is : (ty i : ℕ) → Is ty i → Is (mate r ty) i
  mate-is ty i h = record { below = h.below; is = elim h.is [ inl e ↦ inr (ap (mate r) e) | inr e ↦ inl (ap (mate r) e ∙ back i h.below) ] }

  pub mate-glued : (ty : ℕ) → is_glued r ty ≡ true → is_glued r (mate r ty) ≡ true
  mate-glued ty g =
      let f = glued ty g in
      let h = mate-is ty f.0 f.1 in
      some_below-found (λ i. nat_eq (mate r ty) (glue_type r i)
      || nat_eq (mate r ty) (mate r (glue_type r i))) f.0 (length r.glue)
      (either (glue_type r f.0) (mate r (glue_type r f.0)) (mate r ty) h.is) h.below

  apart : (i : ℕ) → i < length r.glue → mate r (glue_type r i) ≡ glue_type r i → ⊥
  apart i l e =
      let both = and_parts (not (nat_eq (mate r (glue_type r i)) (glue_type r i)))
      (are_halves r i (holders r (glue_type r i)) (holders r (mate r (glue_type r i)))) (right i l) in
      false≢true (sym (not-true _ both.0) ∙ (Decides-eqb (mate r (glue_type r i)) (glue_type r i)).1 e)

  not-own : (ty : ℕ) → is_glued r ty ≡ true → mate r ty ≡ ty → ⊥
  not-own ty g e =
      let f = glued ty g in
      elim f.1.is [
        | inl h ↦ apart f.0 f.1.below (ap (mate r) (sym h) ∙ e ∙ h)
        | inr h ↦ apart f.0 f.1.below (sym h ∙ sym e ∙ ap (mate r) h ∙ back f.0 f.1.below)
      ]

  -- across from a glue edge is a glue edge, of another kind
  pub record OtherEdge (k e l f : ℕ) : Type 0 where
    pub glue_edge : IsGlueEdge r l f
    pub other_kind : l ≡ k → ⊥

  pub other-edge : (k e l f : ℕ) → k < length r.kinds → IsGlueEdge r k e → f < edge_count r l
      → edge_type r l f ≡ mate r (edge_type r k e) → OtherEdge k e l f
  other-edge k e l f exists g below is = record { glue_edge = there; other_kind = differ }
    where
      there : IsGlueEdge r l f
      there = record { exists = below; glued = ap (is_glued r) is ∙ mate-glued (edge_type r k e) g.glued }

      differ : l ≡ k → ⊥
      differ same =
          let one : f ≡ e = one_glue_edge r right k exists e f g (subst (λ n. IsGlueEdge r n f) same there) in
          not-own (edge_type r k e) g.glued (sym is ∙ (λ i. edge_type r (same i) (one i)))
