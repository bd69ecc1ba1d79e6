-- Across a glue edge lies the other half, and from there one comes back by its glue edge.
use Rattle.std.proofs.Common.{inl, inr, ℕ, ◌<◌, IsSome, length, refl, sym, ap, ◌∙◌, subst}
use Rattle.std.proofs.lemmas.List.{length-map}
use Rattle.theory_addresses.specs.Address.{Address, Fits}
use Rattle.theory_addresses.specs.Coherent.{IsCoherent}
use Rattle.theory_addresses.specs.Tables.{child_kinds, type_of}
use Rattle.theory_addresses.specs.Touch.{Touches}
use Rattle.theory_addresses.proofs.Mated.{IsMated}
use Rattle.theory_addresses.proofs.Touching.{only_touching, Touches-sym, IsMated-of}
use Rattle.theory_substitution.specs.Points.{Points}
use Rattle.theory_substitution.specs.RuleParts.{mate}
use Rattle.theory_edge_to_edge.proofs.CoherentContacts.{contacts-coherent}
use Rattle.theory_edge_to_edge.proofs.TablesOf.{type_of-found, mate_of-found}
use Rattle.cyclo_points.specs.Order.{points_of, is_refused}
use Rattle.cyclo_points.proofs.OrderLaws.{laws_of}
use Rattle.rule_model.specs.declared.rule.Rule.{Rule}
use Rattle.rule_model.specs.Glue.{IsGlueEdge}
use Rattle.rule_model.specs.Tiling.{Tiling, tiling_of, contacts, children}
use Rattle.rule_model.specs.Views.{rule_of, as_edition}
use Rattle.tile_place.specs.Crossed.{edges_of, placed_tile, IsOnlyAcross}
use Rattle.tile_place.proofs.KindEdges.{edge_typed}
use Rattle.tile_place.proofs.Plane.{its_rule, fits_tables, has_edge, on_some_part}
use Rattle.theory_walks.specs.Boundary.{IsBoundaryEdge}
use Rattle.theory_walks.specs.Paths.{Crosses}
use Rattle.half_glue.specs.Checked.{HasGlueLaws}
use Rattle.half_glue.proofs.Growing.{settled}
use Rattle.half_glue.proofs.GlueTypes.{OtherEdge, other-edge}

module _ (m : Rule) (L : HasGlueLaws m) where
  abbrev t : Tiling
  t = tiling_of m

  abbrev P : Points
  P = points_of m.order

  coherent : IsCoherent (contacts t)
  coherent = contacts-coherent P (laws_of m.order) (as_edition m.edition) (is_refused m.order) (rule_of m) L.usable.numbered L.accepted.edge_to_edge

  -- a glue edge is an edge
  pub glue-edge-there : (k e : ℕ) → IsGlueEdge t.rule k e → e < edges_of t k
  glue-edge-there k e g = g.exists

  pub kind-there : (a : Address) → Fits (children t) a → a.kind < length t.rule.kinds
  kind-there a fits = subst (λ n. a.kind < n) (length-map t.rule.kinds _) fits.kind_exists

  module _ (a b : Address) (e f : ℕ) (fits_a : Fits (children t) a) (fits_b : Fits (children t) b)
      (edge : e < edges_of t a.kind) (x : IsOnlyAcross t a e b f) where
    own_a : Fits (child_kinds (contacts t)) a
    own_a = fits_tables m (settled m L) a fits_a

    own_b : Fits (child_kinds (contacts t)) b
    own_b = fits_tables m (settled m L) b fits_b

    touches : Touches (contacts t) a e b f
    touches = ((L.across (its_rule m (settled m L)) a b e f (has_edge m (settled m L) a e own_a edge) own_b).1 x).touched

    typed : IsSome (type_of (contacts t) a.kind e)
    typed = (edge_typed t a.kind e).1 edge

    mated : IsMated (contacts t) a.kind e b.kind f
    mated = IsMated-of a b coherent own_a own_b typed touches

    back_typed : IsSome (type_of (contacts t) b.kind f)
    back_typed = subst IsSome (sym mated.other_is) refl

    back_edge : f < edges_of t b.kind
    back_edge = (edge_typed t b.kind f).0 back_typed

    across-back : IsOnlyAcross t b f a e
    across-back =
        (L.across (its_rule m (settled m L)) b a f e (has_edge m (settled m L) b f own_b back_edge) own_a).0
        (only_touching b a f e coherent own_b back_typed (Touches-sym a b coherent own_a own_b typed touches) own_a)

    inside : ¬ IsBoundaryEdge t a e
    inside on = elim (L.crossing (its_rule m (settled m L)) a e (has_edge m (settled m L) a e own_a edge)) [
      | inl c ↦ let at = on_some_part m (settled m L) a e fits_a edge on.own on.along in c.inside on.own at.0 at.1
      | inr o ↦ o.none (placed_tile t b) f x.across
    ]

    pub crosses : Crosses t a e b f
    crosses = record { edge_exists = edge; inside = inside; fits = fits_b; across = x }

    pub other-side : IsGlueEdge t.rule a.kind e
        → OtherEdge t.rule L.accepted.edge_to_edge.glue_right L.accepted.edge_to_edge.mates_back
        L.usable.numbered.glue_exists a.kind e b.kind f
    other-side g =
        let own = type_of-found P (rule_of m) a.kind e mated.own mated.own_is in
        let its = type_of-found P (rule_of m) b.kind f mated.other mated.other_is in
        let mates = mate_of-found P (rule_of m) mated.own mated.other mated.mates in
        other-edge t.rule L.accepted.edge_to_edge.glue_right L.accepted.edge_to_edge.mates_back
        L.usable.numbered.glue_exists a.kind e b.kind f (kind-there a fits_a) g its.0
        (sym its.1 ∙ mates.1 ∙ ap (mate (rule_of m)) own.1)

  pub crosses-back : (a b : Address) (e f : ℕ) → Fits (children t) a → Fits (children t) b
      → e < edges_of t a.kind → IsOnlyAcross t a e b f → Crosses t b f a e
  crosses-back a b e f fits_a fits_b edge x =
      crosses b a f e fits_b fits_a (back_edge a b e f fits_a fits_b edge x) (across-back a b e f fits_a fits_b edge x)
