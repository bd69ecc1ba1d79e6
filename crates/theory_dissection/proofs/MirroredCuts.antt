-- Edges whose types are mates and that run opposite are cut at the same points.
use Rattle.std.proofs.Common.{◌≡◌, ℕ, zero, suc, ◌+◌, ◌<◌, List, length, map, reverse, slice_get, Some, sym, ap, ◌∙◌, subst, arith}
use Rattle.std.specs.Cmp.Lexicographic.{same_text}
use Rattle.std.proofs.lemmas.List.{length-map, length-reverse}
use Rattle.theory_ring.specs.Ring.{difference}
use Rattle.theory_substitution.specs.Motion.{Motion, moved}
use Rattle.theory_substitution.specs.Plane.{twice_squared_length}
use Rattle.theory_addresses.specs.Search.{IsAmong}
use Rattle.theory_substitution.specs.RuleParts.{mate, parts, edge_count, edge_type, child_of}
use Rattle.theory_edge_to_edge.specs.Edges.{PlacedEdge, inflated_edge, child_edges}
use Rattle.theory_edge_to_edge.specs.EdgeTypes.{edge_vector}
use Rattle.theory_substitution.proofs.Lengths.{motion-length}
use Rattle.theory_substitution.proofs.Keeping.{motion-keeps}
use Rattle.theory_addresses.proofs.TableBounds.{some_within}
use Rattle.theory_addresses.proofs.Mated.{slice_get-reverse}
use Rattle.theory_addresses.proofs.Ranges.{slice_get-image}
use Rattle.theory_edge_to_edge.proofs.ChildEdges.{among-child_edges}
use Rattle.theory_edge_to_edge.proofs.CutParts.{AreParts-length}
use Rattle.theory_edge_to_edge.proofs.CutEdges.{cut_parts, boundary_edges, found, part-types}
use Rattle.theory_edge_to_edge.proofs.LieCases.{lie_of-boundary}
use Rattle.theory_edge_to_edge.proofs.ContactCases.{IsPart, part-is_child_edge}
use Rattle.theory_dissection.specs.TileEdges.{image_of}
use Rattle.theory_dissection.proofs.Setting.{Setting, cut_edges}
use Rattle.theory_dissection.proofs.SameLengths.{mates-as_long}
use Rattle.theory_dissection.proofs.Injective.{AheadOf, Along, along_of, Along-image, ahead-along}
use Rattle.theory_dissection.proofs.EquallyFar.{equally_far}
use Rattle.theory_dissection.proofs.PartChain.{first-begins, next-begins, last-ends}

module _ (T : Setting) where
  open T use {points as P, laws as W, accepted.{rule as r, numbered as N, edge_to_edge as D}}

  abbrev A : Type 0
  A = P.ring.carrier

  -- a part of an edge, as a child edge along it
  pub record PartFacts (k e : ℕ) (s : PlacedEdge A) : Type 0 where
    pub among : IsAmong s (child_edges P r k)
    pub along : Along P W (inflated_edge P r k e) s.line
    pub kind_below : (child_of P r k s.child).kind < length r.kinds
    pub edge_below : s.edge < edge_count r (child_of P r k s.child).kind
    pub type_is : edge_type r (child_of P r k s.child).kind s.edge ≡ s.type
    pub length_is : twice_squared_length P (difference P.ring s.line.to s.line.from) ≡ twice_squared_length P
        (edge_vector P r (child_of P r k s.child).kind s.edge)

  pub part_facts : (k e p : ℕ) (s : PlacedEdge A) → k < length r.kinds → e < edge_count r k
      → slice_get (cut_parts P r k e) p ≡ Some s → PartFacts k e s
  part_facts k e p s hk he at =
      let part : IsPart P r k s e p = record { edge_below = he; at = at } in
      let child = part-is_child_edge P W r k (D.none_loose k hk) (cut_edges T k) s e p part in
      let named = among-child_edges P r k s child.0 in
      record {
        among = child.0;
        along = along_of P W (inflated_edge P r k e) s.line (lie_of-boundary P r k s e child.1).along;
        kind_below = N.child_exists k s.child hk named.has.child_below;
        edge_below = named.has.edge_below;
        type_is = sym (ap (λ (u : PlacedEdge A). u.type) named.is);
        length_is =
            ap (λ (u : PlacedEdge A). twice_squared_length P (difference P.ring u.line.to u.line.from)) named.is
            ∙ motion-length P W (child_of P r k s.child).motion _ _;
      }

  -- the subdivision of the mate, by places
  mate-part : (ty : ℕ) (i j u : ℕ) → ty < length r.types → j + (i + 1) ≡ length (parts r ty)
      → slice_get (parts r ty) i ≡ Some u → slice_get (parts r (mate r ty)) j ≡ Some (mate r u)
  mate-part ty i j u h n at =
      ap (λ (l : List ℕ). slice_get l j) (same_text (parts r (mate r ty)) (map (mate r) (reverse (parts r ty))) (sym (D.mirrored ty h)))
      ∙ slice_get-image (mate r) u (reverse (parts r ty)) j (slice_get-reverse (parts r ty) j i u n at)

  pub mate-parts_length : (ty : ℕ) → ty < length r.types → length (parts r (mate r ty)) ≡ length (parts r ty)
  mate-parts_length ty h =
      ap (λ (l : List ℕ). length l) (same_text (parts r (mate r ty)) (map (mate r) (reverse (parts r ty))) (sym (D.mirrored ty h)))
      ∙ length-map (reverse (parts r ty)) (mate r) ∙ length-reverse (parts r ty)

  part_type-at : (k e p : ℕ) (s : PlacedEdge A) → e < edge_count r k
      → slice_get (cut_parts P r k e) p ≡ Some s → slice_get (parts r (edge_type r k e)) p ≡ Some s.type
  part_type-at k e p s he at =
      ap (λ (l : List ℕ). slice_get l p) (sym (part-types P W r k (cut_edges T k) e he))
      ∙ slice_get-image (λ (u : PlacedEdge A). u.type) s (cut_parts P r k e) p at

  pub parts_length : (k e : ℕ) → e < edge_count r k → length (cut_parts P r k e) ≡ length (parts r (edge_type r k e))
  parts_length k e he =
      AreParts-length P W (boundary_edges P r k e) (inflated_edge P r k e).to (parts r (edge_type r k e))
      (inflated_edge P r k e).from (cut_parts P r k e)
      (found P W r k (cut_edges T k) e he).parts

  module _ (k e l f : ℕ) (hk : k < length r.kinds) (he : e < edge_count r k) (hl : l < length r.kinds)
      (hf : f < edge_count r l) (mates : edge_type r l f ≡ mate r (edge_type r k e))
      (m m' : Motion A) (starts : moved P m (inflated_edge P r k e).from ≡ moved P m'
      (inflated_edge P r l f).to) (ends : moved P m (inflated_edge P r k e).to ≡ moved P m'
      (inflated_edge P r l f).from) where
    abbrev ty : ℕ
    ty = edge_type r k e

    one_length : length (cut_parts P r l f) ≡ length (cut_parts P r k e)
    one_length =
        parts_length l f hf ∙ ap (λ (u : ℕ). length (parts r u)) mates ∙ mate-parts_length ty (N.type_exists k e hk he) ∙ sym (parts_length k e he)

    -- two parts at mirrored places are equally long
    as_long : (i j : ℕ) (x y : PlacedEdge A) → slice_get (cut_parts P r k e) i ≡ Some x
        → slice_get (cut_parts P r l f) j ≡ Some y → j + (i + 1) ≡ length (cut_parts P r k e)
        → twice_squared_length P (difference P.ring x.line.to x.line.from) ≡ twice_squared_length P (difference P.ring y.line.to y.line.from)
    as_long i j x y at at' n =
        let own = part_facts k e i x hk he at in
        let other = part_facts l f j y hl hf at' in
        let place : j + (i + 1) ≡ length (parts r ty) = n ∙ parts_length k e he in
        let type : Some y.type ≡ Some (mate r x.type)
        = sym (part_type-at l f j y hf at') ∙ ap (λ (u : ℕ). slice_get (parts r u) j) mates
        ∙ mate-part ty i j x.type (N.type_exists k e hk he) place (part_type-at k e i x he at) in
        let same : y.type ≡ mate r x.type = cc in
        own.length_is
        ∙ mates-as_long P W r D.mates_back D.equal_lengths (child_of P r k x.child).kind x.edge
        (child_of P r l y.child).kind y.edge own.kind_below own.edge_below other.kind_below
        other.edge_below
        (N.type_exists (child_of P r k x.child).kind x.edge own.kind_below own.edge_below) (other.type_is ∙ same ∙ ap (mate r) (sym own.type_is))
        ∙ sym other.length_is

    -- from one end of a part to the other
    other_end : (i j : ℕ) (x y : PlacedEdge A) → slice_get (cut_parts P r k e) i ≡ Some x
        → slice_get (cut_parts P r l f) j ≡ Some y → j + (i + 1) ≡ length (cut_parts P r k e)
        → moved P m x.line.from ≡ moved P m' y.line.to → moved P m x.line.to ≡ moved P m' y.line.from
    other_end i j x y at at' n here =
        let g = ahead-along P W (image_of P (moved P m) (inflated_edge P r k e))
        (image_of P (moved P m) x.line) (Along-image P W (moved P m) (motion-keeps P W m)
        (inflated_edge P r k e) x.line (part_facts k e i x hk he at).along) in
        let g' = ahead-along P W (image_of P (moved P m') (inflated_edge P r l f))
        (image_of P (moved P m') y.line) (Along-image P W (moved P m') (motion-keeps P W m')
        (inflated_edge P r l f) y.line (part_facts l f j y hl hf at').along) in
        let h : AheadOf P W (record {
          from = moved P m (inflated_edge P r k e).to;
          to = moved P m (inflated_edge P r k e).from;
        })
        (record { from = moved P m' y.line.from; to = moved P m x.line.from })
        = subst (λ c. AheadOf P W (record { from = c; to = moved P m (inflated_edge P r k e).from })
        (record { from = moved P m' y.line.from; to = moved P m x.line.from })) (sym ends)
        (subst (λ d. AheadOf P W (record { from = moved P m' (inflated_edge P r l f).from; to = d })
        (record { from = moved P m' y.line.from; to = moved P m x.line.from })) (sym starts)
        (subst (λ u. AheadOf P W (image_of P (moved P m') (inflated_edge P r l f))
        (record { from = moved P m' y.line.from; to = u })) (sym here) g')) in
        equally_far P W (moved P m (inflated_edge P r k e).from) (moved P m (inflated_edge P r k e).to)
        (moved P m x.line.from) (moved P m x.line.to) (moved P m' y.line.from) g h
        (motion-length P W m x.line.from x.line.to ∙ as_long i j x y at at' n ∙ sym (motion-length P W m' y.line.from y.line.to)
        ∙ ap (λ u. twice_squared_length P (difference P.ring u (moved P m' y.line.from))) (sym here))

    pub mirrored : (i j : ℕ) (x y : PlacedEdge A) → slice_get (cut_parts P r k e) i ≡ Some x
        → slice_get (cut_parts P r l f) j ≡ Some y → j + (i + 1) ≡ length (cut_parts P r k e)
        → (moved P m x.line.from ≡ moved P m' y.line.to) × (moved P m x.line.to ≡ moved P m' y.line.from)
    mirrored zero j x y at at' n =
        let own = (found P W r k (cut_edges T k) e he).parts in
        let other = (found P W r l (cut_edges T l) f hf).parts in
        let first = first-begins P W (boundary_edges P r k e) (inflated_edge P r k e).to
        (parts r (edge_type r k e)) (inflated_edge P r k e).from (cut_parts P r k e) x own at in
        let last = last-ends P W (boundary_edges P r l f) (inflated_edge P r l f).to
        (parts r (edge_type r l f)) (inflated_edge P r l f).from (cut_parts P r l f) j y other at'
        (omega (arith, one_length)) in
        let here = ap (moved P m) first ∙ starts ∙ ap (moved P m') (sym last) in
        (here, other_end zero j x y at at' n here)
    mirrored (suc i) j x y at at' n =
        let x' = some_within (cut_parts P r k e) i (omega arith) in
        let y' = some_within (cut_parts P r l f) (suc j) (omega (arith, one_length)) in
        let before = mirrored i (suc j) x'.0 y'.0 x'.1 y'.1 (omega arith) in
        let own = (found P W r k (cut_edges T k) e he).parts in
        let other = (found P W r l (cut_edges T l) f hf).parts in
        let next = next-begins P W (boundary_edges P r k e) (inflated_edge P r k e).to
        (parts r (edge_type r k e)) (inflated_edge P r k e).from (cut_parts P r k e) i x'.0 x own x'.1
        at in
        let next' = next-begins P W (boundary_edges P r l f) (inflated_edge P r l f).to
        (parts r (edge_type r l f)) (inflated_edge P r l f).from (cut_parts P r l f) j y y'.0 other at'
        y'.1 in
        let here = ap (moved P m) next ∙ before.1 ∙ ap (moved P m') next' in
        (here, other_end (suc i) j x y at at' n here)
