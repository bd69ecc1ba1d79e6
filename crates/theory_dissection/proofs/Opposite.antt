-- Edges that meet by the tables run opposite in the plane.
use Rattle.std.proofs.Common.{◌≡◌, ℕ, ◌+◌, ◌<◌, not, ◌&&◌, nat_eq, List, ◌∷◌, length, Some, IsSome, sym, ap, ap₂, ◌∙◌}
use Rattle.std.proofs.lemmas.Bool.{and_parts}
use Rattle.std.proofs.lemmas.List.{length-map}
use Rattle.theory_substitution.specs.Motion.{moved}
use Rattle.theory_addresses.specs.Address.{Step, Address, Fits}
use Rattle.theory_substitution.specs.RuleParts.{mate, edge_count, edge_type, child_of, next, vertex}
use Rattle.theory_edge_to_edge.specs.Edges.{Edge, PlacedEdge, inflated_edge, moved_edge, child_edge, child_edges, runs_back, is_opposite}
use Rattle.theory_substitution.specs.Placement.{placement}
use Rattle.theory_addresses.specs.Contact.{inner, outer}
use Rattle.theory_edge_to_edge.specs.Contacts.{edge_name, tables_of}
use Rattle.theory_addresses.specs.Tables.{child_kinds, type_of, child_kind_of, contact_of, part_count}
use Rattle.theory_addresses.specs.Touch.{Touches}
use Rattle.theory_addresses.proofs.Chains.{IsChain, chain_of}
use Rattle.theory_addresses.proofs.Filters.{kept_one}
use Rattle.theory_addresses.proofs.FineTouch.{Meets, as_children, as_parts}
use Rattle.theory_addresses.proofs.Mated.{IsMated}
use Rattle.theory_edge_to_edge.proofs.TablesOf.{type_of-found, mate_of-found, child_kind_of-found, parts_of-at}
use Rattle.theory_edge_to_edge.proofs.ChildEdges.{kind-with_edge}
use Rattle.theory_edge_to_edge.proofs.CutEdges.{cut_parts}
use Rattle.theory_edge_to_edge.proofs.CoherentContacts.{named}
use Rattle.theory_addresses.proofs.Touching.{Meets-of}
use Rattle.theory_dissection.proofs.Setting.{Setting, contacts-coherent, inner_other, part-from}
use Rattle.theory_dissection.proofs.Frames.{frame, finer-moves, frame-moves}
use Rattle.theory_dissection.proofs.MirroredCuts.{mirrored}
use Rattle.theory_dissection.proofs.MeetMates.{met_mates}

module _ (T : Setting) where
  open T use {points as P, laws as W, accepted.{rule as r, numbered as N, edge_to_edge as D}}

  abbrev A : Type 0
  A = P.ring.carrier

  -- edge number e of the tile with these digits
  abbrev pub tile_edge : ℕ → List Step → ℕ → Edge A
  tile_edge k xs e = moved_edge P r k (placement P r xs) e

  -- f runs from the end of e to its start
  abbrev pub Opposite : Edge A → Edge A → Type 0
  Opposite e f = (f.from ≡ e.to) × (f.to ≡ e.from)

  -- ---- a tile's edge by the child edge that it is in its parent
  pub finer-edge : (k e : ℕ) (s : Step) (xs : List Step) → child_kind_of (tables_of P r) s.parent s.child ≡ Some k
      → tile_edge k (s ∷ xs) e ≡ record {
        from = moved P (frame P W r xs)
            (child_edge P r s.parent s.child e).line.from;
        to = moved P (frame P W r xs) (child_edge P r s.parent s.child e).line.to;
      }
  finer-edge k e s xs fits =
      let kind : k ≡ (child_of P r s.parent s.child).kind = (child_kind_of-found P r s.parent s.child k fits).1 in
      ap (λ (j : ℕ). tile_edge j (s ∷ xs) e) kind
      ∙ ap₂ (λ u v. record { from = u; to = v })
      (finer-moves P W r s xs (vertex P r (child_of P r s.parent s.child).kind e))
      (finer-moves P W r s xs (vertex P r (child_of P r s.parent s.child).kind (next r (child_of P r s.parent s.child).kind e)))

  -- and the inflated edge of the parent, by the parent's own edge
  frame-from : (k e : ℕ) (xs : List Step) → moved P (frame P W r xs) (inflated_edge P r k e).from ≡ P.ring.mul r.factor (tile_edge k xs e).from
  frame-from k e xs = frame-moves P W r xs (vertex P r k e)

  frame-to : (k e : ℕ) (xs : List Step) → moved P (frame P W r xs) (inflated_edge P r k e).to ≡ P.ring.mul r.factor (tile_edge k xs e).to
  frame-to k e xs = frame-moves P W r xs (vertex P r k (next r k e))

  -- ---- two children of one tile
  children-opposite : (k l e f : ℕ) (s u : Step) (ds : List Step) → s.parent ≡ u.parent
      → contact_of (tables_of P r) s.parent s.child e ≡ Some (inner u.child f)
      → child_kind_of (tables_of P r) s.parent s.child ≡ Some k → child_kind_of (tables_of P r) u.parent u.child ≡ Some l
      → Opposite (tile_edge k (s ∷ ds) e) (tile_edge l (u ∷ ds) f)
  children-opposite k l e f s u ds parent met fits fits' =
      let back = inner_other T s.parent s.child e u.child f met in
      let kept = kept_one (is_opposite P (child_edge P r s.parent s.child e)) back.other (child_edges P r s.parent) back.meets_alone in
      let other = named P r s.parent u.child f back.other back.among back.child back.edge in
      let runs = (and_parts (not (nat_eq s.child back.other.child && nat_eq e back.other.edge))
      (runs_back P (child_edge P r s.parent s.child e).line back.other.line) kept.1).1 in
      let both = and_parts (P.same back.other.line.from (child_edge P r s.parent s.child e).line.to)
      (P.same back.other.line.to (child_edge P r s.parent s.child e).line.from) runs in
      let is : back.other ≡ child_edge P r u.parent u.child f = other.is ∙ ap (λ (p : ℕ). child_edge P r p u.child f) parent in
      let from = sym (ap (λ (x : PlacedEdge A). x.line.from) is) ∙ W.same-is _ _ both.0 in
      let to = sym (ap (λ (x : PlacedEdge A). x.line.to) is) ∙ W.same-is _ _ both.1 in
      let mine = finer-edge k e s ds fits in
      let its = finer-edge l f u ds fits' in (
        ap (λ (x : Edge A). x.from) its ∙ ap (moved P (frame P W r ds)) from ∙ sym (ap (λ (x : Edge A). x.to) mine),
        ap (λ (x : Edge A). x.to) its ∙ ap (moved P (frame P W r ds)) to ∙ sym (ap (λ (x : Edge A). x.from) mine),
      )

  part_count-is : (k e : ℕ) → e < edge_count r k → part_count (tables_of P r) k e ≡ length (cut_parts P r k e)
  unfolding part_count
  part_count-is k e h = ap (λ l. length l) (parts_of-at P r k e h) ∙ length-map (cut_parts P r k e) edge_name

  -- ---- mirrored parts of edges that are opposite
  parts-opposite : (k l e f own other p q : ℕ) (s u : Step) (xs ys : List Step)
      → contact_of (tables_of P r) s.parent s.child e ≡ Some (outer own p)
      → contact_of (tables_of P r) u.parent u.child f ≡ Some (outer other q)
      → q + (p + 1) ≡ part_count (tables_of P r) s.parent own
      → child_kind_of (tables_of P r) s.parent s.child ≡ Some k → child_kind_of (tables_of P r) u.parent u.child ≡ Some l
      → IsMated (tables_of P r) s.parent own u.parent other → Opposite (tile_edge s.parent xs own) (tile_edge u.parent ys other)
      → Opposite (tile_edge k (s ∷ xs) e) (tile_edge l (u ∷ ys) f)
  parts-opposite k l e f own other p q s u xs ys is is' n fits fits' mated above =
      let part = part-from T s.parent s.child e own p is in
      let part' = part-from T u.parent u.child f other q is' in
      let type = type_of-found P r s.parent own mated.own mated.own_is in
      let type' = type_of-found P r u.parent other mated.other mated.other_is in
      let mates : edge_type r u.parent other ≡ mate r (edge_type r s.parent own) = sym type'.1
      ∙ (mate_of-found P r mated.own mated.other mated.mates).1 ∙ ap (mate r) type.1 in
      let starts : moved P (frame P W r xs) (inflated_edge P r s.parent own).from ≡ moved P (frame P W r ys) (inflated_edge P r u.parent other).to
      = frame-from s.parent own xs ∙ ap (P.ring.mul r.factor) (sym above.1) ∙ sym (frame-to u.parent other ys) in
      let ends : moved P (frame P W r xs) (inflated_edge P r s.parent own).to ≡ moved P (frame P W r ys) (inflated_edge P r u.parent other).from
      = frame-to s.parent own xs ∙ ap (P.ring.mul r.factor) (sym above.0) ∙ sym (frame-from u.parent other ys) in
      let count : q + (p + 1) ≡ length (cut_parts P r s.parent own) = n ∙ part_count-is s.parent own part.edge_below in
      let both = mirrored T s.parent own u.parent other (kind-with_edge P r s.parent own part.edge_below)
      part.edge_below (kind-with_edge P r u.parent other part'.edge_below) part'.edge_below
      mates (frame P W r xs) (frame P W r ys) starts ends p q (child_edge P r s.parent s.child e)
      (child_edge P r u.parent u.child f) part.at part'.at count in
      let mine = finer-edge k e s xs fits in
      let its = finer-edge l f u ys fits' in (
        ap (λ (x : Edge A). x.from) its ∙ sym both.1 ∙ sym (ap (λ (x : Edge A). x.to) mine),
        ap (λ (x : Edge A). x.to) its ∙ sym both.0 ∙ sym (ap (λ (x : Edge A). x.from) mine),
      )

  -- ---- at every depth
  pub meets-opposite : (k l e f : ℕ) (xs ys : List Step) → Meets (tables_of P r) xs e ys f
      → IsChain (tables_of P r) k xs → IsChain (tables_of P r) l ys → IsSome (type_of (tables_of P r) k e)
      → Opposite (tile_edge k xs e) (tile_edge l ys f)
  meets-opposite k l e f xs ys (as_children {s = s} {u = u} {ds = ds} parent met) fits fits' edge
      = children-opposite k l e f s u ds parent met fits.0 fits'.0
  meets-opposite k l e f xs ys (as_parts {s = s} {u = u} {own = own} {other = other} {p = p} {q = q}
      {xs = xs'} {ys = ys'} is is' n m rest) fits fits' edge =
      let coherent = contacts-coherent T in
      let known = coherent.outer_edge s.parent s.child e own p is in
      parts-opposite k l e f own other p q s u xs' ys' is is' n fits.0 fits'.0
      (met_mates (tables_of P r) s.parent u.parent own other xs' ys' coherent fits.1 fits'.1 known rest)
      (meets-opposite s.parent u.parent own other xs' ys' rest fits.1 fits'.1 known)

  -- edges that touch run opposite
  pub touches-opposite : (a b : Address) (e f : ℕ) → Fits (child_kinds (tables_of P r)) a
      → Fits (child_kinds (tables_of P r)) b → IsSome (type_of (tables_of P r) a.kind e)
      → Touches (tables_of P r) a e b f
      → Opposite (tile_edge a.kind a.digits e) (tile_edge b.kind b.digits f)
  touches-opposite a b e f fits fits' edge touches =
      meets-opposite a.kind b.kind e f a.digits b.digits (Meets-of a b (contacts-coherent T) fits fits' edge touches)
      (chain_of (tables_of P r) a fits) (chain_of (tables_of P r) b fits') edge
