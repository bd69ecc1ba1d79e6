-- An edge lies along an edge of the supertile exactly where it has a trace to it; and then on one part, the one that the trace names first.
use Rattle.std.proofs.Common.{◌≡◌, ℕ, zero, suc, ◌<◌, true, List, [], ◌∷◌, length, get_or, slice_get, pos, Some, refl, sym, ap, ap₂, ◌∙◌, subst}
use Rattle.theory_ring.specs.Ring.{Ops, power}
use Rattle.theory_ring.specs.Sign.{Signed}
use Rattle.theory_ring.proofs.Normaliser.{var, con, ring, ◌⊕◌, ◌⊗◌}
use Rattle.theory_substitution.specs.Plane.{plane_point}
use Rattle.theory_substitution.specs.Motion.{moved}
use Rattle.theory_addresses.specs.Address.{Step, Address, top_kind, depth, Fits}
use Rattle.theory_substitution.specs.RuleParts.{edge_count, child_of}
use Rattle.theory_edge_to_edge.specs.Edges.{Edge, PlacedEdge, child_edge, lies_along}
use Rattle.theory_addresses.specs.Search.{IsAmong}
use Rattle.theory_substitution.specs.Supertile.{Placed, supertile}
use Rattle.theory_edge_to_edge.specs.Contacts.{edge_name, tables_of}
use Rattle.theory_addresses.specs.Tables.{Tables, child_kinds}
use Rattle.theory_addresses.specs.Trace.{Cut, IsTrace, HasTrace, first_part}
use Rattle.theory_addresses.proofs.Chains.{chain_of}
use Rattle.theory_edge_to_edge.proofs.TablesOf.{child_kind_of-at}
use Rattle.theory_edge_to_edge.proofs.ChildEdges.{among-child_edges, one_named}
use Rattle.theory_edge_to_edge.proofs.CutEdges.{cut_parts}
use Rattle.theory_edge_to_edge.proofs.ContactCases.{part-alone}
use Rattle.theory_dissection.specs.TileEdges.{edge_of, inflated_line, supertile_edge, tile_at}
use Rattle.theory_dissection.specs.Across.{IsTileAcross}
use Rattle.theory_dissection.specs.OnBoundary.{LiesOnPart, IsOnBoundary}
use Rattle.theory_dissection.proofs.Setting.{Setting, below_kinds, cut_edges, inflating-keeps}
use Rattle.theory_dissection.proofs.Ahead.{Ahead}
use Rattle.theory_dissection.proofs.Injective.{AheadOf, along_of, ahead-along}
use Rattle.theory_dissection.proofs.MirroredCuts.{part_facts}
use Rattle.theory_dissection.proofs.Opposite.{finer-edge}
use Rattle.theory_dissection.proofs.Frames.{frame}
use Rattle.theory_dissection.proofs.TraceAlong.{trace-on_boundary}
use Rattle.theory_dissection.proofs.RuleAddresses.{top_exists, lowest_exists, tile-among}
use Rattle.theory_dissection.proofs.OnlyOne.{one_along}
use Rattle.theory_dissection.proofs.AcrossTouches.{same, traced-none}
use Rattle.theory_dissection.proofs.Covering.{cover}

module _ (T : Setting) where
  open T use {points as P, laws as W, accepted.{rule as r, numbered as N, edge_to_edge as D}}

  abbrev A : Type 0
  A = P.ring.carrier

  abbrev K : Ops
  K = P.ring

  abbrev S : Signed
  S = P.real

  abbrev t : Tables
  t = tables_of P r

  abbrev tile : Address → Placed A
  tile = tile_at P r

  -- ---- a line along two parts of an edge: they are one
  abbrev child_address : ℕ → PlacedEdge A → Address
  child_address k s = record { kind = (child_of P r k s.child).kind; digits = record { child = s.child; parent = k } ∷ [] }

  frame-still : (z : A) → moved P (frame P W r []) z ≡ z
  frame-still z = ring K W.of_ring (z ∷ (r.factor ∷ [])) (con (pos 1) ⊗ var 0 ⊕ var 1 ⊗ con (pos 0)) (var 0) refl

  -- a child edge as the edge of a tile of depth 1
  record OnChild (k : ℕ) (s : PlacedEdge A) : Type 0 where
    among : IsAmong (tile (child_address k s)) (supertile P r k 1)
    edge_exists : s.edge < edge_count r (child_of P r k s.child).kind
    line : edge_of P r (tile (child_address k s)) s.edge ≡ s.line

  on_child : (k e p : ℕ) (s : PlacedEdge A) → k < length r.kinds → e < edge_count r k → slice_get (cut_parts P r k e) p ≡ Some s → OnChild k s
  on_child k e p s hk he at =
      let named = among-child_edges P r k s (part_facts T k e p s hk he at).among in
      let fits = child_kind_of-at P r k s.child named.has.child_below in
      record {
        among = tile-among T (child_address k s) (fits, below_kinds T k hk);
        edge_exists = named.has.edge_below;
        line =
            finer-edge T (child_of P r k s.child).kind s.edge (record { child = s.child; parent = k }) [] fits
            ∙ ap₂ (λ u v. record { from = u; to = v })
            (frame-still (child_edge P r k s.child s.edge).line.from)
            (frame-still (child_edge P r k s.child s.edge).line.to)
            ∙ sym (ap (λ (x : PlacedEdge A). x.line) named.is);
      }

  parts_one : (k e m p q : ℕ) (s s' : PlacedEdge A) (l : Edge A) → k < length r.kinds → e < edge_count r k
      → slice_get (cut_parts P r k e) p ≡ Some s → slice_get (cut_parts P r k e) q ≡ Some s'
      → lies_along P (inflated_line P r m s.line) l ≡ true → lies_along P (inflated_line P r m s'.line) l ≡ true → p ≡ q
  parts_one k e m p q s s' l hk he at at' along along' =
      let a = on_child k e p s hk he at in
      let b = on_child k e q s' hk he at' in
      let one = one_along T (K.mul (power K r.factor m)) (inflating-keeps T m) k 1 hk
      (tile (child_address k s)) (tile (child_address k s')) s.edge s'.edge
      (plane_point P l.from) (plane_point P l.to) a.among b.among a.edge_exists b.edge_exists
      (on_line s a.line along) (on_line s' b.line along') in
      let child : s.child ≡ s'.child = ap (λ (x : Placed A). (get_or x.address.digits 0 (record { child = 0; parent = 0 })).child) one.0 in
      let name : edge_name s ≡ edge_name s' = ap₂ (λ (c : ℕ) (f : ℕ). record { child = c; edge = f }) child one.1 in
      let same_edge : s ≡ s' = one_named P r k s s' (part_facts T k e p s hk he at).among (part_facts T k e q s' hk he at').among name in
      (part-alone P W r k (D.none_loose k hk) (cut_edges T k) s e p e q (record { edge_below = he; at = at })
      (record { edge_below = he; at = at' ∙ ap Some (sym same_edge) })).1
    where
      on_line : (x : PlacedEdge A) → edge_of P r (tile (child_address k x)) x.edge ≡ x.line → lies_along P (inflated_line P r m x.line) l ≡ true
          → Ahead S (plane_point P (K.mul (power K r.factor m)
          (edge_of P r (tile (child_address k x)) x.edge).from))
          (plane_point P (K.mul (power K r.factor m) (edge_of P r (tile (child_address k x)) x.edge).to))
          (plane_point P l.from) (plane_point P l.to)
      on_line x is h =
          subst (λ (y : Edge A). AheadOf P W (inflated_line P r m y) l) (sym is)
          (ahead-along P W (inflated_line P r m x.line) l (along_of P W (inflated_line P r m x.line) l h))

  pub one_part : (k n e p q : ℕ) (l : Edge A) → k < length r.kinds → e < edge_count r k → LiesOnPart P r k n e p l → LiesOnPart P r k n e q l → p ≡ q
  one_part k zero e p q l hk he h g = h ∙ sym g
  one_part k (suc m) e p q l hk he h g = parts_one k e m p q h.0 g.0 l hk he h.1 g.1 h.2 g.2

  -- ---- what lies along an edge of the supertile has a trace to it
  along-traced : (a : Address) (e top : ℕ) → Fits (child_kinds t) a → e < edge_count r a.kind → top < edge_count r (top_kind a)
      → lies_along P (supertile_edge P r (top_kind a) (depth a) top) (edge_of P r (tile a) e) ≡ true → (cuts : List Cut) × HasTrace t a e top cuts
  along-traced a e top fits he ht along =
      let chain = chain_of t a fits in
      let hk = top_exists T a.kind a.digits chain in
      let l = edge_of P r (tile a) e in
      let on_line = ahead-along P W (supertile_edge P r (top_kind a) (depth a) top) l
      (along_of P W (supertile_edge P r (top_kind a) (depth a) top) l along) in
      let c = cover T (depth a) (top_kind a) top (λ z. z) (same T) (plane_point P l.from) (plane_point P l.to) hk ht on_line in
      let b : Address = record { kind = c.kind; digits = c.digits } in
      let beside = subst (λ n. IsAmong (tile b) (supertile P r (top_kind a) n)) c.deep
      (subst (λ k. IsAmong (tile b) (supertile P r k (depth b))) c.top_is (tile-among T b c.chain)) in
      let one = one_along T (λ z. z) (same T) (top_kind a) (depth a) hk (tile b) (tile a) c.edge e c.from c.to
      beside (tile-among T a chain) c.edge_exists he c.in_edge c.in_line in (
        c.cuts,
        subst (λ (f : ℕ). IsTrace t f a.digits top c.cuts) one.1
            (subst (λ (ds : List Step). IsTrace t c.edge ds top c.cuts)
            (ap (λ (x : Placed A). x.address.digits) one.0) c.trace),
      )

  -- on the boundary, so traced
  pub boundary-traced : (a : Address) (e top part : ℕ) → Fits (child_kinds t) a → e < edge_count r a.kind
      → IsOnBoundary P r (tile a) e top part → (cuts : List Cut) × HasTrace t a e top cuts
      × (first_part cuts ≡ part)
  boundary-traced a e top part fits he h =
      let chain = chain_of t a fits in
      let trace = along-traced a e top fits he h.edge_exists h.along in
      let back = trace-on_boundary T a e top trace.0 fits (lowest_exists T a.kind a.digits chain) he trace.1 in (
        trace.0,
        trace.1,
        one_part (top_kind a) (depth a) top (first_part trace.0) part (edge_of P r (tile a) e)
            (top_exists T a.kind a.digits chain) h.edge_exists back.on_part h.on_part,
      )

  -- what lies along an edge of the supertile is on its boundary, on some part, and no tile is across it
  pub along-boundary : (a : Address) (e top : ℕ) → Fits (child_kinds t) a → e < edge_count r a.kind → top < edge_count r (top_kind a)
      → lies_along P (supertile_edge P r (top_kind a) (depth a) top) (edge_of P r (tile a) e) ≡ true
      → (part : ℕ) × IsOnBoundary P r (tile a) e top part
  along-boundary a e top fits he ht along =
      let trace = along-traced a e top fits he ht along in
      (first_part trace.0, trace-on_boundary T a e top trace.0 fits (lowest_exists T a.kind a.digits (chain_of t a fits)) he trace.1)

  pub boundary-none : (a : Address) (e top part : ℕ) → Fits (child_kinds t) a → e < edge_count r a.kind
      → IsOnBoundary P r (tile a) e top part → (c : Placed A) (g : ℕ) → IsTileAcross P r (tile a) e c g → ⊥
  boundary-none a e top part fits he h c g across =
      let trace = boundary-traced a e top part fits he h in
      traced-none T a e top trace.0 fits he trace.1 c g across
