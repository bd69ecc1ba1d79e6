-- Across in the plane and touch in the tables are one relation; and an edge has the one tile across it that it touches, or a trace.
use Rattle.std.proofs.Common.{◌≡◌, ℕ, ◌<◌, List, sym, ap, subst}
use Rattle.theory_addresses.specs.Address.{Address, Fits}
use Rattle.theory_substitution.specs.RuleParts.{edge_count}
use Rattle.theory_substitution.specs.Supertile.{Placed}
use Rattle.theory_edge_to_edge.specs.Contacts.{tables_of}
use Rattle.theory_addresses.specs.Tables.{Tables, child_kinds}
use Rattle.theory_addresses.specs.Trace.{Cut, HasTrace, first_part}
use Rattle.theory_addresses.specs.Touch.{Touches}
use Rattle.theory_addresses.proofs.Chains.{chain_of}
use Rattle.theory_addresses.proofs.Touching.{Touches-sym}
use Rattle.theory_dissection.specs.TileEdges.{edge_of, tile_at}
use Rattle.theory_dissection.specs.Across.{IsTileAcross, IsOnlyTileAcross}
use Rattle.theory_dissection.specs.OnBoundary.{IsOnBoundary}
use Rattle.theory_dissection.proofs.Setting.{Setting, contacts-coherent}
use Rattle.theory_dissection.proofs.EitherWay.{TraceOrTouch, traced, touched, trace_or_touch}
use Rattle.theory_dissection.proofs.TraceAlong.{trace-on_boundary}
use Rattle.theory_dissection.proofs.RuleAddresses.{lowest_exists}
use Rattle.theory_dissection.proofs.AcrossTouches.{edge_known, touch-across, one_across, tile-is, traced-none}

module _ (T : Setting) where
  open T use {points as P, laws as W, accepted.{rule as r, numbered as N, edge_to_edge as D}}

  abbrev A : Type 0
  A = P.ring.carrier

  abbrev t : Tables
  t = tables_of P r

  abbrev tile : Address → Placed A
  tile = tile_at P r

  -- what is across a touched edge is what it touches
  touched-only : (a b : Address) (e f : ℕ) → Fits (child_kinds t) a → Fits (child_kinds t) b
      → e < edge_count r a.kind → Touches t a e b f → (c : Placed A) (g : ℕ) → IsTileAcross P r (tile a) e c g
      → (c ≡ tile b) × (g ≡ f)
  touched-only a b e f fits fits' he touches c g across =
      let own = touch-across T a b e f fits fits' he touches in
      one_across T a (tile b) c f g (edge_of P r (tile a) e) (chain_of t a fits) own.beside across.beside
      own.edge_exists across.edge_exists own.runs_back across.runs_back

  -- the edge touched is the only one across
  pub touch-only_across : (a b : Address) (e f : ℕ) → Fits (child_kinds t) a → Fits (child_kinds t) b
      → e < edge_count r a.kind → Touches t a e b f → IsOnlyTileAcross P r (tile a) e (tile b) f
  touch-only_across a b e f fits fits' he touches = record {
    across = touch-across T a b e f fits fits' he touches;
    only = touched-only a b e f fits fits' he touches;
  }

  -- what is across is touched
  pub across-touch : (a : Address) (e : ℕ) (c : Placed A) (g : ℕ) → Fits (child_kinds t) a → e < edge_count r a.kind → IsTileAcross P r (tile a) e c g
      → Touches t a e c.address g × Fits (child_kinds t) c.address × (c ≡ tile c.address)
  across-touch a e c g fits he across = at_case (trace_or_touch t a e (contacts-coherent T) fits (edge_known T a.kind e he))
    where
      at_case : TraceOrTouch t a e → Touches t a e c.address g × Fits (child_kinds t) c.address × (c ≡ tile c.address)
      at_case (traced top cuts h) = absurd (traced-none T a e top cuts fits he h c g across)
      at_case (touched m) =
          let only = touched-only a m.other e m.edge fits m.fits he m.touches c g across in
          let is = tile-is T a c (chain_of t a fits) across.beside in
          let address = ap (λ (x : Placed A). x.address) only.0 in (
            subst (λ (f : ℕ). Touches t a e c.address f) (sym only.1) (subst (λ (x : Address). Touches t a e x m.edge) (sym address) m.touches),
            subst (λ (x : Address). Fits (child_kinds t) x) (sym address) m.fits,
            is.0,
          )

  -- the way back leads back
  pub across-back : (a : Address) (e : ℕ) (c : Placed A) (g : ℕ) → Fits (child_kinds t) a
      → e < edge_count r a.kind → IsTileAcross P r (tile a) e c g → IsOnlyTileAcross P r c g (tile a) e
  across-back a e c g fits he across =
      let h = across-touch a e c g fits he across in
      let coherent = contacts-coherent T in
      subst (λ (x : Placed A). IsOnlyTileAcross P r x g (tile a) e) (sym h.2)
      (touch-only_across c.address a g e h.1 fits across.edge_exists (Touches-sym a c.address coherent fits h.1 (edge_known T a.kind e he) h.0))

  -- ---- each edge is the one or the other
  -- one tile is across, and the edge touches it
  pub record IsCrossed (a : Address) (e : ℕ) : Type 0 where
    pub other : Address
    pub edge : ℕ
    pub fits : Fits (child_kinds t) other
    pub touches : Touches t a e other edge
    pub only : IsOnlyTileAcross P r (tile a) e (tile other) edge

  -- no tile is across, and the edge has a trace to the edge of the supertile along which it lies
  pub record IsOutside (a : Address) (e : ℕ) : Type 0 where
    pub top : ℕ
    pub cuts : List Cut
    pub trace : HasTrace t a e top cuts
    pub boundary : IsOnBoundary P r (tile a) e top (first_part cuts)
    pub none : (c : Placed A) (g : ℕ) → IsTileAcross P r (tile a) e c g → ⊥

  pub data Crossing (a : Address) (e : ℕ) : Type 0 where
    crossed : IsCrossed a e → Crossing a e
    outside : IsOutside a e → Crossing a e

  pub crossing : (a : Address) (e : ℕ) → Fits (child_kinds t) a → e < edge_count r a.kind → Crossing a e
  crossing a e fits he = at_case (trace_or_touch t a e (contacts-coherent T) fits (edge_known T a.kind e he))
    where
      at_case : TraceOrTouch t a e → Crossing a e
      at_case (traced top cuts h) = outside (record {
        top = top;
        cuts = cuts;
        trace = h;
        boundary = trace-on_boundary T a e top cuts fits (lowest_exists T a.kind a.digits (chain_of t a fits)) he h;
        none = traced-none T a e top cuts fits he h;
      })
      at_case (touched m) = crossed (record {
        other = m.other;
        edge = m.edge;
        fits = m.fits;
        touches = m.touches;
        only = touch-only_across a m.other e m.edge fits m.fits he m.touches;
      })
