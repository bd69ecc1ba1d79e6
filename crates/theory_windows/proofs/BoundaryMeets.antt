-- Where an edge of a supertile meets an open box, an edge of one of its tiles that has a trace to it does:
-- level by level, one of the parts into which the
-- edge is cut.
use Rattle.std.proofs.Common.{◌≡◌, ℕ, zero, suc, ◌+◌, ◌<◌, List, [], ◌∷◌, ◌++◌, length, Some, refl, sym, ap, ◌∙◌, subst, arith, length-append}
use Rattle.theory_ring.specs.Ring.{Ops, power}
use Rattle.theory_ring.specs.Sign.{Signed}
use Rattle.theory_plane.specs.Box.{OpenBox, EdgeMeetsBox}
use Rattle.theory_addresses.specs.Address.{Step, top_from}
use Rattle.theory_addresses.specs.Contact.{outer}
use Rattle.theory_addresses.specs.Search.{IsAmong}
use Rattle.theory_addresses.specs.Tables.{Tables, contact_of, part_count}
use Rattle.theory_addresses.specs.Trace.{Cut, IsTrace, bare, further}
use Rattle.theory_addresses.proofs.Chains.{IsChain}
use Rattle.theory_addresses.proofs.Ranges.{among-place, slice_get-image}
use Rattle.theory_substitution.specs.Plane.{Keeps}
use Rattle.theory_substitution.specs.Motion.{Motion, moved}
use Rattle.theory_substitution.specs.RuleParts.{parts, edge_count, edge_type, vertex, next, child_of}
use Rattle.theory_substitution.specs.Supertile.{inflated}
use Rattle.theory_substitution.specs.Placement.{placement}
use Rattle.theory_substitution.proofs.Addresses.{top_from-append}
use Rattle.theory_substitution.proofs.Keeping.{motion-keeps, keeps-then}
use Rattle.theory_edge_to_edge.specs.Contacts.{edge_name, tables_of}
use Rattle.theory_edge_to_edge.specs.Edges.{Edge, PlacedEdge, inflated_edge, child_edge}
use Rattle.theory_edge_to_edge.proofs.ChildEdges.{among-child_edges}
use Rattle.theory_edge_to_edge.proofs.CutEdges.{cut_parts, boundary_edges, found}
use Rattle.theory_edge_to_edge.proofs.TablesOf.{child_kind_of-at, part_of-at}
use Rattle.theory_dissection.specs.TileEdges.{supertile_edge}
use Rattle.theory_dissection.proofs.Setting.{Setting, below_kinds, contacts-coherent, cut_edges, inflating-keeps}
use Rattle.theory_dissection.proofs.Members.{chain-append}
use Rattle.theory_dissection.proofs.MirroredCuts.{PartFacts, part_facts}
use Rattle.theory_dissection.proofs.Opposite.{tile_edge}
use Rattle.theory_dissection.proofs.TraceAlong.{still-moves, inflated-moves, coarser, one_more}
use Rattle.theory_windows.proofs.MeetingParts.{put, Meets, some-part}

module _ (T : Setting) (box : OpenBox T.points.real.ops.carrier) where
  open T use {points as P, laws as W, accepted.{rule as r, numbered as N, edge_to_edge as D}}

  abbrev A : Type 0
  A = P.ring.carrier

  abbrev K : Ops
  K = P.ring

  abbrev S : Signed
  S = P.real

  abbrev t : Tables
  t = tables_of P r

  abbrev line_of : ℕ → List Step → ℕ → Edge A
  line_of k ds e = tile_edge T k ds e

  -- an edge with a trace to edge `top` of the supertile of kind k and depth n that f moves, and it meets the box
  pub record Met (k n top : ℕ) (f : A → A) : Type 0 where
    pub kind : ℕ
    pub digits : List Step
    pub edge : ℕ
    pub cuts : List Cut
    pub chain : IsChain t kind digits
    pub top_is : top_from kind digits ≡ k
    pub deep : length digits ≡ n
    pub edge_exists : edge < edge_count r kind
    pub trace : IsTrace t edge digits top cuts
    pub meets : Meets T box f (line_of kind digits edge)

  met-zero : (k top : ℕ) (f : A → A) → k < length r.kinds → top < edge_count r k → Meets T box f (supertile_edge P r k 0 top) → Met k 0 top f
  met-zero k top f hk he m = record {
    kind = k;
    digits = [];
    edge = top;
    cuts = [];
    chain = below_kinds T k hk;
    top_is = refl;
    deep = refl;
    edge_exists = he;
    trace = bare;
    meets =
        subst (λ (z : A). EdgeMeetsBox S (put T box f z) (put T box f (line_of k [] top).to) box) (sym (still-moves T (vertex P r k top)))
        (subst (λ (z : A). EdgeMeetsBox S (put T box f (supertile_edge P r k 0 top).from) (put T box f z) box)
        (sym (still-moves T (vertex P r k (next r k top)))) m);
  }

  -- ---- one level
  module _ (k n top : ℕ) (f : A → A) (keeps : Keeps P f) (hk : k < length r.kinds) (he : top < edge_count r k) where
    abbrev g : A → A
    g z = f (K.mul (power K r.factor n) z)

    g_keeps : Keeps P g
    g_keeps = keeps-then P W f (K.mul (power K r.factor n)) keeps (inflating-keeps T n)

    abbrev whole : Edge A
    whole = inflated_edge P r k top

    abbrev ss : List (PlacedEdge A)
    ss = cut_parts P r k top

    facts : (s : PlacedEdge A) (i : IsAmong s ss) → PartFacts T k top s
    facts s i = let place = among-place s ss i in part_facts T k top place.0 s hk he place.1

    meets-whole : Meets T box f (supertile_edge P r k (suc n) top) → Meets T box g whole
    meets-whole m =
        subst (λ (z : A). EdgeMeetsBox S (put T box f z) (put T box g whole.to) box) (sym (one_more T n (vertex P r k top)))
        (subst (λ (z : A). EdgeMeetsBox S (put T box f (supertile_edge P r k (suc n) top).from)
        (put T box f z) box) (sym (one_more T n (vertex P r k (next r k top)))) m)

    pub part : Meets T box f (supertile_edge P r k (suc n) top) → (s : PlacedEdge A) × IsAmong s ss × Meets T box g s.line
    part m =
        some-part T box g g_keeps whole (boundary_edges P r k top) (parts r (edge_type r k top)) ss
        (N.some_part (edge_type r k top) (N.type_exists k top hk he))
        (found P W r k (cut_edges T k) top he).parts (λ s i. (facts s i).along) (meets-whole m)

    module _ (s : PlacedEdge A) (i : IsAmong s ss) where
      abbrev digit : Step
      digit = record { child = s.child; parent = k }

      abbrev child_motion : Motion A
      child_motion = (child_of P r k s.child).motion

      abbrev child_kind : ℕ
      child_kind = (child_of P r k s.child).kind

      abbrev f' : A → A
      f' z = f (moved P (inflated P r n child_motion) z)

      f'-keeps : Keeps P f'
      f'-keeps = keeps-then P W f (moved P (inflated P r n child_motion)) keeps (motion-keeps P W (inflated P r n child_motion))

      named : s ≡ child_edge P r k s.child s.edge
      named = (among-child_edges P r k s (facts s i).among).is

      -- the part as the edge of the child's supertile
      below : Meets T box g s.line → Meets T box f' (supertile_edge P r child_kind n s.edge)
      below m =
          subst (λ (z : A). EdgeMeetsBox S (put T box f z) (put T box f' (supertile_edge P r child_kind n s.edge).to) box)
          (ap (λ (w : PlacedEdge A). K.mul (power K r.factor n) w.line.from) named
          ∙ sym (inflated-moves T n child_motion (vertex P r child_kind s.edge)))
          (subst (λ (z : A). EdgeMeetsBox S (put T box g s.line.from) (put T box f z) box)
          (ap (λ (w : PlacedEdge A). K.mul (power K r.factor n) w.line.to) named
          ∙ sym (inflated-moves T n child_motion (vertex P r child_kind (next r child_kind s.edge)))) m)

      abbrev number : ℕ
      number = (among-place s ss i).0

      contact : contact_of t k s.child s.edge ≡ Some (outer top number)
      contact =
          ((contacts-coherent T).outer_part k s.child s.edge top number).1
          (part_of-at P r k top number he ∙ slice_get-image edge_name s ss number (among-place s ss i).1)

      met-suc : Met child_kind n s.edge f' → Met k (suc n) top f
      met-suc c = record {
        kind = c.kind;
        digits = c.digits ++ digit ∷ [];
        edge = c.edge;
        cuts = record { part = number; parts = part_count t k top } ∷ c.cuts;
        chain = chain-append t c.kind c.digits digit c.chain
            (child_kind_of-at P r k s.child (among-child_edges P r k s (facts s i).among).has.child_below ∙ ap Some (sym c.top_is))
            (below_kinds T k hk);
        top_is = top_from-append c.kind c.digits digit;
        deep = length-append c.digits (digit ∷ []) ∙ plus_one (length c.digits) ∙ ap suc c.deep;
        edge_exists = c.edge_exists;
        trace = further digit c.trace refl contact;
        meets =
            subst (λ (z : A). EdgeMeetsBox S (put T box f z)
            (put T box f (line_of c.kind (c.digits ++ digit ∷ []) c.edge).to) box)
            (sym (one (vertex P r c.kind c.edge)))
            (subst (λ (z : A). EdgeMeetsBox S (put T box f' (line_of c.kind c.digits c.edge).from)
            (put T box f z) box) (sym (one (vertex P r c.kind (next r c.kind c.edge)))) c.meets);
      }
        where
          plus_one : (m : ℕ) → m + 1 ≡ suc m
          plus_one m = omega arith

          one : (z : A) → moved P (placement P r (c.digits ++ digit ∷ [])) z ≡ moved P
              (inflated P r n child_motion) (moved P (placement P r c.digits) z)
          one z = coarser T c.digits digit z ∙ ap (λ (m : ℕ). moved P (inflated P r m child_motion) (moved P (placement P r c.digits) z)) c.deep

  -- ---- at every depth
  pub boundary-met : (n k top : ℕ) (f : A → A) → Keeps P f → k < length r.kinds → top < edge_count r k
      → Meets T box f (supertile_edge P r k n top) → Met k n top f
  boundary-met zero k top f keeps hk he m = met-zero k top f hk he m
  boundary-met (suc n) k top f keeps hk he m =
      let s = part k n top f keeps hk he m in
      let here = facts k n top f keeps hk he s.0 s.1 in
      met-suc k n top f keeps hk he s.0 s.1
      (boundary-met n (child_kind k n top f keeps hk he s.0 s.1) s.0.edge (f' k n top f keeps hk he s.0 s.1) (f'-keeps k n top f keeps hk he s.0 s.1)
      here.kind_below here.edge_below (below k n top f keeps hk he s.0 s.1 s.2))
