-- The edges with a trace to an edge of the supertile cover it: each line along it has a piece in common with one of them.
use Rattle.std.proofs.Common.{◌≡◌, ℕ, zero, suc, ◌+◌, ◌<◌, List, [], ◌∷◌, ◌++◌, length, pos, Some, refl, sym, ap, ◌∙◌, subst, arith, length-append}
use Rattle.theory_ring.specs.Ring.{Ops, difference, power}
use Rattle.theory_ring.specs.Sign.{Signed, IsNonNegative}
use Rattle.theory_plane.specs.Plane.{PlanePoint}
use Rattle.theory_ring.proofs.Normaliser.{var, con, ring, ◌⊖◌, ◌⊗◌}
use Rattle.theory_substitution.specs.Plane.{plane_point, Keeps}
use Rattle.theory_substitution.specs.Motion.{Motion, moved}
use Rattle.theory_addresses.specs.Address.{Step, top_from}
use Rattle.theory_substitution.specs.RuleParts.{parts, edge_count, edge_type, vertex, next, child_of}
use Rattle.theory_edge_to_edge.specs.Edges.{Edge, PlacedEdge, inflated_edge, child_edge}
use Rattle.theory_addresses.specs.Search.{IsAmong}
use Rattle.theory_substitution.specs.Supertile.{inflated}
use Rattle.theory_substitution.specs.Placement.{placement}
use Rattle.theory_addresses.specs.Contact.{outer}
use Rattle.theory_edge_to_edge.specs.Contacts.{edge_name, tables_of}
use Rattle.theory_addresses.specs.Tables.{Tables, contact_of, part_count}
use Rattle.theory_addresses.specs.Trace.{Cut, IsTrace, bare, further}
use Rattle.theory_substitution.proofs.Keeping.{motion-keeps, keeps-then}
use Rattle.theory_addresses.proofs.Ranges.{among-place, slice_get-image}
use Rattle.theory_edge_to_edge.proofs.ChildEdges.{among-child_edges}
use Rattle.theory_addresses.proofs.Chains.{IsChain}
use Rattle.theory_substitution.proofs.Addresses.{top_from-append}
use Rattle.theory_edge_to_edge.proofs.TablesOf.{child_kind_of-at, part_of-at}
use Rattle.theory_edge_to_edge.proofs.CutEdges.{cut_parts, boundary_edges, found}
use Rattle.theory_dissection.specs.TileEdges.{supertile_edge, image_of}
use Rattle.theory_dissection.proofs.Setting.{Setting, below_kinds, contacts-coherent, cut_edges, inflating-keeps}
use Rattle.theory_dissection.proofs.Ahead.{Ahead}
use Rattle.theory_dissection.proofs.Injective.{keeps-injective, Along-image, ahead-along}
use Rattle.theory_dissection.proofs.Positions.{At, ahead-self, ahead-trans, gap, start_at}
use Rattle.theory_dissection.proofs.CommonPiece.{OnPart, search}
use Rattle.theory_dissection.proofs.MirroredCuts.{part_facts}
use Rattle.theory_dissection.proofs.Opposite.{tile_edge}
use Rattle.theory_dissection.proofs.TraceAlong.{ends_apart, still-moves, inflated-moves, coarser, one_more}
use Rattle.theory_dissection.proofs.Members.{chain-append}

module _ (T : Setting) where
  open T use {points as P, laws as W, accepted.{rule as r, numbered as N, edge_to_edge as D}}

  abbrev A : Type 0
  A = P.ring.carrier

  abbrev K : Ops
  K = P.ring

  abbrev S : Signed
  S = P.real

  abbrev t : Tables
  t = tables_of P r

  abbrev line_of : ℕ → List Step → ℕ → Edge A
  line_of k ds e = tile_edge T k ds e

  -- f takes a point to the plane
  abbrev put : (A → A) → A → PlanePoint S.ops.carrier
  put f z = plane_point P (f z)

  -- an edge with a trace to edge `top` of the supertile of kind k and depth n that f moves, and a piece of it that lies along u→v
  pub record Covered (k n top : ℕ) (f : A → A) (u v : PlanePoint S.ops.carrier) : Type 0 where
    pub kind : ℕ
    pub digits : List Step
    pub edge : ℕ
    pub cuts : List Cut
    pub chain : IsChain t kind digits
    pub top_is : top_from kind digits ≡ k
    pub deep : length digits ≡ n
    pub edge_exists : edge < edge_count r kind
    pub trace : IsTrace t edge digits top cuts
    pub from : PlanePoint S.ops.carrier
    pub to : PlanePoint S.ops.carrier
    pub in_line : Ahead S u v from to
    pub in_edge : Ahead S (put f (line_of kind digits edge).from) (put f (line_of kind digits edge).to) from to

  covered-zero : (k top : ℕ) (f : A → A) (u v : PlanePoint S.ops.carrier) → k < length r.kinds → top < edge_count r k
      → Ahead S (put f (supertile_edge P r k 0 top).from) (put f (supertile_edge P r k 0 top).to) u v → Covered k 0 top f u v
  covered-zero k top f u v hk he h = record {
    kind = k;
    digits = [];
    edge = top;
    cuts = [];
    chain = below_kinds T k hk;
    top_is = refl;
    deep = refl;
    edge_exists = he;
    trace = bare;
    from = u;
    to = v;
    in_line = ahead-self S W.of_real W.of_order u v;
    in_edge =
        subst (λ (z : A). Ahead S (put f z) (put f (line_of k [] top).to) u v) (sym (still-moves T (vertex P r k top)))
        (subst (λ (z : A). Ahead S (put f (supertile_edge P r k 0 top).from) (put f z) u v) (sym (still-moves T (vertex P r k (next r k top)))) h);
  }

  -- ---- one level: a part of the inflated edge
  module _ (k n top : ℕ) (f : A → A) (keeps : Keeps P f) (u v : PlanePoint S.ops.carrier) (hk : k < length r.kinds) (he : top < edge_count r k)
      (h : Ahead S (put f (supertile_edge P r k (suc n) top).from) (put f (supertile_edge P r k (suc n) top).to) u v) where
    abbrev g : A → A
    g z = f (K.mul (power K r.factor n) z)

    g_keeps : Keeps P g
    g_keeps = keeps-then P W f (K.mul (power K r.factor n)) keeps (inflating-keeps T n)

    abbrev whole : Edge A
    whole = inflated_edge P r k top

    abbrev on : List (PlacedEdge A)
    on = boundary_edges P r k top

    abbrev ss : List (PlacedEdge A)
    ss = cut_parts P r k top

    line : Ahead S (put g whole.from) (put g whole.to) u v
    line =
        subst (λ (z : A). Ahead S (put f z) (put g whole.to) u v) (sym (one_more T n (vertex P r k top)))
        (subst (λ (z : A). Ahead S (put f (supertile_edge P r k (suc n) top).from) (put f z) u v)
        (sym (one_more T n (vertex P r k (next r k top)))) h)

    apart : ((put g whole.to).x ≡ (put g whole.from).x) → ((put g whole.to).y ≡ (put g whole.from).y) → ⊥
    apart x y =
        let same : g whole.from ≡ g whole.to = sym (W.separate (g whole.to) (g whole.from) x y) in
        let moved : f (K.mul (power K r.factor (suc n)) (vertex P r k top)) ≡ f (K.mul (power K r.factor (suc n)) (vertex P r k (next r k top)))
        = ap f (sym (one_more T n (vertex P r k top))) ∙ same ∙ ap f (one_more T n (vertex P r k (next r k top))) in
        ends_apart T k top hk he
        (keeps-injective P W (λ z. f (K.mul (power K r.factor (suc n)) z))
        (keeps-then P W f (K.mul (power K r.factor (suc n))) keeps (inflating-keeps T (suc n))) _ _ moved)

    along : (s : PlacedEdge A) → IsAmong s ss → Ahead S (put g whole.from) (put g whole.to) (put g s.line.from) (put g s.line.to)
    along s i =
        let place = among-place s ss i in
        ahead-along P W (image_of P g whole) (image_of P g s.line)
        (Along-image P W g g_keeps whole s.line (part_facts T k top place.0 s hk he place.1).along)

    begin : At S (put g whole.from) (put g whole.to) (put g whole.from)
    begin = record {
      num = S.ops.int (pos 0);
      den = S.ops.int (pos 1);
      den_pos = W.of_order.one_greater;
      at_x = nothing (put g whole.from).x (put g whole.to).x;
      at_y = nothing (put g whole.from).y (put g whole.to).y;
    }
      where
        nothing : (x y : S.ops.carrier) → S.ops.mul (S.ops.int (pos 1)) (difference S.ops x x) ≡ S.ops.mul (S.ops.int (pos 0)) (difference S.ops y x)
        nothing x y = ring S.ops W.of_real (x ∷ (y ∷ [])) (con (pos 1) ⊗ (var 0 ⊖ var 0)) (con (pos 0) ⊗ (var 1 ⊖ var 0)) refl

    first : IsNonNegative S (gap S W.of_real W.of_order (put g whole.from) (put g whole.to) begin
        (start_at S W.of_real W.of_order (put g whole.from) (put g whole.to) u v line))
    unfolding begin
    first = subst (λ z. IsNonNegative S z) (ring S.ops W.of_real (line.s ∷ (line.p ∷ [])) (var 0)
        (var 0 ⊗ con (pos 1) ⊖ con (pos 0) ⊗ var 1) refl) line.s_nonneg

    on_part : OnPart P W g whole u v ss
    on_part =
        search P W g whole u v line apart on (parts r (edge_type r k top)) whole.from ss
        (found P W r k (cut_edges T k) top he).parts along begin first

    abbrev part : PlacedEdge A
    part = on_part.part

    abbrev digit : Step
    digit = record { child = part.child; parent = k }

    abbrev child_motion : Motion A
    child_motion = (child_of P r k part.child).motion

    abbrev child_kind : ℕ
    child_kind = (child_of P r k part.child).kind

    abbrev f' : A → A
    f' z = f (moved P (inflated P r n child_motion) z)

    f'-keeps : Keeps P f'
    f'-keeps = keeps-then P W f (moved P (inflated P r n child_motion)) keeps (motion-keeps P W (inflated P r n child_motion))

    named : part ≡ child_edge P r k part.child part.edge
    named = (among-child_edges P r k part (part_facts T k top on_part.number part hk he on_part.at).among).is

    -- the part as the edge of the child's supertile
    below : Ahead S (put f' (supertile_edge P r child_kind n part.edge).from)
        (put f' (supertile_edge P r child_kind n part.edge).to) on_part.piece.from on_part.piece.to
    below =
        subst (λ (z : A). Ahead S (put f z) (put f' (supertile_edge P r child_kind n part.edge).to) on_part.piece.from on_part.piece.to)
        (ap (λ (w : PlacedEdge A). K.mul (power K r.factor n) w.line.from) named
        ∙ sym (inflated-moves T n child_motion (vertex P r child_kind part.edge)))
        (subst (λ (z : A). Ahead S (put g part.line.from) (put f z) on_part.piece.from on_part.piece.to)
        (ap (λ (w : PlacedEdge A). K.mul (power K r.factor n) w.line.to) named
        ∙ sym (inflated-moves T n child_motion (vertex P r child_kind (next r child_kind part.edge))))
        on_part.piece.in_part)

    contact : contact_of t k part.child part.edge ≡ Some (outer top on_part.number)
    contact =
        ((contacts-coherent T).outer_part k part.child part.edge top on_part.number).1
        (part_of-at P r k top on_part.number he ∙ slice_get-image edge_name part ss on_part.number on_part.at)

    covered-suc : Covered child_kind n part.edge f' on_part.piece.from on_part.piece.to → Covered k (suc n) top f u v
    covered-suc c = record {
      kind = c.kind;
      digits = c.digits ++ digit ∷ [];
      edge = c.edge;
      cuts = record { part = on_part.number; parts = part_count t k top } ∷ c.cuts;
      chain = chain-append t c.kind c.digits digit c.chain
          (child_kind_of-at P r k part.child (among-child_edges P r k part
          (part_facts T k top on_part.number part hk he on_part.at).among).has.child_below
          ∙ ap Some (sym c.top_is))
          (below_kinds T k hk);
      top_is = top_from-append c.kind c.digits digit;
      deep = length-append c.digits (digit ∷ []) ∙ plus_one (length c.digits) ∙ ap suc c.deep;
      edge_exists = c.edge_exists;
      trace = further digit c.trace refl contact;
      from = c.from;
      to = c.to;
      in_line = ahead-trans S W.of_real W.of_order u v on_part.piece.from on_part.piece.to c.from c.to on_part.piece.in_line c.in_line;
      in_edge =
          subst (λ (z : A). Ahead S (put f z) (put f (line_of c.kind (c.digits ++ digit ∷ []) c.edge).to)
          c.from c.to) (sym (one (vertex P r c.kind c.edge)))
          (subst (λ (z : A). Ahead S (put f' (line_of c.kind c.digits c.edge).from) (put f z) c.from c.to)
          (sym (one (vertex P r c.kind (next r c.kind c.edge)))) c.in_edge);
    }
      where
        plus_one : (m : ℕ) → m + 1 ≡ suc m
        plus_one m = omega arith

        one : (z : A) → moved P (placement P r (c.digits ++ digit ∷ [])) z ≡ moved P
            (inflated P r n child_motion) (moved P (placement P r c.digits) z)
        one z = coarser T c.digits digit z ∙ ap (λ (m : ℕ). moved P (inflated P r m child_motion) (moved P (placement P r c.digits) z)) c.deep

  -- ---- at every depth
  pub cover : (n k top : ℕ) (f : A → A) → Keeps P f → (u v : PlanePoint S.ops.carrier) → k < length r.kinds → top < edge_count r k
      → Ahead S (put f (supertile_edge P r k n top).from) (put f (supertile_edge P r k n top).to) u v → Covered k n top f u v
  cover zero k top f keeps u v hk he h = covered-zero k top f u v hk he h
  cover (suc n) k top f keeps u v hk he h =
      let facts = part_facts T k top (on_part k n top f keeps u v hk he h).number
      (on_part k n top f keeps u v hk he h).part hk he (on_part k n top f keeps u v hk he h).at in
      covered-suc k n top f keeps u v hk he h
      (cover n (child_kind k n top f keeps u v hk he h) (part k n top f keeps u v hk he h).edge
      (f' k n top f keeps u v hk he h) (f'-keeps k n top f keeps u v hk he h)
      (on_part k n top f keeps u v hk he h).piece.from (on_part k n top f keeps u v hk he h).piece.to
      facts.kind_below facts.edge_below (below k n top f keeps u v hk he h))
