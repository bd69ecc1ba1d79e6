-- One level: the counts of the children of an inflated prototile add up to its count.
use Rattle.std.proofs.Common.{◌≡◌, inl, inr, ℕ, ◌<◌, ℤ, pos, ◌+ℤ◌, neg_ℤ, Bool, true, false, not, ◌&&◌, cond, List, [], ◌∷◌, length, nat_eq, refl, sym, ap, ap₂, ◌∙◌, arith, is_ok}
use Rattle.std.specs.List.{filter}
use Rattle.std.proofs.lemmas.Bool.{and_parts, ne_eqb}
use Rattle.theory_ring.specs.Sign.{Signed}
use Rattle.theory_plane.specs.Plane.{PlanePoint, TestPoint}
use Rattle.theory_plane.specs.Segment.{Between}
use Rattle.theory_plane.specs.Crossing.{crossing}
use Rattle.theory_plane.proofs.Crossing.{crossing-turned, crossing-parts}
use Rattle.theory_plane.proofs.OnSegment.{between-on_segment, on_segment-between}
use Rattle.theory_substitution.specs.Plane.{plane_point, Keeps}
use Rattle.theory_addresses.specs.Search.{IsAmong, below}
use Rattle.theory_substitution.specs.RuleParts.{parts, edge_count, edge_type}
use Rattle.theory_edge_to_edge.specs.Edges.{Edge, PlacedEdge, inflated_edge, child_edges, runs_back, is_opposite}
use Rattle.theory_edge_to_edge.specs.Lying.{inner, boundary, lie_of, is_along}
use Rattle.theory_edge_to_edge.specs.Boundary.{parts_of_edge}
use Rattle.theory_edge_to_edge.proofs.ChildEdges.{is_opposite-sym}
use Rattle.theory_edge_to_edge.proofs.CutParts.{AreParts, begins, AreParts-alone, AreParts-apart, AreParts-length, AreParts-among, from_of}
use Rattle.theory_edge_to_edge.proofs.CutEdges.{cut_parts, boundary_edges, found, leads_away}
use Rattle.theory_edge_to_edge.proofs.ContactCases.{Settled, inside, along, settled, part-is_child_edge}
use Rattle.theory_dissection.specs.Sums.{sum_over, sum_below}
use Rattle.theory_dissection.proofs.Setting.{Setting, cut_edges}
use Rattle.theory_dissection.proofs.Sums.{zero_plus, plus_zero, regroup, own_negative, sum-ext_on, sum-both, sum-swap, sum-filter, sum-taken, sum-below_list, sum_below-ext, sum_below-once, sum_below-none, cell, pairs_cancel}

module _ (T : Setting)
    (p : TestPoint T.points.real.ops.carrier) (f : T.points.ring.carrier → T.points.ring.carrier) (keeps : Keeps T.points f) where
  open T use {points as P, laws as W, accepted.{rule as r, numbered as N, edge_to_edge as D}}

  abbrev A : Type 0
  A = P.ring.carrier

  abbrev S : Signed
  S = P.real

  abbrev put : A → PlanePoint S.ops.carrier
  put z = plane_point P (f z)

  -- the crossing of an edge that f moves
  abbrev pub at_line : Edge A → ℤ
  at_line e = crossing S (put e.from) (put e.to) p

  abbrev at_edge : PlacedEdge A → ℤ
  at_edge s = at_line s.line

  -- ---- edges that meet cancel
  turned : (s t : PlacedEdge A) → is_opposite P s t ≡ true → at_edge t ≡ neg_ℤ (at_edge s)
  turned s t h =
      let back = (and_parts (not (nat_eq s.child t.child && nat_eq s.edge t.edge)) (runs_back P s.line t.line) h).1 in
      let both = and_parts (P.same t.line.from s.line.to) (P.same t.line.to s.line.from) back in
      ap₂ (λ u v. crossing S (put u) (put v) p) (W.same-is _ _ both.0) (W.same-is _ _ both.1)
      ∙ crossing-turned S W.of_real W.of_order (put s.line.from) (put s.line.to) p

  either : (s t : PlacedEdge A) → is_opposite P s t ≡ is_opposite P t s
  either s t = at_tests (is_opposite P s t) (is_opposite P t s) refl refl
    where
      at_tests : (u v : Bool) → is_opposite P s t ≡ u → is_opposite P t s ≡ v → is_opposite P s t ≡ is_opposite P t s
      at_tests true true e g = e ∙ sym g
      at_tests false false e g = e ∙ sym g
      at_tests true false e g = e ∙ sym (is_opposite-sym P W s t e)
      at_tests false true e g = is_opposite-sym P W t s g ∙ sym g

  -- ---- the parts of an edge add up
  no_length : (a : A) → crossing S (put a) (put a) p ≡ pos 0
  no_length a = own_negative _ (crossing-turned S W.of_real W.of_order (put a) (put a) p)

  along_parts : (on : List (PlacedEdge A)) (a end : A)
      → ((s : PlacedEdge A) → IsAmong s on → Between S (plane_point P a) (plane_point P s.line.to)
      (plane_point P s.line.from))
      → (types : List ℕ) (q : A) (ss : List (PlacedEdge A)) → AreParts P on end types q ss → ((s : PlacedEdge A) → IsAmong s ss → IsAmong s on)
      → crossing S (put a) (put q) p +ℤ sum_over at_edge ss ≡ crossing S (put a) (put end) p
  along_parts on a end away [] q [] h among = plus_zero _ ∙ ap (λ z. crossing S (put a) (put z) p) h
  along_parts on a end away [] q (s ∷ ss) h among = absurd h
  along_parts on a end away (ty ∷ types) q [] h among = absurd h
  along_parts on a end away (ty ∷ types) q (s ∷ ss) h among =
      let at_q = begins P W on q s h.0 in
      let kept : Between S (put a) (put s.line.to) (put s.line.from)
      = between-on_segment S W.of_real W.of_order _ _ _
      (keeps.segments a s.line.to s.line.from ∙ on_segment-between S W.of_real W.of_order _ _ _
      (away s (among s (inl refl)))) in
      regroup (crossing S (put a) (put q) p) (at_edge s) (sum_over at_edge ss)
      ∙ ap (λ z. (crossing S (put a) (put z) p +ℤ at_edge s) +ℤ sum_over at_edge ss) (sym at_q)
      ∙ ap (λ u. u +ℤ sum_over at_edge ss) (sym (crossing-parts S W.of_real W.of_order (put a) (put s.line.to) (put s.line.from) p kept))
      ∙ along_parts on a end away types s.line.to ss h.2 (λ u i. among u (inr i))

  module _ (k : ℕ) (hk : k < length r.kinds) where
    abbrev edges : List (PlacedEdge A)
    edges = child_edges P r k

    abbrev cut : (e : ℕ) → e < edge_count r k → is_ok (parts_of_edge P r k e) ≡ true
    cut = cut_edges T k

    boundary_sum : (e : ℕ) → e < edge_count r k → sum_over at_edge (boundary_edges P r k e) ≡ at_line (inflated_edge P r k e)
    boundary_sum e he =
        let whole = inflated_edge P r k e in
        let on = boundary_edges P r k e in
        let types = parts r (edge_type r k e) in
        let here = found P W r k cut e he in
        let away = leads_away P W r k e in
        sum-taken (from_of P) at_edge (cut_parts P r k e) on (AreParts-alone P W on whole.to types whole.from (cut_parts P r k e) here.parts)
        (AreParts-apart P W whole.from on away whole.to types whole.from (cut_parts P r k e) here.parts)
        (here.count_is ∙ sym (AreParts-length P W on whole.to types whole.from (cut_parts P r k e) here.parts))
        ∙ sym (zero_plus _) ∙ ap (λ u. u +ℤ sum_over at_edge (cut_parts P r k e)) (sym (no_length whole.from))
        ∙ along_parts on whole.from whole.to (λ s i. (away s i).start_between) types whole.from (cut_parts P r k e) here.parts
        (AreParts-among P W whole.from on away whole.to types whole.from (cut_parts P r k e) here.parts)

    -- ---- each child edge cancels with the one that meets it, or is counted with its edge
    abbrev on_edge : PlacedEdge A → ℕ → ℤ
    on_edge s e = cond (is_along e (lie_of P r k s)) (at_edge s) (pos 0)

    not_along : (s : PlacedEdge A) (b g n : ℕ) → lie_of P r k s ≡ inner b g → sum_over (on_edge s) (below (λ e. e) n) ≡ pos 0
    not_along s b g n h =
        sum-below_list (on_edge s) (λ e. e) n
        ∙ sum_below-ext (on_edge s) (λ i. cond (nat_eq i n) (pos 0) (pos 0)) n
        (λ i lt. ap (λ l. cond (is_along i l) (at_edge s) (pos 0)) h ∙ sym (same (nat_eq i n)))
        ∙ sum_below-none (pos 0) n n (λ i lt. ne_eqb i n (λ e. absurd (omega arith)))
      where
        same : (b : Bool) → cond b (pos 0) (pos 0) ≡ pos 0
        same true = refl
        same false = refl

    one_along : (s : PlacedEdge A) (e n : ℕ) → e < n → lie_of P r k s ≡ boundary e → sum_over (on_edge s) (below (λ e. e) n) ≡ at_edge s
    one_along s e n lt h =
        sum-below_list (on_edge s) (λ e. e) n
        ∙ sum_below-ext (on_edge s) (λ i. cond (nat_eq i e) (at_edge s) (pos 0)) n (λ i lt'. ap (λ l. cond (is_along i l) (at_edge s) (pos 0)) h)
        ∙ sum_below-once (at_edge s) e n lt

    split : (s : PlacedEdge A) → IsAmong s edges
        → at_edge s ≡ sum_over (cell at_edge (is_opposite P) turned either s) edges +ℤ sum_over (on_edge s) (below (λ e. e) (edge_count r k))
    split s i = at_case (settled P W r k (D.none_loose k hk) cut s i)
      where
        met_sum : (ts : List (PlacedEdge A)) → filter (is_opposite P s) edges ≡ ts
            → sum_over (cell at_edge (is_opposite P) turned either s) edges ≡ sum_over (λ t. at_edge s) ts
        met_sum ts e = sum-filter (is_opposite P s) (λ t. at_edge s) edges ∙ ap (λ (l : List (PlacedEdge A)). sum_over (λ t. at_edge s) l) e

        at_case : Settled P r k s → at_edge s ≡ sum_over (cell at_edge (is_opposite P) turned either s) edges
            +ℤ sum_over (on_edge s) (below (λ e. e) (edge_count r k))
        at_case (inside b g h back) =
            sym (ap₂ (λ u v. u +ℤ v) (met_sum (back.other ∷ []) back.meets_alone ∙ plus_zero (at_edge s))
            (not_along s b g (edge_count r k) h) ∙ plus_zero (at_edge s))
        at_case (along e q on part) =
            sym (ap₂ (λ u v. u +ℤ v) (met_sum [] on.unmet)
            (one_along s e (edge_count r k) part.edge_below
            (part-is_child_edge P W r k (D.none_loose k hk) cut s e q part).1) ∙ zero_plus (at_edge s))

    pub edges_sum : sum_over at_edge edges ≡ sum_below (λ e. at_line (inflated_edge P r k e)) (edge_count r k)
    edges_sum =
        sum-ext_on at_edge _ edges split
        ∙ sum-both (λ s. sum_over (cell at_edge (is_opposite P) turned either s) edges)
        (λ s. sum_over (on_edge s) (below (λ e. e) (edge_count r k))) edges
        ∙ ap (λ u. u +ℤ sum_over (λ s. sum_over (on_edge s) (below (λ e. e) (edge_count r k))) edges)
        (pairs_cancel at_edge (is_opposite P) turned either edges)
        ∙ zero_plus _
        ∙ sum-swap on_edge edges (below (λ e. e) (edge_count r k))
        ∙ sum-below_list (λ e. sum_over (λ s. on_edge s e) edges) (λ e. e) (edge_count r k)
        ∙ sum_below-ext _ _ (edge_count r k) (λ e lt. sum-filter (λ s. is_along e (lie_of P r k s)) at_edge edges ∙ boundary_sum e lt)
