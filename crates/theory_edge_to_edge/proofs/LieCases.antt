-- What is known of a child edge that is inner, and of one that is on the boundary.
use Rattle.std.proofs.Common.{◌≡◌, ◌⊎◌, inl, inr, ℕ, suc, ◌+◌, ◌<◌, pos, Bool, true, false, not, ◌&&◌, cond, List, [], ◌∷◌, nat_eq, slice_get, Some, refl, sym, ap, ◌∙◌, subst, eqb-true, is_eq, arith}
use Rattle.std.specs.List.{filter}
use Rattle.std.proofs.lemmas.Bool.{and_parts, and_from, eq-eqb}
use Rattle.theory_ring.specs.Ring.{difference}
use Rattle.theory_plane.specs.Segment.{same_place, on_segment}
use Rattle.theory_ring.proofs.Normaliser.{var, con, ring, ◌⊖◌}
use Rattle.theory_plane.proofs.OnSegment.{between-on_segment}
use Rattle.theory_substitution.specs.Points.{Points, PointLaws}
use Rattle.theory_substitution.specs.Plane.{plane_point}
use Rattle.theory_addresses.specs.Search.{IsAmong}
use Rattle.theory_substitution.specs.Rule.{Rule}
use Rattle.theory_substitution.specs.RuleParts.{mate, edge_count}
use Rattle.theory_edge_to_edge.specs.Edges.{Edge, PlacedEdge, inflated_edge, inflated_edges, child_edges, is_opposite, lies_along}
use Rattle.theory_edge_to_edge.specs.Lying.{Lie, inner, boundary, loose, numbers_along, met_by, lie_by, lie_of, is_loose, is_along}
use Rattle.theory_addresses.proofs.Ranges.{among-append, below-at}
use Rattle.theory_edge_to_edge.proofs.CutParts.{LeadsAway}

pub is_along-boundary : (e : ℕ) (l : Lie) → is_along e l ≡ true → l ≡ boundary e
is_along-boundary e (inner c f) h = absurd cc
is_along-boundary e (boundary f) h = ap boundary (sym (eqb-true e f h))
is_along-boundary e loose h = absurd cc

pub boundary-is_along : (e : ℕ) (l : Lie) → l ≡ boundary e → is_along e l ≡ true
boundary-is_along e l h = ap (is_along e) h ∙ eq-eqb e e refl

-- the edges `ts` are t alone, which has this name and the mate's type
pub record MetBy {A : Type 0} (r : Rule A) (s : PlacedEdge A) (ts : List (PlacedEdge A)) (c e : ℕ) : Type 0 where
  pub other : PlacedEdge A
  pub only : ts ≡ other ∷ []
  pub child : other.child ≡ c
  pub edge : other.edge ≡ e
  pub mates : mate r s.type ≡ other.type

pub lie_by-inner : {A : Type 0} (r : Rule A) (s : PlacedEdge A) (ts : List (PlacedEdge A)) (ns : List ℕ)
    (c e : ℕ) → lie_by r s ts ns ≡ inner c e → MetBy r s ts c e
lie_by-inner r s [] [] c e h = absurd cc
lie_by-inner r s [] (n ∷ []) c e h = absurd cc
lie_by-inner r s [] (n ∷ (m ∷ ns)) c e h = absurd cc
lie_by-inner {A} r s (t ∷ []) ns c e h = at_test (nat_eq (mate r s.type) t.type) refl h
  where
    at_test : (b : Bool) → nat_eq (mate r s.type) t.type ≡ b → met_by b t ≡ inner c e → MetBy r s (t ∷ []) c e
    at_test true is k = record { other = t; only = refl; child = cc; edge = cc; mates = eqb-true (mate r s.type) t.type is }
    at_test false is k = absurd cc
lie_by-inner r s (t ∷ (u ∷ ts)) ns c e h = absurd cc

pub lie_by-boundary : {A : Type 0} (r : Rule A) (s : PlacedEdge A) (ts : List (PlacedEdge A)) (ns : List ℕ)
    (e : ℕ) → lie_by r s ts ns ≡ boundary e → (ts ≡ []) × (ns ≡ e ∷ [])
lie_by-boundary r s [] [] e h = absurd cc
lie_by-boundary r s [] (n ∷ []) e h = let same : n ≡ e = cc in (refl, ap (λ (m : ℕ). m ∷ []) same)
lie_by-boundary r s [] (n ∷ (m ∷ ns)) e h = absurd cc
lie_by-boundary {A} r s (t ∷ []) ns e h = absurd (at_test (nat_eq (mate r s.type) t.type) h)
  where
    at_test : (b : Bool) → met_by b t ≡ boundary e → ⊥
    at_test true k = cc
    at_test false k = cc
lie_by-boundary r s (t ∷ (u ∷ ts)) ns e h = absurd cc

-- one that some edge meets, and that isn't loose, is inner with it
pub lie_by-met : {A : Type 0} (r : Rule A) (s u : PlacedEdge A) (ts : List (PlacedEdge A)) (ns : List ℕ)
    → is_loose (lie_by r s ts ns) ≡ false → IsAmong u ts
    → lie_by r s ts ns ≡ inner u.child u.edge
lie_by-met r s u [] ns h i = elim i [ ]
lie_by-met {A} r s u (t ∷ []) ns h (inl e) = at_test (nat_eq (mate r s.type) t.type) h
  where
    at_test : (b : Bool) → is_loose (met_by b t) ≡ false → met_by b t ≡ inner u.child u.edge
    at_test true k = ap (λ (v : PlacedEdge A). inner v.child v.edge) (sym e)
    at_test false k = absurd cc
lie_by-met r s u (t ∷ []) ns h (inr i) = elim i [ ]
lie_by-met r s u (t ∷ (v ∷ ts)) ns h i = absurd cc

-- number e, counted from n, is that of an edge along which the line lies
pub record AlongAt (P : Points) (n : ℕ) (wholes : List (Edge P.ring.carrier)) (line : Edge P.ring.carrier) (e : ℕ) : Type 0 where
  pub place : ℕ
  pub number : e ≡ n + place
  pub whole : Edge P.ring.carrier
  pub at : slice_get wholes place ≡ Some whole
  pub along : lies_along P whole line ≡ true

pub numbers_along-at : (P : Points) (n : ℕ) (wholes : List (Edge P.ring.carrier)) (line : Edge P.ring.carrier)
    (e : ℕ) → IsAmong e (numbers_along P n wholes line) → AlongAt P n wholes line e
numbers_along-at P n [] line e i = elim i [ ]
numbers_along-at P n (whole ∷ wholes) line e i =
    at_case (among-append e (cond (lies_along P whole line) (n ∷ []) []) (numbers_along P (suc n) wholes line)
    i) (numbers_along-at P (suc n) wholes line e)
  where
    here : (b : Bool) → lies_along P whole line ≡ b → IsAmong e (cond b (n ∷ []) []) → AlongAt P n (whole ∷ wholes) line e
    here true is (inl same) = record { place = 0; number = omega (arith, same); whole = whole; at = refl; along = is }
    here true is (inr j) = elim j [ ]
    here false is j = elim j [ ]

    at_case : IsAmong e (cond (lies_along P whole line) (n ∷ []) []) ⊎ IsAmong e (numbers_along P (suc n) wholes line)
        → (IsAmong e (numbers_along P (suc n) wholes line) → AlongAt P (suc n) wholes line e) → AlongAt P n (whole ∷ wholes) line e
    at_case (inl j) rest = here (lies_along P whole line) refl j
    at_case (inr j) rest = let r = rest j in record {
      place = suc r.place;
      number = let k = r.number in omega arith;
      whole = r.whole;
      at = r.at;
      along = r.along;
    }

module _ (P : Points) (W : PointLaws P) where
  pub same_place-self : (a : P.ring.carrier) → same_place P.real (plane_point P a) (plane_point P a) ≡ true
  same_place-self a = and_from _ _ (at (P.x a)) (at (P.y a))
    where
      at : (x : P.real.ops.carrier) → is_eq (P.real.sign (difference P.real.ops x x)) ≡ true
      at x = ap is_eq (ap P.real.sign (ring P.real.ops W.of_real (x ∷ []) (var 0 ⊖ var 0) (con (pos 0)) refl) ∙ W.of_order.zero_equal)

  -- what lies along a whole leads away from its start
  pub along-leads_away : (whole : Edge P.ring.carrier) (s : PlacedEdge P.ring.carrier) → lies_along P whole s.line ≡ true → LeadsAway P whole.from s
  along-leads_away whole s h =
      let c = plane_point P s.line.from in
      let d = plane_point P s.line.to in
      let a = plane_point P whole.from in
      let outer = and_parts (not (same_place P.real c d) && on_segment P.real a (plane_point P whole.to) d) (on_segment P.real a d c) h in
      let first = and_parts (not (same_place P.real c d)) (on_segment P.real a (plane_point P whole.to) d) outer.0 in
      record {
        ends_differ = λ e. let one = ap (λ z. same_place P.real (plane_point P s.line.from) (plane_point P z))
            e in cc (one, same_place-self s.line.from, first.0);
        start_between = between-on_segment P.real W.of_real W.of_order a d c outer.1;
      }

module _ (P : Points) (r : Rule P.ring.carrier) (k : ℕ) where
  -- no child edge meets s, which lies along edge e of the inflated prototile alone
  pub record OnBoundary (s : PlacedEdge P.ring.carrier) (e : ℕ) : Type 0 where
    pub unmet : filter (is_opposite P s) (child_edges P r k) ≡ []
    pub only : numbers_along P 0 (inflated_edges P r k) s.line ≡ e ∷ []
    pub edge_below : e < edge_count r k
    pub along : lies_along P (inflated_edge P r k e) s.line ≡ true

  pub lie_of-boundary : (s : PlacedEdge P.ring.carrier) (e : ℕ) → lie_of P r k s ≡ boundary e → OnBoundary s e
  lie_of-boundary s e h =
      let by = lie_by-boundary r s (filter (is_opposite P s) (child_edges P r k)) (numbers_along P 0 (inflated_edges P r k) s.line) e h in
      let at = numbers_along-at P 0 (inflated_edges P r k) s.line e (subst (λ (ns : List ℕ). IsAmong e ns) (sym by.1) (inl refl)) in
      let same : at.place ≡ e = omega (arith, at.number) in
      let there = below-at (inflated_edge P r k) (edge_count r k) at.place at.whole at.at in
      record {
        unmet = by.0;
        only = by.1;
        edge_below = let lt = there.in_range in omega arith;
        along = subst (λ (w : Edge P.ring.carrier). lies_along P w s.line ≡ true) (there.is ∙ ap (inflated_edge P r k) same) at.along;
      }
