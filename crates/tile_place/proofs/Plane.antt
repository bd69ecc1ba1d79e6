-- What the tables say of an edge, in the plane.
use Rattle.std.proofs.Common.{◌≡◌, ℕ, ◌<◌, Result, Ok, Err, IfOk, IfErr, OnOk, sym, subst}
use Rattle.theory_addresses.specs.Address.{Address as TheAddress, Fits}
use Rattle.theory_addresses.specs.Across.{IsAcross, LiesOn}
use Rattle.theory_addresses.specs.Tables.{Tables, child_kinds}
use Rattle.cyclo_points.specs.declared.order.Order.{Order}
use Rattle.cyclo_points.specs.Order.{points_of, is_refused}
use Rattle.cyclo_points.proofs.OrderLaws.{laws_of}
use Rattle.theory_dissection.specs.Accepted.{AcceptedRule, HasEdge}
use Rattle.theory_dissection.specs.Laws.{AcrossLaw, BoundaryLaw}
use Rattle.theory_dissection.proofs.BoundaryTrace.{along-boundary}
use Rattle.rule_model.specs.declared.rule.Rule.{Rule}
use Rattle.rule_model.specs.Accepted.{IsAccepted}
use Rattle.rule_model.specs.Tiling.{Tiling, tiling_of, contacts, children}
use Rattle.rule_model.specs.Usable.{IsUsable}
use Rattle.rule_model.specs.Views.{rule_of, as_edition}
use Rattle.transducer_core.specs.declared.outside.Outside.{Outside}
use Rattle.tile_place.specs.Crossed.{edges_of, IsOnlyAcross, LiesAlong, LiesAlongNone, LiesOnBoundary}
use Rattle.tile_place.proofs.KindEdges.{edge_typed}

-- the laws that are used, over the points of an order
abbrev pub OnlyTilesLaw : Order → Type 0
OnlyTilesLaw o = AcrossLaw (points_of o)

abbrev pub BoundariesLaw : Order → Type 0
BoundariesLaw o = BoundaryLaw (points_of o)

-- on some part of an edge is along it
pub part_along : (t : Tiling) (a : TheAddress) (e top part : ℕ) → LiesOnBoundary t a e top part → LiesAlong t a e top
part_along t a e top part on = record { exists = on.edge_exists; along = on.along }

-- what a checked rule brings: it is accepted and within its limits, and its tables have its child kinds
pub record IsSettled (m : Rule) : Type 0 where
  pub accepted : IsAccepted m
  pub usable : IsUsable m
  pub same_child_kinds : child_kinds (contacts (tiling_of m)) ≡ children (tiling_of m)

module _ (m : Rule) (settled : IsSettled m) where
  -- the rule of the theory
  abbrev pub its_rule : AcceptedRule (points_of m.order)
  its_rule = record {
    edition = as_edition m.edition;
    refused = is_refused m.order;
    rule = rule_of m;
    numbered = settled.usable.numbered;
    edge_to_edge = settled.accepted.edge_to_edge;
  }

  pub fits_tables : (a : TheAddress) → Fits (children (tiling_of m)) a → Fits (child_kinds (contacts (tiling_of m))) a
  fits_tables a h = subst (λ u. Fits u a) (sym settled.same_child_kinds) h

  pub has_edge : (a : TheAddress) (e : ℕ) → Fits (child_kinds (contacts (tiling_of m))) a
      → e < edges_of (tiling_of m) a.kind → HasEdge (points_of m.order) (rule_of m) a e
  has_edge a e fits edge = record { fits = fits; edge_exists = edge }

  module _ (a : TheAddress) (e : ℕ) (fits : Fits (children (tiling_of m)) a) (edge : e < edges_of (tiling_of m) a.kind) where
    own : HasEdge (points_of m.order) (rule_of m) a e
    own = has_edge a e (fits_tables a fits) edge

    pub only_across : OnlyTilesLaw m.order → (b : TheAddress) (x : Result ℕ Outside) → IfOk x (λ f. IsAcross (contacts (tiling_of m)) a e b f)
        → IfOk x (λ f. IsOnlyAcross (tiling_of m) a e b f)
    only_across law b (Ok f) h = (law its_rule a b e f own h.only.fits).0 h.only
    only_across law b (Err o) h = tt

    pub way_back : OnlyTilesLaw m.order → (b : TheAddress) (x : Result ℕ Outside) → IfOk x (λ f. IsAcross (contacts (tiling_of m)) a e b f)
        → IfOk x (λ f. IsOnlyAcross (tiling_of m) b f a e)
    way_back law b (Ok f) h =
        (law its_rule b a f e (has_edge b f h.only.fits ((edge_typed (tiling_of m) b.kind f).0 h.edge_exists)) own.fits).0 h.leads_back
    way_back law b (Err o) h = tt

    pub lies_on_boundary : BoundariesLaw m.order → (x : Result ℕ Outside) → IfErr x (λ o. LiesOn (contacts (tiling_of m)) a e o.edge o.part)
        → IfErr x (λ o. LiesOnBoundary (tiling_of m) a e o.edge o.part)
    lies_on_boundary law (Ok x) h = tt
    lies_on_boundary law (Err o) h = (law its_rule a e o.edge o.part own).1 (h.cuts, h.trace, sym h.is_part)

    pub boundary_lies : BoundariesLaw m.order → (top part : ℕ) → LiesOnBoundary (tiling_of m) a e top part
        → LiesOn (contacts (tiling_of m)) a e top part
    boundary_lies law top part on =
        let h = (law its_rule a e top part own).0 on in
        record { cuts = h.0; trace = h.1; is_part = sym h.2 }

    -- what lies along an edge of the supertile's polygon lies on some part of it
    pub on_some_part : (top : ℕ) → LiesAlong (tiling_of m) a e top → (part : ℕ) × LiesOnBoundary (tiling_of m) a e top part
    on_some_part top h = along-boundary (record
        { points = points_of m.order; laws = laws_of m.order; accepted = its_rule }) a e top own.fits
        own.edge_exists h.exists h.along

    -- an edge that lies on some part is answered by it, and so none that is crossed lies along an edge of that polygon
    module _ (law : BoundariesLaw m.order) (t : Tables) (same : t ≡ contacts (tiling_of m)) (x : Result ℕ Outside)
        (when : (top part : ℕ) → LiesOn t a e top part → x ≡ Err (record { edge = top; part = part })) where
      pub outside_on : (top part : ℕ) → LiesOnBoundary (tiling_of m) a e top part → x ≡ Err (record { edge = top; part = part })
      outside_on top part on = when top part (subst (λ (u : Tables). LiesOn u a e top part) (sym same) (boundary_lies law top part on))

      pub along_none : OnOk x (LiesAlongNone (tiling_of m) a e)
      along_none = none x outside_on
        where
          none : (y : Result ℕ Outside) → ((top part : ℕ) → LiesOnBoundary (tiling_of m) a e top part
              → y ≡ Err (record { edge = top; part = part })) → OnOk y (LiesAlongNone (tiling_of m) a e)
          none (Ok f) outside = λ top h. let on = on_some_part top h in let is = outside top on.0 on.1 in absurd cc
          none (Err o) outside = tt
