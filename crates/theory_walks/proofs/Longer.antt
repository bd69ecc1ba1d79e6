-- A longer coarse end changes no crossing: what is across stays across, and what is inside stays inside.
use Rattle.std.proofs.Common.{ℕ, ◌+◌, ◌<◌, List, [], ◌∷◌, ◌++◌, length, refl, sym, ap, ◌∙◌, subst, arith, length-append}
use Rattle.std.proofs.lemmas.List.{drop-append-le, take-append-le}
use Rattle.std.proofs.lemmas.Option.{slice_get_within}
use Rattle.theory_addresses.specs.Address.{Step, Address, Climbs, Fits}
use Rattle.theory_addresses.specs.Tables.{Tables}
use Rattle.theory_addresses.specs.Touch.{Touches}
use Rattle.theory_addresses.specs.Trace.{IsTrace, first_part}
use Rattle.theory_addresses.specs.Coherent.{IsCoherent}
use Rattle.theory_addresses.proofs.Ranges.{slice_get-append_left}
use Rattle.theory_addresses.proofs.Touching.{only_touching}
use Rattle.theory_edge_to_edge.proofs.CoherentContacts.{contacts-coherent}
use Rattle.cyclo_points.specs.Order.{points_of, is_refused}
use Rattle.cyclo_points.proofs.OrderLaws.{laws_of}
use Rattle.theory_frames.proofs.Frames.{IsWhole, Climbs-join, Climbs-split}
use Rattle.rule_model.specs.declared.rule.Rule.{Rule}
use Rattle.rule_model.specs.Tiling.{Tiling, tiling_of, contacts, children}
use Rattle.rule_model.specs.Views.{rule_of, as_edition}
use Rattle.tile_place.specs.Crossed.{edges_of}
use Rattle.tile_place.proofs.KindEdges.{edge_typed}
use Rattle.tile_place.proofs.Plane.{OnlyTilesLaw, BoundariesLaw, IsSettled, its_rule, fits_tables, has_edge, part_along, on_some_part, boundary_lies}
use Rattle.theory_walks.specs.Boundary.{IsBoundaryEdge}
use Rattle.theory_walks.specs.Paths.{Crosses, Leads}
use Rattle.theory_walks.proofs.Lifting.{trace-front, touching-top}

-- an address with further digits
abbrev pub further_up : Address → List Step → Address
further_up a more = record { kind = a.kind; digits = a.digits ++ more }

-- a tile of a supertile fits with the digits with which its supertile does
whole-longer : {children : List (List ℕ)} (g a : Address) (more : List Step)
    → Fits children (further_up g more) → IsWhole children g a → Fits children (further_up a more)
whole-longer {children} g a more fits own = record {
  kind_exists = own.fits.kind_exists;
  climbs = Climbs-join children a.kind a.digits more own.fits.climbs
      (subst (λ k. Climbs children k more) (sym own.same_top)
      (Climbs-split children g.kind g.digits more fits.climbs).1);
}

-- edges that touch, touch in each larger supertile
pub Touches-longer : (t : Tables) (a b : Address) (e f : ℕ) (more : List Step) → Touches t a e b f
    → Touches t (further_up a more) e (further_up b more) f
Touches-longer t a b e f more h = record {
  one_depth = length-append a.digits more ∙ ap (λ n. n + length more) h.one_depth ∙ sym (length-append b.digits more);
  below = h.below;
  x = h.x;
  y = h.y;
  digit_x = slice_get-append_left a.digits more h.below a_deep ∙ h.digit_x;
  digit_y = slice_get-append_left b.digits more h.below b_deep ∙ h.digit_y;
  one_parent = h.one_parent;
  one_above = drop-append-le (h.below + 1) a.digits more (omega (arith, a_deep))
      ∙ ap (λ ds. ds ++ more) h.one_above ∙ sym
      (drop-append-le (h.below + 1) b.digits more (omega (arith, b_deep)));
  edge_x = h.edge_x;
  edge_y = h.edge_y;
  cuts_x = h.cuts_x;
  cuts_y = h.cuts_y;
  trace_x = subst (λ ds. IsTrace t e ds h.edge_x h.cuts_x) (sym (take-append-le h.below a.digits more (omega (arith, a_deep)))) h.trace_x;
  trace_y = subst (λ ds. IsTrace t f ds h.edge_y h.cuts_y) (sym (take-append-le h.below b.digits more (omega (arith, b_deep)))) h.trace_y;
  meet = h.meet;
  mirrored = h.mirrored;
}
  where
    a_deep : h.below < length a.digits
    a_deep = slice_get_within a.digits h.below h.x h.digit_x

    b_deep : h.below < length b.digits
    b_deep = slice_get_within b.digits h.below h.y h.digit_y

module _ (m : Rule) (settled : IsSettled m) (law : OnlyTilesLaw m.order) where
  coherent : IsCoherent (contacts (tiling_of m))
  coherent = contacts-coherent (points_of m.order) (laws_of m.order) (as_edition m.edition)
      (is_refused m.order) (rule_of m) settled.usable.numbered settled.accepted.edge_to_edge

  touches : (a b : Address) (e f : ℕ) → Fits (children (tiling_of m)) a → Crosses (tiling_of m) a e b f → Touches (contacts (tiling_of m)) a e b f
  touches a b e f fits h =
      ((law (its_rule m settled) a b e f (has_edge m settled a e (fits_tables m settled a fits) h.edge_exists)
      (fits_tables m settled b h.fits)).1 h.across).touched

  -- the tile across names a tile of the same supertile
  pub across-whole : (g a b : Address) (e f : ℕ) → IsWhole (children (tiling_of m)) g a
      → Crosses (tiling_of m) a e b f → IsWhole (children (tiling_of m)) g b
  across-whole g a b e f own h =
      let touched = touches a b e f own.fits h in
      record {
        fits = h.fits;
        same_depth = sym touched.one_depth ∙ own.same_depth;
        same_top = sym (touching-top (contacts (tiling_of m)) a b e f touched) ∙ own.same_top;
      }

  module _ (bounds : BoundariesLaw m.order) where
    -- an edge of a tile that is inside stays inside in each larger supertile
    pub inside-longer : (a : Address) (e : ℕ) (more : List Step) → Fits (children (tiling_of m)) a
        → Fits (children (tiling_of m)) (further_up a more) → e < edges_of (tiling_of m) a.kind
        → IsBoundaryEdge (tiling_of m) (further_up a more) e → IsBoundaryEdge (tiling_of m) a e
    inside-longer a e more fits fits' edge on =
        let part = on_some_part m settled (further_up a more) e fits' edge on.own on.along in
        let lies = boundary_lies m settled (further_up a more) e fits' edge bounds on.own part.0 part.1 in
        let fine = trace-front (contacts (tiling_of m)) e a.digits more on.own lies.cuts lies.trace in
        record {
          own = fine.0;
          along = part_along (tiling_of m) a e fine.0 (first_part fine.1)
              ((bounds (its_rule m settled) a e fine.0 (first_part fine.1)
              (has_edge m settled a e (fits_tables m settled a fits) edge)).1 (fine.1, fine.2, refl));
        }

    pub Crosses-longer : (a b : Address) (e f : ℕ) (more : List Step) → Fits (children (tiling_of m)) a
        → Fits (children (tiling_of m)) (further_up a more)
        → Fits (children (tiling_of m)) (further_up b more)
        → Crosses (tiling_of m) a e b f → Crosses (tiling_of m) (further_up a more) e (further_up b more) f
    Crosses-longer a b e f more fits a_fits b_fits h = record {
      edge_exists = h.edge_exists;
      inside = λ on. h.inside (inside-longer a e more fits a_fits h.edge_exists on);
      fits = b_fits;
      across = (law (its_rule m settled) (further_up a more) (further_up b more) e f
          (has_edge m settled (further_up a more) e (fits_tables m settled (further_up a more) a_fits)
          h.edge_exists)
          (fits_tables m settled (further_up b more) b_fits)).0
          (only_touching (further_up a more) (further_up b more) e f coherent
          (fits_tables m settled (further_up a more) a_fits)
          ((edge_typed (tiling_of m) a.kind e).1 h.edge_exists)
          (Touches-longer (contacts (tiling_of m)) a b e f more (touches a b e f fits h)) (fits_tables m settled (further_up b more) b_fits));
    }

    -- a path that can be walked in a supertile leads in each larger one to the same tile, named there
    pub Leads-longer : (g a b : Address) (path : List ℕ) (more : List Step)
        → Fits (children (tiling_of m)) (further_up g more) → IsWhole (children (tiling_of m)) g a
        → Leads (tiling_of m) a path b
        → Leads (tiling_of m) (further_up a more) path (further_up b more)
    Leads-longer g a b [] more fits own h = ap (λ c. further_up c more) h
    Leads-longer g a b (e ∷ path) more fits own h =
        let x = h.0 in let own' = across-whole g a x e h.1 own h.2 in (
          further_up x more,
          h.1,
          Crosses-longer a x e h.1 more own.fits (whole-longer g a more fits own)
              (whole-longer g x more fits own') h.2,
          Leads-longer g x b path more fits own' h.3,
        )

    -- and names a tile of its supertile
    pub Leads-whole : (g a b : Address) (path : List ℕ) → IsWhole (children (tiling_of m)) g a
        → Leads (tiling_of m) a path b → IsWhole (children (tiling_of m)) g b
    Leads-whole g a b [] own h = subst (IsWhole (children (tiling_of m)) g) (sym h) own
    Leads-whole g a b (e ∷ path) own h = Leads-whole g h.0 b path (across-whole g a h.0 e h.1 own h.2) h.3

-- one edge more
pub Leads-further : (t : Tiling) (a b c : Address) (path : List ℕ) (e f : ℕ) → Leads t a path b → Crosses t b e c f → Leads t a (path ++ e ∷ []) c
Leads-further t a b c [] e f h x = (c, f, subst (λ s. Crosses t s e c f) h x, refl)
Leads-further t a b c (d ∷ path) e f h x = (h.0, h.1, h.2, Leads-further t h.0 b c path e f h.3 x)
