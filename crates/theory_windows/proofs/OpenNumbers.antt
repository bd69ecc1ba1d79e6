-- The numbers of open edges.
use Rattle.std.proofs.Common.{◌≡◌, ◌⊎◌, inl, inr, ℕ, suc, ◌+◌, List, [], ◌∷◌, flat_map, Some, slice_get, refl, sym, ap, ◌∙◌, subst, arith, zero-add}
use Rattle.std.specs.List.{enumerate_from}
use Rattle.std.proofs.lemmas.Bool.{and_parts}
use Rattle.theory_ring.specs.Ring.{Laws}
use Rattle.theory_ring.specs.Sign.{Signed, OrderLaws}
use Rattle.theory_ring.specs.Divisor.{DividesWhole}
use Rattle.theory_plane.proofs.BoxMeets.{box_test-meets}
use Rattle.theory_addresses.specs.Search.{IsAmong}
use Rattle.theory_addresses.proofs.Filters.{IsAmong-filter}
use Rattle.theory_addresses.proofs.Ranges.{among-append}
use Rattle.theory_frames.proofs.Fitting.{child-at}
use Rattle.theory_windows.specs.Outlines.{PlaneEdge, Polygon, edges}
use Rattle.theory_windows.specs.OpenEdges.{NumberedEdge, edges_of_tile, numbered_from}
use Rattle.theory_windows.specs.OpenTest.{is_open}
use Rattle.theory_windows.specs.OpenNumbers.{OpenNumbers}
use Rattle.theory_windows.proofs.Members.{among-map}

module _ (S : Signed) where
  -- the edge of that number of the polygon of that number, counted from i
  record IsEdgeFrom (i : ℕ) (ps : List (Polygon S)) (n : NumberedEdge S) : Type 0 where
    place : ℕ
    tile_is : n.tile ≡ i + place
    polygon : Polygon S
    tile_at : slice_get ps place ≡ Some polygon
    edge_at : slice_get (edges polygon) n.edge ≡ Some n.line

  edge-from : (i : ℕ) (ps : List (Polygon S)) (n : NumberedEdge S) → IsAmong n (numbered_from S i ps) → IsEdgeFrom i ps n
  edge-from i [] n j = elim j [ ]
  edge-from i (p ∷ ps) n j = at_case (among-append n (edges_of_tile S i p) (numbered_from S (suc i) ps) j) (edge-from (suc i) ps n)
    where
      here : {t : ℕ} → t ≡ i → t ≡ i + 0
      here e = omega arith

      later : (t k : ℕ) → t ≡ suc i + k → t ≡ i + suc k
      later t k e = omega arith

      at_case : IsAmong n (edges_of_tile S i p) ⊎ IsAmong n (numbered_from S (suc i) ps)
          → (IsAmong n (numbered_from S (suc i) ps) → IsEdgeFrom (suc i) ps n) → IsEdgeFrom i (p ∷ ps) n
      at_case (inl k) more =
          let m = among-map (λ (e : ℕ × PlaneEdge S). record { tile = i; edge = e.0; line = e.1 }) n (enumerate_from 0 (edges p)) k in
          record {
            place = 0;
            tile_is = here (ap (λ (x : NumberedEdge S). x.tile) m.2);
            polygon = p;
            tile_at = refl;
            edge_at = subst (λ (x : NumberedEdge S). slice_get (edges p) x.edge ≡ Some x.line) (sym m.2) (child-at (edges p) m.0 m.1);
          }
      at_case (inr k) more =
          let m : IsEdgeFrom (suc i) ps n = more k in
          record { place = suc m.place; tile_is = later n.tile m.place m.tile_is; polygon = m.polygon; tile_at = m.tile_at; edge_at = m.edge_at }

pub open_numbers : (S : Signed) (L : Laws S.ops) (O : OrderLaws S) → DividesWhole S → OpenNumbers S
open_numbers S L O whole box ps o i =
    let j = IsAmong-filter (λ (n : NumberedEdge S). is_open S box (flat_map edges ps) n.line) o (numbered_from S 0 ps) i in
    let m : IsEdgeFrom S 0 ps o = edge-from S 0 ps o j.0 in (
      record { polygon = m.polygon; tile_at = ap (slice_get ps) (m.tile_is ∙ zero-add m.place) ∙ m.tile_at; edge_at = m.edge_at },
      box_test-meets S L O whole o.line.from o.line.to box (and_parts _ _ j.1).0,
    )
