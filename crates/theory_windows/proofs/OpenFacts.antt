-- The open edges of a right state.
use Rattle.std.proofs.Common.{◌≡◌, List, flat_map, subst, false}
use Rattle.std.proofs.lemmas.Bool.{and_parts}
use Rattle.theory_ring.specs.Ring.{Laws}
use Rattle.theory_ring.specs.Sign.{Signed, OrderLaws}
use Rattle.theory_ring.specs.Divisor.{DividesWhole}
use Rattle.theory_ring.proofs.Booleans.{denied}
use Rattle.theory_plane.proofs.BoxMeets.{box_test-meets}
use Rattle.theory_addresses.specs.Search.{IsAmong}
use Rattle.theory_windows.specs.Outlines.{PlaneEdge, edges, MeetsBox}
use Rattle.theory_windows.specs.Patch.{Patch}
use Rattle.theory_windows.specs.GrowingPatch.{GrowingPatch}
use Rattle.theory_windows.specs.OpenEdges.{NumberedEdge, numbered_from}
use Rattle.theory_windows.specs.OpenTest.{is_met, is_open}
use Rattle.theory_windows.specs.SearchState.{SearchState, outlines, IsRightState}
use Rattle.theory_windows.specs.PatchWindow.{PatchWindow}
use Rattle.theory_addresses.proofs.Lists.{AllByRecursion-among}
use Rattle.theory_windows.proofs.Members.{among-map}
use Rattle.theory_addresses.proofs.Filters.{IsAmong-filter}
use Rattle.theory_windows.proofs.OpenEdges.{of-polygon}

module _ (S : Signed) (L : Laws S.ops) (O : OrderLaws S) (whole : DividesWhole S) where
  module _ {T : Type 0} (G : PatchWindow S T) where
    abbrev F : GrowingPatch S T
    F = G.growing

    abbrev P : Patch S T
    P = G.growing.patch

    module _ (s : SearchState S T) (right : IsRightState S T F G.box s) where
      pub of_patch : (t : T) → IsAmong t s.found → IsAmong t P.tiles
      of_patch t i = AllByRecursion-among (λ u. IsAmong u P.tiles) t s.found i right.of_patch

      abbrev lines : List (PlaneEdge S)
      lines = flat_map edges (outlines S T F s.found)

      -- what an open edge is
      pub record OpenFacts (o : NumberedEdge S) : Type 0 where
        pub tile : T
        pub found : IsAmong tile s.found
        pub of_tile : IsAmong o.line (edges (P.outline tile))
        pub meets : MeetsBox S G.box o.line
        pub not_met : is_met S lines o.line ≡ false

      pub open-facts : (o : NumberedEdge S) → IsAmong o s.open_edges → OpenFacts o
      open-facts o i =
          let j = IsAmong-filter (λ (n : NumberedEdge S). is_open S G.box lines n.line) o
          (numbered_from S 0 (outlines S T F s.found)) (subst (IsAmong o) right.open_is i) in
          let k = and_parts _ _ j.1 in
          let p = of-polygon S 0 (outlines S T F s.found) o j.0 in
          let t = among-map P.outline p.0 s.found p.1 in
          record {
            tile = t.0;
            found = t.1;
            of_tile = subst (λ q. IsAmong o.line (edges q)) t.2 p.2;
            meets = box_test-meets S L O whole o.line.from o.line.to G.box k.0;
            not_met = denied _ k.1;
          }
