-- The tiles drawn are determined but for their order.
use Rattle.theory_ring.specs.Sign.{Signed}
use Rattle.theory_plane.specs.Crossing.{member}
use Rattle.theory_addresses.specs.Search.{IsAmong}
use Rattle.theory_addresses.proofs.Lists.{AllByRecursion-among, AllByRecursion-from}
use Rattle.theory_windows.specs.GrowingPatch.{IsOfDepth}
use Rattle.theory_windows.specs.AnyOrder.{DrawnSame, DrawnAnyOrder, CoversAnyOrder}
use Rattle.theory_windows.proofs.Members.{number-one, some-passes}

pub drawn_same : {S : Signed} {T : Type 0} → DrawnSame S T
drawn_same {S} {T} F box n xs ys d e t = (
  λ i. let h = AllByRecursion-among (IsOfDepth S T F n) t xs i d.of_depth in (e.meeting t h).0 ((d.meeting t h).1 i),
  λ i. let h = AllByRecursion-among (IsOfDepth S T F n) t ys i e.of_depth in (d.meeting t h).0 ((e.meeting t h).1 i),
)

pub drawn_any_order : {S : Signed} {T : Type 0} → DrawnAnyOrder S T
drawn_any_order {S} {T} F box n xs ys d distinct same = record {
  of_depth = AllByRecursion-from _ ys (λ t i. AllByRecursion-among (IsOfDepth S T F n) t xs ((same t).1 i) d.of_depth);
  distinct = distinct;
  meeting = λ t h. (λ m. (same t).0 ((d.meeting t h).0 m), λ i. (d.meeting t h).1 ((same t).1 i));
}

pub covers_any_order : {S : Signed} {T : Type 0} → CoversAnyOrder S T
covers_any_order {S} {T} P D box xs ys of_patch distinct same covers p test inside =
    let t = some-passes (λ u. member S (P.outline u) p) xs (covers p test inside) in
    number-one (λ u. member S (P.outline u) p) t.0 ys distinct ((same t.0).0 t.1) t.2
    (λ u i h. D.one_holder u t.0 (tile u ((same u).1 i)) (tile t.0 t.1) p test h t.2)
  where
    tile : (u : T) → IsAmong u xs → IsAmong u P.tiles
    tile u i = AllByRecursion-among (λ v. IsAmong v P.tiles) u xs i of_patch
