-- The theorem of the window: closed tiles cover the box, since one of them holds its centre.
use Rattle.std.proofs.Common.{◌≡◌, inl, ℕ, zero, suc, ◌<◌, List, [], ◌∷◌, length, pos, refl, sym, ap, ◌∙◌, subst, true, is_gt, arith}
use Rattle.std.proofs.lemmas.Bool.{and_from}
use Rattle.theory_ring.specs.Ring.{Ops, Laws, difference}
use Rattle.theory_ring.specs.Sign.{Signed, OrderLaws, IsPositive}
use Rattle.theory_ring.specs.Divisor.{DividesWhole}
use Rattle.theory_plane.specs.Plane.{TestPoint, IsTestPoint, test_point}
use Rattle.theory_plane.specs.Box.{OpenBox, is_shorter, in_box}
use Rattle.theory_ring.proofs.Normaliser.{var, con, neg, ring, ◌⊖◌, ◌⊗◌}
use Rattle.theory_plane.proofs.BoxPoints.{whole_positive}
use Rattle.std.specs.List.{AllByRecursion}
use Rattle.theory_addresses.specs.Search.{IsAmong}
use Rattle.theory_edge_to_edge.specs.Edges.{Edge}
use Rattle.theory_windows.specs.Outlines.{edges_from, PlaneEdge, Polygon, edges, MeetsBox}
use Rattle.theory_windows.specs.Meeting.{PolygonMeetsBox}
use Rattle.theory_windows.specs.Patch.{Patch, IsDissected, HasAcross, IsClosed, Covers, HasAll}
use Rattle.theory_windows.specs.Window.{WindowTheorem, KnownByOutline}
use Rattle.theory_addresses.proofs.Lists.{AllByRecursion-among}
use Rattle.theory_windows.proofs.CoveredBox.{covers as covered, has_all as all_found}

-- ---- the centre of a box is in it
module _ (S : Signed) (L : Laws S.ops) (O : OrderLaws S) (box : OpenBox S.ops.carrier) where
  extent_positive : (n : ℕ) → 0 < n → IsPositive S (S.ops.int (pos n))
  extent_positive zero h = absurd (omega arith)
  extent_positive (suc n) h = whole_positive S L O n

  centre-below : (c w : S.ops.carrier) → IsPositive S w
      → is_shorter S (difference S.ops c (S.ops.mul (S.ops.int (pos 1)) c))
      (S.ops.mul (S.ops.int (pos 1)) w) ≡ true
  centre-below c w h = and_from _ _
      (ap is_gt (ap S.sign (ring S.ops L (c ∷ (w ∷ [])) (con (pos 1) ⊗ var 1 ⊖ (var 0 ⊖ con (pos 1) ⊗ var 0)) (var 1) refl) ∙ h))
      (ap is_gt (ap S.sign (ring S.ops L (c ∷ (w ∷ [])) (con (pos 1) ⊗ var 1 ⊖ neg (var 0 ⊖ con (pos 1) ⊗ var 0)) (var 1) refl) ∙ h))

  pub centre-in_box : 0 < box.w → 0 < box.h → in_box S box (test_point S.ops box.centre) ≡ true
  centre-in_box wide high = and_from _ _ (centre-below box.centre.x (S.ops.int (pos box.w))
      (extent_positive box.w wide)) (centre-below box.centre.y (S.ops.int (pos box.h))
      (extent_positive box.h high))

module _ (S : Signed) (L : Laws S.ops) (O : OrderLaws S) (whole : DividesWhole S) {T : Type 0} (P : Patch S T)
    (D : IsDissected S T P) (box : OpenBox S.ops.carrier) (found : List T) (C : IsClosed S T P box found)
  where
    abbrev R : Ops
    R = S.ops

    -- the tiles are of the patch, and the tile across each edge of theirs that meets the box is one of them
    of_patch : (t : T) → IsAmong t found → IsAmong t P.tiles
    of_patch t i = AllByRecursion-among (λ u. IsAmong u P.tiles) t found i C.of_patch

    closed : (t : T) → IsAmong t found → (e : PlaneEdge S) → IsAmong e (edges (P.outline t)) → MeetsBox S box e → HasAcross S T P found e
    closed t i e j =
        AllByRecursion-among (λ e. MeetsBox S box e → HasAcross S T P found e) e (edges (P.outline t)) j
        (AllByRecursion-among (λ t. AllByRecursion (λ e. MeetsBox S box e → HasAcross S T P found e) (edges (P.outline t))) t found i C.closed)

    -- the centre of the box, as a test point
    abbrev middle : TestPoint R.carrier
    middle = test_point R box.centre

    middle-test : IsTestPoint S middle
    middle-test = (0, refl)

    module _ (wide : 0 < box.w) (high : 0 < box.h) where
      -- the tile that holds the centre meets the box there
      at_centre : PolygonMeetsBox S box (P.outline C.holds_centre.0)
      at_centre = (middle, middle-test, centre-in_box S L O box wide high, C.holds_centre.2)

      -- so the tiles cover the box
      pub covers : Covers S T P box found
      covers = covered S L O whole P D box found of_patch C.distinct closed C.holds_centre.0 C.holds_centre.1 at_centre

      -- and are all that meet it
      pub has_all : HasAll S T P box found
      has_all = all_found S L O whole P D box found of_patch C.distinct closed C.holds_centre.0 C.holds_centre.1 at_centre

pub window_theorem : (S : Signed) (L : Laws S.ops) (O : OrderLaws S) → DividesWhole S → {T : Type 0} → WindowTheorem S T
window_theorem S L O whole P D box wide high found C = (covers S L O whole P D box found C wide high, has_all S L O whole P D box found C wide high)

-- of two tiles with one outline both have its first edge
pub known_by_outline : {S : Signed} {T : Type 0} → KnownByOutline S T
known_by_outline {S} {T} P D t u i j same = at_outline (P.outline t) refl (D.left_fan t i).corners
  where
    at_outline : (vs : Polygon S) → vs ≡ P.outline t → 2 < length (P.outline t) → t ≡ u
    at_outline [] e h = absurd (empty (subst (λ (vs : Polygon S). 2 < length vs) (sym e) h))
      where
        empty : 2 < 0 → ⊥
        empty k = omega arith
    at_outline (v ∷ vs) e h = first (edges (v ∷ vs)) (some-edge v v vs) (ap edges e)
      where
        some-edge : {A : Type 0} (a b : A) (ws : List A) → (d : Edge A) × IsAmong d (edges_from a b ws)
        some-edge a b [] = (record { from = b; to = a }, inl refl)
        some-edge a b (w ∷ ws) = (record { from = b; to = w }, inl refl)

        first : (es : List (PlaneEdge S)) → (d : PlaneEdge S) × IsAmong d es → es ≡ edges (P.outline t) → t ≡ u
        first es d f = D.one_owner t u i j d.0 (subst (IsAmong d.0) f d.1) (subst (IsAmong d.0) (f ∙ ap edges same) d.1)
