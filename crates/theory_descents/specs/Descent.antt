-- The descent through the parts of a supertile to the tiles that meet a box. Parts that a test finds beyond
-- the box are left out. The tiles of parts that a test finds within it are taken without a further test.
use Rattle.std.specs.Prelude.{◌≡◌, ℕ, zero, suc, Bool, true, cond, List, [], ◌∷◌, map}
use Rattle.std.specs.List.{flat_map, filter, enumerate_from}
use Rattle.theory_ring.specs.Ring.{power}
use Rattle.theory_plane.specs.Box.{OpenBox}
use Rattle.theory_substitution.specs.Points.{Points}
use Rattle.theory_substitution.specs.Motion.{Motion}
use Rattle.theory_substitution.specs.Rule.{Child, Rule, children_of}
use Rattle.theory_substitution.specs.Supertile.{Placed}
use Rattle.theory_frames.specs.Descent.{of_whole}
use Rattle.theory_frames.specs.Part.{child_motion}
use Rattle.theory_descents.specs.Insets.{IsBeyondBox, IsWithinBox}
use Rattle.theory_descents.specs.Parts.{digit, one_tile, tiles_below, part_polygon, tile_meets}

-- whether a part, by its kind, depth and motion, is left out, and whether its tiles are taken
pub record PartTests (A : Type 0) : Type 0 where
  pub is_pruned : ℕ → ℕ → Motion A → Bool
  pub is_taken : ℕ → ℕ → Motion A → Bool

-- a part that is left out lies beyond a side of the box, and one that is taken lies within it
pub record AreRightTests (P : Points) (r : Rule P.ring.carrier) (box : OpenBox P.real.ops.carrier)
    (tests : PartTests P.ring.carrier) : Type 0 where
  pub pruned : (k n : ℕ) (m : Motion P.ring.carrier) → tests.is_pruned k n m ≡ true
      → IsBeyondBox P.real box (part_polygon P r k n m)
  pub taken : (k n : ℕ) (m : Motion P.ring.carrier) → tests.is_taken k n m ≡ true
      → IsWithinBox P.real box (part_polygon P r k n m)

-- what the descent finds in the supertile of kind k and depth n, moved by m; a tile by itself is tested
-- exactly
abbrev pub descended : (P : Points) → Rule P.ring.carrier → OpenBox P.real.ops.carrier
    → PartTests P.ring.carrier → ℕ → ℕ → Motion P.ring.carrier → List (Placed P.ring.carrier)
descended P r box tests k zero m =
    cond (tests.is_pruned k 0 m) [] (cond (tests.is_taken k 0 m) (one_tile k m ∷ [])
    (filter (tile_meets P r box) (one_tile k m ∷ [])))
descended P r box tests k (suc n) m =
    cond (tests.is_pruned k (suc n) m) [] (cond (tests.is_taken k (suc n) m) (tiles_below P r k (suc n) m)
    (flat_map (λ (c : ℕ × Child P.ring.carrier). map (of_whole (digit c.0 k))
    (descended P r box tests c.1.kind n (child_motion P r (power P.ring r.factor n) m c.1)))
    (enumerate_from 0 (children_of r k))))
