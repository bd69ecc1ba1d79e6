-- The tiles of a part are those of the part at the origin that is turned as it, moved.
use Rattle.std.proofs.Common.{◌≡◌, ℕ, ◌+◌, ◌%◌, ◌<◌, map, pos, sym, ap, ◌∙◌}
use Rattle.std.proofs.lemmas.Simd.{map-map}
use Rattle.theory_ring.specs.Ring.{power}
use Rattle.theory_addresses.proofs.Lists.{map-ext}
use Rattle.theory_substitution.specs.Motion.{Motion, followed}
use Rattle.theory_substitution.specs.Points.{Points, PointLaws}
use Rattle.theory_substitution.specs.Rule.{Rule}
use Rattle.theory_substitution.specs.Supertile.{Placed, supertile}
use Rattle.theory_descents.specs.Parts.{tiles_below}
use Rattle.theory_descents.proofs.Parts.{below-moved}

-- a tile moved further
abbrev pub shifted : (P : Points) → P.ring.carrier → Placed P.ring.carrier → Placed P.ring.carrier
shifted P z t = record { address = t.address; motion = record { turn = t.motion.turn; shift = P.ring.add t.motion.shift z } }

module _ (P : Points) (W : PointLaws P) (r : Rule P.ring.carrier) (k n turn : ℕ) (s z : P.ring.carrier) (below : turn < P.order)
    (none : s ≡ P.ring.int (pos 0)) where
  abbrev A : Type 0
  A = P.ring.carrier

  abbrev at : A → Motion A
  at y = record { turn = turn; shift = y }

  abbrev tile_at : A → Placed A → Placed A
  tile_at y t = record { address = t.address; motion = followed P t.motion (at y) }

  one : (t : Placed A) → tile_at z t ≡ shifted P z (tile_at s t)
  one t = ap (λ y. record { address = t.address; motion = record { turn = (turn + t.motion.turn) % P.order; shift = P.ring.add y z } })
      (sym (ap (P.ring.add turned) none ∙ W.of_ring.add_zero turned))
    where
      turned : A
      turned = P.ring.mul (power P.ring P.zeta turn) t.motion.shift

  pub below-shifted : tiles_below P r k n (at z) ≡ map (shifted P z) (tiles_below P r k n (at s))
  below-shifted =
      below-moved P W r k n (at z) below
      ∙ map-ext (tile_at z) (λ t. shifted P z (tile_at s t)) (supertile P r k n) one
      ∙ sym (map-map (shifted P z) (tile_at s) (supertile P r k n))
      ∙ ap (map (shifted P z)) (sym (below-moved P W r k n (at s) below))
