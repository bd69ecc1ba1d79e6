-- Finding the tile of a supertile that holds a point: from the supertile down, each time to the part that
-- holds the point.
use Rattle.std.specs.Prelude.{ℕ, zero, suc, cond, List, [], ◌∷◌, ◌++◌, None, Some}
use Rattle.std.specs.declared.option.Option.{Option}
use Rattle.std.specs.Option.{option_map, option_and_then}
use Rattle.theory_substitution.specs.Points.{Points}
use Rattle.theory_substitution.specs.Motion.{Motion}
use Rattle.theory_addresses.specs.Address.{Step}
use Rattle.theory_substitution.specs.Rule.{Rule}
use Rattle.theory_substitution.specs.Supertile.{Placed}
use Rattle.theory_frames.specs.Outline.{supertile_holds}
use Rattle.theory_frames.specs.Part.{Part, holder_of}

-- a tile of a part as one of the whole: coarser digits after its own
abbrev pub of_whole : {A : Type 0} → List Step → Placed A → Placed A
of_whole ds t = record {
  address = record { kind = t.address.kind; digits = t.address.digits ++ ds };
  motion = t.motion;
}

-- the tile that the descent through the supertile of kind k and depth n, moved by m, ends at
abbrev pub tile_below : (P : Points) → Rule P.ring.carrier → ℕ → ℕ → Motion P.ring.carrier → P.ring.carrier
    → Option (Placed P.ring.carrier)
tile_below P r k zero m p = Some (record { address = record { kind = k; digits = [] }; motion = m })
tile_below P r k (suc n) m p =
    option_and_then (λ (c : Part P.ring.carrier). option_map
    (of_whole (record { child = c.child; parent = k } ∷ [])) (tile_below P r c.kind n c.motion p))
    (holder_of P r k n m p)

-- the tile of that supertile that holds a point; none if the supertile does not hold it
abbrev pub tile_holding : (P : Points) → Rule P.ring.carrier → ℕ → ℕ → Motion P.ring.carrier → P.ring.carrier
    → Option (Placed P.ring.carrier)
tile_holding P r k n m p = cond (supertile_holds P r k n m p) (tile_below P r k n m p) None
