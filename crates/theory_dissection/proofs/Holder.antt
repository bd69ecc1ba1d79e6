-- A point that a supertile holds is held by one of its tiles and no other, and a tile of a child's supertile
-- that holds it is that tile with a digit more.
use Rattle.std.proofs.Common.{◌≡◌, inl, inr, ℕ, suc, ◌<◌, ℤ, pos, ◌+ℤ◌, List, [], ◌∷◌, length, map, refl, sym, ap, ◌∙◌}
use Rattle.std.specs.List.{enumerate_from}
use Rattle.theory_ring.specs.Sign.{IsPositive}
use Rattle.theory_plane.specs.Plane.{TestPoint}
use Rattle.theory_plane.specs.Crossing.{count}
use Rattle.theory_plane.proofs.Triangle.{Good}
use Rattle.theory_substitution.specs.Plane.{Keeps}
use Rattle.theory_substitution.specs.Motion.{moved}
use Rattle.theory_substitution.specs.Rule.{Child, children_of}
use Rattle.theory_addresses.specs.Search.{IsAmong}
use Rattle.theory_substitution.specs.Supertile.{Placed, inflated, lifted, supertile}
use Rattle.theory_substitution.proofs.Motions.{moved-followed}
use Rattle.theory_addresses.proofs.Lists.{IsAmong-map, IsAmong-flat_map}
use Rattle.theory_dissection.specs.Sums.{sum_over}
use Rattle.theory_dissection.specs.Polygons.{supertile_polygon}
use Rattle.theory_dissection.specs.Holder.{IsHolder, HoldsAlone}
use Rattle.theory_dissection.proofs.Setting.{Setting}
use Rattle.theory_dissection.proofs.Sums.{zero_plus}
use Rattle.theory_dissection.proofs.SupertileCount.{tile_count, sum-all, count-ext}
use Rattle.theory_dissection.proofs.OnlyOne.{tiles-good, one_tile}

-- where a sum of zeros and ones is 1, a member is 1
some_one : {A : Type 0} (g : A → ℤ) (xs : List A) → ((x : A) → IsAmong x xs → Good (g x))
    → sum_over g xs ≡ pos 1 → (x : A) × IsAmong x xs × (g x ≡ pos 1)
some_one g [] good e = absurd (cc e)
some_one {A} g (x ∷ xs) good e = at_case (good x (inl refl)) (some_one g xs (λ y i. good y (inr i)))
  where
    at_case : Good (g x) → (sum_over g xs ≡ pos 1 → (y : A) × IsAmong y xs × (g y ≡ pos 1)) → (y : A) × IsAmong y (x ∷ xs) × (g y ≡ pos 1)
    at_case (inr k) rest = (x, inl refl, k)
    at_case (inl k) rest = let h = rest (sym (ap (λ v. v +ℤ sum_over g xs) k ∙ zero_plus (sum_over g xs)) ∙ e) in (h.0, inr h.1, h.2)

module _ (T : Setting) where
  open T use {points as P, laws as W, accepted.{rule as r, numbered as N, edge_to_edge as D}}

  abbrev A : Type 0
  A = P.ring.carrier

  module _ (f : A → A) (keeps : Keeps P f) (p : TestPoint P.real.ops.carrier) (d_pos : IsPositive P.real p.d) where
    pub only_holder : (k n : ℕ) → k < length r.kinds → count P.real (supertile_polygon P r f k n) p ≡ pos 1
        → (t : Placed A) × HoldsAlone P r f k n p t
    only_holder k n hk e =
        let h = some_one (tile_count T p f) (supertile P r k n) (tiles-good T f keeps p d_pos k n hk) (sum-all T p k n hk f keeps ∙ e) in (
          h.0,
          record {
            holder = record { among = h.1; holds = h.2 };
            only = λ u x. one_tile T f keeps p d_pos k n hk u h.0 x.among h.1 x.holds h.2;
          },
        )

  -- one digit more at the coarse end
  pub holder-lifted : (f : A → A) (p : TestPoint P.real.ops.carrier) (k n i : ℕ) (c : Child A) (t : Placed A)
      → IsAmong (i, c) (enumerate_from 0 (children_of r k))
      → IsHolder P r (λ z. f (moved P (inflated P r n c.motion) z)) c.kind n p t → IsHolder P r f k (suc n) p (lifted P r k n i c t)
  holder-lifted f p k n i c t there h = record {
    among = IsAmong-flat_map (λ (d : ℕ × Child A). map (lifted P r k n d.0 d.1) (supertile P r d.1.kind n))
        (i, c) (lifted P r k n i c t) (enumerate_from 0 (children_of r k)) there
        (IsAmong-map (lifted P r k n i c) t (supertile P r c.kind n) h.among);
    holds = count-ext T p _ _ t.address.kind (λ z. ap f (moved-followed P W t.motion (inflated P r n c.motion) z)) ∙ h.holds;
  }
