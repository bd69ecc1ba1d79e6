-- The tiles of keys in another order.
use Rattle.std.proofs.Common.{◌≡◌, List, [], ◌∷◌, map, slice_get, false, Some, sym, ap, ◌∙◌, subst, arith}
use Rattle.std.specs.List.{AllByRecursion, Contains, IsDistinct}
use Rattle.std.specs.List.Sorted.{IsPermutation}
use Rattle.std.proofs.lemmas.Bool.{eq-eqb}
use Rattle.std.proofs.lemmas.Bool.Decides.{nat_tests}
use Rattle.std.proofs.lemmas.List.Elements.{All-from_recursion, recursion_from_All}
use Rattle.std.proofs.lemmas.List.Sorted.{IsPermutation-map, IsPermutation-sym, All-permutation, Contains-permutation}
use Rattle.std.proofs.lemmas.Map.Keys.{IsDistinct-IsPermutation}
use Rattle.std.proofs.lemmas.Option.{slice_get_within, get_or_from_slice_get, slice_get-get_or}
use Rattle.theory_addresses.specs.Search.{IsAmong}
use Rattle.theory_addresses.proofs.Lists.{AllByRecursion-among}
use Rattle.theory_addresses.proofs.Ranges.{among-place, place-among, slice_get-image}
use Rattle.theory_windows.specs.AnyOrder.{HaveSameMembers}
use Rattle.theory_windows.specs.Distinct.{AreDistinct}
use Rattle.theory_windows.proofs.Members.{among-map}
use Rattle.tile_place.specs.declared.order_key.OrderKey.{OrderKey}
use Rattle.window_cover.specs.Found.{Found}
use Rattle.window_cover.specs.Keys.{keys_from}
use Rattle.window_cover.proofs.Distinct.{distinct-place}
use Rattle.window_cover.specs.Covered.{none}
use Rattle.window_cover.proofs.Keyed.{keyed_in, IsKey, same_number, keys-tiles, keys-are, keys-distinct}

-- ---- members
among-contains : {A : Type 0} (x : A) (xs : List A) → IsAmong x xs → Contains xs x
among-contains x xs i = let k = among-place x xs i in (k.0, slice_get_within xs k.0 x k.1, get_or_from_slice_get xs k.0 x x k.1)

contains-among : {A : Type 0} (x : A) (xs : List A) → Contains xs x → IsAmong x xs
contains-among x xs c = place-among x xs c.0 (slice_get-get_or xs c.0 x c.1 ∙ ap Some c.2)

pub permuted-members : {A : Type 0} (xs ys : List A) → IsPermutation xs ys → HaveSameMembers xs ys
permuted-members xs ys p t = (
  λ i. contains-among t ys (Contains-permutation xs ys t p (among-contains t xs i)),
  λ i. contains-among t xs (Contains-permutation ys xs t (IsPermutation-sym xs ys p) (among-contains t ys i)),
)

-- ---- keys in another order
flips : (k l : OrderKey) → same_number k l ≡ same_number l k
flips k l = grind (arith, nat_tests)

pub record AreShuffled (found : List Found) (ks : List OrderKey) : Type 0 where
  pub keys : AllByRecursion (IsKey found) ks
  pub numbers : IsDistinct same_number ks
  pub tiles : IsPermutation found (map (keyed_in found) ks)

pub shuffled : (found : List Found) (ks : List OrderKey) → IsPermutation (keys_from 0 found) ks → AreShuffled found ks
shuffled found ks p = record {
  keys = recursion_from_All (IsKey found) ks (All-permutation (IsKey found) (keys_from 0 found) ks p
      (All-from_recursion (IsKey found) (keys_from 0 found) (keys-are found)));
  numbers = IsDistinct-IsPermutation same_number flips (keys_from 0 found) ks p (keys-distinct 0 found);
  tiles = subst (λ (xs : List Found). IsPermutation xs (map (keyed_in found) ks)) (keys-tiles found)
      (IsPermutation-map (keyed_in found) (keys_from 0 found) ks p);
}

module _ {B : Type 0} (found : List Found) (g : Found → B) (d : AreDistinct (map g found)) where
  image-at : (k : OrderKey) → IsKey found k → slice_get (map g found) k.number ≡ Some (g (keyed_in found k))
  image-at k h = slice_get-image g (keyed_in found k) found k.number (slice_get-get_or found k.number none h.below)

  one_number : (k l : OrderKey) → IsKey found k → IsKey found l → g (keyed_in found k) ≡ g (keyed_in found l) → k.number ≡ l.number
  one_number k l h i e = distinct-place (map g found) d k.number l.number (g (keyed_in found k)) (image-at k h) (image-at l i ∙ ap Some (sym e))

  -- the images of the tiles are distinct in the order of the keys too
  pub keyed-distinct : (ks : List OrderKey) → AllByRecursion (IsKey found) ks → IsDistinct same_number ks
      → AreDistinct (map g (map (keyed_in found) ks))
  unfolding IsDistinct
  keyed-distinct [] h n = tt
  keyed-distinct (k ∷ ks) h n = (
    λ i.
        let m = among-map g (g (keyed_in found k)) (map (keyed_in found) ks) i in
        let l = among-map (keyed_in found) m.0 ks m.1 in
        let same : k.number ≡ l.0.number = one_number k l.0 h.0 (AllByRecursion-among (IsKey found) l.0 ks l.1 h.1) (m.2 ∙ ap g l.2) in
        absurd (cc (sym (eq-eqb k.number l.0.number same) ∙ AllByRecursion-among (λ q. same_number k q ≡ false) l.0 ks l.1 n.0)),
    keyed-distinct ks h.1 n.1,
  )
