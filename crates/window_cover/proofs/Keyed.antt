-- The keys of tiles found, and the tiles that keys number.
use Rattle.std.proofs.Common.{◌≡◌, ℕ, zero, suc, ◌+◌, ◌<◌, List, [], ◌∷◌, ◌++◌, length, map, take, get_or, slice_get, Bool, false, nat_eq, IfSome, refl, sym, ap, ap₂, subst, ◌∙◌, arith}
use Rattle.std.specs.List.{AllByRecursion, IsDistinct}
use Rattle.std.proofs.lemmas.Bool.Decides.{nat_tests}
use Rattle.std.proofs.Math.Seq.{get_or-append_seam}
use Rattle.tile_place.specs.declared.order_key.OrderKey.{OrderKey}
use Rattle.window_cover.specs.Covered.{none, tile_of}
use Rattle.window_cover.specs.Found.{Found}
use Rattle.tile_place.specs.Keys.{key_of}
use Rattle.window_cover.specs.Keys.{keys_from}

-- ---- one more
pub keys-more : (n m k : ℕ) (xs : List Found) (key : OrderKey) → m ≡ n + k → k < length xs
    → IfSome (slice_get xs k) (λ x. key ≡ key_of x.motion x.kind m)
    → keys_from n (take (suc k) xs) ≡ keys_from n (take k xs) ++ key ∷ []
keys-more n m k [] key e l h = absurd (omega arith)
keys-more n m zero (x ∷ xs) key e l h = let same : m ≡ n = omega (arith, e) in ap (λ (k : OrderKey). k ∷ [])
    (sym (h ∙ ap (key_of x.motion x.kind) same))
keys-more n m (suc k) (x ∷ xs) key e l h =
    ap (λ (ks : List OrderKey). key_of x.motion x.kind n ∷ ks) (keys-more (suc n) m k xs key (omega (arith, e)) (omega arith) h)

-- what holds of the tile of a number, by its place
pub some-at : (Q : Found → Type 0) (xs : List Found) (k : ℕ) → k < length xs → Q (tile_of xs k) → IfSome (slice_get xs k) Q
some-at Q [] k l h = absurd (omega arith)
some-at Q (x ∷ xs) zero l h = h
some-at Q (x ∷ xs) (suc k) l h = some-at Q xs k (omega arith) h

-- ---- by number
-- the tile of a key
abbrev pub keyed_in : List Found → OrderKey → Found
keyed_in found k = tile_of found k.number

-- a key is the one of its tile, which is there
pub record IsKey (found : List Found) (key : OrderKey) : Type 0 where
  pub below : key.number < length found
  pub is : key ≡ key_of (keyed_in found key).motion (keyed_in found key).kind key.number

pub below-behind : {A : Type 0} (xs : List A) (y : A) (ys : List A) → length xs < length (xs ++ y ∷ ys)
below-behind [] y ys = omega arith
below-behind (x ∷ xs) y ys = let l = below-behind xs y ys in omega (arith, l)

pub length-one_more : {A : Type 0} (xs : List A) (y : A) → length (xs ++ y ∷ []) ≡ suc (length xs)
length-one_more [] y = refl
length-one_more (x ∷ xs) y = ap suc (length-one_more xs y)

pub assoc : {A : Type 0} (xs : List A) (y : A) (ys : List A) → (xs ++ y ∷ []) ++ ys ≡ xs ++ y ∷ ys
assoc [] y ys = refl
assoc (x ∷ xs) y ys = ap (λ zs. x ∷ zs) (assoc xs y ys)

-- what holds of the keys of tiles behind others
record AreBehind (all : List Found) (n : ℕ) (xs : List Found) : Type 0 where
  tiles : map (keyed_in all) (keys_from n xs) ≡ xs
  keys : AllByRecursion (IsKey all) (keys_from n xs)

behind : (front xs all : List Found) (n : ℕ) → front ++ xs ≡ all → length front ≡ n → AreBehind all n xs
behind front [] all n e l = record { tiles = refl; keys = tt }
behind front (x ∷ xs) all n e l =
    let more : AreBehind all (suc n) xs = behind (front ++ x ∷ []) xs all (suc n) (assoc front x xs ∙ e) (length-one_more front x ∙ ap suc l) in
    let here : get_or all n none ≡ x = sym (ap₂ (λ (ys : List Found) (k : ℕ). get_or ys k none) e l) ∙ get_or-append_seam front x xs none in
    let within : n < length all = subst (λ k. k < length all) l (subst (λ (ys : List Found). length front < length ys) e (below-behind front x xs)) in
    record {
      tiles = ap₂ (λ (y : Found) (ys : List Found). y ∷ ys) here more.tiles;
      keys = (record { below = within; is = ap (λ (y : Found). key_of y.motion y.kind n) (sym here) }, more.keys);
    }

-- the tiles of the keys of all tiles are all tiles
pub keys-tiles : (found : List Found) → map (keyed_in found) (keys_from 0 found) ≡ found
keys-tiles found = (behind [] found found 0 refl refl).tiles

pub keys-are : (found : List Found) → AllByRecursion (IsKey found) (keys_from 0 found)
keys-are found = (behind [] found found 0 refl refl).keys

abbrev pub same_number : OrderKey → OrderKey → Bool
same_number k l = nat_eq k.number l.number

-- no two keys have one number
later-numbers : (m n : ℕ) (xs : List Found) (key : OrderKey) → key.number ≡ m → m < n
    → AllByRecursion (λ l. same_number key l ≡ false) (keys_from n xs)
later-numbers m n [] key e l = tt
later-numbers m n (x ∷ xs) key e l = (differ key.number n (omega (arith, e, l)), later-numbers m (suc n) xs key e (omega (arith, l)))
  where
    differ : (i j : ℕ) → i < j → nat_eq i j ≡ false
    differ i j l = grind (arith, nat_tests, l)

pub keys-distinct : (n : ℕ) (xs : List Found) → IsDistinct same_number (keys_from n xs)
unfolding IsDistinct
keys-distinct n [] = tt
keys-distinct n (x ∷ xs) = (later-numbers n (suc n) xs (key_of x.motion x.kind n) refl (omega arith), keys-distinct (suc n) xs)
