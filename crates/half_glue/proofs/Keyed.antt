-- Keys of things, each by a tile of it.
use Rattle.std.proofs.Common.{◌≡◌, ℕ, zero, suc, ◌+◌, ◌-◌, ◌<◌, Bool, true, not, cond, List, [], ◌∷◌, ◌++◌, All, length, take, get_or, refl, sym, ap, ◌∙◌, subst, arith, add-one, length-append, append_assoc}
use Rattle.std.specs.List.{Contains}
use Rattle.std.proofs.lemmas.List.Elements.{All-nil, All-cons}
use Rattle.std.proofs.Math.Seq.{get_or-append_seam}
use Rattle.tile_place.specs.Keys.{key_of, are_level}
use Rattle.tile_place.specs.declared.order_key.OrderKey.{OrderKey}
use Rattle.tile_place.specs.declared.placed_tile.PlacedTile.{PlacedTile}
use Rattle.theory_addresses.specs.Search.{chosen_below}
use Rattle.half_glue.specs.Keys.{keys_by, no_key, is_new_key}

module _ {A : Type 0} (tile : A → PlacedTile) where
  -- one key more
  pub keys-more : (n m k : ℕ) (xs : List A) (x : A) → m ≡ n + k → k < length xs → x ≡ get_or xs k x
      → keys_by tile n (take (suc k) xs) ≡ keys_by tile n (take k xs)
      ++ key_of (tile x).motion (tile x).kind m ∷ []
  keys-more n m k [] x e l h = absurd (omega (arith, l))
  keys-more n m zero (y ∷ xs) x e l h = let same : m ≡ n = omega (arith, e) in λ i. key_of
      (tile (sym h i)).motion (tile (sym h i)).kind (sym same i) ∷ []
  keys-more n m (suc k) (y ∷ xs) x e l h =
      ap (λ (ks : List OrderKey). key_of (tile y).motion (tile y).kind n ∷ ks) (keys-more (suc n) m k xs x (omega (arith, e)) (omega (arith, l)) h)

  -- a key is the one of what it numbers
  pub record IsKeyOf (made : List A) (k : OrderKey) : Type 0 where
    pub below : k.number < length made
    pub is : (blank : A) → k ≡ key_of (tile (get_or made k.number blank)).motion (tile (get_or made k.number blank)).kind k.number

  -- the keys of things behind others
  pub from-keys : (front xs : List A) (n : ℕ) → length front ≡ n → All (IsKeyOf (front ++ xs)) (keys_by tile n xs)
  from-keys front [] n e = All-nil (IsKeyOf (front ++ []))
  from-keys front (x ∷ xs) n e = All-cons (IsKeyOf (front ++ x ∷ xs)) (key_of (tile x).motion (tile x).kind n) (keys_by tile (suc n) xs) here
      (subst (λ (ys : List A). All (IsKeyOf ys) (keys_by tile (suc n) xs)) (append_assoc front (x ∷ []) xs)
      (from-keys (front ++ x ∷ []) xs (suc n) (omega (arith, e, length-append front (x ∷ [])))))
    where
      at : (blank : A) → get_or (front ++ x ∷ xs) n blank ≡ x
      at blank = ap (λ k. get_or (front ++ x ∷ xs) k blank) (sym e) ∙ get_or-append_seam front x xs blank

      here : IsKeyOf (front ++ x ∷ xs) (key_of (tile x).motion (tile x).kind n)
      here = record {
        below = omega (arith, e, length-append front (x ∷ xs));
        is = λ blank. ap (λ (y : A). key_of (tile y).motion (tile y).kind n) (sym (at blank));
      }

  -- each has its key
  pub key-there : (xs : List A) (n i : ℕ) (blank : A) → i < length xs
      → Contains (keys_by tile n xs) (key_of (tile (get_or xs i blank)).motion (tile (get_or xs i blank)).kind
      (n + i))
  key-there [] n i blank l = absurd (omega (arith, l))
  key-there (x ∷ xs) n zero blank l = (0, omega arith, λ j. key_of (tile x).motion (tile x).kind (plain j))
    where
      plain : n ≡ n + 0
      plain = omega arith
  key-there (x ∷ xs) n (suc i) blank l =
      let rest = key-there xs (suc n) i blank (omega (arith, l)) in
      let next : suc n + i ≡ n + suc i = omega arith in
      subst (λ k. Contains (keys_by tile n (x ∷ xs))
      (key_of (tile (get_or xs i blank)).motion (tile (get_or xs i blank)).kind k)) next
      (suc rest.0, omega (arith, rest.1), rest.2)

-- ---- keys that aren't level with the one before
pub is_new-first : (ks : List OrderKey) (p : ℕ) → p ≡ 0 → true ≡ is_new_key ks p
unfolding is_new_key
is_new-first ks zero e = refl
is_new-first ks (suc p) e = absurd (omega (arith, e))

pub is_new-behind : (ks : List OrderKey) (p : ℕ) (b : Bool) → (p ≡ 0 → ⊥)
    → b ≡ are_level (get_or ks p no_key) (get_or ks (p - 1) no_key) → not b ≡ is_new_key ks p
unfolding is_new_key
is_new-behind ks zero b positive e = absurd (positive refl)
is_new-behind ks (suc p) b positive e =
    let before : suc p - 1 ≡ p = omega arith in
    ap not (e ∙ ap (λ n. are_level (get_or ks (suc p) no_key) (get_or ks n no_key)) before)

-- one place more
pub chosen-more : {A : Type 0} (p : ℕ → Bool) (f : ℕ → A) (n : ℕ) (b : Bool) → p n ≡ b
    → chosen_below p f (n + 1) ≡ chosen_below p f n ++ cond b (f n ∷ []) []
chosen-more {A} p f n b e = ap (chosen_below p f) (add-one n) ∙ ap (λ c. chosen_below p f n ++ cond c (f n ∷ []) []) e
