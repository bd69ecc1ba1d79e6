-- Pairs that tiles have brought, one tile after another.
use Rattle.std.proofs.Common.{◌≡◌, inl, inr, ℕ, suc, ◌+◌, ◌<◌, ◌≤◌, List, [], ◌∷◌, ◌++◌, All, length, map, Option, None, Some, IfSome, refl, ap, subst, arith}
use Rattle.std.specs.List.{Contains}
use Rattle.std.proofs.lemmas.Bool.{cases_lt}
use Rattle.std.proofs.lemmas.List.{get_or_default}
use Rattle.std.proofs.lemmas.List.Elements.{All-nil, All-cons, All-tail}
use Rattle.rule_model.specs.Tiling.{Tiling}
use Rattle.tile_place.specs.declared.placed_tile.PlacedTile.{PlacedTile}
use Rattle.theory_walks.specs.Frames.{FrameValue}
use Rattle.half_glue.specs.declared.pairs.Pair.{Pair}
use Rattle.half_glue.specs.declared.whole_tile.WholeTile.{WholeTile}
use Rattle.half_glue.specs.Found.{no_tile, given_tile}
use Rattle.half_glue.specs.Given.{IsGiven}
use Rattle.half_glue.specs.Pairs.{ArePresent, second_of, loose_of, IsLoose, IsTaken, ArePairsOf}
use Rattle.half_glue.proofs.Elements.{get_or-front, contains-left}

-- the pairs that the tiles in front have brought, behind so many others
pub record ArePaired (t : Tiling) (f : FrameValue) (tiles : List PlacedTile) (base i : ℕ)
    (crossed : List PlacedTile) (pairs : List Pair) : Type 0 where
  pub few : length pairs ≤ base + i
  pub few_crossed : length crossed ≤ i
  pub given : All (IsGiven t f) (tiles ++ crossed)
  pub present : All (ArePresent (length (tiles ++ crossed))) pairs
  pub loose : All (IsLoose t f tiles) (map (loose_of (tiles ++ crossed)) pairs)
  pub taken : (k : ℕ) → k < i → IsTaken t f tiles (map (loose_of (tiles ++ crossed)) pairs) (given_tile tiles k)

-- ---- tiles behind others
module _ (xs ys : List PlacedTile) where
  same-second : (s : Option ℕ) → IfSome s (λ n. n < length xs) → second_of (xs ++ ys) s ≡ second_of xs s
  same-second None h = refl
  same-second (Some n) h = ap (λ (y : PlacedTile). Some y) (get_or-front xs ys n no_tile h)

  same-loose : (p : Pair) → ArePresent (length xs) p → loose_of (xs ++ ys) p ≡ loose_of xs p
  same-loose p h = λ i. record { first = get_or-front xs ys p.first no_tile h.first i; second = same-second p.second h.second i }

  pub same-all : (ps : List Pair) → All (ArePresent (length xs)) ps → map (loose_of (xs ++ ys)) ps ≡ map (loose_of xs) ps
  same-all [] h = refl
  same-all (p ∷ ps) h = λ i. same-loose p (h 0 p (omega arith)) i ∷ same-all ps (All-tail (ArePresent (length xs)) p ps h) i

pub more-present : (n k : ℕ) → n ≤ k → (p : Pair) → ArePresent n p → ArePresent k p
more-present n k l p h = record { first = omega (arith, h.first, l); second = by_case p.second h.second }
  where
    by_case : (s : Option ℕ) → IfSome s (λ m. m < n) → IfSome s (λ m. m < k)
    by_case None h = tt
    by_case (Some m) h = omega (arith, h, l)

pub map-joined : {A B : Type 0} (g : A → B) (xs ys : List A) → map g (xs ++ ys) ≡ map g xs ++ map g ys
map-joined g [] ys = refl
map-joined {A} {B} g (x ∷ xs) ys = ap (λ (zs : List B). g x ∷ zs) (map-joined g xs ys)

pub contains-right : {A : Type 0} (xs ys : List A) (y : A) → Contains ys y → Contains (xs ++ ys) y
contains-right [] ys y c = c
contains-right (x ∷ xs) ys y c = let r = contains-right xs ys y c in (suc r.0, omega (arith, r.1), r.2)

pub the-first : {A : Type 0} (x : A) → Contains (x ∷ []) x
the-first x = (0, omega arith, refl)

pub one-of-all : {A : Type 0} (Q : A → Type 0) (x : A) → Q x → All Q (x ∷ [])
one-of-all Q x h = All-cons Q x [] h (All-nil Q)

pub still-taken : (t : Tiling) (f : FrameValue) (tiles : List PlacedTile) (made more : List WholeTile)
    (x : PlacedTile) → IsTaken t f tiles made x → IsTaken t f tiles (made ++ more) x
still-taken t f tiles made more x (inl h) = inl (h.0, contains-left made more h.0 h.1, h.2)
still-taken t f tiles made more x (inr h) = inr h

-- a tile that is taken already
pub taken-before : (t : Tiling) (f : FrameValue) (tiles : List PlacedTile) (base i : ℕ)
    (crossed : List PlacedTile) (pairs : List Pair) → ArePaired t f tiles base i crossed pairs
    → IsTaken t f tiles (map (loose_of (tiles ++ crossed)) pairs) (given_tile tiles i) → ArePaired t f tiles base (i + 1) crossed pairs
taken-before t f tiles base i crossed pairs h own = record {
  few = let l = h.few in omega (arith, l);
  few_crossed = let l = h.few_crossed in omega (arith, l);
  given = h.given;
  present = h.present;
  loose = h.loose;
  taken = λ k l. elim (cases_lt k i) [
    | inl b ↦ h.taken k b
    | inr b ↦ let same : i ≡ k = omega (arith, l, b) in subst
        (λ n. IsTaken t f tiles (map (loose_of (tiles ++ crossed)) pairs) (given_tile tiles n)) same own
  ];
}

-- ---- all of them
pub all-paired : (t : Tiling) (f : FrameValue) (tiles : List PlacedTile) (base i : ℕ)
    (crossed : List PlacedTile) (pairs : List Pair) → base ≤ length tiles → i ≤ length tiles
    → (i < length tiles → ⊥) → ArePaired t f tiles base i crossed pairs → ArePairsOf t f tiles crossed pairs
all-paired t f tiles base i crossed pairs low within done h = record {
  few = omega (arith, h.few, low, within);
  given = h.given;
  present = h.present;
  loose = h.loose;
  taken = λ k d l. elim (cases_lt k i) [
    | inl b ↦ subst (IsTaken t f tiles (map (loose_of (tiles ++ crossed)) pairs)) (get_or_default tiles k no_tile d l) (h.taken k b)
    | inr b ↦ absurd (done (omega (arith, l, b)))
  ];
}
