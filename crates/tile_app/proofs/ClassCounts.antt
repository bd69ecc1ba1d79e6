-- A tile put for each tile of a class, class by class.
use Rattle.std.specs.Prelude.{slice_index, ◌==◌}
use Rattle.std.proofs.Common.{◌≡◌, ◌⊎◌, inl, inr, ℕ, zero, suc, ◌+◌, ◌*◌, ◌<◌, ◌≤◌, Bool, true, false, cond, All, List, [], ◌∷◌, ◌++◌, map, length, replicate, refl, sym, ap, ap₂, ◌∙◌, arith}
use Rattle.std.specs.List.{AllByRecursion}
use Rattle.std.proofs.lemmas.Bool.{eqb-true, eqb-false}
use Rattle.std.proofs.lemmas.List.Elements.{recursion_from_All}
use Rattle.std.proofs.lemmas.List.Folds.{sum_by-replicate}
use Rattle.std.proofs.lemmas.List.Sums.{sum_by-cons, sum_by-append}
use Rattle.layer_api.specs.CensusText.{count_of}
use Rattle.layer_api.specs.declared.drawn.Drawn.{Drawn}
use Rattle.rule_model.specs.Tiling.{Tiling}
use Rattle.tile_place.specs.declared.placed_tile.PlacedTile.{PlacedTile}
use Rattle.window_cover.specs.KindCounts.{count_of_kind}
use Rattle.tile_app.specs.DrawnTile.{drawn_of, CanBeDrawn}
use Rattle.tile_app.specs.Looks.{HaveSameCounts}

abbrev one_if : Bool → ℕ
one_if b = cond b 1 0

split : (i j : ℕ) → (i < j) ⊎ (j ≤ i)
split i zero = inr (omega arith)
split zero (suc j) = inl (omega arith)
split (suc i) (suc j) = more (split i j)
  where
    more : (i < j) ⊎ (j ≤ i) → (suc i < suc j) ⊎ (suc j ≤ suc i)
    more (inl h) = inl (omega (arith, h))
    more (inr h) = inr (omega (arith, h))

-- ---- lists with as many tiles of each class are as long
abbrev total : ℕ → (ℕ → ℕ) → ℕ
total zero f = 0
total (suc n) f = total n f + f n

total-same : (n : ℕ) (f g : ℕ → ℕ) → ((c : ℕ) → f c ≡ g c) → total n f ≡ total n g
total-same zero f g h = refl
total-same (suc n) f g h = ap₂ (λ a b. a + b) (total-same n f g h) (h n)

total-sum : (n : ℕ) (f g : ℕ → ℕ) → total n (λ c. f c + g c) ≡ total n f + total n g
total-sum zero f g = refl
total-sum (suc n) f g = let e = total-sum n f g in omega (arith, e)

total-none : (n : ℕ) → total n (λ c. 0) ≡ 0
total-none zero = refl
total-none (suc n) = let e = total-none n in omega (arith, e)

total-beyond : (n k : ℕ) → n ≤ k → total n (λ c. one_if (k == c)) ≡ 0
total-beyond zero k l = refl
total-beyond (suc n) k l = at_test (k == n) refl (total-beyond n k (omega (arith, l)))
  where
    at_test : (b : Bool) → (k == n) ≡ b → total n (λ c. one_if (k == c)) ≡ 0 → total n (λ c. one_if (k == c)) + one_if (k == n) ≡ 0
    at_test true e rest = let same : k ≡ n = eqb-true k n e in absurd (omega (arith, same, l))
    at_test false e rest = let none = ap one_if e in omega (arith, rest, none)

total-one : (n k : ℕ) → k < n → total n (λ c. one_if (k == c)) ≡ 1
total-one zero k l = absurd (omega (arith, l))
total-one (suc n) k l = at_test (k == n) refl (total-one n k)
  where
    below : (k == n) ≡ false → (k < n) ⊎ (n ≤ k) → k < n
    below e (inl h) = h
    below e (inr h) = absurd (eqb-false k n e (omega (arith, h, l)))

    at_test : (b : Bool) → (k == n) ≡ b → (k < n → total n (λ c. one_if (k == c)) ≡ 1)
        → total n (λ c. one_if (k == c)) + one_if (k == n) ≡ 1
    at_test true e more =
        let same : k ≡ n = eqb-true k n e in
        let rest = total-beyond n k (omega (arith, same)) in
        let one = ap one_if e in
        omega (arith, rest, one)
    at_test false e more = let rest = more (below e (split k n)) in let none = ap one_if e in omega (arith, rest, none)

count-cons : (class : ℕ) (d : Drawn) (ts : List Drawn) → count_of class (d ∷ ts) ≡ one_if (d.class == class) + count_of class ts
count-cons class d ts = sum_by-cons (λ (x : Drawn). one_if (x.class == class)) d ts

length-total : (n : ℕ) (ts : List Drawn) → AllByRecursion (λ (d : Drawn). d.class < n) ts → total n (λ c. count_of c ts) ≡ length ts
length-total n [] h = total-none n
length-total n (d ∷ ts) h =
    total-same n (λ c. count_of c (d ∷ ts)) (λ c. one_if (d.class == c) + count_of c ts) (λ c. count-cons c d ts)
    ∙ total-sum n (λ c. one_if (d.class == c)) (λ c. count_of c ts)
    ∙ ap₂ (λ a b. a + b) (total-one n d.class h.0) (length-total n ts h.1) ∙ one_more (length ts)
  where
    one_more : (m : ℕ) → 1 + m ≡ suc m
    one_more m = omega arith

-- a number above each class
abbrev top : List Drawn → ℕ
top [] = 0
top (d ∷ ts) = suc d.class + top ts

below-top : (n : ℕ) (ts : List Drawn) → top ts ≤ n → AllByRecursion (λ (d : Drawn). d.class < n) ts
below-top n [] l = tt
below-top n (d ∷ ts) l = (omega (arith, l), below-top n ts (omega (arith, l)))

same-length : (ts us : List Drawn) → ((class : ℕ) → count_of class ts ≡ count_of class us) → length ts ≡ length us
same-length ts us h =
    let n = top ts + top us in
    sym (length-total n ts (below-top n ts (omega arith))) ∙ total-same n (λ c. count_of c ts) (λ c. count_of c us) h
    ∙ length-total n us (below-top n us (omega arith))

-- ---- the tiles put for the classes below a number
pub record ArePutBelow (counts : List ℕ) (below : ℕ) (put : List Drawn) : Type 0 where
  pub each : (class : ℕ) → class < below → count_of class put ≡ slice_index counts class
  pub none : (class : ℕ) → below ≤ class → count_of class put ≡ 0

pub none-put : (counts : List ℕ) → ArePutBelow counts 0 []
none-put counts = record { each = λ class l. absurd (omega (arith, l)); none = λ class l. refl }

count-more : (class n : ℕ) (put : List Drawn) (d : Drawn)
    → count_of class (put ++ replicate n d) ≡ count_of class put + n * one_if (d.class == class)
count-more class n put d =
    sum_by-append (λ (x : Drawn). one_if (x.class == class)) put (replicate n d)
    ∙ ap (λ m. count_of class put + m) (sum_by-replicate (λ (x : Drawn). one_if (x.class == class)) n d)

pub class-put : (counts : List ℕ) (own : ℕ) (put : List Drawn) (d : Drawn) (n : ℕ) → d.class ≡ own → n ≡ slice_index counts own
    → ArePutBelow counts own put → ArePutBelow counts (own + 1) (put ++ replicate n d)
class-put counts own put d n its e h = record {
  each = λ class l. each_at class (d.class == class) refl l;
  none = λ class l. none_at class (d.class == class) refl l;
}
  where
    by_one : (m : ℕ) → m ≡ 0 → m + n * 1 ≡ n
    by_one m z = omega (arith, z)

    by_none : (m : ℕ) → m + n * 0 ≡ m
    by_none m = omega arith

    grown : (class : ℕ) (b : Bool) → (d.class == class) ≡ b → count_of class (put ++ replicate n d) ≡ count_of class put + n * one_if b
    grown class b t = count-more class n put d ∙ ap (λ c. count_of class put + n * one_if c) t

    each_at : (class : ℕ) (b : Bool) → (d.class == class) ≡ b → class < own + 1 → count_of class (put ++ replicate n d) ≡ slice_index counts class
    each_at class true t l =
        let same : own ≡ class = sym its ∙ eqb-true d.class class t in
        grown class true t ∙ by_one (count_of class put) (h.none class (omega (arith, same))) ∙ e ∙ ap (λ c. slice_index counts c) same
    each_at class false t l =
        let apart : own ≡ class → ⊥ = λ same. eqb-false d.class class t (its ∙ same) in
        grown class false t ∙ by_none (count_of class put) ∙ h.each class (lower (split class own) apart)
      where
        lower : (class < own) ⊎ (own ≤ class) → (own ≡ class → ⊥) → class < own
        lower (inl k) apart = k
        lower (inr k) apart = absurd (apart (omega (arith, k, l)))

    none_at : (class : ℕ) (b : Bool) → (d.class == class) ≡ b → own + 1 ≤ class → count_of class (put ++ replicate n d) ≡ 0
    none_at class true t l = let same : own ≡ class = sym its ∙ eqb-true d.class class t in absurd (omega (arith, same, l))
    none_at class false t l = grown class false t ∙ by_none (count_of class put) ∙ h.none class (omega (arith, l))

-- ---- all classes
drawn-count : (t : Tiling) (class : ℕ) (tiles : List PlacedTile) → count_of class (map (drawn_of t) tiles) ≡ count_of_kind class tiles
drawn-count t class [] = refl
drawn-count t class (x ∷ xs) =
    count-cons class (drawn_of t x) (map (drawn_of t) xs) ∙ ap (λ n. one_if (x.kind == class) + n) (drawn-count t class xs)
    ∙ sym (sum_by-cons (λ (y : PlacedTile). one_if (y.kind == class)) x xs)

none-beyond : (t : Tiling) (class : ℕ) (tiles : List PlacedTile) → AllByRecursion (CanBeDrawn t) tiles → length t.rule.kinds ≤ class
    → count_of_kind class tiles ≡ 0
none-beyond t class [] h l = refl
none-beyond t class (x ∷ xs) h l =
    sum_by-cons (λ (y : PlacedTile). one_if (y.kind == class)) x xs
    ∙ ap₂ (λ a b. a + b) (at_test (x.kind == class) refl) (none-beyond t class xs h.1 l)
  where
    at_test : (b : Bool) → (x.kind == class) ≡ b → one_if (x.kind == class) ≡ 0
    at_test true e = let same : x.kind ≡ class = eqb-true x.kind class e in let small = h.0.exists in absurd (omega (arith, same, small, l))
    at_test false e = ap one_if e

pub all-put : (t : Tiling) (tiles : List PlacedTile) (counts : List ℕ) (put : List Drawn) → All (CanBeDrawn t) tiles
    → ((kind : ℕ) → slice_index counts kind ≡ count_of_kind kind tiles) → ArePutBelow counts (length t.rule.kinds) put
    → HaveSameCounts put (map (drawn_of t) tiles)
all-put t tiles counts put can counted h = record { each = each; in_all = same-length put (map (drawn_of t) tiles) each }
  where
    at_split : (class : ℕ) → (class < length t.rule.kinds) ⊎ (length t.rule.kinds ≤ class) → count_of class put ≡ count_of_kind class tiles
    at_split class (inl l) = h.each class l ∙ counted class
    at_split class (inr l) = h.none class l ∙ sym (none-beyond t class tiles (recursion_from_All (CanBeDrawn t) tiles can) l)

    each : (class : ℕ) → count_of class put ≡ count_of class (map (drawn_of t) tiles)
    each class = at_split class (split class (length t.rule.kinds)) ∙ sym (drawn-count t class tiles)
