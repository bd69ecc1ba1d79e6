-- Outlines of two halves, by the vertices of each in order.
use Rattle.std.specs.List.{refill}
use Rattle.std.proofs.Common.{◌≡◌, ℕ, zero, suc, ◌+◌, ◌-◌, ◌<◌, List, [], ◌∷◌, ◌++◌, length, map, take, drop, refl, sym, ap, ap₂, ◌∙◌, arith}
use Rattle.std.proofs.lemmas.List.{append-nil, length-map, length-append, length-take-le, length-drop, map-append, take-map, drop-map, drop-drop, drop-take, drop-append-le, take_all}
use Rattle.std.proofs.lemmas.Simd.{map-map}
use Rattle.std.proofs.Math.ListN.{drop_of_length-le}
use Rattle.std.proofs.Math.Seq.{take-append-add}
use Rattle.half_glue.specs.Outline.{begun_behind, inner_of}

-- what is put back in as many places is what stands there
pub filled-up : {A : Type 0} (n : ℕ) (xs ws : List A) → length ws ≡ n → refill n xs ws ≡ ws
filled-up n xs ws is =
    ap (λ k. take k (ws ++ drop (length ws) xs)) (let e : n ≡ length ws + 0 = omega (arith, is) in e)
    ∙ take-append-add ws (drop (length ws) xs) 0 ∙ append-nil ws

-- ---- images of lists begun elsewhere
map-begun : {A B : Type 0} (f : A → B) (e : ℕ) (xs : List A) → map f (begun_behind e xs) ≡ begun_behind e (map f xs)
map-begun f e xs = map-append f (drop (suc e) xs) (take (suc e) xs) ∙ ap₂ (λ a b. a ++ b) (sym (drop-map f (suc e) xs)) (sym (take-map f (suc e) xs))

map-inner : {A B : Type 0} (f : A → B) (xs : List A) → map f (inner_of xs) ≡ inner_of (map f xs)
map-inner f xs =
    sym (drop-map f 1 (take (length xs - 1) xs))
    ∙ ap (drop 1) (sym (take-map f (length xs - 1) xs) ∙ ap (λ n. take (n - 1) (map f xs)) (sym (length-map xs f)))

-- ---- the vertices without the ends of an edge
module _ {A : Type 0} (xs : List A) (f : ℕ) where
  abbrev behind : List A
  behind = drop (suc f) xs

  abbrev before : List A
  before = take (suc f) xs

  take-less : (k : ℕ) (ys : List A) → take k (take (suc k) ys) ≡ take k ys
  take-less k [] = refl
  take-less zero (y ∷ ys) = refl
  take-less (suc k) (y ∷ ys) = ap (λ zs. y ∷ zs) (take-less k ys)

  inner-behind : f + 1 < length xs → inner_of (begun_behind f xs) ≡ drop (f + 2) xs ++ take f xs
  inner-behind l =
      ap (drop 1) kept ∙ drop-append-le 1 behind (take f xs) (omega (arith, l, long))
      ∙ ap (λ ys. ys ++ take f xs) (drop-drop 1 (suc f) xs ∙ ap (λ n. drop n xs) two)
    where
      two : suc f + 1 ≡ f + 2
      two = omega arith

      long : length behind ≡ length xs - suc f
      long = length-drop (suc f) xs

      all : length (behind ++ before) - 1 ≡ length behind + f
      all = let a = length-append behind before in let b = length-take-le (suc f) xs (omega (arith, l)) in omega (arith, a, b, long, l)

      kept : take (length (behind ++ before) - 1) (behind ++ before) ≡ behind ++ take f xs
      kept = ap (λ n. take n (behind ++ before)) all ∙ take-append-add behind before f ∙ ap (λ ys. behind ++ ys) (take-less f xs)

  inner-last : f + 1 ≡ length xs → inner_of (begun_behind f xs) ≡ drop 1 (take f xs)
  inner-last e = ap inner_of whole ∙ ap (λ n. drop 1 (take n xs)) (omega (arith, e))
    where
      whole : begun_behind f xs ≡ xs
      whole = ap₂ (λ a b. a ++ b) (drop_of_length-le xs {i = suc f} (omega (arith, e))) (take_all (suc f) xs (omega (arith, e)))

-- ---- the vertices of a half in two pieces, or in one where its edge is the last
module _ {A B C : Type 0} (p : B → C) (q : A → B) (ns : List A) (e : ℕ) where
  abbrev both : A → C
  both z = p (q z)

  begun-image : map p (begun_behind e (map q ns)) ≡ map both (begun_behind e ns)
  begun-image = ap (map p) (sym (map-begun q e ns)) ∙ map-map p q (begun_behind e ns)

  inner-image : map p (inner_of (begun_behind e (map q ns))) ≡ map both (inner_of (begun_behind e ns))
  inner-image =
      ap (λ ys. map p (inner_of ys)) (sym (map-begun q e ns))
      ∙ ap (map p) (sym (map-inner q (begun_behind e ns))) ∙ map-map p q (inner_of (begun_behind e ns))

  rest : (k b : ℕ) → b + k ≡ length ns → take b (drop k ns) ≡ drop k ns
  rest k b all = take_all b (drop k ns) (let l = length-drop k ns in omega (arith, all, l))

  pub first-is : (b a : ℕ) → b + (e + 1) ≡ length ns → a ≡ e + 1
      → map both (take b (drop (e + 1) ns)) ++ map both (take a ns) ≡ map p (begun_behind e (map q ns))
  first-is b a all is =
      ap₂ (λ xs k. map both xs ++ map both (take k ns)) (rest (e + 1) b all) is
      ∙ sym (map-append both (drop (e + 1) ns) (take (e + 1) ns))
      ∙ ap (λ k. map both (drop k ns ++ take k ns)) next ∙ sym begun-image
    where
      next : e + 1 ≡ suc e
      next = omega arith

  pub second-is : (b a : ℕ) → b + (e + 2) ≡ length ns → a ≡ e
      → map both (take b (drop (e + 2) ns)) ++ map both (take a ns) ≡ map p (inner_of (begun_behind e (map q ns)))
  second-is b a all is =
      ap₂ (λ xs k. map both xs ++ map both (take k ns)) (rest (e + 2) b all) is
      ∙ sym (map-append both (drop (e + 2) ns) (take e ns))
      ∙ ap (map both) (sym (inner-behind ns e (omega (arith, all)))) ∙ sym inner-image

  pub last-is : (n : ℕ) → n + 2 ≡ length ns → e + 1 ≡ length ns
      → map both (take n (drop 1 ns)) ≡ map p (inner_of (begun_behind e (map q ns)))
  last-is n all last =
      ap (map both) (sym (drop-take 1 n ns) ∙ ap (λ k. drop 1 (take k ns)) before-last ∙ sym (inner-last ns e last)) ∙ sym inner-image
    where
      before-last : 1 + n ≡ e
      before-last = omega (arith, all, last)
