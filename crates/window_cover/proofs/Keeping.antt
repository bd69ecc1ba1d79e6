-- Tiles found, kept with the digits of all of them in one list.
use Rattle.std.proofs.Common.{◌≡◌, ℕ, zero, suc, ◌+◌, ◌<◌, ◌≤◌, List, [], ◌∷◌, ◌++◌, map, length, take, drop, slice_get, IfSome, refl, sym, ap, ap₂, ◌∙◌, subst, arith, take_all, length-append, length-drop}
use Rattle.std.specs.List.{AllByRecursion}
use Rattle.std.proofs.Math.Seq.{drop-append_seam}
use Rattle.std.proofs.lemmas.List.{take-append-le, drop-append-le, map-append, length-map}
use Rattle.theory_addresses.proofs.Lists.{AllByRecursion-each, AllByRecursion-map, AllByRecursion-append}
use Rattle.tile_shape.specs.declared.step.Step.{Step}
use Rattle.tile_shape.specs.Views.{step_of}
use Rattle.window_cover.specs.declared.found_tile.FoundTile.{FoundTile}
use Rattle.window_cover.specs.Border.{Waiting}
use Rattle.window_cover.specs.Found.{Found}
use Rattle.tile_place.specs.Keys.{FitsKey}
use Rattle.window_cover.specs.Keys.{HasKey}
use Rattle.window_cover.specs.Kept.{digits_in, found_in, AreKept, IsKept}
use Rattle.theory_windows.specs.Limits.{most_tiles}

-- each tile as it is seen has a key
pub all-found : (all : List Step) (xs : List FoundTile) → {border : List Waiting} → IsKept all xs border → AllByRecursion HasKey (found_in all xs)
all-found all xs kept = AllByRecursion-map HasKey
    (λ (x : FoundTile). record { kind = x.kind; motion = x.motion; digits = digits_in all x }) xs kept.keyed

-- and at most 64 digits
take-few : {A : Type 0} (n : ℕ) (xs : List A) → length (take n xs) ≤ n
take-few zero xs = omega arith
take-few (suc n) [] = omega arith
take-few (suc n) (x ∷ xs) = let h = take-few n xs in omega (arith, h)

pub short-found : (all : List Step) (xs : List FoundTile) → AreKept all xs → AllByRecursion (λ (x : Found). length x.digits ≤ 64) (found_in all xs)
short-found all [] h = tt
short-found all (x ∷ xs) h = (
  let few = take-few x.depth (drop x.first all) in
      let long = length-map (take x.depth (drop x.first all)) step_of in
      let depth = h.0.1 in
      omega (arith, few, long, depth),
  short-found all xs h.1,
)

-- so has the one of a number
pub some-of : {A : Type 0} (Q : A → Type 0) (xs : List A) (k : ℕ) → AllByRecursion Q xs → IfSome (slice_get xs k) Q
some-of Q [] k h = tt
some-of Q (x ∷ xs) zero h = h.0
some-of Q (x ∷ xs) (suc k) h = some-of Q xs k h.1

module _ (ds es more : List Step) (is : es ≡ ds ++ more) where
  longer : length ds ≤ length es
  longer = let n = ap length is ∙ length-append ds more in omega (arith, n)

  -- digits behind the others change nothing
  pub spans-more : (xs : List FoundTile) → AreKept ds xs → AreKept es xs
  spans-more xs h = AllByRecursion-each (λ (x : FoundTile). (x.first + x.depth ≤ length ds) × (x.depth ≤ 64))
      (λ (x : FoundTile). (x.first + x.depth ≤ length es) × (x.depth ≤ 64)) xs
      (λ x k. (omega (arith, longer, k.0), k.1)) h

  pub kept-more : (xs : List FoundTile) (border : List Waiting) → IsKept ds xs border → IsKept es xs border
  kept-more xs border h = record { spans = spans-more xs h.spans; keyed = h.keyed; few_tiles = h.few_tiles; few_open = h.few_open }

  digits-more : (x : FoundTile) → x.first + x.depth ≤ length ds → digits_in es x ≡ digits_in ds x
  digits-more x h =
      let short : x.depth ≤ length (drop x.first ds) = omega (arith, h, length-drop x.first ds) in
      ap (map step_of) (ap (λ l. take x.depth (drop x.first l)) is
      ∙ ap (take x.depth) (drop-append-le x.first ds more (omega (arith, h)))
      ∙ take-append-le x.depth (drop x.first ds) more short)

  pub found-more : (xs : List FoundTile) → AreKept ds xs → found_in es xs ≡ found_in ds xs
  found-more [] h = refl
  found-more (x ∷ xs) h = ap₂ (λ l ys. record { kind = x.kind; motion = x.motion; digits = l } ∷ ys) (digits-more x h.0.0) (found-more xs h.1)

  -- one tile more, whose digits these are
  module _ (x : FoundTile) (first : x.first ≡ length ds) (depth : x.depth ≡ length more)
      (at_most_64 : x.depth ≤ 64) (xs ys : List FoundTile) (one_more : ys ≡ xs ++ x ∷ []) where
    own-digits : digits_in es x ≡ map step_of more
    own-digits = ap (map step_of) (ap₂ (λ i n. take n (drop i es)) first depth
        ∙ ap (λ l. take (length more) (drop (length ds) l)) is
        ∙ ap (take (length more)) (drop-append_seam ds more)
        ∙ take_all (length more) more (omega arith))

    pub found-one_more : AreKept ds xs → found_in es ys ≡ found_in ds xs
        ++ record { kind = x.kind; motion = x.motion; digits = map step_of more } ∷ []
    found-one_more h =
        ap (found_in es) one_more ∙ map-append (λ (y : FoundTile). record { kind = y.kind; motion = y.motion; digits = digits_in es y }) xs (x ∷ [])
        ∙ ap₂ (λ zs l. zs ++ record { kind = x.kind; motion = x.motion; digits = l } ∷ []) (found-more xs h) own-digits

    pub kept-one_more : FitsKey x.motion x.kind → (before after : List Waiting) → IsKept ds xs before
        → length xs < most_tiles → length after ≤ length before + 12 → IsKept es ys after
    kept-one_more key before after h room few =
        let n : length es ≡ length ds + length more = ap length is ∙ length-append ds more in
        let k : length ys ≡ length xs + 1 = ap length one_more ∙ length-append xs (x ∷ []) in
        record {
          spans = subst (AreKept es) (sym one_more)
              (AllByRecursion-append (λ (y : FoundTile). (y.first + y.depth ≤ length es) × (y.depth ≤ 64)) xs
              (x ∷ []) (spans-more xs h.spans)
              ((omega (arith, first, depth, n), at_most_64), tt));
          keyed = subst (AllByRecursion (λ (y : FoundTile). FitsKey y.motion y.kind)) (sym one_more)
              (AllByRecursion-append (λ (y : FoundTile). FitsKey y.motion y.kind) xs (x ∷ []) h.keyed
              (key, tt));
          few_tiles = omega (arith, room, k);
          few_open = omega (arith, few, k, h.few_open);
        }
