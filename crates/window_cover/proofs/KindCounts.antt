-- Counts of tiles by kind, with one tile more, and in another order.
use Rattle.std.specs.Prelude.{slice_index, slice_set, ◌==◌}
use Rattle.std.proofs.Common.{◌≡◌, ℕ, zero, suc, ◌+◌, ◌<◌, Bool, true, false, cond, List, [], ◌∷◌, ◌++◌, map, length, replicate, get_or, refl, sym, ap, ◌∙◌, subst, arith}
use Rattle.std.specs.List.Sorted.{IsPermutation}
use Rattle.std.proofs.lemmas.Bool.{eqb-true, eqb-false}
use Rattle.std.proofs.lemmas.List.{get_or-set_same, get_or-set_other}
use Rattle.std.proofs.lemmas.List.Sorted.{IsPermutation-map, sum_by-IsPermutation}
use Rattle.std.proofs.lemmas.List.Sums.{sum_by-cons, sum_by_push}
use Rattle.theory_addresses.specs.Address as theory
use Rattle.tile_place.specs.declared.placed_tile.PlacedTile.{PlacedTile}
use Rattle.window_cover.specs.Covered.{placed_as, tiles_of}
use Rattle.window_cover.specs.Found.{Found}
use Rattle.window_cover.specs.InKeyOrder.{in_key_order, numbers_in_order}
use Rattle.window_cover.specs.Keys.{keys_from}
use Rattle.window_cover.specs.KindCounts.{count_of_kind, count_found}
use Rattle.window_cover.proofs.Arranged.{placed-keys}
use Rattle.window_cover.proofs.InKeyOrder.{in_key_order-permuted}
use Rattle.window_cover.proofs.Keyed.{keyed_in}
use Rattle.window_cover.proofs.Shuffled.{shuffled}

-- these are the numbers of the tiles, by kind
abbrev pub AreCounts : List ℕ → List Found → Type 0
AreCounts counts found = (kind : ℕ) → slice_index counts kind ≡ count_found kind found

pub none-counted : (n kind : ℕ) → ◌≡◌ {A = ℕ} (get_or (replicate n 0) kind 0) 0
none-counted zero kind = refl
none-counted (suc n) zero = refl
none-counted (suc n) (suc kind) = none-counted n kind

pub one-counted : (counts : List ℕ) (found : List Found) (x : Found) → x.kind < length counts → AreCounts counts found
    → AreCounts (slice_set counts x.kind (slice_index counts x.kind + 1)) (found ++ x ∷ [])
one-counted counts found x small h kind = at_test (x.kind == kind) refl
  where
    count : ℕ
    count = slice_index counts x.kind + 1

    more : count_found kind (found ++ x ∷ []) ≡ count_found kind found + cond (x.kind == kind) 1 0
    more = sum_by_push (λ (y : Found). cond (y.kind == kind) 1 0) found x

    none_more : (n : ℕ) → n + 0 ≡ n
    none_more n = omega arith

    at_test : (b : Bool) → (x.kind == kind) ≡ b → slice_index (slice_set counts x.kind count) kind ≡ count_found kind (found ++ x ∷ [])
    at_test true t =
        let same : x.kind ≡ kind = eqb-true x.kind kind t in
        subst (λ k. slice_index (slice_set counts x.kind count) k ≡ count_found kind (found ++ x ∷ [])) same
        (get_or-set_same counts x.kind count 0 small ∙ ap (λ n. n + 1) (ap (λ k. slice_index counts k) same ∙ h kind)
        ∙ sym (more ∙ ap (λ b. count_found kind found + cond b 1 0) t))
    at_test false t =
        get_or-set_other counts x.kind kind count 0 (λ same. eqb-false x.kind kind t (sym same)) ∙ h kind
        ∙ sym (more ∙ ap (λ b. count_found kind found + cond b 1 0) t ∙ none_more (count_found kind found))

-- ---- as placed, and in order
placed-count : (kind : ℕ) (above : List theory.Step) (found : List Found) → count_of_kind kind (map (placed_as above) found) ≡ count_found kind found
placed-count kind above [] = refl
placed-count kind above (x ∷ xs) =
    sum_by-cons (λ (y : PlacedTile). cond (y.kind == kind) 1 0) (placed_as above x) (map (placed_as above) xs)
    ∙ ap (λ n. cond (x.kind == kind) 1 0 + n) (placed-count kind above xs)
    ∙ sym (sum_by-cons (λ (y : Found). cond (y.kind == kind) 1 0) x xs)

permuted : (above : List theory.Step) (found : List Found)
    → IsPermutation (map (placed_as above) found) (tiles_of above found (numbers_in_order found))
permuted above found =
    let ks = in_key_order (keys_from 0 found) in
    let mixed = shuffled found ks (in_key_order-permuted (keys_from 0 found)) in
    subst (IsPermutation (map (placed_as above) found)) (placed-keys above found ks)
    (IsPermutation-map (placed_as above) found (map (keyed_in found) ks) mixed.tiles)

pub same-count : (kind : ℕ) (above : List theory.Step) (found : List Found)
    → count_of_kind kind (tiles_of above found (numbers_in_order found)) ≡ count_found kind found
same-count kind above found =
    sum_by-IsPermutation (λ (y : PlacedTile). cond (y.kind == kind) 1 0) (map (placed_as above) found)
    (tiles_of above found (numbers_in_order found)) (permuted above found)
    ∙ placed-count kind above found
