-- A loop that fills the front of an array with what stands for the values of a list.
use Rattle.std.proofs.Common.{◌≡◌, ◌+◌, ◌<◌, ℕ, List, [], ◌∷◌, ◌++◌, length, map, take, drop, get_or, slice_set, All, Some, sym, subst, ap, ◌∙◌, arith}
use Rattle.std.specs.List.{slice_get}
use Rattle.std.proofs.lemmas.Grind.{drop_more_same}
use Rattle.std.proofs.lemmas.List.{take_more, take_more_set, map-append, drop-set-lt}
use Rattle.std.proofs.lemmas.List.Elements.{All-push}
use Rattle.std.proofs.lemmas.Option.{get_or_from_slice_get}

-- one more value of the list
pub shown_more : {A B : Type 0} (shown : A → B) (all : List A) (i : ℕ) (a : A) → i < length all → slice_get all i ≡ Some a
    → map shown (take (i + 1) all) ≡ map shown (take i all) ++ shown a ∷ []
shown_more shown all i a below at =
    ap (map shown) (take_more all i a below ∙ ap (λ x. take i all ++ x ∷ []) (get_or_from_slice_get all i a a at))
    ∙ map-append shown (take i all) (a ∷ [])

-- it is put behind those that are there
pub front_more : {A B : Type 0} (shown : A → B) (all : List A) (xs : List B) (i : ℕ) (a : A) (y : B)
    → i < length all → i < length xs → slice_get all i ≡ Some a → y ≡ shown a
    → take i xs ≡ map shown (take i all) → take (i + 1) (slice_set xs i y) ≡ map shown (take (i + 1) all)
front_more shown all xs i a y in_all in_xs at same front =
    take_more_set xs i y in_xs ∙ ap (λ c. take i xs ++ c ∷ []) same ∙ ap (λ cs. cs ++ shown a ∷ []) front ∙ sym (shown_more shown all i a in_all at)

-- and so where what is put is seen through a view
pub seen_more : {A B C : Type 0} (view : B → C) (shown : A → C) (all : List A) (xs : List B) (i : ℕ) (a : A) (y : B) → i < length all → i < length xs
    → slice_get all i ≡ Some a → view y ≡ shown a → map view (take i xs) ≡ map shown (take i all)
    → map view (take (i + 1) (slice_set xs i y)) ≡ map shown (take (i + 1) all)
seen_more view shown all xs i a y in_all in_xs at same front =
    ap (map view) (take_more_set xs i y in_xs) ∙ map-append view (take i xs) (y ∷ [])
    ∙ ap (λ c. map view (take i xs) ++ c ∷ []) same ∙ ap (λ cs. cs ++ shown a ∷ []) front
    ∙ sym (shown_more shown all i a in_all at)

-- and each of them has a property
pub all_more : {B : Type 0} (Q : B → Type 0) (xs : List B) (i : ℕ) (y : B) → i < length xs → All Q (take i xs) → Q y
    → All Q (take (i + 1) (slice_set xs i y))
all_more Q xs i y in_xs before own =
    subst (All Q) (sym (take_more_set xs i y in_xs)) (All-push Q (take i xs) y before own)

-- what is behind it stays
pub behind_more : {B : Type 0} (xs old : List B) (i : ℕ) (y : B) → drop i xs ≡ drop i old → drop (i + 1) (slice_set xs i y) ≡ drop (i + 1) old
behind_more xs old i y same = drop-set-lt (i + 1) xs i y (omega arith) ∙ drop_more_same xs old i same

-- the same where the list is read by its places
shown_at : {A B : Type 0} (shown : A → B) (all : List A) (i : ℕ) (d : A) → i < length all
    → map shown (take (i + 1) all) ≡ map shown (take i all) ++ shown (get_or all i d) ∷ []
shown_at shown all i d below = ap (map shown) (take_more all i d below) ∙ map-append shown (take i all) (get_or all i d ∷ [])

pub front_at : {A B : Type 0} (shown : A → B) (all : List A) (xs : List B) (i : ℕ) (d : A) (y : B) → i < length all → i < length xs
    → y ≡ shown (get_or all i d) → take i xs ≡ map shown (take i all) → take (i + 1) (slice_set xs i y) ≡ map shown (take (i + 1) all)
front_at shown all xs i d y in_all in_xs same front =
    take_more_set xs i y in_xs ∙ ap (λ c. take i xs ++ c ∷ []) same
    ∙ ap (λ cs. cs ++ shown (get_or all i d) ∷ []) front ∙ sym (shown_at shown all i d in_all)

pub seen_at : {A B C : Type 0} (view : B → C) (shown : A → C) (all : List A) (xs : List B) (i : ℕ) (d : A) (y : B) → i < length all → i < length xs
    → view y ≡ shown (get_or all i d) → map view (take i xs) ≡ map shown (take i all)
    → map view (take (i + 1) (slice_set xs i y)) ≡ map shown (take (i + 1) all)
seen_at view shown all xs i d y in_all in_xs same front =
    ap (map view) (take_more_set xs i y in_xs) ∙ map-append view (take i xs) (y ∷ []) ∙ ap (λ c. map view (take i xs) ++ c ∷ []) same
    ∙ ap (λ cs. cs ++ shown (get_or all i d) ∷ []) front ∙ sym (shown_at shown all i d in_all)
