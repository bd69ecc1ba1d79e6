-- Lists that are copied list by list.
use Rattle.std.proofs.Common.{◌≡◌, List, [], ◌∷◌, map, sym, ap, ◌∙◌, refl, Vec, Global}

map_items : {X Y : Type 0} (f : X → Y) (xs : List (Vec X Global)) → map (λ v. map f v.items) xs ≡ map (map f) (map (λ v. v.items) xs)
map_items f [] = refl
map_items f (x ∷ xs) = ap (λ l. map f x.items ∷ l) (map_items f xs)

-- lists with the same elements look the same
pub same_view : {X Y : Type 0} (f : X → Y) (xs ys : List (Vec X Global))
    → map (λ v. v.items) xs ≡ map (λ v. v.items) ys
    → map (λ v. map f v.items) xs ≡ map (λ v. map f v.items) ys
same_view f xs ys same = map_items f xs ∙ ap (map (map f)) same ∙ sym (map_items f ys)
