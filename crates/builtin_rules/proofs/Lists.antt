-- Lists of lists that have the same members, in vectors and behind references.
use Rattle.std.proofs.Common.{◌≡◌, List, [], ◌∷◌, map, refl, Bor, Vec, Global}
use Rattle.builtin_rules.specs.Numbers.{fixed}

-- what is made of each member is the same
pub same_through : {A B : Type 0} (f : List A → B) (vectors : List (Vec A Global)) (lists : List (Bor (List A)))
    → map (λ v. v.items) vectors ≡ map (λ l. l.now) lists → map (λ v. f v.items) vectors ≡ map (λ l. f l.now) (map fixed lists)
same_through f [] [] e = refl
same_through f [] (l ∷ lists) e = absurd (cc e)
same_through f (v ∷ vectors) [] e = absurd (cc e)
same_through f (v ∷ vectors) (l ∷ lists) e = let first : v.items ≡ l.now = cc e in let rest : map
    (λ v. v.items) vectors ≡ map (λ l. l.now) lists = cc e in
    rw (first, same_through f vectors lists rest)
