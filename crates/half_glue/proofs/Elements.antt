-- Elements of lists.
use Rattle.std.proofs.Common.{◌≡◌, ℕ, zero, suc, ◌<◌, List, [], ◌∷◌, ◌++◌, All, length, get_or, refl, sym, ap, ◌∙◌, subst, arith, length-append, map}
use Rattle.std.specs.List.{Contains}
use Rattle.std.proofs.lemmas.List.{get_or_default, get_or-map, length-map}
use Rattle.std.proofs.Math.Seq.{get_or-append_seam}

pub get_or-front : {A : Type 0} (xs ys : List A) (k : ℕ) (d : A) → k < length xs → get_or (xs ++ ys) k d ≡ get_or xs k d
get_or-front [] ys k d l = absurd (omega (arith, l))
get_or-front (z ∷ xs) ys zero d l = refl
get_or-front (z ∷ xs) ys (suc k) d l = get_or-front xs ys k d (omega (arith, l))

pub contains-left : {A : Type 0} (xs ys : List A) (x : A) → Contains xs x → Contains (xs ++ ys) x
contains-left xs ys x c = (c.0, omega (arith, c.1, length-append xs ys), get_or-front xs ys c.0 x c.1 ∙ c.2)

pub contains-last : {A : Type 0} (xs : List A) (x : A) → Contains (xs ++ x ∷ []) x
contains-last xs x = (length xs, omega (arith, length-append xs (x ∷ [])), get_or-append_seam xs x [] x)

pub of-all : {A : Type 0} (Q : A → Type 0) (xs : List A) (x : A) → All Q xs → Contains xs x → Q x
of-all Q xs x all c = subst Q c.2 (all c.0 x c.1)

pub contains-map : {A B : Type 0} (g : A → B) (xs : List A) (x : A) → Contains xs x → Contains (map g xs) (g x)
contains-map g xs x c = (c.0, omega (arith, c.1, length-map xs g), get_or-map g xs c.0 x (g x) c.1 ∙ ap g c.2)

pub contained : {A B : Type 0} (g : A → B) (xs : List A) (d : A) (y : B) → Contains (map g xs) y → (x : A) × Contains xs x × (g x ≡ y)
contained g xs d y c =
    let below : c.0 < length xs = omega (arith, c.1, length-map xs g) in
    (get_or xs c.0 d, (c.0, below, get_or_default xs c.0 (get_or xs c.0 d) d below), sym (get_or-map g xs c.0 d y below) ∙ c.2)
