-- The first place at which a test passes, item by item.
use Rattle.std.proofs.Common.{◌≡◌, ℕ, suc, Bool, true, false, Option, None, Some, List, [], ◌∷◌, ◌++◌, length, refl, sym, ap, ◌∙◌, arith}
use Rattle.std.specs.List.{position}
use Rattle.std.specs.Option.{option_map}
use Rattle.std.proofs.lemmas.List.Quantifiers.{position-Some}

pub position-here : {X : Type 0} (p : X → Bool) (x : X) (xs : List X) → p x ≡ true → position p (x ∷ xs) ≡ Some 0
position-here p x xs e = rw e (grind arith)

pub position-later : {X : Type 0} (p : X → Bool) (x : X) (xs : List X) → p x ≡ false → position p (x ∷ xs) ≡ option_map suc (position p xs)
position-later p x xs e = rw e (grind arith)

-- at the first item the test passes, and at a later one it fails on the first
pub position-first : {X : Type 0} (p : X → Bool) (x : X) (xs : List X) → position p (x ∷ xs) ≡ Some 0 → p x ≡ true
position-first p x xs h = (position-Some p (x ∷ xs) 0 x h).1

same_later : (o : Option ℕ) (i : ℕ) → option_map suc o ≡ Some (suc i) → o ≡ Some i
same_later None i h = grind arith
same_later (Some j) i h = grind arith

pub position-rest : {X : Type 0} (p : X → Bool) (x : X) (xs : List X) (i : ℕ)
    → position p (x ∷ xs) ≡ Some (suc i) → (p x ≡ false) × (position p xs ≡ Some i)
position-rest p x xs i h =
    let e : p x ≡ false = (position-Some p (x ∷ xs) (suc i) x h).2 0 (omega arith) in
    (e, same_later (position p xs) i (sym (position-later p x xs e) ∙ h))

-- one more item at the end
pub position-push_failing : {X : Type 0} (p : X → Bool) (y : X) (xs : List X) → p y ≡ false → position p (xs ++ y ∷ []) ≡ position p xs
position-push_failing p y [] e = position-later p y [] e
position-push_failing {X} p y (x ∷ xs) e = step (p x) refl (position-push_failing p y xs e)
  where
    step : (b : Bool) → p x ≡ b → position p (xs ++ y ∷ []) ≡ position p xs → position p (x ∷ xs ++ y ∷ []) ≡ position p (x ∷ xs)
    step true f r = position-here p x (xs ++ y ∷ []) f ∙ sym (position-here p x xs f)
    step false f r = position-later p x (xs ++ y ∷ []) f ∙ ap (option_map suc) r ∙ sym (position-later p x xs f)

no_later : (o : Option ℕ) → option_map suc o ≡ None → o ≡ None
no_later None h = refl
no_later (Some i) h = grind arith

pub position-push_passing : {X : Type 0} (p : X → Bool) (y : X) (xs : List X) → position p xs ≡ None
    → p y ≡ true → position p (xs ++ y ∷ []) ≡ Some (length xs)
position-push_passing p y [] h e = position-here p y [] e
position-push_passing {X} p y (x ∷ xs) h e = step (p x) refl (λ k. position-push_passing p y xs k e)
  where
    step : (b : Bool) → p x ≡ b → (position p xs ≡ None → position p (xs ++ y ∷ []) ≡ Some (length xs))
        → position p (x ∷ xs ++ y ∷ []) ≡ Some (suc (length xs))
    step true f r = let k : Some 0 ≡ None = sym (position-here p x xs f) ∙ h in grind (arith, k)
    step false f r = position-later p x (xs ++ y ∷ []) f ∙ ap (option_map suc) (r (no_later (position p xs) (sym (position-later p x xs f) ∙ h)))
