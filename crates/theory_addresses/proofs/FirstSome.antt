-- Laws of the first fault of a list: there is none exactly where no element is a fault, and behind elements that are none it is that of the rest.
use Rattle.std.specs.List.{AllByRecursion}
use Rattle.std.proofs.Common.{◌≡◌, Bool, true, ℕ, ◌<◌, List, [], ◌∷◌, ◌++◌, map, Option, Some, None, refl, ap, ◌∙◌}
use Rattle.theory_addresses.specs.Search.{unless, first_some, first_below}
use Rattle.theory_addresses.proofs.Searches.{unless-none, first_below-each, first_below-all}

-- no fault
abbrev pub IsNone : {F : Type 0} → Option F → Type 0
IsNone f = f ≡ None

module _ {F : Type 0} where
  pub first_some-cons : (f : Option F) (fs : List (Option F)) → IsNone f → first_some (f ∷ fs) ≡ first_some fs
  first_some-cons None fs h = refl
  first_some-cons (Some e) fs h = absurd (cc)

  pub first_some-parts : (f : Option F) (fs : List (Option F)) → IsNone (first_some (f ∷ fs)) → IsNone f × IsNone (first_some fs)
  first_some-parts None fs h = (refl, h)
  first_some-parts (Some e) fs h = absurd (cc)

  pub first_some-each : (fs : List (Option F)) → IsNone (first_some fs) → AllByRecursion IsNone fs
  first_some-each [] h = tt
  first_some-each (f ∷ fs) h = let p = first_some-parts f fs h in (p.0, first_some-each fs p.1)

  pub first_some-all : (fs : List (Option F)) → AllByRecursion IsNone fs → IsNone (first_some fs)
  first_some-all [] h = refl
  first_some-all (f ∷ fs) h = first_some-cons f fs h.0 ∙ first_some-all fs h.1

  -- the first elements are none: then it is that of the rest
  pub first_some-rest : (fs gs : List (Option F)) → AllByRecursion IsNone fs → first_some (fs ++ gs) ≡ first_some gs
  first_some-rest [] gs h = refl
  first_some-rest (f ∷ fs) gs h = first_some-cons f (fs ++ gs) h.0 ∙ first_some-rest fs gs h.1

  -- and then a fault
  pub first_some-found : (fs gs : List (Option F)) (f : Option F) (e : F) → AllByRecursion IsNone fs → f ≡ Some e → first_some (fs ++ f ∷ gs) ≡ Some e
  first_some-found fs gs f e h k = first_some-rest fs (f ∷ gs) h ∙ ap (λ o. first_some (o ∷ gs)) k

  -- the same over the elements of another list
  pub first_some-map-each : {A : Type 0} (f : A → Option F) (xs : List A) → IsNone (first_some (map f xs)) → AllByRecursion (λ x. IsNone (f x)) xs
  first_some-map-each f [] h = tt
  first_some-map-each f (x ∷ xs) h = let p = first_some-parts (f x) (map f xs) h in (p.0, first_some-map-each f xs p.1)

  pub first_some-map-all : {A : Type 0} (f : A → Option F) (xs : List A) → AllByRecursion (λ x. IsNone (f x)) xs → IsNone (first_some (map f xs))
  first_some-map-all f [] h = refl
  first_some-map-all f (x ∷ xs) h = first_some-cons (f x) (map f xs) h.0 ∙ first_some-map-all f xs h.1

  -- a test that passes is no fault
  pub unless-true : (b : Bool) (e : F) → b ≡ true → IsNone (unless b e)
  unless-true b e h = ap (λ t. unless t e) h

  -- a test that is to pass at each number below n
  pub tests-each : (test : ℕ → Bool) (fault : ℕ → F) (n : ℕ)
      → IsNone (first_below (λ k. unless (test k) (fault k)) n) → (k : ℕ) → k < n → test k ≡ true
  tests-each test fault n h k l = unless-none (test k) (fault k) (first_below-each (λ k. unless (test k) (fault k)) n h k l)

  pub tests-all : (test : ℕ → Bool) (fault : ℕ → F) (n : ℕ) → ((k : ℕ) → k < n → test k ≡ true)
      → IsNone (first_below (λ k. unless (test k) (fault k)) n)
  tests-all test fault n h = first_below-all (λ k. unless (test k) (fault k)) n (λ k l. unless-true (test k) (fault k) (h k l))
