-- The different members of a list.
use Rattle.std.specs.Prelude.{◌≡◌, ℕ, List, [], ◌∷◌, length}
use Rattle.theory_addresses.specs.Search.{IsAmong}

-- no member is repeated
abbrev pub HasNoneTwice : {A : Type 0} → List A → Type 0
HasNoneTwice [] = Unit {0}
HasNoneTwice (x ∷ xs) = (IsAmong x xs → ⊥) × HasNoneTwice xs

-- the members of `all`, each exactly once
pub record AreOnce {A : Type 0} (all once : List A) : Type 0 where
  pub each : (x : A) → IsAmong x all → IsAmong x once
  pub no_other : (x : A) → IsAmong x once → IsAmong x all
  pub none_twice : HasNoneTwice once

-- the list has this many different members
abbrev pub HasDifferent : {A : Type 0} → List A → ℕ → Type 0
HasDifferent {A} all n = (once : List A) × AreOnce all once × (n ≡ length once)
