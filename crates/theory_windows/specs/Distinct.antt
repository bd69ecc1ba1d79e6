-- Lists without repetitions.
use Rattle.std.specs.Prelude.{List, [], ◌∷◌}
use Rattle.theory_addresses.specs.Search.{IsAmong}

-- no two places have one element
abbrev pub AreDistinct : {A : Type 0} → List A → Type 0
AreDistinct [] = Unit {0}
AreDistinct (x ∷ xs) = (¬ IsAmong x xs) × AreDistinct xs
