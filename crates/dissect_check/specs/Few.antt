-- The only member of a list, or that it has none or several.
use Rattle.std.specs.Prelude.{List, [], ◌∷◌}
use Rattle.dissect_check.specs.declared.few.Few.{Few}
use Rattle.dissect_check.specs.declared.few.Few.TheVariants.{None, One, Many}

-- that of this list
abbrev pub few_of : {A : Type 0} → List A → Few A
few_of [] = None
few_of (x ∷ []) = One x
few_of (x ∷ (y ∷ ys)) = Many

-- that of a list, after x is appended
abbrev pub one_more : {A : Type 0} → Few A → A → Few A
one_more None x = One x
one_more (One y) x = Many
one_more Many x = Many
