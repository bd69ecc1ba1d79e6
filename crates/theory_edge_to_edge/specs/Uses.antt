-- The uses of a kind.
use Rattle.std.specs.Prelude.{ℕ, Bool, length, nat_eq}
use Rattle.std.specs.List.{list_any}
use Rattle.theory_substitution.specs.Rule.{Child, Rule, children_of}
use Rattle.theory_addresses.specs.Search.{some_below}

-- some kind has a child of kind k
abbrev pub is_used : {A : Type 0} → Rule A → ℕ → Bool
is_used {A} r k = some_below (length r.kinds)
    (λ p. list_any (λ (c : Child A). nat_eq c.kind k) (children_of r p))
