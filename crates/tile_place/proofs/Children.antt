-- The digits of an address that fits a rule name children that the rule has.
use Rattle.std.proofs.Common.{◌≡◌, ℕ, zero, suc, ◌<◌, List, [], ◌∷◌, map, length, get_or, Some, arith}
use Rattle.std.proofs.lemmas.List.{length-map}
use Rattle.std.proofs.lemmas.Option.{slice_get_within}
use Rattle.theory_addresses.specs.Address.{child_kind, Climbs}
use Rattle.theory_substitution.specs.Rule.{Child, Kind, Rule, child_kinds, children_of}
use Rattle.tile_shape.specs.declared.step.Step as program
use Rattle.tile_shape.specs.Views.{step_of}

abbrev kinds_of : {A : Type 0} → List (Child A) → List ℕ
kinds_of {A} cs = map (λ (c : Child A). c.kind) cs

child-among : {A : Type 0} (kinds : List (Kind A)) (parent child kind : ℕ)
    → child_kind (map (λ (k : Kind A). kinds_of k.children) kinds) parent child ≡ Some kind
    → (parent < length kinds) × (child < length (get_or kinds parent (record { vertices = []; edges = []; children = [] })).children)
child-among [] parent child kind e = absurd cc
child-among {A} (k ∷ ks) zero child kind e =
    let listed = slice_get_within (kinds_of k.children) child kind e in
    let same = length-map k.children (λ (c : Child A). c.kind) in
    (omega arith, omega (arith, listed, same))
child-among (k ∷ ks) (suc p) child kind e = let rest = child-among ks p child kind e in (omega (arith, rest.0), rest.1)

-- a child that has a kind is one of the rule
pub child-listed : {A : Type 0} (r : Rule A) (parent child kind : ℕ) → child_kind (child_kinds r) parent child ≡ Some kind
    → (parent < length r.kinds) × (child < length (children_of r parent))
child-listed r parent child kind e = child-among r.kinds parent child kind e

-- and so each digit names one
pub digit-listed : {A : Type 0} (r : Rule A) (kind : ℕ) (digits : List program.Step) (i : ℕ)
    (d : program.Step) → Climbs (child_kinds r) kind (map step_of digits) → i < length digits
    → ((get_or digits i d).parent < length r.kinds) × ((get_or digits i d).child < length (children_of r (get_or digits i d).parent))
digit-listed r kind [] i d h l = absurd (omega arith)
digit-listed r kind (s ∷ ss) zero d h l = child-listed r s.parent s.child kind h.0
digit-listed r kind (s ∷ ss) (suc i) d h l = digit-listed r s.parent ss i d h.1 (omega arith)
