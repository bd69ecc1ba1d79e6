-- A substitution rule as lists of numbers: prototiles, edge types with their subdivisions, and the children
-- of each inflated prototile.
use Rattle.std.specs.Prelude.{ℕ, List, [], map, get_or}
use Rattle.theory_substitution.specs.Motion.{Motion}

-- a child: the prototile of this kind, moved into the parent's inflated prototile
pub record Child (A : Type 0) : Type 0 where
  pub kind : ℕ
  pub motion : Motion A

-- an edge type: the type of the same edge traversed backwards, and the types, in order, into which the
-- inflated edge is cut
pub record EdgeType : Type 0 where
  pub mate : ℕ
  pub parts : List ℕ

-- a kind: the vertices of its prototile counterclockwise; the type of each edge, edge i running from vertex i
-- to the next; and its children
pub record Kind (A : Type 0) : Type 0 where
  pub vertices : List A
  pub edges : List ℕ
  pub children : List (Child A)

-- the inflation factor, the edge types along which halves are glued, the edge types and the kinds, each by
-- its number
pub record Rule (A : Type 0) : Type 0 where
  pub factor : A
  pub glue : List ℕ
  pub types : List EdgeType
  pub kinds : List (Kind A)

-- the kind of a number; beyond the last it has no vertices and no children
abbrev pub kind_of : {A : Type 0} → Rule A → ℕ → Kind A
kind_of r k = get_or r.kinds k (record { vertices = []; edges = []; children = [] })

abbrev pub children_of : {A : Type 0} → Rule A → ℕ → List (Child A)
children_of r k = (kind_of r k).children

-- the kinds of each kind's children
abbrev pub child_kinds : {A : Type 0} → Rule A → List (List ℕ)
child_kinds r = map (λ k. map (λ c. c.kind) k.children) r.kinds
