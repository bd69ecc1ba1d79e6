-- The notation in which the rules are written down.
use Rattle.std.specs.Prelude.{ℕ, ℤ, pos, neg_ℤ, List, [], ◌∷◌}
use Rattle.theory_substitution.specs.Rule.{EdgeType, Child, Kind}
use Rattle.cyclo_points.specs.declared.point.Point.{Point}

-- the coefficients that occur
abbrev pub -1 : ℤ
-1 = neg_ℤ (pos 1)

abbrev pub +0 : ℤ
+0 = pos 0

abbrev pub +1 : ℤ
+1 = pos 1

abbrev pub +2 : ℤ
+2 = pos 2

abbrev pub +4 : ℤ
+4 = pos 4

-- the point a0 + a1 ζ + a2 ζ² + a3 ζ³
abbrev pub at : ℤ → ℤ → ℤ → ℤ → Point
at a0 a1 a2 a3 = record { c = a0 ∷ a1 ∷ a2 ∷ a3 ∷ [] }

-- an edge type: its mate, and the types into which it is cut, in order
abbrev pub mated_type : ℕ → List ℕ → EdgeType
mated_type mate parts = record { mate = mate; parts = parts }

-- a child: its kind, its turn and its shift
abbrev pub child : ℕ → ℕ → Point → Child Point
child kind turn shift = record { kind = kind; motion = record { turn = turn; shift = shift } }

-- a kind: the vertices of its prototile counterclockwise, the types of its edges, and its children
abbrev pub prototile : List Point → List ℕ → List (Child Point) → Kind Point
prototile vertices edges children = record { vertices = vertices; edges = edges; children = children }
