-- A star-shaped polygon of at least three vertices, moved by a map that keeps turns and segments; the prototile of a kind is one.
use Rattle.std.proofs.Common.{◌≡◌, ℕ, ◌<◌, ◌≤◌, true, List, length, arith}
use Rattle.theory_substitution.specs.Points.{Points, PointLaws}
use Rattle.theory_substitution.specs.Plane.{Keeps}
use Rattle.theory_substitution.specs.RuleParts.{vertices_of}
use Rattle.theory_edge_to_edge.specs.Star.{is_star}
use Rattle.theory_dissection.proofs.Setting.{Setting}

pub record MovedStar : Type 1 where
  pub points : Points
  pub laws : PointLaws points
  pub move : points.ring.carrier → points.ring.carrier
  pub keeps : Keeps points move
  pub vertices : List points.ring.carrier
  pub star : is_star points vertices ≡ true
  pub three : 3 ≤ length vertices

module _ (T : Setting) where
  open T use {points as P, laws as W, accepted.{rule as r, numbered as N, edge_to_edge as D}}

  pub three_vertices : (k : ℕ) → k < length r.kinds → 3 ≤ length (vertices_of r k)
  three_vertices k hk = let size = N.vertex_each k hk in let three = N.at_least_3_edges k hk in omega arith

  -- the prototile of kind k, moved by f
  abbrev pub star_of : (f : P.ring.carrier → P.ring.carrier) → Keeps P f → (k : ℕ) → k < length r.kinds → MovedStar
  star_of f keeps k hk = record {
    points = P;
    laws = W;
    move = f;
    keeps = keeps;
    vertices = vertices_of r k;
    star = D.star_shaped k hk;
    three = three_vertices k hk;
  }
