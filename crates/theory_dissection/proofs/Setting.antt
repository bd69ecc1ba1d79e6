-- The setting of all that follows: points that meet their laws, and an accepted rule over them. And what the
-- check establishes of one level, said of it.
use Rattle.std.proofs.Common.{◌≡◌, ℕ, ◌<◌, true, length, Some, is_ok}
use Rattle.theory_ring.specs.Ring.{power}
use Rattle.theory_addresses.specs.Coherent.{IsCoherent}
use Rattle.theory_addresses.specs.Contact.{inner, outer}
use Rattle.theory_addresses.specs.Tables.{contact_of}
use Rattle.theory_substitution.specs.Points.{Points, PointLaws}
use Rattle.theory_substitution.specs.Plane.{Keeps, IsGrowthFactor}
use Rattle.theory_substitution.specs.RuleParts.{edge_count}
use Rattle.theory_substitution.proofs.Keeping.{powers-keep}
use Rattle.theory_edge_to_edge.specs.Boundary.{parts_of_edge}
use Rattle.theory_edge_to_edge.specs.Contacts.{tables_of}
use Rattle.theory_edge_to_edge.specs.Edges.{child_edge}
use Rattle.theory_edge_to_edge.proofs.CoherentContacts as level
use Rattle.theory_edge_to_edge.proofs.CoherentTypes as types
use Rattle.theory_edge_to_edge.proofs.ContactCases.{PointsBack, IsPart}
use Rattle.theory_edge_to_edge.proofs.Factors as factors
use Rattle.theory_dissection.specs.Accepted.{AcceptedRule}

pub record Setting : Type 1 where
  pub points : Points
  pub laws : PointLaws points
  pub accepted : AcceptedRule points

module _ (T : Setting) where
  open T use {points as P, laws as W, accepted.{edition, refused, rule as r, numbered as N, edge_to_edge as D}}

  -- the factor's squared length is above 1, so its powers keep turns, segments and equal lengths
  pub growth_of : IsGrowthFactor P r.factor
  growth_of = factors.growth_of P refused r.factor W edition D.inflation_factor

  pub inflating-keeps : (n : ℕ) → Keeps P (P.ring.mul (power P.ring r.factor n))
  inflating-keeps n = powers-keep P W r.factor growth_of n

  -- the contact tables are coherent
  pub contacts-coherent : IsCoherent (tables_of P r)
  contacts-coherent = level.contacts-coherent P W edition refused r N D

  -- each inflated edge is cut into its parts
  pub cut_edges : (k e : ℕ) → e < edge_count r k → is_ok (parts_of_edge P r k e) ≡ true
  cut_edges = level.cut_edges P W edition refused r N D

  -- an inner child edge is met by the one that the tables name, and an outer one is the part that they name
  pub inner_other : (k a e b f : ℕ) → contact_of (tables_of P r) k a e ≡ Some (inner b f) → PointsBack P r k (child_edge P r k a e) b f
  inner_other = level.inner_other P W edition refused r N D

  pub part-from : (k c e f p : ℕ) → contact_of (tables_of P r) k c e ≡ Some (outer f p) → IsPart P r k (child_edge P r k c e) f p
  part-from = level.part-from P W edition refused r N D

  -- the tables have the rule's kinds
  pub kind_below : (k : ℕ) → k < length (tables_of P r).kinds → k < length r.kinds
  kind_below = types.kind_below P W edition refused r N D

  pub below_kinds : (k : ℕ) → k < length r.kinds → k < length (tables_of P r).kinds
  below_kinds = types.below_kinds P W edition refused r N D
