-- Addresses that fit the contact tables of a rule fit the rule, and name tiles of its supertiles.
use Rattle.std.proofs.Common.{◌≡◌, ℕ, ◌<◌, List, [], ◌∷◌, length, map, slice_get, Some, sym, ap, ◌∙◌, subst}
use Rattle.std.specs.Option.{option_and_then}
use Rattle.std.proofs.lemmas.Option.{slice_get-get_or}
use Rattle.std.proofs.lemmas.List.{length-map}
use Rattle.theory_substitution.specs.Motion.{still}
use Rattle.theory_addresses.specs.Address.{Step, Address, top_from, top_kind, depth, child_kind, Climbs, Fits}
use Rattle.theory_substitution.specs.Rule.{Child, Kind, kind_of, children_of, child_kinds}
use Rattle.theory_substitution.specs.RuleParts.{child_of}
use Rattle.theory_substitution.specs.Placement.{placement}
use Rattle.theory_addresses.specs.Search.{IsAmong}
use Rattle.theory_substitution.specs.Supertile.{supertile}
use Rattle.theory_edge_to_edge.specs.Contacts.{tables_of}
use Rattle.theory_addresses.specs.Tables.{Tables, child_kind_of}
use Rattle.theory_addresses.proofs.Chains.{IsChain}
use Rattle.theory_addresses.proofs.Ranges.{slice_get-image}
use Rattle.theory_edge_to_edge.proofs.ChildEdges.{kind-with_child}
use Rattle.theory_edge_to_edge.proofs.TablesOf.{child_kind_of-found}
use Rattle.theory_substitution.proofs.Addresses.{StandsBeside-placement}
use Rattle.theory_dissection.proofs.Setting.{Setting, contacts-coherent, kind_below}

module _ (T : Setting) where
  open T use {points as P, laws as W, accepted.{rule as r, numbered as N, edge_to_edge as D}}

  abbrev A : Type 0
  A = P.ring.carrier

  abbrev t : Tables
  t = tables_of P r

  kind_row : (k : ℕ) → k < length r.kinds → slice_get (child_kinds r) k ≡ Some (map (λ (c : Child A). c.kind) (children_of r k))
  kind_row k h =
      slice_get-image (λ (x : Kind A). map (λ (c : Child A). c.kind) x.children) (kind_of r k) r.kinds k
      (slice_get-get_or r.kinds k (record { vertices = []; edges = []; children = [] }) h)

  same_child : (k c kind : ℕ) → child_kind_of t k c ≡ Some kind → child_kind (child_kinds r) k c ≡ Some kind
  same_child k c kind h =
      let found = child_kind_of-found P r k c kind h in
      ap (option_and_then (λ row. slice_get row c)) (kind_row k (kind-with_child P r k c found.0))
      ∙ slice_get-image (λ (x : Child A). x.kind) (child_of P r k c) (children_of r k) c
      (slice_get-get_or (children_of r k) c (record { kind = 0; motion = still P }) found.0)
      ∙ ap Some (sym found.1)

  climbs-rule : (kind : ℕ) (ds : List Step) → IsChain t kind ds → Climbs (child_kinds r) kind ds
  climbs-rule kind [] h = tt
  climbs-rule kind (d ∷ ds) h = (same_child d.parent d.child kind h.0, climbs-rule d.parent ds h.1)

  pub top_exists : (kind : ℕ) (ds : List Step) → IsChain t kind ds → top_from kind ds < length r.kinds
  top_exists kind [] h = kind_below T kind h
  top_exists kind (d ∷ ds) h = top_exists d.parent ds h.1

  pub lowest_exists : (kind : ℕ) (ds : List Step) → IsChain t kind ds → kind < length r.kinds
  lowest_exists kind [] h = kind_below T kind h
  lowest_exists kind (d ∷ ds) h = kind_below T kind ((contacts-coherent T).child_exists d.parent d.child kind h.0)

  pub fits-rule : (a : Address) → IsChain t a.kind a.digits → Fits (child_kinds r) a
  fits-rule a h = record {
    kind_exists = subst (λ n. a.kind < n) (sym (length-rows r.kinds))
        (lowest_exists a.kind a.digits h);
    climbs = climbs-rule a.kind a.digits h;
  }
    where
      length-rows : (ks : List (Kind A)) → length (map (λ (k : Kind A). map (λ (c : Child A). c.kind) k.children) ks) ≡ length ks
      length-rows ks = length-map ks (λ (k : Kind A). map (λ (c : Child A). c.kind) k.children)

  -- the tile of an address stands in the list of its supertile
  pub tile-among : (a : Address) → IsChain t a.kind a.digits
      → IsAmong (record { address = a; motion = placement P r a.digits })
      (supertile P r (top_kind a) (depth a))
  tile-among a h = (StandsBeside-placement P W r a (fits-rule a h)).among
