-- The tiles that a supertile's list has: their addresses fit, and each has the motion of its digits.
use Rattle.std.proofs.Common.{◌≡◌, ℕ, zero, suc, ◌<◌, List, [], ◌∷◌, ◌++◌, length, Some, refl, sym, ap, ◌∙◌}
use Rattle.std.specs.List.{enumerate_from, AllByRecursion}
use Rattle.theory_substitution.specs.Motion.{still}
use Rattle.theory_addresses.specs.Address.{Step, top_from, top_kind, depth}
use Rattle.theory_substitution.specs.Rule.{Child, children_of}
use Rattle.theory_substitution.specs.RuleParts.{child_of}
use Rattle.theory_substitution.specs.Placement.{placement}
use Rattle.theory_addresses.specs.Search.{IsAmong}
use Rattle.theory_substitution.specs.Supertile.{Placed, lifted, supertile}
use Rattle.theory_edge_to_edge.specs.Contacts.{tables_of}
use Rattle.theory_addresses.specs.Tables.{Tables, child_kind_of}
use Rattle.theory_addresses.proofs.Chains.{IsChain}
use Rattle.theory_addresses.proofs.Lists.{AllByRecursion-among, AllByRecursion-from, AllByRecursion-map, AllByRecursion-flat_map, AllByRecursion-each, get_or-enumerated, enumerated-at}
use Rattle.theory_substitution.proofs.Addresses.{numbered-exists, top_from-append}
use Rattle.theory_substitution.proofs.Placement.{IsPlaced, supertile-placed}
use Rattle.theory_edge_to_edge.proofs.TablesOf.{child_kind_of-at}
use Rattle.theory_dissection.proofs.Setting.{Setting, below_kinds}

pub chain-append : (t : Tables) (kind : ℕ) (ds : List Step) (d : Step) → IsChain t kind ds
    → child_kind_of t d.parent d.child ≡ Some (top_from kind ds) → d.parent < length t.kinds
    → IsChain t kind (ds ++ d ∷ [])
chain-append t kind [] d h fits exists = (fits, exists)
chain-append t kind (e ∷ ds) d h fits exists = (h.0, chain-append t e.parent ds d h.1 fits exists)

module _ (T : Setting) where
  open T use {points as P, laws as W, accepted.{rule as r, numbered as N, edge_to_edge as D}}

  abbrev A : Type 0
  A = P.ring.carrier

  pub record IsTile (k : ℕ) (t : Placed A) : Type 0 where
    pub kind_exists : t.address.kind < length r.kinds
    pub chain : IsChain (tables_of P r) t.address.kind t.address.digits
    pub top : top_kind t.address ≡ k

  supertile-tiles : (k n : ℕ) → k < length r.kinds → AllByRecursion (IsTile k) (supertile P r k n)
  supertile-tiles k zero hk = (record { kind_exists = hk; chain = below_kinds T k hk; top = refl }, tt)
  supertile-tiles k (suc n) hk =
      AllByRecursion-flat_map _ _ (enumerate_from 0 (children_of r k)) (AllByRecursion-from _ (enumerate_from 0 (children_of r k)) (λ c i.
      AllByRecursion-map _ (lifted P r k n c.0 c.1) (supertile P r c.1.kind n)
      (AllByRecursion-each (IsTile c.1.kind) _ (supertile P r c.1.kind n) (λ t h. one_more c i t h)
      (supertile-tiles c.1.kind n (numbered-exists P r N.child_exists k hk c i)))))
    where
      is_child : (c : ℕ × Child A) → IsAmong c (enumerate_from 0 (children_of r k)) → child_of P r k c.0 ≡ c.1
      is_child c i = get_or-enumerated (record { kind = 0; motion = still P }) (children_of r k) c i

      one_more : (c : ℕ × Child A) → IsAmong c (enumerate_from 0 (children_of r k)) → (t : Placed A)
          → IsTile c.1.kind t → IsTile k (lifted P r k n c.0 c.1 t)
      one_more c i t h = record {
        kind_exists = h.kind_exists;
        chain = chain-append (tables_of P r) t.address.kind t.address.digits (record { child = c.0; parent = k }) h.chain
            (child_kind_of-at P r k c.0 (enumerated-at (children_of r k) c i)
            ∙ ap (λ (x : Child A). Some x.kind) (is_child c i) ∙ ap Some (sym h.top))
            (below_kinds T k hk);
        top = top_from-append t.address.kind t.address.digits (record { child = c.0; parent = k });
      }

  -- a tile of the list
  pub record Member (k n : ℕ) (t : Placed A) : Type 0 where
    pub tile : IsTile k t
    pub depth_is : depth t.address ≡ n
    pub motion_is : t.motion ≡ placement P r t.address.digits

  pub member : (k n : ℕ) → k < length r.kinds → (t : Placed A) → IsAmong t (supertile P r k n) → Member k n t
  member k n hk t i =
      let placed = AllByRecursion-among (IsPlaced P W r n) t (supertile P r k n) i (supertile-placed P W r k n) in
      record {
        tile = AllByRecursion-among (IsTile k) t (supertile P r k n) i (supertile-tiles k n hk);
        depth_is = placed.depth;
        motion_is = placed.motion_is;
      }
