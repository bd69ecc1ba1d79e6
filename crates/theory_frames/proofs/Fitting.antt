-- The addresses of a supertile's tiles fit the rule, and end at the supertile's kind.
use Rattle.std.proofs.Common.{◌≡◌, ℕ, zero, suc, ◌+◌, ◌<◌, List, [], ◌∷◌, length, map, slice_get, Some, inl, inr, refl, sym, ap, ◌∙◌, subst, arith, zero-add}
use Rattle.std.specs.List.{enumerate_from, AllByRecursion}
use Rattle.std.specs.Option.{option_and_then}
use Rattle.std.proofs.lemmas.List.{length-map}
use Rattle.std.proofs.lemmas.Option.{slice_get-get_or}
use Rattle.theory_addresses.specs.Address.{Address, top_kind, child_kind, Fits}
use Rattle.theory_addresses.specs.Search.{IsAmong}
use Rattle.theory_addresses.proofs.Lists.{AllByRecursion-from, AllByRecursion-map, AllByRecursion-flat_map, AllByRecursion-each}
use Rattle.theory_addresses.proofs.Ranges.{slice_get-image}
use Rattle.theory_substitution.specs.Points.{Points}
use Rattle.theory_substitution.specs.Rule.{Child, Kind, Rule, kind_of, children_of, child_kinds}
use Rattle.theory_substitution.specs.Supertile.{Placed, lifted, supertile}
use Rattle.theory_substitution.proofs.Addresses.{numbered-exists, top_from-append}
use Rattle.theory_frames.specs.Frame.{HasChildKinds}
use Rattle.theory_frames.proofs.Frames.{Climbs-join}

-- what stands in a numbered list stands at its number
numbered_at : {A : Type 0} (n : ℕ) (xs : List A) (c : ℕ × A) → IsAmong c (enumerate_from n xs) → (m : ℕ) × (c.0 ≡ n + m) × (slice_get xs m ≡ Some c.1)
numbered_at n [] c i = elim i [ ]
numbered_at n (x ∷ xs) c (inl e) = (0, omega (arith, ap (λ d. d.0) e), ap (λ d. Some d.1) (sym e))
numbered_at n (x ∷ xs) c (inr i) = let h = numbered_at (n + 1) xs c i in (suc h.0, omega (arith, h.1), h.2)

pub child-at : {A : Type 0} (xs : List A) (c : ℕ × A) → IsAmong c (enumerate_from 0 xs) → slice_get xs c.0 ≡ Some c.1
child-at xs c i = let h = numbered_at 0 xs c i in subst (λ m. slice_get xs m ≡ Some c.1) (sym (h.1 ∙ zero-add h.0)) h.2

-- a child of a kind, among the kinds of children
pub child_kind-of : {A : Type 0} (r : Rule A) (k i : ℕ) (c : Child A) → k < length r.kinds
    → slice_get (children_of r k) i ≡ Some c → child_kind (child_kinds r) k i ≡ Some c.kind
child_kind-of {A} r k i c h e =
    ap (option_and_then (λ row. slice_get row i))
    (slice_get-image (λ (k : Kind A). map (λ (c : Child A). c.kind) k.children) (kind_of r k) r.kinds k
    (slice_get-get_or r.kinds k _ h))
    ∙ slice_get-image (λ (c : Child A). c.kind) c (children_of r k) i e

module _ (P : Points) (r : Rule P.ring.carrier) (exist : HasChildKinds P r) where
  -- an address of a supertile of kind k
  pub record IsFitting (k : ℕ) (a : Address) : Type 0 where
    pub fits : Fits (child_kinds r) a
    pub top : top_kind a ≡ k

  pub supertile-fits : (k n : ℕ) → k < length r.kinds → AllByRecursion (λ t. IsFitting k t.address) (supertile P r k n)
  supertile-fits k zero hk = (record { fits = record { kind_exists = listed k hk; climbs = tt }; top = refl }, tt)
    where
      listed : (k : ℕ) → k < length r.kinds → k < length (child_kinds r)
      listed k h = omega (arith, h, length-map r.kinds (λ (k : Kind P.ring.carrier). map (λ (c : Child P.ring.carrier). c.kind) k.children))
  supertile-fits k (suc n) hk =
      AllByRecursion-flat_map _ _ (enumerate_from 0 (children_of r k)) (AllByRecursion-from _ (enumerate_from 0 (children_of r k)) (λ c i.
      AllByRecursion-map _ (lifted P r k n c.0 c.1) (supertile P r c.1.kind n)
      (AllByRecursion-each (λ t. IsFitting c.1.kind t.address) _ (supertile P r c.1.kind n)
      (λ t h. one_more c i t h) (supertile-fits c.1.kind n (numbered-exists P r exist k hk c i)))))
    where
      one_more : (c : ℕ × Child P.ring.carrier) → IsAmong c (enumerate_from 0 (children_of r k))
          → (t : Placed P.ring.carrier) → IsFitting c.1.kind t.address
          → IsFitting k (lifted P r k n c.0 c.1 t).address
      one_more c i t h = record {
        fits = record {
          kind_exists = h.fits.kind_exists;
          climbs = Climbs-join (child_kinds r) t.address.kind t.address.digits (record { child = c.0; parent = k } ∷ []) h.fits.climbs
              (child_kind-of r k c.0 c.1 hk (child-at (children_of r k) c i) ∙ ap Some (sym h.top), tt);
        };
        top = top_from-append t.address.kind t.address.digits (record { child = c.0; parent = k });
      }
