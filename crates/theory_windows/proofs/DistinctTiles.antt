-- The tiles of a supertile are distinct: their addresses differ.
use Rattle.std.proofs.Common.{◌≡◌, inl, inr, ℕ, zero, suc, ◌+◌, ◌≤◌, List, [], ◌∷◌, ◌++◌, flat_map, map, refl, sym, ap, ◌∙◌, arith}
use Rattle.std.specs.List.{enumerate_from}
use Rattle.std.proofs.lemmas.List.{append_cancel_right}
use Rattle.theory_addresses.specs.Address.{Step, Address}
use Rattle.theory_addresses.specs.Search.{IsAmong}
use Rattle.theory_addresses.proofs.Lists.{AllByRecursion-among}
use Rattle.theory_addresses.proofs.Ranges.{InPiece, among-flat_map}
use Rattle.theory_substitution.specs.Points.{Points, PointLaws}
use Rattle.theory_substitution.specs.Rule.{Child, Rule, children_of}
use Rattle.theory_substitution.specs.Supertile.{Placed, lifted, supertile}
use Rattle.theory_substitution.specs.Placement.{placement}
use Rattle.theory_substitution.proofs.Placement.{IsPlaced, supertile-placed}
use Rattle.theory_windows.specs.Distinct.{AreDistinct}
use Rattle.theory_windows.proofs.Members.{among-map, distinct-append}
use Rattle.theory_windows.proofs.Places.{distinct-map}

-- the number of the child at the coarse end
abbrev coarsest_child : ℕ → List Step → ℕ
coarsest_child n [] = n
coarsest_child n (d ∷ ds) = coarsest_child d.child ds

coarsest-last : (n : ℕ) (ds : List Step) (d : Step) → coarsest_child n (ds ++ d ∷ []) ≡ d.child
coarsest-last n [] d = refl
coarsest-last n (e ∷ ds) d = coarsest-last e.child ds d

-- numbers rise
number-after : {A : Type 0} (n : ℕ) (xs : List A) (c : ℕ × A) → IsAmong c (enumerate_from n xs) → n ≤ c.0
number-after n [] c i = elim i [ ]
number-after n (x ∷ xs) c (inl e) = let first : c.0 ≡ n = ap (λ d. d.0) e in omega arith
number-after n (x ∷ xs) c (inr i) = let rest = number-after (n + 1) xs c i in omega arith

module _ (P : Points) (W : PointLaws P) (r : Rule P.ring.carrier) where
  abbrev A : Type 0
  A = P.ring.carrier

  -- two tiles of one supertile with one address are one
  pub one_address : (k n : ℕ) (t u : Placed A) → IsAmong t (supertile P r k n) → IsAmong u (supertile P r k n) → t.address ≡ u.address → t ≡ u
  one_address k n t u i j e =
      let p = AllByRecursion-among (IsPlaced P W r n) t (supertile P r k n) i (supertile-placed P W r k n) in
      let q = AllByRecursion-among (IsPlaced P W r n) u (supertile P r k n) j (supertile-placed P W r k n) in
      let motion : t.motion ≡ u.motion = p.motion_is ∙ ap (λ (a : Address). placement P r a.digits) e ∙ sym q.motion_is in
      λ h. record { address = e h; motion = motion h }

  module _ (k n : ℕ) where
    abbrev of_child : ℕ × Child A → List (Placed A)
    of_child c = map (lifted P r k n c.0 c.1) (supertile P r c.1.kind n)

    lifted-apart : (i : ℕ) (c : Child A) (t u : Placed A) → IsAmong t (supertile P r c.kind n)
        → IsAmong u (supertile P r c.kind n) → lifted P r k n i c t ≡ lifted P r k n i c u → t ≡ u
    lifted-apart i c t u a b e = one_address c.kind n t u a b (λ h. record { kind = (e h).address.kind; digits = same h })
      where
        same : t.address.digits ≡ u.address.digits
        same = append_cancel_right t.address.digits u.address.digits (record { child = i; parent = k } ∷ [])
            (ap (λ (x : Placed A). x.address.digits) e)

    child-number : (c : ℕ × Child A) (x : Placed A) → IsAmong x (of_child c) → coarsest_child 0 x.address.digits ≡ c.0
    child-number c x i =
        let m = among-map (lifted P r k n c.0 c.1) x (supertile P r c.1.kind n) i in
        ap (λ (y : Placed A). coarsest_child 0 y.address.digits) m.2 ∙ coarsest-last 0 m.0.address.digits (record { child = c.0; parent = k })

    children-distinct : ((j : ℕ) → AreDistinct (supertile P r j n)) → (i : ℕ) (cs : List (Child A))
        → AreDistinct (flat_map of_child (enumerate_from i cs))
    children-distinct below i [] = tt
    children-distinct below i (c ∷ cs) =
        distinct-append (of_child (i, c)) (flat_map of_child (enumerate_from (i + 1) cs))
        (distinct-map (lifted P r k n i c) (supertile P r c.kind n) (lifted-apart i c) (below c.kind))
        (children-distinct below (i + 1) cs) (λ x a b.
        let p : InPiece of_child x (enumerate_from (i + 1) cs) = among-flat_map of_child x (enumerate_from (i + 1) cs) b in
        apart (sym (child-number (i, c) x a) ∙ child-number p.piece x p.inside) (number-after (i + 1) cs p.piece p.among))
      where
        apart : {j : ℕ} → i ≡ j → i + 1 ≤ j → ⊥
        apart e l = omega arith

  pub supertile-distinct : (k n : ℕ) → AreDistinct (supertile P r k n)
  supertile-distinct k zero = ((λ i. elim i [ ]), tt)
  supertile-distinct k (suc n) = children-distinct k n (λ j. supertile-distinct j n) 0 (children_of r k)
