-- An address that fits stands in the list of its supertile's tiles, beside the motion of Horner's scheme and no other.
use Rattle.std.proofs.Common.{◌≡◌, inl, ℕ, zero, suc, ◌<◌, List, [], ◌∷◌, ◌++◌, length, map, get_or, slice_get, Some, refl, sym, ap, ◌∙◌, subst, arith, zero-add, length-append}
use Rattle.std.specs.List.{enumerate_from}
use Rattle.std.proofs.lemmas.Option.{get_or_from_slice_get}
use Rattle.theory_substitution.specs.Points.{Points, PointLaws}
use Rattle.theory_substitution.specs.Motion.{followed, still}
use Rattle.theory_addresses.specs.Address.{Step, Address, top_from, top_kind, depth, child_kind, Climbs, Fits}
use Rattle.theory_substitution.specs.Rule.{Child, Kind, Rule, children_of, child_kinds}
use Rattle.theory_substitution.specs.Supertile.{Placed, StandsBeside, inflated, lifted, supertile}
use Rattle.theory_addresses.specs.Search.{IsAmong}
use Rattle.theory_substitution.specs.Placement.{placement}
use Rattle.theory_substitution.specs.RuleParts.{child_of}
use Rattle.theory_addresses.proofs.Lists.{AllByRecursion-among, IsAmong-map, IsAmong-flat_map, IsAmong-enumerated, get_or-enumerated, enumerated-at}
use Rattle.theory_substitution.proofs.Placement.{IsPlaced, placement-append, supertile-placed}

-- ---- the child that a number names
child_within : {A : Type 0} (xs : List (Child A)) (i kind : ℕ)
    → slice_get (map (λ c. c.kind) xs) i ≡ Some kind → (x : Child A) × (slice_get xs i ≡ Some x)
    × (x.kind ≡ kind)
child_within [] i kind e = absurd (cc e)
child_within (x ∷ xs) zero kind e = (x, refl, same)
  where
    same : x.kind ≡ kind
    same = cc
child_within (x ∷ xs) (suc i) kind e = child_within xs i kind e

child_found : {A : Type 0} (kinds : List (Kind A)) (parent i kind : ℕ)
    → child_kind (map (λ k. map (λ c. c.kind) k.children) kinds) parent i ≡ Some kind
    → (x : Child A) × (slice_get (get_or kinds parent (record { vertices = []; edges = []; children = [] })).children i ≡ Some x) × (x.kind ≡ kind)
child_found [] parent i kind e = absurd (cc e)
child_found (k ∷ ks) zero i kind e = child_within k.children i kind e
child_found (k ∷ ks) (suc parent) i kind e = child_found ks parent i kind e

-- where the children that have a number have kinds that exist, so has each child in the numbered list
pub numbered-exists : (P : Points) (r : Rule P.ring.carrier)
    → ((k c : ℕ) → k < length r.kinds → c < length (children_of r k)
    → (child_of P r k c).kind < length r.kinds)
    → (k : ℕ) → k < length r.kinds → (c : ℕ × Child P.ring.carrier) → IsAmong c (enumerate_from 0 (children_of r k)) → c.1.kind < length r.kinds
numbered-exists P r exist k hk c i =
    subst (λ (x : Child P.ring.carrier). x.kind < length r.kinds) (get_or-enumerated (record { kind = 0; motion = still P }) (children_of r k) c i)
    (exist k c.0 hk (enumerated-at (children_of r k) c i))

-- ---- digits, the coarsest apart
pub record Split (ds : List Step) : Type 0 where
  pub fine : List Step
  pub coarse : Step
  pub is : fine ++ coarse ∷ [] ≡ ds

split_coarse : (d : Step) (ds : List Step) → Split (d ∷ ds)
split_coarse d [] = record { fine = []; coarse = d; is = refl }
split_coarse d (e ∷ ds) = let s = split_coarse e ds in record { fine = d ∷ s.fine; coarse = s.coarse; is = ap (λ xs. d ∷ xs) s.is }

pub top_from-append : (kind : ℕ) (ds : List Step) (d : Step) → top_from kind (ds ++ d ∷ []) ≡ d.parent
top_from-append kind [] d = refl
top_from-append kind (e ∷ ds) d = top_from-append e.parent ds d

pub Climbs-append : (children : List (List ℕ)) (kind : ℕ) (ds : List Step) (d : Step) → Climbs children kind (ds ++ d ∷ [])
    → Climbs children kind ds × (child_kind children d.parent d.child ≡ Some (top_from kind ds))
Climbs-append children kind [] d h = (tt, h.0)
Climbs-append children kind (e ∷ ds) d h = let k = Climbs-append children e.parent ds d h.1 in ((h.0, k.0), k.1)

length-split : (n : ℕ) (ds : List Step) (s : Split ds) → length ds ≡ suc n → length s.fine ≡ n
length-split n ds s e = omega (arith, length-append s.fine (s.coarse ∷ []), ap length s.is)

module _ (P : Points) (W : PointLaws P) (r : Rule P.ring.carrier) where
  abbrev tile : ℕ → List Step → Placed P.ring.carrier
  tile kind ds = record { address = record { kind = kind; digits = ds }; motion = placement P r ds }

  abbrev IsListed : ℕ → ℕ → List Step → Type 0
  IsListed n kind ds = IsAmong (tile kind ds) (supertile P r (top_from kind ds) n)

  -- one coarse digit more
  listed-append : (n kind : ℕ) (ds : List Step) (d : Step) → length ds ≡ n → child_kind (child_kinds r) d.parent d.child ≡ Some (top_from kind ds)
      → IsListed n kind ds → IsListed (suc n) kind (ds ++ d ∷ [])
  listed-append n kind ds d e f h =
      subst (λ k. IsAmong (tile kind (ds ++ d ∷ [])) (supertile P r k (suc n))) (sym (top_from-append kind ds d))
      (subst (λ m. IsAmong (record { address = record { kind = kind; digits = ds ++ d ∷ [] }; motion = m }) (supertile P r d.parent (suc n))) moves
      (IsAmong-flat_map (λ c. map (lifted P r d.parent n c.0 c.1) (supertile P r c.1.kind n))
      (d.child, child_of P r d.parent d.child) _ (enumerate_from 0 (children_of r d.parent)) numbered
      (IsAmong-map (lifted P r d.parent n d.child (child_of P r d.parent d.child)) (tile kind ds)
      (supertile P r (child_of P r d.parent d.child).kind n)
      (subst (λ k. IsAmong (tile kind ds) (supertile P r k n)) (sym right_kind) h))))
    where
      found : (x : Child P.ring.carrier) × (slice_get (children_of r d.parent) d.child ≡ Some x) × (x.kind ≡ top_from kind ds)
      found = child_found r.kinds d.parent d.child (top_from kind ds) f

      is_child : child_of P r d.parent d.child ≡ found.0
      is_child = get_or_from_slice_get (children_of r d.parent) d.child found.0 _ found.1

      right_kind : (child_of P r d.parent d.child).kind ≡ top_from kind ds
      right_kind = ap (λ (c : Child P.ring.carrier). c.kind) is_child ∙ found.2

      numbered : IsAmong (d.child, child_of P r d.parent d.child) (enumerate_from 0 (children_of r d.parent))
      numbered = subst (λ i. IsAmong (i, child_of P r d.parent d.child) (enumerate_from 0 (children_of r d.parent))) (zero-add d.child)
          (IsAmong-enumerated 0 d.child (child_of P r d.parent d.child) (children_of r d.parent) (found.1 ∙ ap (λ c. Some c) (sym is_child)))

      moves : followed P (placement P r ds) (inflated P r n (child_of P r d.parent d.child).motion) ≡ placement P r (ds ++ d ∷ [])
      moves = ap (λ m. followed P (placement P r ds) (inflated P r m (child_of P r d.parent d.child).motion))
          (sym e) ∙ sym (placement-append P W r ds d)

  listed : (n kind : ℕ) (ds : List Step) → length ds ≡ n → Climbs (child_kinds r) kind ds → IsListed n kind ds
  listed zero kind [] e h = inl refl
  listed zero kind (d ∷ ds) e h = absurd (omega arith)
  listed (suc n) kind [] e h = absurd (omega arith)
  listed (suc n) kind (d ∷ ds) e h = from_split (split_coarse d ds) (listed n kind)
    where
      from_split : (s : Split (d ∷ ds)) → ((es : List Step) → length es ≡ n → Climbs (child_kinds r) kind es
          → IsListed n kind es) → IsListed (suc n) kind (d ∷ ds)
      from_split s shorter =
          let k = Climbs-append (child_kinds r) kind s.fine s.coarse (subst (Climbs (child_kinds r) kind) (sym s.is) h) in
          let f = length-split n (d ∷ ds) s e in
          subst (IsListed (suc n) kind) s.is (listed-append n kind s.fine s.coarse f k.1 (shorter s.fine f k.0))

  -- the motion that stands beside an address that fits is the one of Horner's scheme
  pub StandsBeside-placement : (a : Address) → Fits (child_kinds r) a → StandsBeside P r a (placement P r a.digits)
  StandsBeside-placement a h = record {
    among = listed (depth a) a.kind a.digits refl h.climbs;
    alone = λ g i. (AllByRecursion-among (IsPlaced P W r (depth a)) (record { address = a; motion = g })
        (supertile P r (top_kind a) (depth a)) i (supertile-placed P W r (top_kind a) (depth a))).motion_is;
  }
