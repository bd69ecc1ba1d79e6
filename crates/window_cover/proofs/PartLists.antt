-- The tiles of the parts of a part, one part after another.
use Rattle.std.proofs.Common.{◌≡◌, ℕ, zero, suc, ◌+◌, ◌<◌, ◌≤◌, Bool, true, false, List, [], ◌∷◌, ◌++◌, map, flat_map, drop, length, get_or, set}
use Rattle.std.proofs.Common.{refl, sym, ap, ap₂, ◌∙◌, subst, arith, append_assoc}
use Rattle.std.specs.List.{enumerate_from}
use Rattle.std.proofs.lemmas.List.{append-nil, map-append}
use Rattle.std.proofs.lemmas.Simd.{map-map}
use Rattle.theory_addresses.specs.Address.{Step}
use Rattle.theory_addresses.proofs.Lists.{map-ext}
use Rattle.theory_ring.specs.Ring.{power}
use Rattle.theory_plane.specs.Box.{OpenBox}
use Rattle.theory_substitution.specs.Points.{Points}
use Rattle.theory_substitution.specs.Motion.{Motion}
use Rattle.theory_substitution.specs.Rule.{Child, Rule, children_of}
use Rattle.theory_substitution.specs.Supertile.{Placed}
use Rattle.theory_dissection.specs.Accepted.{AcceptedRule}
use Rattle.theory_frames.specs.Descent.{of_whole}
use Rattle.theory_frames.specs.Part.{child_motion}
use Rattle.tile_place.proofs.Ahead.{there, drop-next}
use Rattle.theory_descents.specs.Parts.{digit}
use Rattle.theory_descents.specs.Laws.{PartsLaw}
use Rattle.window_cover.specs.Descending.{found_below}

-- ---- digits behind
pub behind-twice : {A : Type 0} (es ds : List Step) (ts : List (Placed A)) → map (of_whole ds) (map (of_whole es) ts) ≡ map (of_whole (es ++ ds)) ts
behind-twice {A} es ds ts =
    map-map (of_whole ds) (of_whole es) ts
    ∙ map-ext _ _ ts (λ
    (t : Placed A). λ i. record { address = record { kind = t.address.kind; digits = append_assoc t.address.digits es ds i }; motion = t.motion })

pub behind-nothing : {A : Type 0} (ts : List (Placed A)) → map (of_whole []) ts ≡ ts
behind-nothing [] = refl
behind-nothing {A} (t ∷ ts) =
    ap₂ (λ (u : Placed A) (us : List (Placed A)). u ∷ us)
    (λ i. record { address = record { kind = t.address.kind; digits = append-nil t.address.digits i }; motion = t.motion }) (behind-nothing ts)

-- ---- digits of a path
-- a digit put in front of those from a place up
pub drop-put : {A : Type 0} (xs : List A) (n : ℕ) (x : A) → n < length xs → drop n (set xs n x) ≡ x ∷ drop (n + 1) xs
drop-put [] n x h = absurd (omega arith)
drop-put (y ∷ ys) zero x h = refl
drop-put {A} (y ∷ ys) (suc n) x h = drop-put ys n x (omega arith) ∙ ap (λ m. x ∷ drop m (y ∷ ys)) counted
  where
    counted : suc (n + 1) ≡ suc n + 1
    counted = omega arith

one_more : {A : Type 0} (xs : List A) (n : ℕ) → drop (n + 1) xs ≡ drop 1 (drop n xs)
one_more [] zero = refl
one_more {A} [] (suc n) = nothing (suc n + 1)
  where
    nothing : (m : ℕ) → drop {A = A} m [] ≡ []
    nothing zero = refl
    nothing (suc m) = refl
one_more (x ∷ xs) zero = refl
one_more (x ∷ xs) (suc n) = ap (λ m. drop m (x ∷ xs)) counted ∙ one_more xs n
  where
    counted : suc n + 1 ≡ suc (n + 1)
    counted = omega arith

pub drop-past : {A : Type 0} (xs ys : List A) (n : ℕ) → drop n xs ≡ drop n ys → drop (n + 1) xs ≡ drop (n + 1) ys
drop-past xs ys n e = one_more xs n ∙ ap (drop 1) e ∙ sym (one_more ys n)

pub drop-put_past : {A : Type 0} (xs : List A) (n : ℕ) (x : A) → n < length xs → drop (n + 1) (set xs n x) ≡ drop (n + 1) xs
drop-put_past xs n x h = one_more (set xs n x) n ∙ ap (drop 1) (drop-put xs n x h)

-- ---- parts
module _ (P : Points) (r : Rule P.ring.carrier) (box : OpenBox P.real.ops.carrier) (all : Bool) (k n : ℕ) (m : Motion P.ring.carrier) where
  abbrev A : Type 0
  A = P.ring.carrier

  abbrev pub of_child : ℕ × Child A → List (Placed A)
  of_child c = map (of_whole (digit c.0 k)) (found_below P r box all c.1.kind n (child_motion P r (power P.ring r.factor n) m c.1))

  -- those of the children from number i on
  abbrev pub from_child : ℕ → List (Placed A)
  from_child i = flat_map of_child (enumerate_from i (drop i (children_of r k)))

  pub from-first : PartsLaw P → (T : AcceptedRule P) → T.rule ≡ r → found_below P r box all k (suc n) m ≡ from_child 0
  from-first law T e = by_all all ∙ ap (λ cs. flat_map of_child (enumerate_from 0 cs)) (sym (drop-none (children_of r k)))
    where
      drop-none : {B : Type 0} (xs : List B) → drop 0 xs ≡ xs
      drop-none [] = refl
      drop-none (x ∷ xs) = refl

      by_all : (a : Bool) → found_below P r box a k (suc n) m
          ≡ flat_map (λ (c : ℕ × Child A). map (of_whole (digit c.0 k))
          (found_below P r box a c.1.kind n (child_motion P r (power P.ring r.factor n) m c.1))) (enumerate_from 0 (children_of r k))
      by_all true = refl
      by_all false = subst (λ (q : Rule A). found_below P q box false k (suc n) m
          ≡ flat_map (λ (c : ℕ × Child A). map (of_whole (digit c.0 k))
          (found_below P q box false c.1.kind n (child_motion P q (power P.ring q.factor n) m c.1))) (enumerate_from 0 (children_of q k))) e
          (law T box k n m)

  pub from-next : (i : ℕ) (d : Child A) → i < length (children_of r k) → from_child i ≡ of_child (i, get_or (children_of r k) i d)
      ++ from_child (i + 1)
  from-next i d h = ap (λ cs. flat_map of_child (enumerate_from i cs))
      (drop-next (children_of r k) i (get_or (children_of r k) i d) h (there (children_of r k) i d h))

  pub from-last : (i : ℕ) → length (children_of r k) ≤ i → from_child i ≡ []
  from-last i h = ap (λ cs. flat_map of_child (enumerate_from i cs)) (none (children_of r k) i h)
    where
      none : {B : Type 0} (xs : List B) (i : ℕ) → length xs ≤ i → drop i xs ≡ []
      none [] zero h = refl
      none [] (suc i) h = refl
      none (x ∷ xs) zero h = absurd (omega arith)
      none (x ∷ xs) (suc i) h = none xs i (omega arith)

  -- one child more is found
  pub one_child : (i : ℕ) (d : Child A) → i < length (children_of r k) → (ds : List Step) (before now : List (Placed A))
      → now ≡ before ++ map (of_whole (record { child = i; parent = k } ∷ ds)) (found_below P r box all (get_or (children_of r k) i d).kind n
      (child_motion P r (power P.ring r.factor n) m (get_or (children_of r k) i d)))
      → now ++ map (of_whole ds) (from_child (i + 1)) ≡ before ++ map (of_whole ds) (from_child i)
  one_child i d h ds before now e =
      ap (λ ts. ts ++ map (of_whole ds) (from_child (i + 1))) (e ∙ ap (λ ts. before ++ ts) (sym (behind-twice (digit i k) ds _)))
      ∙ append_assoc before _ _
      ∙ ap (λ ts. before ++ ts) (sym (map-append (of_whole ds) (of_child (i, get_or (children_of r k) i d)) (from_child (i + 1)))
      ∙ ap (map (of_whole ds)) (sym (from-next i d h)))
