-- Members that are kept once.
use Rattle.std.proofs.Common.{◌≡◌, inl, inr, List, [], ◌∷◌, ◌++◌, map, refl, sym, ap, subst, ◌∙◌}
use Rattle.std.specs.List.{flat_map}
use Rattle.std.proofs.lemmas.List.{map-append}
use Rattle.theory_addresses.specs.Search.{IsAmong}
use Rattle.theory_addresses.proofs.Lists.{IsAmong-append_left, IsAmong-append_right, IsAmong-map}
use Rattle.theory_addresses.proofs.Ranges.{among-append}
use Rattle.transducer_core.specs.Once.{HasNoneTwice, AreOnce}

pub HasNoneTwice-snoc : {A : Type 0} (y : A) (xs : List A) → HasNoneTwice xs → (IsAmong y xs → ⊥) → HasNoneTwice (xs ++ y ∷ [])
HasNoneTwice-snoc y [] h fresh = (λ i. i, tt)
HasNoneTwice-snoc y (x ∷ xs) h fresh = (
  λ i. elim (among-append x xs (y ∷ []) i) [ inl j ↦ h.0 j | inr j ↦ elim j [ inl e ↦ fresh (inl (sym e)) | inr k ↦ elim k [ ] ] ],
  HasNoneTwice-snoc y xs h.1 (λ i. fresh (inr i)),
)

pub once_none : {A : Type 0} → AreOnce {A = A} [] []
once_none = record { each = λ x i. elim i [ ]; no_other = λ x i. elim i [ ]; none_twice = tt }

pub once_known : {A : Type 0} (y : A) (all once : List A) → AreOnce all once → IsAmong y once → AreOnce (all ++ y ∷ []) once
once_known {A} y all once h known = record {
  each = λ x i. elim (among-append x all (y ∷ []) i) [
    | inl j ↦ h.each x j
    | inr j ↦ elim j [
      | inl e ↦ subst (λ (z : A). IsAmong z once) (sym e) known
      | inr k
          ↦ elim k [ ]
    ]
  ];
  no_other = λ x i. IsAmong-append_left x all (y ∷ []) (h.no_other x i);
  none_twice = h.none_twice;
}

pub once_fresh : {A : Type 0} (y : A) (all once : List A) → AreOnce all once → (IsAmong y once → ⊥) → AreOnce (all ++ y ∷ []) (once ++ y ∷ [])
once_fresh y all once h fresh = record {
  each = λ x i. elim (among-append x all (y ∷ []) i) [
    | inl j ↦ IsAmong-append_left x once (y ∷ []) (h.each x j)
    | inr j ↦ IsAmong-append_right x once
        (y ∷ []) j
  ];
  no_other = λ x i. elim (among-append x once (y ∷ []) i) [
    | inl j ↦ IsAmong-append_left x all (y ∷ []) (h.no_other x j)
    | inr j ↦ IsAmong-append_right x all
        (y ∷ []) j
  ];
  none_twice = HasNoneTwice-snoc y once h.none_twice fresh;
}

-- ---- members that are written otherwise
record Image {A B : Type 0} (f : A → B) (y : B) (xs : List A) : Type 0 where
  source : A
  among : IsAmong source xs
  is : f source ≡ y

among-map : {A B : Type 0} (f : A → B) (y : B) (xs : List A) → IsAmong y (map f xs) → Image f y xs
among-map f y [] i = elim i [ ]
among-map f y (x ∷ xs) i = elim i [
  | inl e ↦ record { source = x; among = inl refl; is = sym e }
  | inr j ↦ let r = among-map f y xs j in record { source = r.source; among = inr r.among; is = r.is }
]

none_twice-back : {A B : Type 0} (f : A → B) (g : B → A) (kept : List B)
    → ((y : B) → IsAmong y kept → f (g y) ≡ y) → HasNoneTwice kept → HasNoneTwice (map g kept)
none_twice-back f g [] back h = tt
none_twice-back {A} {B} f g (y ∷ ys) back h = (
  λ i.
      let r = among-map g (g y) ys i in
      let same : y ≡ r.source = sym (back y (inl refl)) ∙ ap f (sym r.is) ∙ back r.source (inr r.among) in
      h.0 (subst (λ (z : B). IsAmong z ys) (sym same) r.among),
  none_twice-back f g ys (λ z j. back z (inr j)) h.1,
)

pub once_back : {A B : Type 0} (f : A → B) (g : B → A) (all : List A) (kept : List B)
    → ((x : A) → IsAmong x all → g (f x) ≡ x) → AreOnce (map f all) kept → AreOnce all (map g kept)
once_back {A} {B} f g all kept back h = record {
  each = λ x i. subst (λ (z : A). IsAmong z (map g kept)) (back x i) (IsAmong-map g (f x) kept (h.each (f x) (IsAmong-map f x all i)));
  no_other = λ x i.
      let y = among-map g x kept i in
      let z = among-map f y.source all (h.no_other y.source y.among) in
      let same : z.source ≡ x = sym (back z.source z.among) ∙ ap g z.is ∙ y.is in
      subst (λ (w : A). IsAmong w all) same z.among;
  none_twice = none_twice-back f g kept (λ y i. let z = among-map f y all (h.no_other y i) in sym
      (ap (λ w. f (g w)) z.is) ∙ ap f (back z.source z.among) ∙ z.is) h.none_twice;
}

pub flat_map-image : {K A B : Type 0} (f : A → B) (blocks : K → List A) (ks : List K)
    → flat_map (λ (row : List B). row) (map (λ k. map f (blocks k)) ks) ≡ map f (flat_map blocks ks)
flat_map-image f blocks [] = refl
flat_map-image f blocks (k ∷ ks) = ap (λ l. map f (blocks k) ++ l) (flat_map-image f blocks ks) ∙ sym (map-append f (blocks k) (flat_map blocks ks))
