-- How a polygon stands to a window, by the sides of which all its vertices are inside and of which one is.
use Rattle.std.proofs.Common.{◌≡◌, List, [], ◌∷◌, Bool, true, false, ◌&&◌, ◌||◌, refl, sym, ◌∙◌, inl, inr, ◌⊎◌}
use Rattle.std.proofs.lemmas.Bool.{and_parts}
use Rattle.std.specs.List.{AllByRecursion, list_all, list_any}
use Rattle.theory_addresses.proofs.Lists.{AllByRecursion-map}
use Rattle.cyclo_points.specs.declared.order.Order.{Order}
use Rattle.cyclo_points.specs.declared.point.Point.{Point}
use Rattle.plane_geom.specs.declared.window.Window.{Window}
use Rattle.plane_geom.specs.Spots.{reals_of, spot_of, spots_of}
use Rattle.theory_descents.specs.Insets.{IsInBox, IsBeyondBox, IsWithinBox}
use Rattle.window_descent.specs.declared.sides.Sides.{Sides}
use Rattle.window_descent.specs.declared.standing.Standing.{Standing}
use Rattle.window_descent.specs.declared.standing.Standing.TheVariants.{Beyond, Within, Across}
use Rattle.window_descent.specs.Sides.{AllSides, SomeSides}
use Rattle.window_descent.specs.Standing.{window_box, IsStanding}

none-of : {A : Type 0} (t : A → Bool) (xs : List A) → list_any t xs ≡ false → AllByRecursion (λ x. t x ≡ false) xs
none-of t [] h = tt
none-of {A} t (x ∷ xs) h = at_test (t x) refl h (none-of t xs)
  where
    at_test : (b : Bool) → t x ≡ b → (b || list_any t xs) ≡ false → (list_any t xs ≡ false → AllByRecursion (λ x. t x ≡ false) xs)
        → AllByRecursion (λ x. t x ≡ false) (x ∷ xs)
    at_test true e k rest = absurd (cc k)
    at_test false e k rest = (e, rest k)

all-four : {A : Type 0} (s t u v : A → Bool) (Q : A → Type 0) → ((x : A) → s x ≡ true → t x ≡ true → u x ≡ true → v x ≡ true → Q x) → (xs : List A)
    → list_all s xs ≡ true → list_all t xs ≡ true → list_all u xs ≡ true → list_all v xs ≡ true → AllByRecursion Q xs
all-four s t u v Q f [] a b c d = tt
all-four s t u v Q f (x ∷ xs) a b c d =
    let k : (s x ≡ true) × (list_all s xs ≡ true) = and_parts _ _ a in
    let l : (t x ≡ true) × (list_all t xs ≡ true) = and_parts _ _ b in
    let m : (u x ≡ true) × (list_all u xs ≡ true) = and_parts _ _ c in
    let n : (v x ≡ true) × (list_all v xs ≡ true) = and_parts _ _ d in
    (f x k.0 l.0 m.0 n.0, all-four s t u v Q f xs k.1 l.1 m.1 n.1)

not_both : (a b : Bool) → (a && b) ≡ false → (a ≡ false) ⊎ (b ≡ false)
not_both true b h = inr h
not_both false b h = inl refl

module _ (o : Order) (w : Window) (corners : List Point) (every some : Sides) (all : AllSides o w corners every)
    (any : SomeSides o w corners some) where
  beyond : (some.right && some.left && (some.upper && some.lower)) ≡ false → IsBeyondBox (reals_of o) (window_box o w) (spots_of o corners)
  beyond h = at_case (not_both (some.right && some.left) (some.upper && some.lower) h)
    where
      at_x : (some.right ≡ false) ⊎ (some.left ≡ false) → IsBeyondBox (reals_of o) (window_box o w) (spots_of o corners)
      at_x (inl e) = inl (inl (AllByRecursion-map _ (spot_of o) corners (none-of _ corners (sym any.right ∙ e))))
      at_x (inr e) = inl (inr (AllByRecursion-map _ (spot_of o) corners (none-of _ corners (sym any.left ∙ e))))

      at_y : (some.upper ≡ false) ⊎ (some.lower ≡ false) → IsBeyondBox (reals_of o) (window_box o w) (spots_of o corners)
      at_y (inl e) = inr (inl (AllByRecursion-map _ (spot_of o) corners (none-of _ corners (sym any.upper ∙ e))))
      at_y (inr e) = inr (inr (AllByRecursion-map _ (spot_of o) corners (none-of _ corners (sym any.lower ∙ e))))

      at_case : ((some.right && some.left) ≡ false) ⊎ ((some.upper && some.lower) ≡ false)
          → IsBeyondBox (reals_of o) (window_box o w) (spots_of o corners)
      at_case (inl e) = at_x (not_both some.right some.left e)
      at_case (inr e) = at_y (not_both some.upper some.lower e)

  within : (every.right && every.left && (every.upper && every.lower)) ≡ true → IsWithinBox (reals_of o) (window_box o w) (spots_of o corners)
  within h =
      let k = and_parts (every.right && every.left) (every.upper && every.lower) h in
      let x = and_parts every.right every.left k.0 in
      let y = and_parts every.upper every.lower k.1 in
      AllByRecursion-map _ (spot_of o) corners (all-four _ _ _ _ (λ p. IsInBox (reals_of o) (window_box o w) (spot_of o p))
      (λ p a b c d. record { right = a; left = b; upper = c; lower = d })
      corners (sym all.right ∙ x.0) (sym all.left ∙ x.1) (sym all.upper ∙ y.0) (sym all.lower ∙ y.1))

  pub is-standing : (r : Standing) → (r ≡ Beyond → (some.right && some.left && (some.upper && some.lower)) ≡ false)
      → (r ≡ Within → (every.right && every.left && (every.upper && every.lower)) ≡ true) → IsStanding o w corners r
  is-standing Beyond f g = beyond (f refl)
  is-standing Within f g = within (g refl)
  is-standing Across f g = tt
