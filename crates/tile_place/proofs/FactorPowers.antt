-- Powers of the inflation factor, one after another.
use Rattle.std.proofs.Common.{◌≡◌, ℕ, zero, suc, ◌+◌, ◌-◌, ◌<◌, ◌≤◌, List, [], ◌∷◌, ◌++◌, length, map, get_or, refl, sym, ap, ◌∙◌, subst, arith, add-one, append_assoc, pos, false, add-zero, zero-add}
use Rattle.std.proofs.lemmas.List.{map-append}
use Rattle.theory_ring.specs.Ring.{power}
use Rattle.theory_substitution.specs.Points.{Points}
use Rattle.theory_frames.specs.Looked.{powers_from}
use Rattle.cyclo_points.specs.declared.order.Order.{Order}
use Rattle.cyclo_points.specs.declared.order.Order.TheVariants.{Four, Six, Eight, Ten}
use Rattle.cyclo_points.specs.declared.point.Point.{Point}
use Rattle.cyclo_points.specs.Order.{NumberOf, points_of, is_refused}
use Rattle.std.proofs.lemmas.Int.{ints}
use Rattle.std.proofs.Math.ListN.{get_or-map}
use Rattle.cyclo_points.specs.Point.{point_in, IsOf, Within, IsWithin}
use Rattle.rule_model.specs.declared.rule.Rule.{Rule}
use Rattle.rule_model.specs.Views.{rule_of}

-- the next power stands in front
pub powers-next : (P : Points) (l : P.ring.carrier) (i depth : ℕ) → i < depth
    → powers_from P l (i + 1) (depth - i) ≡ power P.ring l (i + 1)
    ∷ powers_from P l ((i + 1) + 1) (depth - (i + 1))
powers-next P l i depth h = ap (powers_from P l (i + 1)) count
  where
    count : depth - i ≡ suc (depth - (i + 1))
    count = omega arith

pub powers-length : (P : Points) (l : P.ring.carrier) (i n : ℕ) → length (powers_from P l i n) ≡ n
powers-length P l i zero = refl
powers-length P l i (suc n) = ap suc (powers-length P l (i + 1) n)

pub one-is : (o : Order) → point_in o (record { c = pos 1 ∷ pos 0 ∷ pos 0 ∷ pos 0 ∷ [] }) ≡ (points_of o).ring.int (pos 1)
one-is Four = refl
one-is Six = refl
one-is Eight = refl
one-is Ten = refl

pub one-in_order : (o : Order) → IsOf o (record { c = pos 1 ∷ pos 0 ∷ pos 0 ∷ pos 0 ∷ [] })
one-in_order Four = (refl, refl)
one-in_order Six = (refl, refl)
one-in_order Eight = tt
one-in_order Ten = tt

-- what is said of the powers of the factor found is said of those of the rule's
pub of_factor : (o : Order) (r m : Rule) (factor : Point) (n : ℕ)
    (T : (o : Order) → List (NumberOf o) → Type 0) → o ≡ r.order → r ≡ m → factor ≡ r.factor
    → T o (powers_from (points_of o) (point_in o factor) 0 n) → T m.order (powers_from (points_of m.order) (rule_of m).factor 0 n)
of_factor o r m factor n T eo er ef t =
    subst (λ (m : Rule). T m.order (powers_from (points_of m.order) (rule_of m).factor 0 n)) er
    (subst (λ f. T r.order (powers_from (points_of r.order) (point_in r.order f) 0 n)) ef
    (subst (λ q. T q (powers_from (points_of q) (point_in q factor) 0 n)) eo t))

-- λ^0 is 1, and is never refused
pub powers-start : (P : Points) (l : P.ring.carrier) (depth : ℕ)
    → powers_from P l 0 (depth + 1) ≡ P.ring.int (pos 1) ∷ powers_from P l (0 + 1) (depth - 0)
powers-start P l depth = ap (powers_from P l 0) (add-one depth) ∙ ap (λ n. P.ring.int (pos 1) ∷ powers_from P l (0 + 1) n) same
  where
    same : depth ≡ depth - 0
    same = omega arith

pub one-unrefused : (o : Order) → is_refused o ((points_of o).ring.int (pos 1)) ≡ false
one-unrefused Four = refl
one-unrefused Six = refl
one-unrefused Eight = refl
one-unrefused Ten = refl

-- one power more is behind
pub seen-next : (o : Order) (f : NumberOf o) (items : List Point) (p : Point) (i depth : ℕ) → i < depth
    → point_in o p ≡ power (points_of o).ring f (i + 1)
    → map (point_in o) (items ++ p ∷ []) ++ powers_from (points_of o) f ((i + 1) + 1) (depth - (i + 1)) ≡ map
    (point_in o) items ++ powers_from (points_of o) f (i + 1) (depth - i)
seen-next o f items p i depth h e =
    ap (λ xs. xs ++ powers_from (points_of o) f ((i + 1) + 1) (depth - (i + 1))) (map-append (point_in o) items (p ∷ []))
    ∙ append_assoc (map (point_in o) items) (point_in o p ∷ []) (powers_from (points_of o) f ((i + 1) + 1) (depth - (i + 1)))
    ∙ ap (λ z. map (point_in o) items ++ z ∷ powers_from (points_of o) f ((i + 1) + 1) (depth - (i + 1))) e
    ∙ ap (λ xs. map (point_in o) items ++ xs) (sym (powers-next (points_of o) f i depth h))

pub next-power : (o : Order) (f x y : NumberOf o) (i : ℕ) → ((a b : NumberOf o) → (points_of o).ring.mul a b ≡ (points_of o).ring.mul b a)
    → y ≡ (points_of o).ring.mul x f → x ≡ power (points_of o).ring f i → y ≡ power (points_of o).ring f (i + 1)
next-power o f x y i comm e h = e ∙ comm x f ∙ ap ((points_of o).ring.mul f) h ∙ ap (power (points_of o).ring f) (sym (add-one i))

abbrev pub one : Point
one = record { c = pos 1 ∷ pos 0 ∷ pos 0 ∷ pos 0 ∷ [] }

Within-pos : (k n : ℕ) → k ≤ n → Within n (pos k)
Within-pos k n h = record { low = omega (arith, ints); high = omega (arith, ints) }

pub one-within : (n : ℕ) → 1 ≤ n → IsWithin n one
one-within n h = record {
  at_0 = Within-pos 1 n h;
  at_1 = Within-pos 0 n (omega arith);
  at_2 = Within-pos 0 n (omega arith);
  at_3 = Within-pos 0 n (omega arith);
}

-- the power of a number in the list
pub power-at : (P : Points) (l : P.ring.carrier) (i n j : ℕ) (d : P.ring.carrier) → j < n → get_or (powers_from P l i n) j d ≡ power P.ring l (i + j)
power-at P l i zero j d h = absurd (omega arith)
power-at P l i (suc n) zero d h = ap (power P.ring l) (sym (add-zero i))
power-at P l i (suc n) (suc j) d h = power-at P l (i + 1) n j d (omega arith) ∙ ap (power P.ring l) next
  where
    next : (i + 1) + j ≡ i + suc j
    next = omega arith

-- the same, of the program's list
pub power-read : (o : Order) (l : NumberOf o) (n : ℕ) (ps : List Point) (j : ℕ) (d : Point)
    → map (point_in o) ps ≡ powers_from (points_of o) l 0 n → j < n
    → point_in o (get_or ps j d) ≡ power (points_of o).ring l j
power-read o l n ps j d e h =
    sym (get_or-map (point_in o) ps j d) ∙ ap (λ xs. get_or xs j (point_in o d)) e
    ∙ power-at (points_of o) l 0 n j (point_in o d) h ∙ ap (power (points_of o).ring l) (zero-add j)
