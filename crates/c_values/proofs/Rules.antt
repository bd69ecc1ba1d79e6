-- Lists at the front of arrays.
use Rattle.std.proofs.Common.{◌≡◌, ℕ, suc, ◌+◌, ◌-◌, ◌<◌, ◌≤◌, List, [], ◌∷◌, ◌++◌, map, take, drop, length, get_or, slice_set, replicate, sym, ap, ap₂, ◌∙◌, subst, arith}
use Rattle.std.proofs.lemmas.List.{append_assoc, map-append, map-id, length-map, length-take-le, set-append_right, take-append-drop, take_all, take_more, drop-replicate}
use Rattle.std.proofs.lemmas.Simd.{map-map}
use Rattle.cyclo_points.specs.declared.point.Point.{Point}
use Rattle.c_values.specs.declared.plain_kind.PlainKind.{PlainKind}
use Rattle.c_values.specs.declared.plain_outline.PlainOutline.{PlainOutline}
use Rattle.c_values.specs.declared.plain_point.PlainPoint.{PlainPoint}
use Rattle.c_values.specs.Outlines.{HoldsOutline, point_of}
use Rattle.c_values.specs.Rules.{padded, point_as, zero_point, outline_as, no_kind}

-- blanks alone
pub padded_none : {A : Type 0} (room : ℕ) (blank : A) → replicate room blank ≡ padded room blank []
unfolding padded
padded_none room blank = let same : room ≡ room - 0 = omega arith in ap (λ n. replicate n blank) same

-- a list that is copied there, over blanks
pub padded_copied : {A : Type 0} (room : ℕ) (blank : A) (xs ys zs : List A) → ys ≡ xs → zs ≡ replicate room blank
    → ys ++ drop (length xs) zs ≡ padded room blank xs
unfolding padded
padded_copied room blank xs ys zs same blanks =
    ap₂ (λ u v. u ++ v) same (ap (drop (length xs)) blanks ∙ drop-replicate (length xs) room blank)

-- the first of the blanks is replaced
first_blank : {A : Type 0} (n : ℕ) (blank y : A) → slice_set (replicate (n + 1) blank) 0 y ≡ y ∷ replicate n blank
first_blank n blank y = let more : n + 1 ≡ suc n = omega arith in ap (λ m. slice_set (replicate m blank) 0 y) more

-- one item more of a list
pub padded_more : {A B : Type 0} (f : A → B) (room : ℕ) (blank : B) (xs : List A) (i : ℕ) (d : A) (y : B) → i < length xs → length xs ≤ room
    → y ≡ f (get_or xs i d)
    → slice_set (padded room blank (map f (take i xs))) i y ≡ padded room blank (map f (take (i + 1) xs))
unfolding padded
padded_more {A} {B} f room blank xs i d y inside fits is =
    let front = map f (take i xs) in
    let long : length front ≡ i = length-map (take i xs) f ∙ length-take-le i xs (omega arith) in
    let longer : map f (take (i + 1) xs) ≡ front ++ y ∷ [] =
    ap (map f) (take_more xs i d inside) ∙ map-append f (take i xs) (get_or xs i d ∷ []) ∙ ap (λ z. front ++ z ∷ []) (sym is) in
    let left : room - length front ≡ (room - (i + 1)) + 1 = omega (arith, long) in
    let none : i - i ≡ 0 = omega arith in
    let long_more : length (map f (take (i + 1) xs)) ≡ i + 1 = length-map (take (i + 1) xs) f ∙ length-take-le (i + 1) xs (omega arith) in
    set-append_right front (replicate (room - length front) blank) i i y long (omega arith)
    ∙ ap (λ (n : ℕ). front ++ slice_set (replicate (room - length front) blank) n y) none
    ∙ ap (λ (n : ℕ). front ++ slice_set (replicate n blank) 0 y) left
    ∙ ap (λ (zs : List B). front ++ zs) (first_blank (room - (i + 1)) blank y)
    ∙ sym (append_assoc front (y ∷ []) (replicate (room - (i + 1)) blank))
    ∙ ap (λ (n : ℕ). (front ++ y ∷ []) ++ replicate (room - n) blank) (sym long_more)
    ∙ ap (λ (zs : List B). zs ++ replicate (room - length (map f (take (i + 1) xs))) blank) (sym longer)

-- all of them
pub padded_all : {A B C : Type 0} (f : A → B) (g : B → C) (room : ℕ) (blank : C) (xs : List A) (n : ℕ) → length xs ≤ n
    → padded room blank (map (λ x. g (f x)) (take n xs)) ≡ padded room blank (map g (map f xs))
padded_all f g room blank xs n long = ap (padded room blank) (ap (map (λ x. g (f x))) (take_all n xs long) ∙ sym (map-map g f xs))

-- the arrays of a blank kind
pub children_room : (k : PlainKind) → k ≡ no_kind → length k.children ≡ 16
unfolding padded
children_room k blank = ap (λ (x : PlainKind). length x.children) blank

pub edges_room : (k : PlainKind) → k ≡ no_kind → length k.edges ≡ 12
unfolding padded
edges_room k blank = ap (λ (x : PlainKind). length x.edges) blank

-- points that are put down over zeros
pub outline_over_zeros : (points : List Point) (old new : PlainOutline) → old ≡ outline_as [] → HoldsOutline points old new → new ≡ outline_as points
unfolding padded
outline_over_zeros points old new zeros holds =
    let n = length points in
    let count : new.count ≡ n = holds.count in
    let front : take n new.corners ≡ map point_as points =
    sym (map-map point_as point_of (take n new.corners) ∙ map-id (take n new.corners))
    ∙ ap (map point_as) (subst (λ k. map point_of (take k new.corners) ≡ points) count holds.corners) in
    let behind : drop n new.corners ≡ replicate (12 - n) zero_point =
    subst (λ k. drop k new.corners ≡ drop k old.corners) count holds.behind
    ∙ ap (λ (o : PlainOutline). drop n o.corners) zeros ∙ drop-replicate n 12 zero_point in
    let corners : new.corners ≡ map point_as points ++ replicate (12 - length (map point_as points)) zero_point =
    sym (take-append-drop n new.corners)
    ∙ ap₂ (λ u v. u ++ v) front (behind ∙ ap (λ k. replicate (12 - k) zero_point) (sym (length-map points point_as))) in
    ap₂ (λ (cs : List PlainPoint) (k : ℕ). (let o : PlainOutline = record { corners = cs; count = k } in o)) corners count
