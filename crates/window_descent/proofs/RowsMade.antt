-- Rows of children: a child of a row as a part of any supertile of that turn; a row made behind others.
use Rattle.std.proofs.Common.{◌≡◌, ℕ, ◌+◌, ◌*◌, ◌<◌, ◌≤◌, List, [], ◌∷◌, ◌++◌, length, get_or, set, None, Some, refl, sym, ap, ap₂, ◌∙◌, subst, arith}
use Rattle.std.proofs.Common.{pos}
use Rattle.std.proofs.Common.{IfSome, ◌⊎◌, inl, inr, zero, suc}
use Rattle.std.specs.declared.option.Option.{Option}
use Rattle.std.proofs.lemmas.List.{get_or-set_same, get_or-set_other, length-append, get_or_append_left, get_or_push}
use Rattle.theory_ring.specs.Ring.{power}
use Rattle.theory_substitution.specs.Motion.{Motion as TheMotion}
use Rattle.theory_substitution.specs.Points.{Points}
use Rattle.theory_substitution.specs.Rule.{Child}
use Rattle.cyclo_points.specs.declared.motion.Motion.{Motion}
use Rattle.cyclo_points.specs.declared.order.Order.{Order}
use Rattle.cyclo_points.specs.declared.order.Order.TheVariants.{Four, Six, Eight, Ten}
use Rattle.cyclo_points.specs.declared.point.Point.{Point}
use Rattle.cyclo_points.specs.Order.{NumberOf, points_of}
use Rattle.cyclo_points.specs.Point.{point_in, IsOf}
use Rattle.cyclo_points.proofs.OrderLaws.{laws_of}
use Rattle.rule_model.specs.declared.rule.Rule.{Rule}
use Rattle.rule_model.specs.Tiling.{tiling_of, its_child}
use Rattle.rule_model.specs.Usable.{origin}
use Rattle.rule_model.specs.Views.{rule_of}
use Rattle.window_descent.specs.declared.part.Part.{Part}
use Rattle.window_descent.specs.Parts.{IsPartAt}
use Rattle.window_descent.specs.Rows.{row_place, only_turned, no_part, IsChildRow, IsLonger, IsShifted}

-- the origin is 0
pub origin-zero : (o : Order) → point_in o origin ≡ (points_of o).ring.int (pos 0)
origin-zero Four = refl
origin-zero Six = refl
origin-zero Eight = refl
origin-zero Ten = refl

-- ---- a child of a row, moved
module _ (m : Rule) (kind i : ℕ) (scale : Point) (at : Motion) (p q : Part) (is : IsPartAt m kind i scale (only_turned at.turn) p)
    (at_in_order : IsOf m.order at.shift) (q-is : IsShifted p at.shift q) where
  abbrev P : Points
  P = points_of m.order

  abbrev c : Child (NumberOf m.order)
  c = its_child (tiling_of m) kind i

  -- the child's shift, scaled and turned
  abbrev far : NumberOf m.order
  far = P.ring.mul (power P.ring P.zeta at.turn) (P.ring.mul (point_in m.order scale) c.motion.shift)

  only-turned : point_in m.order p.motion.shift ≡ far
  only-turned = ap (λ (g : TheMotion (NumberOf m.order)). g.shift) is.its_motion ∙ ap (P.ring.add far) (origin-zero m.order)
      ∙ (laws_of m.order).of_ring.add_zero far

  pub moved-part : IsPartAt m kind i scale at q
  moved-part = record {
    its_kind = q-is.same_kind ∙ is.its_kind;
    its_motion = ap₂ (λ (t : ℕ) (z : NumberOf m.order). record { turn = t; shift = z })
        (q-is.same_turn ∙ ap (λ (g : TheMotion (NumberOf m.order)). g.turn) is.its_motion)
        (q-is.sum m.order ∙ ap (λ z. P.ring.add z (point_in m.order at.shift)) only-turned);
    is_part = record {
      kind_exists = subst (λ k. k < length (rule_of m).kinds) (sym q-is.same_kind) is.is_part.kind_exists;
      turn_below = subst (λ t. t < P.order) (sym q-is.same_turn) is.is_part.turn_below;
      within = q-is.within;
      in_order = q-is.in_order m.order is.is_part.in_order at_in_order;
    };
  }

-- ---- parts behind those of a list
pub row-longer : (m : Rule) (scale : Point) (kind turn first : ℕ) (xs ys : List Part) → IsLonger xs ys → IsChildRow m scale kind turn xs first
    → IsChildRow m scale kind turn ys first
row-longer m scale kind turn first xs ys l is = record {
  fits = let f = is.fits in let g = l.longer in omega (arith, f, g);
  each = λ i h. subst (IsPartAt m kind i scale (only_turned turn)) (sym (l.same (first + i) (let f = is.fits in omega (arith, f, h)))) (is.each i h);
}

-- ---- rows in their places
abbrev pub no_point : Point
no_point = record { c = [] }

abbrev pub AreMade : (m : Rule) (powers : List Point) (firsts : List (Option ℕ)) (parts : List Part) → Type 0
AreMade m powers firsts parts =
    (level kind turn : ℕ) → level < length powers → kind < length (rule_of m).kinds → turn < (points_of m.order).order
    → IfSome (get_or firsts (row_place level kind turn) None) (IsChildRow m (get_or powers level no_point) kind turn parts)

pub made-longer : (m : Rule) (powers : List Point) (firsts : List (Option ℕ)) (xs ys : List Part) → IsLonger xs ys → AreMade m powers firsts xs
    → AreMade m powers firsts ys
made-longer m powers firsts xs ys l made level kind turn f g h = at_first (get_or firsts (row_place level kind turn) None)
    (made level kind turn f g h)
  where
    at_first : (x : Option ℕ) → IfSome x (IsChildRow m (get_or powers level no_point) kind turn xs)
        → IfSome x (IsChildRow m (get_or powers level no_point) kind turn ys)
    at_first None is = tt
    at_first (Some first) is = row-longer m (get_or powers level no_point) kind turn first xs ys l is

-- ---- a row more is noted
pub same_or : (i j : ℕ) → (j ≡ i) ⊎ (¬ (j ≡ i))
same_or zero zero = inl refl
same_or zero (suc j) = inr (λ e. absurd (cc e))
same_or (suc i) zero = inr (λ e. absurd (cc e))
same_or (suc i) (suc j) = at_lesser (same_or i j)
  where
    at_lesser : (j ≡ i) ⊎ (¬ (j ≡ i)) → (suc j ≡ suc i) ⊎ (¬ (suc j ≡ suc i))
    at_lesser (inl e) = inl (ap suc e)
    at_lesser (inr n) = inr (λ e. n (omega arith))

-- what is noted by level, kind and turn is right
abbrev pub AreNoted : (m : Rule) {A : Type 0} (levels : ℕ) (Q : ℕ → ℕ → ℕ → A → Type 0) (noted : List (Option A)) → Type 0
AreNoted m levels Q noted =
    (level kind turn : ℕ) → level < levels → kind < length (rule_of m).kinds → turn < (points_of m.order).order
    → IfSome (get_or noted (row_place level kind turn) None) (Q level kind turn)

module _ (m : Rule) (few_kinds : length (rule_of m).kinds ≤ 16) (few_turns : (points_of m.order).order ≤ 16) {A : Type 0} (levels : ℕ)
    (Q : ℕ → ℕ → ℕ → A → Type 0) (before : List (Option A)) (level kind turn : ℕ) (new : Option A) (a : kind < length (rule_of m).kinds)
    (b : turn < (points_of m.order).order) (there : row_place level kind turn < length before) (right : IfSome new (Q level kind turn))
    (all : AreNoted m levels Q before) where
  abbrev noted : List (Option A)
  noted = set before (row_place level kind turn) new

  abbrev IsNoted : ℕ → ℕ → ℕ → Type 0
  IsNoted l k t = IfSome (get_or noted (row_place l k t) None) (Q l k t)

  pub noted-more : AreNoted m levels Q noted
  noted-more l k t f g h = at_place (same_or (row_place level kind turn) (row_place l k t))
    where
      own : IsNoted level kind turn
      own = subst (λ x. IfSome x (Q level kind turn)) (sym (get_or-set_same before (row_place level kind turn) new None there)) right

      same_level : row_place l k t ≡ row_place level kind turn → level ≡ l
      same_level e = omega arith

      same_kind_ : row_place l k t ≡ row_place level kind turn → kind ≡ k
      same_kind_ e = omega arith

      same_turn_ : row_place l k t ≡ row_place level kind turn → turn ≡ t
      same_turn_ e = omega arith

      at_place : (row_place l k t ≡ row_place level kind turn) ⊎ (¬ (row_place l k t ≡ row_place level kind turn)) → IsNoted l k t
      at_place (inl e) = subst (λ x. IsNoted x k t) (same_level e) (subst (λ x. IsNoted level x t) (same_kind_ e)
          (subst (λ x. IsNoted level kind x) (same_turn_ e) own))
      at_place (inr n) = subst (λ x. IfSome x (Q l k t))
          (sym (get_or-set_other before (row_place level kind turn) (row_place l k t) new None n)) (all l k t f g h)

-- ---- no row is made
pub none-made : (m : Rule) (powers : List Point) (firsts : List (Option ℕ)) (parts : List Part)
    → ((i : ℕ) → get_or firsts i None ≡ None) → AreMade m powers firsts parts
none-made m powers firsts parts none level kind turn f g h =
    subst (λ x. IfSome x (IsChildRow m (get_or powers level no_point) kind turn parts)) (sym (none (row_place level kind turn))) tt

-- ---- a child more
pub longer-same : (xs : List Part) → IsLonger xs xs
longer-same xs = record { longer = omega arith; same = λ i h. refl }

pub longer-more : (xs ys : List Part) (p : Part) → IsLonger xs ys → IsLonger xs (ys ++ p ∷ [])
longer-more xs ys p l = record {
  longer = let e = length-append ys (p ∷ []) in let f = l.longer in omega (arith, e, f);
  same = λ i h. get_or_append_left ys (p ∷ []) no_part i (let f = l.longer in omega (arith, f, h)) ∙ l.same i h;
}

module _ (m : Rule) (kind turn : ℕ) (scale : Point) (before now : List Part) (number : ℕ) (count : length now ≡ length before + number) (p : Part)
    (is : IsPartAt m kind number scale (only_turned turn) p)
    (each : (i : ℕ) → i < number → IsPartAt m kind i scale (only_turned turn) (get_or now (length before + i) no_part)) where
  pub each-more : (i : ℕ) → i < number + 1 → IsPartAt m kind i scale (only_turned turn) (get_or (now ++ p ∷ []) (length before + i) no_part)
  each-more i h = at_place (same_or number i)
    where
      at_place : (i ≡ number) ⊎ (¬ (i ≡ number)) → IsPartAt m kind i scale (only_turned turn) (get_or (now ++ p ∷ []) (length before + i) no_part)
      at_place (inl e) =
          subst (λ j. IsPartAt m kind j scale (only_turned turn) (get_or (now ++ p ∷ []) (length before + j) no_part)) (sym e)
          (subst (IsPartAt m kind number scale (only_turned turn)) (sym (get_or_push now p no_part (length before + number) count)) is)
      at_place (inr n) =
          subst (IsPartAt m kind i scale (only_turned turn)) (sym (get_or_append_left now (p ∷ []) no_part (length before + i)
          (omega (arith, count, h, n))))
          (each i (omega (arith, h, n)))

  pub count-more : length (now ++ p ∷ []) ≡ length before + (number + 1)
  count-more = let e = length-append now (p ∷ []) in omega (arith, e, count)

-- ---- places
pub place-there : (levels level kind turn places : ℕ) → level < levels → kind < 16 → turn < 16 → places ≡ levels * 256
    → row_place level kind turn < places
place-there levels level kind turn places a b c e = omega (arith, a, b, c, e)

pub if_some-each : {A : Type 0} (P Q : A → Type 0) → ((a : A) → P a → Q a) → (x : Option A) → IfSome x P → IfSome x Q
if_some-each P Q f None h = tt
if_some-each P Q f (Some a) h = f a h
