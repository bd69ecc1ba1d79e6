-- The numbers of a rule within its limits are in range, and are read back.
use Rattle.std.proofs.Common.{◌≡◌, ℕ, suc, ◌<◌, pos, true, List, ◌∷◌, All, map, Some, refl, arith}
use Rattle.std.proofs.lemmas.Bool.{le-leb}
use Rattle.theory_substitution.specs.Rule.{Child}
use Rattle.cyclo_points.specs.declared.order.Order.{Order}
use Rattle.cyclo_points.specs.declared.order.Order.TheVariants.{Four, Six, Eight, Ten}
use Rattle.cyclo_points.specs.declared.point.Point.{Point}
use Rattle.cyclo_points.specs.Order.{points_of}
use Rattle.rule_model.specs.Small.{is_small}
use Rattle.rule_model.specs.declared.edition.Edition.{Edition}
use Rattle.rule_model.specs.declared.edition.Edition.TheVariants.{One, Two}
use Rattle.rule_text.specs.Forms.{each}
use Rattle.rule_text.specs.Ranges.{number_below, format_of, order_of, file_point, child_in_row}
use Rattle.rule_text.specs.Written.{format_number}
use Rattle.rule_text.proofs.ReadForms.{each-same}

pub below-read : (n k : ℕ) → k < n → number_below n (pos k) ≡ Some k
below-read n k lt = rw (le-leb 0 k (omega arith), le-leb (suc k) n (omega arith)) refl

pub numbers-below : (n : ℕ) (ks : List ℕ) → All (λ k. k < n) ks → each (number_below n) (map pos ks) ≡ Some ks
numbers-below n ks all = each-same (number_below n) pos ks (λ k d lt. below-read n _ (all k d lt))

pub format-read : (e : Edition) → format_of (pos (format_number e)) ≡ Some e
format-read One = refl
format-read Two = refl

pub order-read : (e : Edition) (o : Order) → (e ≡ One → o ≡ Six → ⊥) → order_of e (pos (points_of o).order) ≡ Some o
order-read One Four not_six = refl
order-read One Six not_six = absurd (not_six refl refl)
order-read One Eight not_six = refl
order-read One Ten not_six = refl
order-read Two Four not_six = refl
order-read Two Six not_six = refl
order-read Two Eight not_six = refl
order-read Two Ten not_six = refl

pub point-read : (o : Order) (p : Point) → is_small o p ≡ true → file_point o p.c ≡ Some p
point-read o p h = rw h refl

pub child-read : (o : Order) (c : Child Point) → c.kind < 16 → c.motion.turn < (points_of o).order → is_small o c.motion.shift ≡ true
    → child_in_row o (pos c.kind ∷ pos c.motion.turn ∷ c.motion.shift.c) ≡ Some c
child-read o c k t h = rw (below-read 16 c.kind k, below-read (points_of o).order c.motion.turn t, point-read o c.motion.shift h) refl
