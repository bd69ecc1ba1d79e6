-- Children looked at one after another.
use Rattle.std.proofs.Common.{◌≡◌, ℕ, ◌+◌, ◌<◌, Bool, true, false, cond, ◌&&◌, not, is_some, List, [], ◌∷◌, ◌++◌, length, drop, get_or, find, Option, None, Some, IfSome, refl, sym, ap, ap₂, ◌∙◌}
use Rattle.theory_substitution.specs.Points.{Points}
use Rattle.theory_substitution.specs.Motion.{Motion}
use Rattle.theory_substitution.specs.Rule.{Rule, Child}
use Rattle.theory_frames.specs.Outline.{outline, holds_point}
use Rattle.theory_frames.specs.Part.{Part, holder}
use Rattle.theory_frames.specs.Looked.{values_of_children}
use Rattle.std.specs.Option.{option_map}
use Rattle.theory_addresses.specs.Search.{or_else}
use Rattle.theory_frames.specs.Part.{child_part}
use Rattle.theory_frames.specs.Looked.{values_of_child}
use Rattle.tile_place.specs.Parts.{if_holds}
use Rattle.tile_place.proofs.Ahead.{there, drop-next}
use Rattle.tile_place.proofs.Values.{find-append_found}

pub or_else-none : {A : Type 0} (x : Option A) → or_else x None ≡ x
or_else-none None = refl
or_else-none (Some x) = refl

or_else-assoc : {A : Type 0} (x y z : Option A) → or_else (or_else x y) z ≡ or_else x (or_else y z)
or_else-assoc None y z = refl
or_else-assoc (Some x) y z = refl

or_else-map : {A B : Type 0} (f : A → B) (x y : Option A) → option_map f (or_else x y) ≡ or_else (option_map f x) (option_map f y)
or_else-map f None y = refl
or_else-map f (Some x) y = refl

if_holds-map : {A B : Type 0} (f : A → B) (b : Bool) (x : A) → option_map f (if_holds b x) ≡ if_holds b (f x)
if_holds-map f true x = refl
if_holds-map f false x = refl

cond-or_else : {A : Type 0} (b : Bool) (x : A) (y : Option A) → cond b (Some x) y ≡ or_else (if_holds b x) y
cond-or_else true x y = refl
cond-or_else false x y = refl

pub find-front : {A : Type 0} (test : A → Bool) (xs ys : List A) → find test xs ≡ None → find test (xs ++ ys) ≡ find test ys
find-front test [] ys e = refl
find-front {A} test (x ∷ xs) ys e = at_test (test x) e (find-front test xs ys)
  where
    at_test : (b : Bool) → cond b (Some x) (find test xs) ≡ None
        → (find test xs ≡ None → find test (xs ++ ys) ≡ find test ys)
        → cond b (Some x) (find test (xs ++ ys)) ≡ find test ys
    at_test true f rest = absurd (cc f)
    at_test false f rest = rest f

module _ (P : Points) (r : Rule P.ring.carrier) (scale : P.ring.carrier) (m : Motion P.ring.carrier)
    (point : P.ring.carrier) (cs : List (Child P.ring.carrier)) (n : ℕ) (d : Child P.ring.carrier)
    (h : n < length cs) where
  abbrev here : Part P.ring.carrier
  here = child_part P r scale m n (get_or cs n d)

  abbrev it_holds : Bool
  it_holds = holds_point P (outline P r here.kind scale here.motion) point

  split : drop n cs ≡ get_or cs n d ∷ drop (n + 1) cs
  split = drop-next cs n (get_or cs n d) h (there cs n d h)

  -- one child further: the part that is looked at comes before those further on
  pub held-next : {X : Type 0} (f : X → Part P.ring.carrier) (held : Option X) (x : X) (b : Bool) → f x ≡ here → b ≡ it_holds
      → or_else (option_map f (or_else held (if_holds b x)))
      (holder P r scale m point (n + 1) (drop (n + 1) cs)) ≡ or_else (option_map f held)
      (holder P r scale m point n (drop n cs))
  held-next f held x b e t =
      ap (λ y. or_else y (holder P r scale m point (n + 1) (drop (n + 1) cs)))
      (or_else-map f held (if_holds b x) ∙ ap (or_else (option_map f held))
      (if_holds-map f b x ∙ ap₂ if_holds t e))
      ∙ or_else-assoc (option_map f held) (if_holds it_holds here) (holder P r scale m point (n + 1) (drop (n + 1) cs))
      ∙ ap (or_else (option_map f held)) (sym (cond-or_else it_holds here
      (holder P r scale m point (n + 1) (drop (n + 1) cs))) ∙ ap (holder P r scale m point n) (sym split))

  -- the same where it is asked only as long as none is held
  pub sought-next : {X : Type 0} (f : X → Part P.ring.carrier) (held : Option X) (x : X) (sought b : Bool)
      → is_some held ≡ not sought → f x ≡ here → b ≡ (sought && it_holds)
      → or_else (option_map f (or_else held (if_holds b x)))
      (holder P r scale m point (n + 1) (drop (n + 1) cs)) ≡ or_else (option_map f held)
      (holder P r scale m point n (drop n cs))
  sought-next f None x true b q e t = held-next f None x b e t
  sought-next f None x false b q e t = absurd (cc q)
  sought-next f (Some y) x sought b q e t = refl

  -- its values come before those further on
  pub values-next : (test : P.ring.carrier → Bool) → find test (values_of_child P r scale m (get_or cs n d)) ≡ None
      → find test (values_of_children P r scale m (drop n cs)) ≡ find test (values_of_children P r scale m (drop (n + 1) cs))
  values-next test e =
      ap (λ xs. find test (values_of_children P r scale m xs)) split
      ∙ find-front test (values_of_child P r scale m (get_or cs n d)) (values_of_children P r scale m (drop (n + 1) cs)) e

  pub values-here : (test : P.ring.carrier → Bool) (v : P.ring.carrier) → find test (values_of_child P r scale m (get_or cs n d)) ≡ Some v
      → find test (values_of_children P r scale m (drop n cs)) ≡ Some v
  values-here test v e =
      ap (λ xs. find test (values_of_children P r scale m xs)) split
      ∙ find-append_found test (values_of_child P r scale m (get_or cs n d)) (values_of_children P r scale m (drop (n + 1) cs)) v e

pub IfSome-or_else : {A : Type 0} (Q : A → Type 0) (held : Option A) (b : Bool) (x : A) → IfSome held Q → Q x → IfSome (or_else held (if_holds b x)) Q
IfSome-or_else Q None true x h q = q
IfSome-or_else Q None false x h q = tt
IfSome-or_else Q (Some y) b x h q = h
