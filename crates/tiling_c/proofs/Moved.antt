-- What is so of the values that numbers give is so of those that were read from them.
use Rattle.std.proofs.Common.{◌≡◌, Bool, false, IsTrue, sym, ◌∙◌, subst}

-- what is so of a frame and a window, or of a frame and a point, is so of the same
pub given_moved : {A B : Type 0} (P : A → B → Type 0) (f g : A) (v w : B) → f ≡ g → v ≡ w → P f v → P g w
given_moved P f g v w ef ev p = subst (λ x. P x w) ef (subst (λ y. P f y) ev p)

-- a test isn't both
pub no_true : {A : Type 0} (b : Bool) → b ≡ false → IsTrue b → A
no_true b e f = absurd (cc (sym e ∙ f))
