-- Fields of a line, put one after another.
use Rattle.std.proofs.Common.{◌≡◌, ℕ, List, [], ◌∷◌, ◌++◌, ap, ◌∙◌, append_assoc}
use Rattle.cyclo_points.specs.Text.{blank}

-- a word put behind a blank, and another one
pub two_words : (old mid new w x : List ℕ) → mid ≡ old ++ blank ∷ w → new ≡ mid ++ blank ∷ x → new ≡ old ++ blank ∷ (w ++ blank ∷ x)
two_words old mid new w x e f = f ∙ ap (λ m. m ++ blank ∷ x) e ∙ append_assoc old (blank ∷ w) (blank ∷ x)

-- and a third
pub three_words : (old one two new w x y : List ℕ) → one ≡ old ++ blank ∷ w → two ≡ one ++ blank ∷ x
    → new ≡ two ++ blank ∷ y → new ≡ old ++ blank ∷ (w ++ blank ∷ x ++ blank ∷ y)
three_words old one two new w x y e f g =
    g ∙ ap (λ m. m ++ blank ∷ y) (two_words old one two w x e f) ∙ append_assoc old (blank ∷ (w ++ blank ∷ x)) (blank ∷ y)

-- four texts put behind a blank, with a character between two
pub four_texts : (c : ℕ) (old a0 a1 b0 b1 c0 c1 d0 new w x y z : List ℕ) → a0 ≡ old ++ blank ∷ [] → a1 ≡ a0
    ++ w → b0 ≡ a1 ++ c ∷ [] → b1 ≡ b0 ++ x → c0 ≡ b1 ++ c ∷ [] → c1 ≡ c0 ++ y
    → d0 ≡ c1 ++ c ∷ [] → new ≡ d0 ++ z → new ≡ old ++ blank ∷ (w ++ c ∷ (x ++ c ∷ (y ++ c ∷ z)))
four_texts c old a0 a1 b0 b1 c0 c1 d0 new w x y z e1 e2 e3 e4 e5 e6 e7 e8 =
    let all : new ≡ old ++ blank ∷ [] ++ w ++ c ∷ [] ++ x ++ c ∷ [] ++ y ++ c ∷ [] ++ z = cc in
    all ∙ simp append_assoc
