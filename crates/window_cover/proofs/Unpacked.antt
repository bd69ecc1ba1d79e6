-- Equal words hold equal coefficients, so equal ends are those of equal points; and out of its words a point comes again.
use Rattle.std.proofs.Common.{◌≡◌, ℕ, ◌+◌, ◌*◌, ◌/◌, ◌%◌, ◌^◌, ◌<◌, ℤ, List, [], ◌∷◌, map, refl, sym, ap, ap₂, ◌∙◌, arith}
use Rattle.std.proofs.lemmas.Int.{ints}
use Rattle.std.proofs.lemmas.Nat.{div-add-mod'}
use Rattle.cyclo_points.specs.Quad.{Quad}
use Rattle.cyclo_points.specs.declared.point.Point.{Point}
use Rattle.cyclo_points.specs.Point.{Within, IsWithin, coefficient, quad_of}
use Rattle.window_cover.specs.declared.ends.Ends.{Ends}
use Rattle.window_cover.specs.Border.{Waiting}
use Rattle.window_cover.specs.Packed.{raised, lowered, word_of, ends_of, point_of_words, unpacked, packed}

-- a raised coefficient fits the half of a word
pub raised-fits : (x : ℤ) → Within (2 ^ 25) x → raised x < 2 ^ 32
raised-fits x w = let l = w.low in let h = w.high in omega (arith, ints, l, h)

pub raised-exact : (x y : ℤ) → Within (2 ^ 25) x → Within (2 ^ 25) y → raised x ≡ raised y → x ≡ y
raised-exact x y v w e = let l = v.low in let h = v.high in let m = w.low in let k = w.high in omega (arith, ints, l, h, m, k, e)

pub word-exact : (a b c d : ℤ) → Within (2 ^ 25) a → Within (2 ^ 25) b → Within (2 ^ 25) c → Within (2 ^ 25) d
    → word_of a b ≡ word_of c d → (a ≡ c) × (b ≡ d)
word-exact a b c d v w x y e =
    let halves = split (raised a) (raised b) (raised c) (raised d) (raised-fits b w) (raised-fits d y) e in
    (raised-exact a c v x halves.0, raised-exact b d w y halves.1)
  where
    split : (p q r s : ℕ) → q < 2 ^ 32 → s < 2 ^ 32 → p * 2 ^ 32 + q ≡ r * 2 ^ 32 + s → (p ≡ r) × (q ≡ s)
    split p q r s f g h = (omega (arith, f, g, h), omega (arith, f, g, h))

abbrev pub quad : ℤ → ℤ → ℤ → ℤ → Quad ℤ
quad a b c d = record { a0 = a; a1 = b; a2 = c; a3 = d }

-- the coefficients of two points whose words are equal
point-exact : (p q : Point) → IsWithin (2 ^ 25) p → IsWithin (2 ^ 25) q
    → word_of (coefficient p 0) (coefficient p 1) ≡ word_of (coefficient q 0) (coefficient q 1)
    → word_of (coefficient p 2) (coefficient p 3) ≡ word_of (coefficient q 2) (coefficient q 3) → quad_of p ≡ quad_of q
point-exact p q v w e f =
    let low = word-exact (coefficient p 0) (coefficient p 1) (coefficient q 0) (coefficient q 1) v.at_0 v.at_1 w.at_0 w.at_1 e in
    let high = word-exact (coefficient p 2) (coefficient p 3) (coefficient q 2) (coefficient q 3) v.at_2 v.at_3 w.at_2 w.at_3 f in
    ap₂ (λ (a b : ℤ). quad a b (coefficient p 2) (coefficient p 3)) low.0 low.1
    ∙ ap₂ (λ (c d : ℤ). quad (coefficient q 0) (coefficient q 1) c d) high.0 high.1

-- equal ends, equal points
pub ends_of-exact : (s e t f : Point) → IsWithin (2 ^ 25) s → IsWithin (2 ^ 25) e → IsWithin (2 ^ 25) t → IsWithin (2 ^ 25) f
    → ends_of s e ≡ ends_of t f → (quad_of s ≡ quad_of t) × (quad_of e ≡ quad_of f)
ends_of-exact s e t f a b c d h = (
  point-exact s t a c (ap (λ (x : Ends). x.start_low) h) (ap (λ (x : Ends). x.start_high) h),
  point-exact e
      f b d (ap (λ (x : Ends). x.end_low) h) (ap (λ (x : Ends). x.end_high) h),
)

-- ---- a point out of its words
lowered-raised : (x : ℤ) → Within (2 ^ 25) x → lowered (raised x) ≡ x
lowered-raised x w = let l = w.low in let h = w.high in omega (arith, ints, l, h)

raised-lowered : (n : ℕ) → raised (lowered n) ≡ n
raised-lowered n = omega (arith, ints)

halves : (p q : ℕ) → q < 2 ^ 32 → ((p * 2 ^ 32 + q) / 2 ^ 32 ≡ p) × ((p * 2 ^ 32 + q) % 2 ^ 32 ≡ q)
halves p q h = (omega (arith, h), omega (arith, h))

high-again : (a b : ℤ) → Within (2 ^ 25) a → Within (2 ^ 25) b → lowered (word_of a b / 2 ^ 32) ≡ a
high-again a b v w = ap lowered (halves (raised a) (raised b) (raised-fits b w)).0 ∙ lowered-raised a v

low-again : (a b : ℤ) → Within (2 ^ 25) a → Within (2 ^ 25) b → lowered (word_of a b % 2 ^ 32) ≡ b
low-again a b v w = ap lowered (halves (raised a) (raised b) (raised-fits b w)).1 ∙ lowered-raised b w

pub from-again : (p : Point) → IsWithin (2 ^ 25) p
    → quad_of (point_of_words (word_of (coefficient p 0) (coefficient p 1)) (word_of (coefficient p 2) (coefficient p 3))) ≡ quad_of p
from-again p w =
    let a = coefficient p 0 in
    let b = coefficient p 1 in
    let c = coefficient p 2 in
    let d = coefficient p 3 in
    ap₂ (λ (x y : ℤ). quad x y (lowered (word_of c d / 2 ^ 32)) (lowered (word_of c d % 2 ^ 32)))
    (high-again a b w.at_0 w.at_1) (low-again a b w.at_0 w.at_1)
    ∙ ap₂ (λ (x y : ℤ). quad a b x y) (high-again c d w.at_2 w.at_3) (low-again c d w.at_2 w.at_3)

-- ---- words again
word-again : (w : ℕ) → word_of (lowered (w / 2 ^ 32)) (lowered (w % 2 ^ 32)) ≡ w
word-again w = ap₂ (λ (p q : ℕ). p * 2 ^ 32 + q) (raised-lowered (w / 2 ^ 32)) (raised-lowered (w % 2 ^ 32)) ∙ div-add-mod' w (2 ^ 32)

pub words-again : (ws : List Waiting) → map packed (map unpacked ws) ≡ ws
words-again [] = refl
words-again (w ∷ ws) = ap₂ (λ (x : Waiting) (xs : List Waiting). x ∷ xs) one (words-again ws)
  where
    one : packed (unpacked w) ≡ w
    one = λ i. record {
      ends = record {
        start_low = word-again w.ends.start_low i;
        start_high = word-again w.ends.start_high i;
        end_low = word-again w.ends.end_low i;
        end_high = word-again w.ends.end_high i;
      };
      edge = w.edge;
    }

-- the ends that are seen are those of the words
pub points-again : (ws : List Waiting) → map unpacked ws ≡ map unpacked (map packed (map unpacked ws))
points-again ws = ap (map unpacked) (sym (words-again ws))
