-- The values that arguments give are within the bounds of their forms.
use Rattle.std.proofs.Common.{◌≡◌, ◌^◌, ◌≤◌, ℕ, zero, suc, ℤ, pos, neg_ℤ, Bool, true, false, cond, nat_le, List, [], ◌∷◌, length, Some, None, ◌==◌, refl, subst, arith, lit≤, leb-true}
use Rattle.std.proofs.lemmas.Int.{ints}
use Rattle.std.specs.declared.option.Option.{Option}
use Rattle.std.specs.Option.{option_map, option_and_then}
use Rattle.cyclo_points.specs.declared.point.Point.{Point}
use Rattle.cyclo_points.specs.Point.{Within, IsWithin}
use Rattle.cyclo_points.specs.Text.{point_of_coefficients, point_of_texts}
use Rattle.cyclo_points.proofs.Within.{within_wider}
use Rattle.tile_shape.specs.Decimal.{number_in, number_up_to}
use Rattle.tile_shape.specs.Signed.{minus_sign, negated}
use Rattle.tile_shape.specs.Text.{comma}
use Rattle.tile_shape.specs.Words.{texts_between}
use Rattle.call_words.specs.declared.window_words.HalfExtents.{HalfExtents}
use Rattle.call_words.specs.declared.words.Key.TheVariants.{At, Half, Grow, Path, Count}
use Rattle.call_words.specs.Commands.{most_windows, windows_in}
use Rattle.call_words.specs.PathWords.{numbers, unless_long, longest_path, path_in}
use Rattle.call_words.specs.Values.{Values, values_given}
use Rattle.call_words.specs.WindowWords.{most_coefficient, coefficient_in, extent_in, extents_of_pieces, at_in, half_in, FitWindow, most_extent}
use Rattle.call_words.specs.Words.{value_given}

some_is : {A : Type 0} (x y : A) → Some x ≡ Some y → x ≡ y
some_is x y e = cc

-- what holds of each value that a text gives holds of the value that is given
then_of : {A B : Type 0} (f : A → Option B) (P : B → Type 0) (o : Option A) (b : B) → ((a : A) → f a ≡ Some b → P b) → option_and_then f o ≡ Some b
    → P b
then_of f P None b h e = absurd (cc e)
then_of f P (Some a) b h e = h a e

-- a number that is told up to a limit isn't above it
number-limited : (most : ℕ) (text : List ℕ) (n : ℕ) → number_up_to most text ≡ Some n → n ≤ most
number-limited most text n e = then_of (λ m. cond (nat_le m most) (Some m) None) (λ m. m ≤ most) (number_in text) n
    (λ m f. at_test m (nat_le m most) refl f) e
  where
    at_test : (m : ℕ) (b : Bool) → nat_le m most ≡ b → cond b (Some m) None ≡ Some n → n ≤ most
    at_test m true f g = subst (λ k. k ≤ most) (some_is m n g) (leb-true m most f)
    at_test m false f g = absurd (cc g)

-- ---- a centre
coefficient-within : (bytes : List ℕ) (z : ℤ) → coefficient_in bytes ≡ Some z → Within (2 ^ 20) z
coefficient-within [] z e = absurd (cc e)
coefficient-within (byte ∷ bytes) z e = at_test (byte == minus_sign) e
  where
    within : (x : ℤ) → Within most_coefficient x → x ≡ z → Within (2 ^ 20) z
    within x h same = subst (Within (2 ^ 20)) same (within_wider most_coefficient (2 ^ 20) x (lit≤ tt) h)

    below : (n : ℕ) → n ≤ most_coefficient → Within most_coefficient (neg_ℤ (pos n))
    below n l = record { low = omega (arith, ints); high = omega (arith, ints) }

    above : (n : ℕ) → n ≤ most_coefficient → Within most_coefficient (pos n)
    above n l = record { low = omega (arith, ints); high = omega (arith, ints) }

    of_negative : (n : ℕ) → n ≤ most_coefficient → negated n ≡ Some z → Within (2 ^ 20) z
    of_negative zero l f = absurd (cc f)
    of_negative (suc n) l f = within (neg_ℤ (pos (suc n))) (below (suc n) l) (some_is (neg_ℤ (pos (suc n))) z f)

    at_negative : (o : Option ℕ) → ((n : ℕ) → o ≡ Some n → n ≤ most_coefficient) → option_and_then negated o ≡ Some z → Within (2 ^ 20) z
    at_negative None h f = absurd (cc f)
    at_negative (Some n) h f = of_negative n (h n refl) f

    at_positive : (o : Option ℕ) → ((n : ℕ) → o ≡ Some n → n ≤ most_coefficient) → option_map pos o ≡ Some z → Within (2 ^ 20) z
    at_positive None h f = absurd (cc f)
    at_positive (Some n) h f = within (pos n) (above n (h n refl)) (some_is (pos n) z f)

    at_test : (b : Bool) → cond b (option_and_then negated (number_up_to most_coefficient bytes))
        (option_map pos (number_up_to most_coefficient (byte ∷ bytes))) ≡ Some z → Within (2 ^ 20) z
    at_test true f = at_negative (number_up_to most_coefficient bytes) (number-limited most_coefficient bytes) f
    at_test false f = at_positive (number_up_to most_coefficient (byte ∷ bytes)) (number-limited most_coefficient (byte ∷ bytes)) f

abbrev AreWithin : Option ℤ → Type 0
AreWithin o = (z : ℤ) → o ≡ Some z → Within (2 ^ 20) z

coefficients-within : (x y z w : Option ℤ) (p : Point) → AreWithin x → AreWithin y → AreWithin z → AreWithin w
    → point_of_coefficients x y z w ≡ Some p → IsWithin (2 ^ 20) p
coefficients-within None y z w p f g h k e = absurd (cc e)
coefficients-within (Some a) None z w p f g h k e = absurd (cc e)
coefficients-within (Some a) (Some b) None w p f g h k e = absurd (cc e)
coefficients-within (Some a) (Some b) (Some c) None p f g h k e = absurd (cc e)
coefficients-within (Some a) (Some b) (Some c) (Some d) p f g h k e =
    subst (IsWithin (2 ^ 20)) (some_is (record { c = a ∷ b ∷ c ∷ d ∷ [] }) p e)
    (record { at_0 = f a refl; at_1 = g b refl; at_2 = h c refl; at_3 = k d refl })

pieces-within : (ps : List (List ℕ)) (p : Point) → point_of_texts coefficient_in ps ≡ Some p → IsWithin (2 ^ 20) p
pieces-within (a ∷ b ∷ c ∷ d ∷ []) p e =
    coefficients-within (coefficient_in a) (coefficient_in b) (coefficient_in c) (coefficient_in d) p (coefficient-within a) (coefficient-within b)
    (coefficient-within c) (coefficient-within d) e
pieces-within [] p e = absurd (cc e)
pieces-within (a ∷ []) p e = absurd (cc e)
pieces-within (a ∷ b ∷ []) p e = absurd (cc e)
pieces-within (a ∷ b ∷ c ∷ []) p e = absurd (cc e)
pieces-within (a ∷ b ∷ c ∷ d ∷ f ∷ ps) p e = absurd (cc e)

-- ---- half extents
extent-fits : (text : List ℕ) (n : ℕ) → extent_in text ≡ Some n → (1 ≤ n) × (n ≤ most_extent)
extent-fits text n e = at_number (number_up_to most_extent text) (number-limited most_extent text) e
  where
    at_test : (m : ℕ) (b : Bool) → nat_le 1 m ≡ b → m ≤ most_extent → cond b (Some m) None ≡ Some n → (1 ≤ n) × (n ≤ most_extent)
    at_test m true f l g = subst (λ k. (1 ≤ k) × (k ≤ most_extent)) (some_is m n g) (leb-true 1 m f, l)
    at_test m false f l g = absurd (cc g)

    at_number : (o : Option ℕ) → ((m : ℕ) → o ≡ Some m → m ≤ most_extent) → option_and_then (λ m. cond (nat_le 1 m) (Some m) None) o ≡ Some n
        → (1 ≤ n) × (n ≤ most_extent)
    at_number None h f = absurd (cc f)
    at_number (Some m) h f = at_test m (nat_le 1 m) refl (h m refl) f

abbrev AreExtents : Option ℕ → Type 0
AreExtents o = (n : ℕ) → o ≡ Some n → (1 ≤ n) × (n ≤ most_extent)

extents-fit : (x y : Option ℕ) (half : HalfExtents) → AreExtents x → AreExtents y
    → option_and_then (λ w. option_map (λ h. (let e : HalfExtents = record { w = w; h = h } in e)) y) x ≡ Some half → FitWindow half
extents-fit None y half f g e = absurd (cc e)
extents-fit (Some a) None half f g e = absurd (cc e)
extents-fit (Some a) (Some b) half f g e =
    let w = f a refl in
    let h = g b refl in
    subst FitWindow (some_is (record { w = a; h = b }) half e) (record { some_width = w.0; some_height = h.0; width_fits = w.1; height_fits = h.1 })

pieces-fit : (ps : List (List ℕ)) (half : HalfExtents) → extents_of_pieces ps ≡ Some half → FitWindow half
pieces-fit (a ∷ b ∷ []) half e = extents-fit (extent_in a) (extent_in b) half (extent-fits a) (extent-fits b) e
pieces-fit [] half e = absurd (cc e)
pieces-fit (a ∷ []) half e = absurd (cc e)
pieces-fit (a ∷ b ∷ c ∷ ps) half e = absurd (cc e)

-- ---- the values that arguments give
windows-limited : (text : List ℕ) (n : ℕ) → windows_in text ≡ Some n → n ≤ most_windows
windows-limited text n e = at_number (number_up_to most_windows text) (number-limited most_windows text) e
  where
    at_test : (m : ℕ) (b : Bool) → m ≤ most_windows → cond b (Some m) None ≡ Some n → n ≤ most_windows
    at_test m true l g = subst (λ k. k ≤ most_windows) (some_is m n g) l
    at_test m false l g = absurd (cc g)

    at_number : (o : Option ℕ) → ((m : ℕ) → o ≡ Some m → m ≤ most_windows)
        → option_and_then (λ m. cond (nat_le 1 m) (Some m) None) o ≡ Some n → n ≤ most_windows
    at_number None h f = absurd (cc f)
    at_number (Some m) h f = at_test m (nat_le 1 m) (h m refl) f

path-limited : (text path : List ℕ) → path_in text ≡ Some path → length path ≤ longest_path
path-limited text path e = at_found (numbers (texts_between comma text)) e
  where
    at_test : (found : List ℕ) (b : Bool) → nat_le (length found) longest_path ≡ b → cond b (Some found) None ≡ Some path → length path ≤ longest_path
    at_test found true f g = subst (λ p. length p ≤ longest_path) (some_is found path g) (leb-true (length found) longest_path f)
    at_test found false f g = absurd (cc g)

    at_found : (o : Option (List ℕ)) → unless_long o ≡ Some path → length path ≤ longest_path
    at_found None f = absurd (cc f)
    at_found (Some found) f = at_test found (nat_le (length found) longest_path) refl f

-- values are within the bounds of their forms
pub record AreFit (v : Values) : Type 0 where
  pub grow : (n : ℕ) → v.grow ≡ Some n → n ≤ 64
  pub path : (path : List ℕ) → v.path ≡ Some path → length path ≤ longest_path
  pub count : (n : ℕ) → v.count ≡ Some n → n ≤ most_windows
  pub at : (p : Point) → v.at ≡ Some p → IsWithin (2 ^ 20) p
  pub half : (half : HalfExtents) → v.half ≡ Some half → FitWindow half

pub values-fit : (words : List (List ℕ)) → AreFit (values_given words)
values-fit words = record {
  grow = λ n e. then_of (number_up_to 64) (λ m. m ≤ 64) (value_given Grow words) n (λ text. number-limited 64 text n) e;
  path = λ path e. then_of path_in (λ p. length p ≤ longest_path) (value_given Path words) path (λ text. path-limited text path) e;
  count = λ n e. then_of windows_in (λ m. m ≤ most_windows) (value_given Count words) n (λ text. windows-limited text n) e;
  at = λ p e. then_of at_in (IsWithin (2 ^ 20)) (value_given At words) p (λ text. pieces-within (texts_between comma text) p) e;
  half = λ half e. then_of half_in FitWindow (value_given Half words) half (λ text. pieces-fit (texts_between comma text) half) e;
}
