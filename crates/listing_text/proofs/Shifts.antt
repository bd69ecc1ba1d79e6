-- Four signed numbers, read one after another.
use Rattle.std.proofs.Common.{◌≡◌, ℕ, ℤ, List, [], ◌∷◌, Option, Some, None, refl, sym, ap, ◌∙◌}
use Rattle.std.specs.Option.{option_map, option_and_then}
use Rattle.cyclo_points.specs.declared.point.Point.{Point}
use Rattle.tile_shape.specs.Text.{comma}
use Rattle.tile_shape.specs.Words.{first_by, texts_between}
use Rattle.cyclo_points.specs.Text.{point_of_texts}
use Rattle.listing_text.specs.Signed.{signed_in}
use Rattle.listing_text.proofs.NumberOn.{some_first}

-- a signed number and the texts behind it
abbrev Read : Type 0
Read = Option (ℤ × List (List ℕ))

abbrev pub fourth : ℤ → ℤ → ℤ → ℤ × List (List ℕ) → Option Point
fourth x y z (w, []) = Some (record { c = x ∷ y ∷ z ∷ w ∷ [] })
fourth x y z (w, p ∷ ps) = None

abbrev third : ℤ → ℤ → ℤ × List (List ℕ) → Option Point
third x y z = option_and_then (fourth x y z.0) (first_by signed_in z.1)

abbrev second : ℤ → ℤ × List (List ℕ) → Option Point
second x y = option_and_then (third x y.0) (first_by signed_in y.1)

abbrev first : ℤ × List (List ℕ) → Option Point
first x = option_and_then (second x.0) (first_by signed_in x.1)

-- the point of texts, read one after another
abbrev pub point_on : List (List ℕ) → Option Point
point_on ps = option_and_then first (first_by signed_in ps)

-- where a signed number is, by what comes of it; where it is none, none comes
through : (g : ℤ × List (List ℕ) → Option Point) (f : ℤ → Option Point) (ps : List (List ℕ)) (o : Option ℤ)
    → ((z : ℤ) → g (z, ps) ≡ f z) → option_and_then g (option_map (λ z. (z, ps)) o) ≡ option_and_then f o
through g f ps None h = refl
through g f ps (Some z) h = h z

to_none : (g : ℤ × List (List ℕ) → Option Point) (ps : List (List ℕ)) (o : Option ℤ)
    → ((z : ℤ) → g (z, ps) ≡ None) → option_and_then g (option_map (λ z. (z, ps)) o) ≡ None
to_none g ps None h = refl
to_none g ps (Some z) h = h z

at_last : (x y z : ℤ) (o : Option ℤ) → option_and_then (fourth x y z)
    (option_map (λ w. (w, [])) o) ≡ option_map (λ w. record { c = x ∷ y ∷ z ∷ w ∷ [] }) o
at_last x y z None = refl
at_last x y z (Some w) = refl

pub point_on-same : (ps : List (List ℕ)) → point_on ps ≡ point_of_texts signed_in ps
point_on-same [] = refl
point_on-same (a ∷ []) = to_none first [] (signed_in a) (λ x. refl)
point_on-same (a ∷ b ∷ []) = to_none first (b ∷ []) (signed_in a) (λ x. to_none (second x) [] (signed_in b) (λ y. refl))
point_on-same (a ∷ b ∷ c ∷ []) = to_none first (b ∷ c ∷ []) (signed_in a)
    (λ x. to_none (second x) (c ∷ []) (signed_in b) (λ y. to_none (third x y) [] (signed_in c) (λ z. refl)))
point_on-same (a ∷ b ∷ c ∷ d ∷ []) =
    through first (λ x. option_and_then (λ y. option_and_then
    (λ z. option_map (λ w. record { c = x ∷ y ∷ z ∷ w ∷ [] }) (signed_in d)) (signed_in c)) (signed_in b))
    (b ∷ c ∷ d ∷ []) (signed_in a)
    (λ x. through (second x) (λ y. option_and_then
    (λ z. option_map (λ w. record { c = x ∷ y ∷ z ∷ w ∷ [] }) (signed_in d)) (signed_in c)) (c ∷ d ∷ [])
    (signed_in b)
    (λ y. through (third x y) (λ z. option_map (λ w. record { c = x ∷ y ∷ z ∷ w ∷ [] }) (signed_in d))
    (d ∷ []) (signed_in c) (λ z. at_last x y z (signed_in d))))
point_on-same (a ∷ b ∷ c ∷ d ∷ e ∷ ps) =
    to_none first (b ∷ c ∷ d ∷ e ∷ ps) (signed_in a)
    (λ x. to_none (second x) (c ∷ d ∷ e ∷ ps) (signed_in b)
    (λ y. to_none (third x y) (d ∷ e ∷ ps) (signed_in c)
    (λ z. to_none (fourth x y z) (e ∷ ps) (signed_in d) (λ w. refl))))

-- one read after the other
module _ (ps qs rs : List (List ℕ)) (a b : ℤ) (one : Some (a, qs) ≡ first_by signed_in ps) (two : Some (b, rs) ≡ first_by signed_in qs) where
  read_two : point_of_texts signed_in ps ≡ option_and_then (third a b) (first_by signed_in rs)
  read_two = sym (point_on-same ps) ∙ sym (ap (option_and_then first) one) ∙ sym (ap (option_and_then (second a)) two)

  pub third_fails : None ≡ first_by signed_in rs → None ≡ point_of_texts signed_in ps
  third_fails e = sym (read_two ∙ sym (ap (option_and_then (third a b)) e))

  read_all : (c d : ℤ) (ss ts : List (List ℕ)) → Some (c, ss) ≡ first_by signed_in rs
      → Some (d, ts) ≡ first_by signed_in ss → fourth a b c (d, ts) ≡ point_of_texts signed_in ps
  read_all c d ss ts e f = sym (read_two ∙ sym (ap (option_and_then (third a b)) e) ∙ sym (ap (option_and_then (fourth a b c)) f))

  -- with a text behind the fourth, and without one
  pub more_follow : (c d : ℤ) (ss : List (List ℕ)) (t : List ℕ) → Some (c, ss) ≡ first_by signed_in rs
      → Some (d, texts_between comma t) ≡ first_by signed_in ss → None ≡ point_of_texts signed_in ps
  more_follow c d ss t e f = let s = some_first comma t in sym (ap (λ ts. fourth a b c (d, ts)) s.2) ∙ read_all c d ss (texts_between comma t) e f

  pub none_follow : (c d : ℤ) (ss : List (List ℕ)) → Some (c, ss) ≡ first_by signed_in rs
      → Some (d, []) ≡ first_by signed_in ss → Some (record { c = a ∷ b ∷ c ∷ d ∷ [] }) ≡ point_of_texts
      signed_in ps
  none_follow c d ss e f = read_all c d ss [] e f
