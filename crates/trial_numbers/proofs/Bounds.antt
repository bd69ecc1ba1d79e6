-- What the tests of bounds say.
use Rattle.std.proofs.Common.{◌≡◌, ℕ, ℤ, true, ◌&&◌, List, [], ◌∷◌, arith}
use Rattle.std.proofs.lemmas.Bool.{and_parts}
use Rattle.std.proofs.lemmas.Bool.Decides.{nat_tests}
use Rattle.std.proofs.lemmas.List.Elements.{All-cons}
use Rattle.std.specs.List.{All, list_all}
use Rattle.cyclo_points.specs.declared.point.Point.{Point}
use Rattle.cyclo_points.specs.Point.{coefficient, Within, IsWithin}
use Rattle.cyclo_points.proofs.Sizes.{abs_within}
use Rattle.trial_numbers.specs.Sizes.{is_at_most, is_within}

pub Within-is_at_most : (n : ℕ) (x : ℤ) → is_at_most n x ≡ true → Within n x
Within-is_at_most n x e = abs_within n x (grind (arith, nat_tests))

pub IsWithin-is_within : (n : ℕ) (p : Point) → is_within n p ≡ true → IsWithin n p
IsWithin-is_within n p e =
    let f = and_parts (is_at_most n (coefficient p 0))
    (is_at_most n (coefficient p 1) && (is_at_most n (coefficient p 2) && is_at_most n (coefficient p 3)))
    e in
    let g = and_parts (is_at_most n (coefficient p 1)) (is_at_most n (coefficient p 2) && is_at_most n (coefficient p 3)) f.1 in
    let h = and_parts (is_at_most n (coefficient p 2)) (is_at_most n (coefficient p 3)) g.1 in
    record {
      at_0 = Within-is_at_most n _ f.0;
      at_1 = Within-is_at_most n _ g.0;
      at_2 = Within-is_at_most n _ h.0;
      at_3 = Within-is_at_most n _ h.1;
    }

pub All-is_within : (n : ℕ) (ps : List Point) → list_all (is_within n) ps ≡ true → All (IsWithin n) ps
All-is_within n [] e = λ k d below. absurd (omega (arith, below))
All-is_within n (p ∷ ps) e =
    let f = and_parts (is_within n p) (list_all (is_within n) ps) e in
    All-cons (IsWithin n) p ps (IsWithin-is_within n p f.0) (All-is_within n ps f.1)
