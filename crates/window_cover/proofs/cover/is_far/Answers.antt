use Rattle.std.proofs.Common.{◌≡◌, ℕ, ◌≤◌, ◌||◌, ℤ, nat_abs, nat_lt, Bool, true, false, refl, sym, ap, ◌∙◌, arith}
use Rattle.std.proofs.lemmas.Bool.Decides.{nat_tests}
use Rattle.std.proofs.lemmas.Int.{ints}
use Rattle.cyclo_points.specs.Point.{coefficient, Within}
use Rattle.cyclo_points.proofs.Readings.{machine}
use Rattle.cyclo_points.proofs.Sizes.{abs_within}
use Rattle.window_cover.proofs.cover.is_far.Goals as goal

lesser : (a b : ℕ) → nat_lt a b ≡ false → b ≤ a
lesser a b h = grind (arith, nat_tests, h)

not-beyond : (n : ℕ) (x : ℤ) → nat_lt n (nat_abs x) ≡ false → Within n x
not-beyond n x e = abs_within n x (lesser n (nat_abs x) e)

neither : (a b : Bool) → a || b ≡ false → (a ≡ false) × (b ≡ false)
neither true b e = absurd (cc e)
neither false b e = (refl, e)

pub returns : goal.returns
returns c = λ e.
    let p = c.args.p.now in
    let n = c.args.most in
    let r0 : machine (coefficient p 0) ≡ coefficient p 0 = omega (arith, ints) in
    let r1 : machine (coefficient p 1) ≡ coefficient p 1 = omega (arith, ints) in
    let r2 : machine (coefficient p 2) ≡ coefficient p 2 = omega (arith, ints) in
    let r3 : machine (coefficient p 3) ≡ coefficient p 3 = omega (arith, ints) in
    let beyond : ℤ → Bool = λ x. nat_lt n (nat_abs x) in
    let f = neither (c.is_beyond.result || c.is_beyond-2.result || c.is_beyond-3.result) c.is_beyond-4.result e in
    let g = neither (c.is_beyond.result || c.is_beyond-2.result) c.is_beyond-3.result f.0 in
    let h = neither c.is_beyond.result c.is_beyond-2.result g.0 in
    record {
      at_0 = not-beyond n (coefficient p 0) (sym (c.is_beyond.ensures ∙ ap beyond r0) ∙ h.0);
      at_1 = not-beyond n (coefficient p 1) (sym (c.is_beyond-2.ensures ∙ ap beyond r1) ∙ h.1);
      at_2 = not-beyond n (coefficient p 2) (sym (c.is_beyond-3.ensures ∙ ap beyond r2) ∙ g.1);
      at_3 = not-beyond n (coefficient p 3) (sym (c.is_beyond-4.ensures ∙ ap beyond r3) ∙ f.1);
    }
