use Rattle.std.proofs.Common.{◌≡◌, ℕ, ◌+◌, ◌*◌, ◌/◌, ◌%◌, sym, ap, ◌∙◌, arith}
use Rattle.std.proofs.Math.Nat.{div-add-mod, mul-add-mod_self_left}
use Rattle.list_verify.proofs.line_index.reduced.Goals as goal

-- m + 1 leaves 1 by m, so a number leaves what its two digits to that base leave
digits : (m number : ℕ) → (number / (m + 1) + number % (m + 1)) % m ≡ number % m
digits m number = sym (mul-add-mod_self_left m (number / (m + 1)) (number / (m + 1) + number % (m + 1))) ∙ ap (λ n. n % m) whole
  where
    whole : m * (number / (m + 1)) + (number / (m + 1) + number % (m + 1)) ≡ number
    whole = omega (arith, div-add-mod (m + 1) number)

pub returns : goal.returns
returns c = record { reduced = digits 2305843009213693951 c.args.number }
