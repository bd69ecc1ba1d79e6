-- The text of two numbers that a line keeps.
use Rattle.std.specs.Prelude.{◌≡◌, ℕ, ◌-◌, ◌<◌, ◌≤◌, ℤ, List, [], ◌∷◌, ◌++◌, drop}
use Rattle.std.specs.Fmt.{signed_decimal}
use Rattle.tile_shape.specs.Text.{comma}
use Rattle.layer_api.specs.declared.kept_pair.KeptPair.{KeptPair}

-- two numbers, a comma after each
abbrev pub pair_text : ℤ → ℤ → List ℕ
pair_text a b = signed_decimal a ++ comma ∷ (signed_decimal b ++ comma ∷ [])

-- the place is empty, or has the text of its numbers at its end
pub record IsPairKept (k : KeptPair) : Type 0 where
  pub within : k.length ≤ 32
  pub text : 0 < k.length → drop (32 - k.length) k.text ≡ pair_text k.first k.second
