-- From which level on two addresses agree.
use Rattle.std.specs.Prelude.{◌≡◌, ℕ, ◌<◌, ◌≤◌, Option, Some, None, drop}
use Rattle.theory_addresses.specs.Address.{Address, depth, kind_at}

-- the kinds at this level are equal, and so are all digits from its number up
pub record AgreeFrom (a b : Address) (level : ℕ) : Type 0 where
  pub exists : level ≤ depth a
  pub kinds : kind_at a level ≡ kind_at b level
  pub digits : drop level a.digits ≡ drop level b.digits

-- this is the least level from which on two addresses of one depth agree
pub record IsLeastLevel (a b : Address) (level : ℕ) : Type 0 where
  pub one_depth : depth a ≡ depth b
  pub agree : AgreeFrom a b level
  pub least : (lower : ℕ) → lower < level → AgreeFrom a b lower → ⊥

-- the least level from which on two addresses agree; none if their depths differ, or if they agree at no
-- level
abbrev pub IsCommonLevel : Address → Address → Option ℕ → Type 0
IsCommonLevel a b (Some level) = IsLeastLevel a b level
IsCommonLevel a b None = depth a ≡ depth b → (level : ℕ) → AgreeFrom a b level → ⊥
