use Rattle.std.proofs.Common.{◌≡◌, ℕ, ◌<◌, true, nat_eq, get_or}
use Rattle.listing_text.proofs.line.cut.Given as goal

-- no mark stands before the place
abbrev pub invariant-loop-place : goal.invariant-loop-place
invariant-loop-place l = (k : ℕ) → k < l.place → nat_eq (get_or l.text k 0) l.mark ≡ true → ⊥
