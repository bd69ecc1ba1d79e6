use Rattle.std.proofs.Common.{◌≡◌, ℕ, ◌<◌, length, drop, get_or, slice_get, IfSome}
use Rattle.tiling_c.specs.Glue.{ShowsWhole, no_whole}
use Rattle.tiling_c.proofs.glue.put_wholes.Given as goal

-- the whole tiles so far, and after them what was there
abbrev pub invariant-loop-place : goal.invariant-loop-place
invariant-loop-place l = record {
  room : length l.wholes ≡ length l.fn.wholes;
  each : (i : ℕ) → i < l.place → IfSome (slice_get l.glued i) (λ w. ShowsWhole w (get_or l.wholes i no_whole));
  behind : drop l.place l.wholes ≡ drop l.place l.fn.wholes;
}
