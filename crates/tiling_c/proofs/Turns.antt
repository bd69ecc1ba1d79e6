-- The statuses of a turn round a vertex.
use Rattle.std.proofs.Common.{◌≡◌, ◌⊎◌, inl, inr, ℕ, sym, ◌∙◌, arith}
use Rattle.star_walk.specs.declared.star_fault.StarFault.{StarFault}
use Rattle.star_walk.specs.declared.star_fault.StarFault.TheVariants.{DepthLimit, TooBig}
use Rattle.c_values.specs.Statuses.{ok, bad_address, depth_limit, no_vertex, star_too_big}
use Rattle.tiling_c.specs.Star.{code_of_star}

-- no fault has the status of an answer
pub turn_not_ok : (fault : StarFault) (status : ℕ) → status ≡ code_of_star fault → ¬ status ≡ ok
turn_not_ok (DepthLimit addr edge) status is e = absurd (cc (sym is ∙ e))
turn_not_ok TooBig status is e = absurd (cc (sym is ∙ e))

-- nor that of numbers that are refused before
pub turn_not_address : (fault : StarFault) (status : ℕ) → status ≡ code_of_star fault → ¬ status ≡ bad_address
turn_not_address (DepthLimit addr edge) status is e = absurd (cc (sym is ∙ e))
turn_not_address TooBig status is e = absurd (cc (sym is ∙ e))

pub turn_not_vertex : (fault : StarFault) (status : ℕ) → status ≡ code_of_star fault → ¬ status ≡ no_vertex
turn_not_vertex (DepthLimit addr edge) status is e = absurd (omega (arith, is, e))
turn_not_vertex TooBig status is e = absurd (omega (arith, is, e))

-- a fault has one of two statuses
pub turn_status : (fault : StarFault) (status : ℕ) → status ≡ code_of_star fault → (status ≡ depth_limit) ⊎ (status ≡ star_too_big)
turn_status (DepthLimit addr edge) status is = inl is
turn_status TooBig status is = inr is
