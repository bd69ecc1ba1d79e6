-- The status of a gluing that ended.
use Rattle.std.proofs.Common.{◌≡◌, ◌⊎◌, inl, inr, ℕ, Err, IsOk, sym, ap, ◌∙◌}
use Rattle.std.specs.Prelude.{Result}
use Rattle.half_glue.specs.declared.glue_fault.GlueFault.{GlueFault}
use Rattle.half_glue.specs.declared.glue_fault.GlueFault.TheVariants.{DepthLimit, CoordLimit, NoMemory}
use Rattle.tile_app.proofs.Covering.{fault-or_ok}
use Rattle.c_values.specs.Statuses.{ok, bad_words, bad_address, no_memory}
use Rattle.rule_model.specs.Tiling.{Tiling}
use Rattle.theory_walks.specs.Frames.{FrameValue}
use Rattle.plane_geom.specs.declared.window.Window.{Window}
use Rattle.tiling_c.specs.Glue.{EndsWholes, code_of_glue}
use Rattle.tiling_c.proofs.Covers.{ends_not_ok, ends_not_words, ends_not_address}

-- if only out of memory may end it, that is its status
pub glue_ended_within : {T : Type 0} (r : Result T GlueFault) (fault : GlueFault) (status : ℕ) → r ≡ Err fault → status ≡ code_of_glue fault
    → (r ≡ Err NoMemory) ⊎ IsOk r → status ≡ no_memory
glue_ended_within r fault status e is answered = is ∙ ap code_of_glue (fault-or_ok NoMemory r fault e answered)

-- no fault has the status of bad words or of a bad address
pub glue_never_words : (fault : GlueFault) (status : ℕ) → status ≡ code_of_glue fault → ¬ status ≡ bad_words
glue_never_words (DepthLimit addr edge) status is e = absurd (cc (sym is ∙ e))
glue_never_words (CoordLimit value) status is e = absurd (cc (sym is ∙ e))
glue_never_words NoMemory status is e = absurd (cc (sym is ∙ e))

pub glue_never_address : (fault : GlueFault) (status : ℕ) → status ≡ code_of_glue fault → ¬ status ≡ bad_address
glue_never_address (DepthLimit addr edge) status is e = absurd (cc (sym is ∙ e))
glue_never_address (CoordLimit value) status is e = absurd (cc (sym is ∙ e))
glue_never_address NoMemory status is e = absurd (cc (sym is ∙ e))

-- nor that of an answer
pub glue_never_ok : (fault : GlueFault) (status : ℕ) → status ≡ code_of_glue fault → ¬ status ≡ ok
glue_never_ok (DepthLimit addr edge) status is e = absurd (cc (sym is ∙ e))
glue_never_ok (CoordLimit value) status is e = absurd (cc (sym is ∙ e))
glue_never_ok NoMemory status is e = absurd (cc (sym is ∙ e))

-- so neither the search nor the gluing ends with any of them
module _ (t : Tiling) (start : FrameValue) (window : Window) (status : ℕ) where
  pub wholes_not_ok : EndsWholes t start window status → ¬ status ≡ ok
  wholes_not_ok (inl x) = ends_not_ok t start window status x
  wholes_not_ok (inr x) = glue_never_ok x.ended.fault status x.ended.is_status

  pub wholes_not_words : EndsWholes t start window status → ¬ status ≡ bad_words
  wholes_not_words (inl x) = ends_not_words t start window status x
  wholes_not_words (inr x) = glue_never_words x.ended.fault status x.ended.is_status

  pub wholes_not_address : EndsWholes t start window status → ¬ status ≡ bad_address
  wholes_not_address (inl x) = ends_not_address t start window status x
  wholes_not_address (inr x) = glue_never_address x.ended.fault status x.ended.is_status
