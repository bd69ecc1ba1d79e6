-- The status of a search that ended.
use Rattle.std.proofs.Common.{◌≡◌, ◌⊎◌, ℕ, Err, IsOk, sym, ap, ◌∙◌}
use Rattle.std.specs.Prelude.{Result}
use Rattle.window_cover.specs.declared.cover_fault.CoverFault.{CoverFault}
use Rattle.window_cover.specs.declared.cover_fault.CoverFault.TheVariants.{DepthLimit, CoordLimit, TooManyTiles, NoMemory}
use Rattle.tile_app.proofs.Covering.{fault-or_ok}
use Rattle.c_values.specs.Statuses.{ok, bad_words, bad_address, no_memory}
use Rattle.rule_model.specs.Tiling.{Tiling}
use Rattle.theory_walks.specs.Frames.{FrameValue}
use Rattle.plane_geom.specs.declared.window.Window.{Window}
use Rattle.tiling_c.specs.Cover.{EndsCover, status_of}

-- where want of memory alone may end it, that is its status
pub ended_within : {T : Type 0} (r : Result T CoverFault) (fault : CoverFault) (status : ℕ) → r ≡ Err fault → status ≡ status_of fault
    → (r ≡ Err NoMemory) ⊎ IsOk r → status ≡ no_memory
ended_within r fault status e is answered = is ∙ ap status_of (fault-or_ok NoMemory r fault e answered)

-- no fault has the status of bad words or of a bad address
pub never_words : (fault : CoverFault) (status : ℕ) → status ≡ status_of fault → ¬ status ≡ bad_words
never_words (DepthLimit addr edge) status is e = absurd (cc (sym is ∙ e))
never_words (CoordLimit value) status is e = absurd (cc (sym is ∙ e))
never_words TooManyTiles status is e = absurd (cc (sym is ∙ e))
never_words NoMemory status is e = absurd (cc (sym is ∙ e))

pub never_address : (fault : CoverFault) (status : ℕ) → status ≡ status_of fault → ¬ status ≡ bad_address
never_address (DepthLimit addr edge) status is e = absurd (cc (sym is ∙ e))
never_address (CoordLimit value) status is e = absurd (cc (sym is ∙ e))
never_address TooManyTiles status is e = absurd (cc (sym is ∙ e))
never_address NoMemory status is e = absurd (cc (sym is ∙ e))

-- nor is its status that of an answer
pub never_ok : (fault : CoverFault) (status : ℕ) → status ≡ status_of fault → ¬ status ≡ ok
never_ok (DepthLimit addr edge) status is e = absurd (cc (sym is ∙ e))
never_ok (CoordLimit value) status is e = absurd (cc (sym is ∙ e))
never_ok TooManyTiles status is e = absurd (cc (sym is ∙ e))
never_ok NoMemory status is e = absurd (cc (sym is ∙ e))

-- so the search doesn't end with any of them
module _ (t : Tiling) (start : FrameValue) (window : Window) (status : ℕ) (x : EndsCover t start window status) where
  pub ends_not_ok : ¬ status ≡ ok
  ends_not_ok = never_ok x.fault status x.is_status

  pub ends_not_words : ¬ status ≡ bad_words
  ends_not_words = never_words x.fault status x.is_status

  pub ends_not_address : ¬ status ≡ bad_address
  ends_not_address = never_address x.fault status x.is_status
