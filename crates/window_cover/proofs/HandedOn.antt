-- How a search ends that hands on what another call answered.
use Rattle.std.proofs.Common.{◌≡◌, inr, ℕ, ◌≤◌, length, Result, Ok, Err, IfErr, refl, subst}
use Rattle.std.specs.Result.{IsErrAnd}
use Rattle.plane_geom.specs.declared.window.Window.{Window}
use Rattle.rule_model.specs.Tiling.{Tiling}
use Rattle.theory_walks.specs.Frames.{FrameValue, GrowsTo}
use Rattle.theory_walks.proofs.Outcomes.{if_err-is}
use Rattle.window_cover.specs.declared.cover_fault.CoverFault.{CoverFault}
use Rattle.window_cover.specs.declared.cover_fault.CoverFault.TheVariants.{NoMemory}
use Rattle.window_cover.specs.Causes.{HasCoverCause}
use Rattle.window_cover.specs.Ends.{CoversTo}
use Rattle.window_cover.specs.Windows.{IsLeastForWindow}
use Rattle.window_cover.proofs.Outcomes.{no_memory-on, only_memory}

-- with the same error
pub handed_on : {A B : Type 0} (t : Tiling) (f g : FrameValue) (w : Window) (r : Result A CoverFault) (s : Result B CoverFault)
    (fault : CoverFault) → r ≡ Err fault → IsErrAnd s (λ e. e ≡ fault) → CoversTo t f g w r → CoversTo t f g w s
handed_on t f g w r s fault is why h = record {
  frame = h.frame;
  not_beyond = h.not_beyond;
  answered = λ within. no_memory-on r s fault is why (h.answered within);
  cause = if_err-is (HasCoverCause t f g w) s fault why (subst (λ x. IfErr x (HasCoverCause t f g w)) is h.cause);
}

-- out of memory, with a frame that grew no further than is enough
pub out_of_memory : {A : Type 0} (t : Tiling) (f g : FrameValue) (w : Window) (s : Result A CoverFault) → IsErrAnd s (λ e. e ≡ NoMemory)
    → GrowsTo t f g → ((n : ℕ) → IsLeastForWindow t f w n → length g.digits ≤ n) → CoversTo t f g w s
out_of_memory t f g w s why grows enough = record {
  frame = grows;
  not_beyond = enough;
  answered = λ within. only_memory s why;
  cause = if_err-is (HasCoverCause t f g w) s NoMemory why tt;
}

-- with an answer
pub came_to : {A : Type 0} (t : Tiling) (f g : FrameValue) (w : Window) (x : A)
    → GrowsTo t f g → ((n : ℕ) → IsLeastForWindow t f w n → length g.digits ≤ n) → CoversTo t f g w (Ok x)
came_to t f g w x grows enough = record { frame = grows; not_beyond = enough; answered = λ within. inr refl; cause = tt }
