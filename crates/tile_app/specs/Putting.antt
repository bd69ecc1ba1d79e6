-- A layer before and after tiles are put into it.
use Rattle.std.specs.Prelude.{◌≡◌, Bool, List, [], IsTrue, IsFalse}
use Rattle.cyclo_points.specs.declared.order.Order.{Order}
use Rattle.layer_api.specs.declared.drawn.Drawn.{Drawn}
use Rattle.layer_api.specs.declared.format.Format.{Format}
use Rattle.layer_api.specs.declared.view.View.{View}

-- it has begun with a view of this order, and has no tiles yet
pub record CanTake {L : Type 0} (seen_by : L → View) (has_begun has_ended : L → Bool)
    (draws : L → List Drawn → Type 0) (order : Order) (layer : L) : Type 0 where
  pub begun : IsTrue (has_begun layer)
  pub going : IsFalse (has_ended layer)
  pub none : draws layer []
  pub its_order : (seen_by layer).order ≡ order

-- it has the format and the view that it had, and has not ended
pub record HasTaken {L : Type 0} (form_of : L → Format) (seen_by : L → View) (has_begun has_ended : L → Bool)
    (before after : L) : Type 0 where
  pub form : form_of after ≡ form_of before
  pub seen : seen_by after ≡ seen_by before
  pub begun : IsTrue (has_begun after)
  pub going : IsFalse (has_ended after)
