-- What contracts see of a layer that draws a picture.
use Rattle.std.specs.Prelude.{ℕ, Bool, List}
use Rattle.layer_api.specs.declared.view.View.{View}

-- the view, whether the layer has begun and ended, and the text written so far
pub record Picture : Type 0 where
  pub view : View
  pub begun : Bool
  pub ended : Bool
  pub text : List ℕ
