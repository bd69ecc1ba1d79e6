-- The texts of vertices that a picture keeps.
use Rattle.std.specs.Prelude.{◌≡◌, ◌-◌, ◌<◌, ◌≤◌, drop}
use Rattle.layer_api.specs.declared.view.View.{View}
use Rattle.layer_api.specs.SvgText.{vertex_text}
use Rattle.layer_svg.specs.declared.kept.Kept.{Kept}

-- the place is empty, or has the text of its vertex at its end
pub record IsTextKept (v : View) (k : Kept) : Type 0 where
  pub within : k.length ≤ 32
  pub text : 0 < k.length → drop (32 - k.length) k.text ≡ vertex_text v k.vertex
