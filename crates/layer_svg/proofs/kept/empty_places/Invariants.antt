use Rattle.std.proofs.Common.{All}
use Rattle.layer_api.specs.declared.view.View.{View}
use Rattle.layer_svg.specs.Kept.{IsTextKept}
use Rattle.layer_svg.proofs.kept.empty_places.Given as goal

abbrev pub invariant-loop : goal.invariant-loop
invariant-loop l = (v : View) → All (IsTextKept v) l.places.items
