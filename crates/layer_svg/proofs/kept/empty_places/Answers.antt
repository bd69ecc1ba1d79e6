use Rattle.std.proofs.lemmas.List.Elements.{All-push, All-same}
use Rattle.layer_svg.specs.Kept.{IsTextKept}
use Rattle.layer_svg.proofs.kept.empty_places.Goals as goal

pub loop-preserved : goal.loop-preserved
loop-preserved c = λ v. All-same (IsTextKept v) _ _ c.in_ok-push.ensures.items
    (All-push (IsTextKept v) c.loop.places.items c.none.result (c.loop.invariant v) (c.none.ensures v))
