use Rattle.std.proofs.Common.{◌≡◌, ◌+◌, ◌∙◌, ap, arith}
use Rattle.std.proofs.lemmas.List.Elements.{All-push}
use Rattle.layer_api.specs.Drawable.{IsNear}
use Rattle.trial_layers.proofs.tiles.outline.Goals as goal

pub loop-point-preserved : goal.loop-point-preserved
loop-point-preserved c =
    let before = c.loop-point.invariant in (
      c.push.ensures.len ∙ ap (λ n. n + 1) before.0,
      rw c.push.ensures.items
          (All-push (IsNear c.args.order) c.loop-point.outline.items c.near.result before.1 c.near.ensures),
    )
