use Rattle.cyclo_points.specs.Order.{points_of}
use Rattle.list_verify.proofs.OneVerdict.{accepted-usable, verdict}
use Rattle.list_verify.specs.OneVerdict.{tiling_accepted}
use Rattle.rule_model.specs.Tiling.{children}
use Rattle.list_verify.proofs.laws.one_verdict_law.Goals as goal

pub returns : goal.returns
returns c = λ T f w listing is fit.
    let o = c.args.order in
    verdict o T (λ base start n h. c.grown_fits_law.ensures (children (tiling_accepted o T)) base start n
    (accepted-usable (points_of o) T) h) c.list_laws.ensures f is w fit listing
