use Rattle.std.proofs.Common.{◌≡◌, length, sym, ap, ◌∙◌, arith}
use Rattle.std.specs.Cmp.Rules.{signed_items}
use Rattle.cyclo_points.specs.declared.point.Point.{Point}
use Rattle.tile_place.proofs.SamePoint.{same_coefficients}
use Rattle.list_verify.proofs.same_motion.is_same_shift.Goals as goal

pub returns-clause-same : goal.returns-clause-same
returns-clause-same c =
    let p = c.args.p.now in
    let q = c.args.q.now in
    let test = signed_items p.c q.c in (
      λ h. let same : p.c ≡ q.c = test.0 (sym c.eq.ensures ∙ h) in λ i. record { c = same i },
      λ e. c.eq.ensures ∙ test.1 (ap (λ (m : Point). m.c) e),
    )

pub returns-clause-otherwise : goal.returns-clause-otherwise
returns-clause-otherwise c other o f g e =
    let p = c.args.p.now in
    let q = c.args.q.now in
    let l : length p.c ≡ 4 = omega arith in
    let m : length q.c ≡ 4 = omega arith in
    let same : p.c ≡ q.c = same_coefficients o p q l m f g e in
    let yes = c.eq.ensures ∙ (signed_items p.c q.c).1 same in
    absurd (cc (other, yes))
