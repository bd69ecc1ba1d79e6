use Rattle.std.proofs.lemmas.Nat.{or_lt}
use Rattle.cyclo_points.proofs.Shorts.{within-of_read, read-within, first_below, second_below}
use Rattle.cyclo_points.proofs.short.offsets.Goals as goal

pub returns-clause-only_short : goal.returns-clause-only_short
returns-clause-only_short c =
    let r = c.args.r.now in
    let i = c.requires.r_within in
    let x = c.offset in
    let y = c.offset-2 in
    λ h. record {
      at_a = within-of_read _ r.a i.at_a (x.ensures.only_short (first_below _ x.result y.result h));
      at_b = within-of_read _ r.b i.at_b (y.ensures.only_short (second_below _ x.result y.result h));
    }

pub returns-clause-all_short : goal.returns-clause-all_short
returns-clause-all_short c =
    let r = c.args.r.now in
    let i = c.requires.r_within in
    let x = c.offset in
    let y = c.offset-2 in
    λ h. or_lt 26 x.result y.result (x.ensures.all_short (read-within _ r.a i.at_a h.at_a)) (y.ensures.all_short (read-within _ r.b i.at_b h.at_b))
