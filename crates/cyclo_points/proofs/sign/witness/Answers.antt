use Rattle.std.specs.Int.{w64}
use Rattle.std.proofs.Common.{◌≡◌, pos, int_cmp, sym, ◌∙◌, ap}
use Rattle.cyclo_points.specs.Witness.{witness_in}
use Rattle.cyclo_points.proofs.Reals.{in_either, reading, sign_at}
use Rattle.cyclo_points.proofs.ShortWitness.{sign-witness, read_eight, read_ten, read_part}
use Rattle.cyclo_points.proofs.sign.witness.Goals as goal

pub returns-in-Four-clause-same_sign : goal.returns-in-Four-clause-same_sign
returns-in-Four-clause-same_sign c =
    let e = ap (λ x. int_cmp x (pos 0)) (sym (read_part c.args.a c.requires.a_within)) in
    in_either (λ o. sign_at o c.args.a c.args.b ≡ int_cmp (reading w64 c.args.a) (pos 0)) c.args.order c.in-Four.is e e

pub returns-in-Eight-clause-value : goal.returns-in-Eight-clause-value
returns-in-Eight-clause-value c = read_eight c.args.a c.args.b c.requires.a_within c.requires.b_within
    ∙ ap (λ o. witness_in o c.args.a c.args.b) (sym c.in-Eight.is)

pub returns-in-Eight-clause-same_sign : goal.returns-in-Eight-clause-same_sign
returns-in-Eight-clause-same_sign c =
    sign-witness c.args.order c.args.a c.args.b c.requires.a_within c.requires.b_within
    ∙ ap (λ x. int_cmp x (pos 0)) (ap (λ o. witness_in o c.args.a c.args.b) c.in-Eight.is
    ∙ sym (read_eight c.args.a c.args.b c.requires.a_within c.requires.b_within))

pub returns-in-Ten-clause-value : goal.returns-in-Ten-clause-value
returns-in-Ten-clause-value c = read_ten c.args.a c.args.b c.requires.a_within c.requires.b_within
    ∙ ap (λ o. witness_in o c.args.a c.args.b) (sym c.in-Ten.is)

pub returns-in-Ten-clause-same_sign : goal.returns-in-Ten-clause-same_sign
returns-in-Ten-clause-same_sign c =
    sign-witness c.args.order c.args.a c.args.b c.requires.a_within c.requires.b_within
    ∙ ap (λ x. int_cmp x (pos 0)) (ap (λ o. witness_in o c.args.a c.args.b) c.in-Ten.is
    ∙ sym (read_ten c.args.a c.args.b c.requires.a_within c.requires.b_within))
