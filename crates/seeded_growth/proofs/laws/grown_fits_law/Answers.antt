use Rattle.seeded_growth.specs.Words.{word}
use Rattle.seeded_growth.proofs.Onward.{grown_fits}
use Rattle.seeded_growth.proofs.laws.grown_fits_law.Goals as goal

pub returns : goal.returns
returns c = λ children base start n u h.
    grown_fits children (word start) (λ kind k. c.uses_law.ensures.some children kind u k)
    (λ kind i s e. c.uses_law.ensures.child children kind i s e) base n h
