use Rattle.std.proofs.Common.{◌<◌, sym, subst, arith}
use Rattle.std.proofs.lemmas.Grind.{elements}
use Rattle.listing_text.specs.declared.entry.Entry.{Entry}
use Rattle.tile_shape.specs.Views.{address_of}
use Rattle.list_verify.specs.LineIndex.{HasAddress, Indexes}
use Rattle.list_verify.proofs.Chains.{get_or-at}
use Rattle.list_verify.proofs.line_index.LineIndex.add.Goals as goal

pub returns-clause-new : goal.returns-clause-new
returns-clause-new c e at j below has = absurd (c.in_default.ensures.none j
    (subst (λ n. j < n) (sym c.requires.index.many) below)
    (subst (λ (x : Entry). HasAddress c.args.lines.now j (address_of x.address)) (sym (get_or-at c.args.lines.now c.args.line e _ at)) has))

pub find_from-requires-clause-index : goal.find_from-requires-clause-index
find_from-requires-clause-index c = subst (Indexes c.args.self.now c.args.lines.now) (sym c.requires.index.many) c.requires.index

pub find_from-requires-clause-first : goal.find_from-requires-clause-first
find_from-requires-clause-first c = grind (arith, elements)

pub returns-in-Some-clause-double : goal.returns-in-Some-clause-double
returns-in-Some-clause-double c = grind (arith, elements)
