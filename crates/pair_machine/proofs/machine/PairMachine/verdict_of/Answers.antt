use Rattle.std.proofs.Common.{◌∙◌, map, sym, subst, ap, arith}
use Rattle.std.proofs.lemmas.Grind.{common_steps}
use Rattle.tile_shape.specs.Views.{address_of}
use Rattle.theory_addresses.specs.Coherent.{IsCoherent}
use Rattle.pair_machine.specs.Between.{IsBetween, IsInOrder}
use Rattle.pair_machine.specs.Views.{as_pair}
use Rattle.pair_machine.proofs.OneLevel.{between_of}
use Rattle.pair_machine.proofs.machine.PairMachine.verdict_of.Goals as goal

pub returns-then-are_none : goal.returns-then-are_none
returns-then-are_none c =
    let coherent : IsCoherent c.args.self.now = rw (← c.self.view_is) c.self.invariant.coherent in
    let none = c.are_none.ensures.0 c.if-are_none.true in
    let between : IsBetween c.args.self.now (address_of c.args.a.now) (address_of c.args.b.now) c.read-partners.result =
    between_of c.args.self.now (address_of c.args.a.now) (address_of c.args.b.now) c.read-partners.result
    coherent c.requires.fits_a c.requires.fits_b (subst IsInOrder (sym none) tt)
    c.read-partners.ensures in (
      c.have_common.ensures.0 c.if-not-have_common.false,
      λ same. let yes = c.are_same.ensures.1 same in absurd cc,
      subst (IsBetween c.args.self.now (address_of c.args.a.now) (address_of c.args.b.now)) none between,
    )

pub returns : goal.returns
returns c =
    let coherent : IsCoherent c.args.self.now = rw (← c.self.view_is) c.self.invariant.coherent in
    let between : IsBetween c.args.self.now (address_of c.args.a.now) (address_of c.args.b.now) c.read-partners.result =
    between_of c.args.self.now (address_of c.args.a.now) (address_of c.args.b.now) c.read-partners.result
    coherent c.requires.fits_a c.requires.fits_b c.into_pairs-pairs.ensures.in_order
    c.read-partners.ensures in (
      c.have_common.ensures.0 c.if-not-have_common.false,
      λ same. let yes = c.are_same.ensures.1 same in absurd cc,
      subst (IsBetween c.args.self.now (address_of c.args.a.now) (address_of c.args.b.now)) (sym c.into_pairs-pairs.ensures.pairs) between,
      λ none. let yes = c.are_none.ensures.1 (sym c.into_pairs-pairs.ensures.pairs ∙ ap (map as_pair) none) in absurd cc,
    )

pub returns-then-not-have_common : goal.returns-then-not-have_common
returns-then-not-have_common c = grind (arith, common_steps)

pub returns-then-are_same : goal.returns-then-are_same
returns-then-are_same c = grind (arith, common_steps)
