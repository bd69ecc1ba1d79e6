use Rattle.std.proofs.Common.{◌≡◌, ◌∙◌, ◌<◌, inl, inr, ℕ, length, map, take, get_or, Some, [], ap, subst, arith}
use Rattle.std.specs.List.{slice_get}
use Rattle.std.proofs.Math.ListN.{get_or-map}
use Rattle.std.proofs.lemmas.List.{length-map, drop_all}
use Rattle.std.proofs.lemmas.Option.{slice_get-get_or}
use Rattle.theory_addresses.specs.Search.{IsAmong}
use Rattle.theory_addresses.proofs.Ranges.{slice_get-image}
use Rattle.pair_machine.specs.declared.edge_pair.EdgePair.{EdgePair}
use Rattle.pair_machine.specs.Between.{Pair}
use Rattle.pair_machine.specs.Views.{as_pair}
use Rattle.pair_machine.proofs.InOrder.{behind_at}
use Rattle.pair_machine.proofs.Places.{read-among, among-take_more}
use Rattle.pair_machine.proofs.partners.place_for.Goals as goal

abbrev none : EdgePair
none = record { mine = 0; theirs = 0 }

pub returns-then-next-mine-clause-stands : goal.returns-then-next-mine-clause-stands
returns-then-next-mine-clause-stands c = (
  as_pair (get_or c.args.pairs.now c.loop-place.place none),
  read-among as_pair c.args.pairs.now c.loop-place.place none c.loop-place-test.true,
  c.if-next-mine.true,
)

pub returns-then-mine-next-clause-belongs : goal.returns-then-mine-next-clause-belongs
returns-then-mine-next-clause-belongs c =
    let at : slice_get (map as_pair c.args.pairs.now) c.loop-place.place ≡ Some (as_pair (get_or c.args.pairs.now c.loop-place.place none)) =
    slice_get-image as_pair (get_or c.args.pairs.now c.loop-place.place none) c.args.pairs.now
    c.loop-place.place (slice_get-get_or c.args.pairs.now c.loop-place.place none
    c.loop-place-test.true) in
    record {
      within = omega (arith, length-map c.args.pairs.now as_pair, c.loop-place-test.true);
      before = c.loop-place.invariant;
      behind = behind_at (map as_pair c.args.pairs.now) c.loop-place.place c.args.mine
          (as_pair (get_or c.args.pairs.now c.loop-place.place none)) c.requires.in_order at
          c.if-mine-next.true;
    }

pub loop-place-preserved : goal.loop-place-preserved
loop-place-preserved c = λ p i.
    elim (among-take_more (map as_pair c.args.pairs.now) c.loop-place.place (as_pair none) p
    (omega (arith, length-map c.args.pairs.now as_pair, c.loop-place-test.true)) i) [
      | inl j ↦ c.loop-place.invariant p j
      | inr e ↦
          let same : p.mine ≡ (get_or c.args.pairs.now c.loop-place.place none).mine = ap
          (λ (q : Pair). q.mine) (e ∙ get_or-map as_pair c.args.pairs.now c.loop-place.place none) in
          omega (arith, same, c.if-mine-next.false, c.if-next-mine.false)
    ]

pub returns-clause-belongs : goal.returns-clause-belongs
returns-clause-belongs c =
    let end : c.loop-place.place ≡ length c.args.pairs.now = omega (arith, c.loop-place.auto.place-end, c.loop-place-test.false) in
    record {
      within = omega (arith, length-map c.args.pairs.now as_pair);
      before = subst (λ (n : ℕ). (p : Pair) → IsAmong p (take n (map as_pair c.args.pairs.now)) → p.mine < c.args.mine) end c.loop-place.invariant;
      behind = λ p i. let j : IsAmong p [] = subst (IsAmong p)
          (drop_all (length c.args.pairs.now) (map as_pair c.args.pairs.now)
          (omega (arith, length-map c.args.pairs.now as_pair))) i in elim j [ ];
    }
