use Rattle.std.proofs.Common.{◌≡◌, ◌∙◌, ◌<◌, ℕ, arith, subst, sym, ap, List, ◌++◌, length, map, take, get_or}
use Rattle.std.proofs.Math.ListN.{get_or-map}
use Rattle.std.proofs.Math.Seq.{take-length}
use Rattle.std.proofs.lemmas.List.{length-map}
use Rattle.tile_shape.specs.Views.{step_of}
use Rattle.theory_addresses.specs.Search.{IsAmong}
use Rattle.pair_machine.specs.declared.edge_pair.EdgePair.{EdgePair}
use Rattle.pair_machine.specs.Between.{Pair}
use Rattle.pair_machine.specs.Kept.{ArePairsKept, IsFunctional}
use Rattle.pair_machine.specs.Nodes.{row_of}
use Rattle.pair_machine.specs.Reading.{step_pairs, left_of, node_of}
use Rattle.pair_machine.specs.Views.{as_pair, as_row_pair}
use Rattle.pair_machine.proofs.OneLevel.{start_fresh, start_plain}
use Rattle.pair_machine.proofs.Levels.{read_more, row_edge_small}
use Rattle.pair_machine.proofs.Places.{read-among}
use Rattle.pair_machine.proofs.machine.PairMachine.read_digits.Goals as goal
use Rattle.pair_machine.proofs.machine.PairMachine.read_digits.Goals.{then-fresh, else-fresh}

abbrev none : EdgePair
none = record { mine = 0; theirs = 0 }

pub loop-pair-init : goal.loop-pair-init
loop-pair-init c = elim c.if-fresh.branch [
  | then-fresh w ↦ rw w.partners-is (start_fresh c.args.self.now (step_of c.args.x) (step_of c.args.y)
      c.args.fresh w.of_children-partners.result w.if-fresh.true
      (rw (← c.self.view_is) w.of_children-partners.ensures))
  | else-fresh w ↦ rw w.partners-is (start_plain c.args.self.now (step_of c.args.x) (step_of c.args.y)
      c.args.fresh c.none-partners.result w.if-fresh.false c.none-partners.ensures)
]

pub row-row-requires : goal.row-row-requires
row-row-requires c =
    let p = as_pair (get_or c.as_slice-pair-items.result.now c.loop-pair.pair-index none) in
    let i : IsAmong p (map as_pair c.as_slice-pair-items.result.now) = read-among as_pair
    c.as_slice-pair-items.result.now c.loop-pair.pair-index none c.loop-pair-test.true in
    record { node = c.requires.nodes p (subst (IsAmong p) c.as_slice-pair-items.ensures i) }

pub keep_row-requires : goal.keep_row-requires
keep_row-requires c =
    let p = as_pair (get_or c.as_slice-pair-items.result.now c.loop-pair.pair-index none) in
    record {
      edges = λ pair i.
          let j : IsAmong pair (row_of c.args.self.now (node_of (step_of c.args.x) (step_of c.args.y) p)) = rw
          (← c.row-row.ensures.row, ← c.deref.ensures.value) i in
          row_edge_small c.args.self.now (node_of (step_of c.args.x) (step_of c.args.y) p) pair c.row-row.ensures.coherent j;
    }

pub loop-pair-preserved : goal.loop-pair-preserved
loop-pair-preserved c =
    let p = as_pair (get_or c.as_slice-pair-items.result.now c.loop-pair.pair-index none) in
    let row : map as_row_pair c.deref.result.now ≡ row_of c.args.self.now
    (node_of (step_of c.args.x) (step_of c.args.y) p) = rw c.deref.ensures.value c.row-row.ensures.row in
    let more : (ps : List Pair) → ArePairsKept c.loop-pair.partners ps
    → IsFunctional (ps ++ left_of (row_of c.args.self.now (node_of (step_of c.args.x) (step_of c.args.y) p)) c.args.x.child c.args.y.child)
    → ArePairsKept c.keep_row.new.self (ps ++ left_of
    (row_of c.args.self.now (node_of (step_of c.args.x) (step_of c.args.y) p)) c.args.x.child
    c.args.y.child) = rw (← row) c.keep_row.ensures in
    let inside : c.loop-pair.pair-index < length c.args.above.now =
    omega (arith, ap length c.as_slice-pair-items.ensures, length-map c.as_slice-pair-items.result.now as_pair, c.loop-pair-test.true) in
    let at : get_or c.args.above.now c.loop-pair.pair-index (as_pair none) ≡ p =
    ap (λ (l : List Pair). get_or l c.loop-pair.pair-index (as_pair none)) (sym c.as_slice-pair-items.ensures)
    ∙ get_or-map as_pair c.as_slice-pair-items.result.now c.loop-pair.pair-index none in
    read_more c.args.self.now (step_of c.args.x) (step_of c.args.y) c.args.fresh c.args.above.now
    c.loop-pair.partners c.keep_row.new.self c.loop-pair.pair-index (as_pair none) p
    inside at c.requires.functional c.loop-pair.invariant more

pub returns : goal.returns
returns c =
    let end : c.loop-pair.pair-index ≡ length c.args.above.now = omega (
      arith,
      ap length c.as_slice-pair-items.ensures,
      length-map c.as_slice-pair-items.result.now as_pair,
      c.loop-pair-test.false,
    ) in
    subst (λ (l : List Pair). ArePairsKept c.loop-pair.partners (step_pairs c.args.self.now (step_of c.args.x) (step_of c.args.y) c.args.fresh l))
    (ap (λ (n : ℕ). take n c.args.above.now) end ∙ take-length c.args.above.now) c.loop-pair.invariant
