use Rattle.std.proofs.Common.{◌≡◌, List, ℕ, [], ◌∷◌, ◌++◌, map, take, Some, sym, ap, ◌∙◌, arith, rules}
use Rattle.std.proofs.lemmas.Grind.{common_steps}
use Rattle.std.specs.List.{slice_get}
use Rattle.theory_addresses.specs.Tables.{KindTables}
use Rattle.theory_addresses.proofs.Ranges.{slice_get-image}
use Rattle.edge_tables.specs.Views.{as_kind_tables}
use Rattle.transducer_core.proofs.Joining.{joined_more}
use Rattle.transducer_core.proofs.Standing.{mapped_at}
use Rattle.transducer_core.proofs.joined.join.Goals as goal

pub loop-sub-init : goal.loop-sub-init
loop-sub-init c = rw c.mates.ensures at (c.in_ok-add.ensures []
    (record {
      words_are = c.in_ok-with_capacity.ensures.items;
      ends_are = c.in_ok-with_capacity-2.ensures.items;
    }))

pub loop-sub-preserved : goal.loop-sub-preserved
loop-sub-preserved c =
    let at = mapped_at (λ v. v.items) c.subs-subs.result.now.items c.loop-sub.sub-index c.sub-item.result
    (rw (← c.deref-sub-items.ensures.value) c.loop-sub-test.true)
    (rw (← c.deref-sub-items.ensures.value) c.sub-item.is) in
    let there : slice_get c.args.tables.now.subs c.loop-sub.sub-index ≡ Some c.sub-item.result.items = ap
    (λ (l : List (List ℕ)). slice_get l c.loop-sub.sub-index) (sym c.subs-subs.ensures) ∙ at in
    joined_more (c.args.tables.now.mates ∷ []) c.args.tables.now.subs c.loop-sub.sub-index
    c.sub-item.result.items c.add-in-loop-sub.new.joined.items.items
    c.add-in-loop-sub.new.joined.ends.items there
    (c.in_ok-add-2.ensures ((c.args.tables.now.mates ∷ []) ++ take c.loop-sub.sub-index c.args.tables.now.subs) c.loop-sub.invariant)

pub loop-row-preserved : goal.loop-row-preserved
loop-row-preserved c =
    let kinds = c.args.tables.now.kinds in
    let at = mapped_at as_kind_tables c.rows-rows.result.now.items c.loop-row.row-index c.row-item.result
    (rw (← c.deref-row-items.ensures.value) c.loop-row-test.true)
    (rw (← c.deref-row-items.ensures.value) c.row-item.is) in
    let kind : slice_get kinds c.loop-row.row-index ≡ Some (as_kind_tables c.row-item.result) = ap
    (λ (l : List KindTables). slice_get l c.loop-row.row-index) (sym c.rows-rows.ensures.lists) ∙ at in
    let there = slice_get-image (λ (k : KindTables). k.types) (as_kind_tables c.row-item.result) kinds c.loop-row.row-index kind in
    let front : List (List ℕ) = c.args.tables.now.mates ∷ c.args.tables.now.subs in
    joined_more front (map (λ (k : KindTables). k.types) kinds) c.loop-row.row-index
    c.row-item.result.types.items c.add-in-loop-row.new.joined.items.items
    c.add-in-loop-row.new.joined.ends.items there
    (c.in_ok-add-3.ensures (front ++ take c.loop-row.row-index (map (λ (k : KindTables). k.types) kinds)) c.loop-row.invariant)

pub loop-row-2-preserved : goal.loop-row-2-preserved
loop-row-2-preserved c =
    let kinds = c.args.tables.now.kinds in
    let at = mapped_at as_kind_tables c.rows-rows.result.now.items c.loop-row-2.row-index
    c.row-item-in-loop-row-2.result (rw (← c.deref-row-items-2.ensures.value) c.loop-row-2-test.true)
    (rw (← c.deref-row-items-2.ensures.value) c.row-item-in-loop-row-2.is) in
    let kind : slice_get kinds c.loop-row-2.row-index ≡ Some (as_kind_tables c.row-item-in-loop-row-2.result)
    = ap (λ (l : List KindTables). slice_get l c.loop-row-2.row-index) (sym c.rows-rows.ensures.lists)
    ∙ at in
    let there = slice_get-image (λ (k : KindTables). k.children) (as_kind_tables c.row-item-in-loop-row-2.result) kinds c.loop-row-2.row-index kind in
    let front : List (List ℕ) = (c.args.tables.now.mates ∷ c.args.tables.now.subs) ++ map (λ (k : KindTables). k.types) kinds in
    joined_more front (map (λ (k : KindTables). k.children) kinds) c.loop-row-2.row-index
    c.row-item-in-loop-row-2.result.children.items c.add-in-loop-row-2.new.joined.items.items
    c.add-in-loop-row-2.new.joined.ends.items there
    (c.in_ok-add-4.ensures (front ++ take c.loop-row-2.row-index (map (λ (k : KindTables). k.children) kinds)) c.loop-row-2.invariant)

pub loop-row-2-init : goal.loop-row-2-init
loop-row-2-init c = grind (arith, common_steps)

pub returns : goal.returns
returns c = grind (arith, common_steps)

pub loop-row-init : goal.loop-row-init
loop-row-init c = grind (arith, common_steps)

pub returns-in_err-add-4 : goal.returns-in_err-add-4
returns-in_err-add-4 c = search rules fits 100

pub returns-in_err-add-3 : goal.returns-in_err-add-3
returns-in_err-add-3 c = search rules fits 100
