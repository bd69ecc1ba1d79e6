use Rattle.std.proofs.Common.{◌≡◌, ◌+◌, List, ℕ, ◌∷◌, [], ◌++◌, ◌≤◌, length, map, take, ap, ◌∙◌, refl, arith, length-append}
use Rattle.std.specs.List.{concat, flat_map}
use Rattle.std.proofs.lemmas.List.{take_all, length-map}
use Rattle.transducer_core.specs.Merging.{AreShort}
use Rattle.transducer_core.specs.RowBlocks.{blocks_of}
use Rattle.transducer_core.proofs.RowKept.{words_grown}
use Rattle.transducer_core.proofs.Keeping.{ends_length}
use Rattle.transducer_core.proofs.Once.{once_none}
use Rattle.transducer_core.proofs.Standing
use Rattle.transducer_core.proofs.Strides
use Rattle.transducer_core.proofs.merging.merge.Goals as goal

pub loop-row-init : goal.loop-row-init
loop-row-init c = record {
  blocks = [];
  kept_are = record { words_are = c.in_ok-with_capacity.ensures.items; ends_are = c.in_ok-with_capacity-2.ensures.items };
  places = [];
  stand = tt;
  spread = Strides.spread_none c.in_ok-starts.starts.items;
  size = omega (arith, ap (λ (l : List ℕ). length l) c.in_ok-starts.ensures.items);
  rows = refl;
  few_words = omega arith;
  few = omega arith;
  once = once_none;
}

pub place_row-requires-clause-few : goal.place_row-requires-clause-few
place_row-requires-clause-few c =
    let at = Standing.mapped_at (blocks_of c.args.which) c.args.rows.now.items c.loop-row.row-index
    c.row-item.result (rw (← c.deref-row-items.ensures.value) c.loop-row-test.true)
    (rw (← c.deref-row-items.ensures.value) c.row-item.is) in
    Standing.of_row (λ (row : List (List ℕ)). length row ≤ 16)
    (map (blocks_of c.args.which) c.args.rows.now.items) c.loop-row.row-index
    (blocks_of c.args.which c.row-item.result) at c.requires.small.few_in_each

pub place_row-requires-clause-short : goal.place_row-requires-clause-short
place_row-requires-clause-short c =
    let at = Standing.mapped_at (blocks_of c.args.which) c.args.rows.now.items c.loop-row.row-index
    c.row-item.result (rw (← c.deref-row-items.ensures.value) c.loop-row-test.true)
    (rw (← c.deref-row-items.ensures.value) c.row-item.is) in
    Standing.of_row AreShort (map (blocks_of c.args.which) c.args.rows.now.items) c.loop-row.row-index
    (blocks_of c.args.which c.row-item.result) at c.requires.small.short

pub place_row-requires-clause-room : goal.place_row-requires-clause-room
place_row-requires-clause-room c =
    let count = length-map c.args.rows.now.items (blocks_of c.args.which) in
    omega (
      arith,
      c.loop-row.invariant.few_words,
      ap (λ (l : List ℕ). length l)
          c.loop-row.invariant.kept_are.words_are,
      c.requires.small.few,
      count,
      c.loop-row-test.true,
      c.deref-row-items.ensures.len,
      ap (λ l. length l) c.deref-row-items.ensures.value,
    )

pub fill_row-requires : goal.fill_row-requires
fill_row-requires c =
    let at = Standing.mapped_at (blocks_of c.args.which) c.args.rows.now.items c.loop-row.row-index
    c.row-item.result (rw (← c.deref-row-items.ensures.value) c.loop-row-test.true)
    (rw (← c.deref-row-items.ensures.value) c.row-item.is) in
    let few = Standing.of_row (λ (row : List (List ℕ)). length row ≤ 16)
    (map (blocks_of c.args.which) c.args.rows.now.items) c.loop-row.row-index
    (blocks_of c.args.which c.row-item.result) at c.requires.small.few_in_each in
    record { short = omega (arith, few, c.block_count.ensures) }

pub loop-row-preserved : goal.loop-row-preserved
loop-row-preserved c =
    let rows : List (List (List ℕ)) = map (blocks_of c.args.which) c.args.rows.now.items in
    let row : List (List ℕ) = blocks_of c.args.which c.row-item.result in
    let done : List (List (List ℕ)) = take c.loop-row.row-index rows in
    let at = Standing.mapped_at (blocks_of c.args.which) c.args.rows.now.items c.loop-row.row-index
    c.row-item.result (rw (← c.deref-row-items.ensures.value) c.loop-row-test.true)
    (rw (← c.deref-row-items.ensures.value) c.row-item.is) in
    let next = Standing.take_at rows c.loop-row.row-index row at in
    let few = Standing.of_row (λ (r : List (List ℕ)). length r ≤ 16) rows c.loop-row.row-index row at c.requires.small.few_in_each in
    let i = c.loop-row.invariant in
    let p = c.in_ok-place_row.ensures i.blocks i.kept_are in
    let pad = c.in_ok-fill_row.ensures in
    let grown = words_grown i.blocks p.more c.loop-row.kept.words.items c.place_row.new.kept.ends.items
    c.place_row.new.kept.words.items i.kept_are.words_are p.kept_are in
    let before : Standing.RowsStand c.place_row.new.kept.words.items i.places done = rw grown
    (Standing.RowsStand-more c.loop-row.kept.words.items (concat p.more) i.places done i.stand) in
    let count = Standing.AllStand-length c.place_row.new.kept.words.items p.places row p.stand in
    let none = Standing.append-none row in
    let all : flat_map (λ (r : List (List ℕ)). r) (take (c.loop-row.row-index + 1) rows) ≡ flat_map (λ (r : List (List ℕ)). r) done ++ row =
    ap (flat_map (λ (r : List (List ℕ)). r)) next ∙ Standing.flat_map-append done (row ∷ [])
    ∙ ap (λ (x : List (List ℕ)). flat_map (λ (r : List (List ℕ)). r) done ++ x) none in
    record {
      blocks = i.blocks ++ p.more;
      kept_are = p.kept_are;
      places = i.places ++ p.places ∷ [];
      stand = rw next (Standing.RowsStand-push c.place_row.new.kept.words.items i.places done p.places row before p.stand);
      spread = Strides.spread_grown i.places p.places c.loop-row.starts.items c.place_row.new.starts.items
          c.fill_row.new.list.items pad.0 p.places_are pad.1 (omega (arith, i.size, i.rows)) i.spread;
      size = omega (
        arith,
        ap (λ (l : List ℕ). length l) p.places_are,
        ap (λ (l : List ℕ). length l) pad.1,
        length-append c.loop-row.starts.items p.places,
        length-append c.place_row.new.starts.items pad.0,
        pad.2,
        count,
        c.block_count.ensures,
        i.size,
      );
      rows = omega (arith, length-append i.places (p.places ∷ []), i.rows);
      few_words = omega (
        arith,
        ap (λ (l : List ℕ). length l) (Standing.concat-append i.blocks p.more),
        length-append (concat i.blocks) (concat p.more),
        p.short,
        few,
        i.few_words,
      );
      few = omega (arith, length-append i.blocks p.more, p.few, few, i.few);
      once = rw all (p.once (flat_map (λ (r : List (List ℕ)). r) done) i.once);
    }

pub overflow_cast-count : goal.overflow_cast-count
overflow_cast-count c =
    let count = length-map c.args.rows.now.items (blocks_of c.args.which) in
    let ends = ends_length 0 c.loop-row.invariant.blocks in
    omega (
      arith,
      c.loop-row.invariant.few,
      ends,
      ap (λ (l : List ℕ). length l)
          c.loop-row.invariant.kept_are.ends_are,
      c.requires.small.few,
      count,
      c.loop-row.auto.row-index-end,
      c.deref-row-items.ensures.len,
      ap (λ l. length l) c.deref-row-items.ensures.value,
      c.len-count.ensures,
    )

pub returns : goal.returns
returns c =
    let rows : List (List (List ℕ)) = map (blocks_of c.args.which) c.args.rows.now.items in
    let count = length-map c.args.rows.now.items (blocks_of c.args.which) in
    let i = c.loop-row.invariant in
    let whole = take_all c.loop-row.row-index rows
    (omega (arith, count, ap (λ l. length l) c.deref-row-items.ensures.value, c.loop-row-test.false)) in
    let stand = rw whole at i.stand in
    let once = rw whole at i.once in
    Standing.merged_of rows i.places c.loop-row.starts.items c.loop-row.kept.words.items i.blocks c.len-count.result
    stand i.spread once i.kept_are.words_are (omega (
      arith,
      ends_length 0 i.blocks,
      ap (λ (l : List ℕ). length l) i.kept_are.ends_are,
      c.len-count.ensures,
    ))
