use Rattle.std.proofs.Common.{◌≡◌, List, ℕ, Some, ap, arith, length}
use Rattle.std.specs.List.{slice_get}
use Rattle.std.proofs.lemmas.List.{take_all}
use Rattle.transducer_core.proofs.Keeping.{look, found, past_more, ends_length, read_index}
use Rattle.transducer_core.proofs.merging.find.Goals as goal

pub offset_bounds-words-begin : goal.offset_bounds-words-begin
offset_bounds-words-begin c =
    let t = c.requires.there in
    let at : slice_get c.args.ends.now c.loop-end.end-index ≡ Some c.from-end.result = read_index
    c.args.ends.now c.loop-end.end-index c.from-end.result c.loop-end-test.true c.from-end.ensures in
    let l = look t.0 t.1 c.args.words.now c.args.ends.now c.loop-end.begin c.args.last c.loop-end.end-index
    c.from-end.result t.2 (c.loop-end.invariant t.0 t.1 t.2) at in
    omega (arith, l.end_is, l.end_in, l.last_in, c.requires.room)

pub slice_bounds-same_words-count : goal.slice_bounds-same_words-count
slice_bounds-same_words-count c =
    let t = c.requires.there in
    let at : slice_get c.args.ends.now c.loop-end.end-index ≡ Some c.from-end.result = read_index
    c.args.ends.now c.loop-end.end-index c.from-end.result c.loop-end-test.true c.from-end.ensures in
    let l = look t.0 t.1 c.args.words.now c.args.ends.now c.loop-end.begin c.args.last c.loop-end.end-index
    c.from-end.result t.2 (c.loop-end.invariant t.0 t.1 t.2) at in
    omega (arith, l.end_is)

pub slice_bounds-same_words-start : goal.slice_bounds-same_words-start
slice_bounds-same_words-start c =
    let t = c.requires.there in
    let at : slice_get c.args.ends.now c.loop-end.end-index ≡ Some c.from-end.result = read_index
    c.args.ends.now c.loop-end.end-index c.from-end.result c.loop-end-test.true c.from-end.ensures in
    let l = look t.0 t.1 c.args.words.now c.args.ends.now c.loop-end.begin c.args.last c.loop-end.end-index
    c.from-end.result t.2 (c.loop-end.invariant t.0 t.1 t.2) at in
    omega (arith, l.end_is)

pub slice_bounds-same_words-end : goal.slice_bounds-same_words-end
slice_bounds-same_words-end c =
    let t = c.requires.there in
    let at : slice_get c.args.ends.now c.loop-end.end-index ≡ Some c.from-end.result = read_index
    c.args.ends.now c.loop-end.end-index c.from-end.result c.loop-end-test.true c.from-end.ensures in
    let l = look t.0 t.1 c.args.words.now c.args.ends.now c.loop-end.begin c.args.last c.loop-end.end-index
    c.from-end.result t.2 (c.loop-end.invariant t.0 t.1 t.2) at in
    omega (arith, l.end_in, l.last_in)

pub overflow_cast-result : goal.overflow_cast-result
overflow_cast-result c =
    let t = c.requires.there in
    let at : slice_get c.args.ends.now c.loop-end.end-index ≡ Some c.from-end.result = read_index
    c.args.ends.now c.loop-end.end-index c.from-end.result c.loop-end-test.true c.from-end.ensures in
    let l = look t.0 t.1 c.args.words.now c.args.ends.now c.loop-end.begin c.args.last c.loop-end.end-index
    c.from-end.result t.2 (c.loop-end.invariant t.0 t.1 t.2) at in
    omega (arith, l.end_is, l.end_in, l.last_in, c.requires.room)

pub returns-then-same_words-clause-stands : goal.returns-then-same_words-clause-stands
returns-then-same_words-clause-stands c = λ kept block h.
    let at : slice_get c.args.ends.now c.loop-end.end-index ≡ Some c.from-end.result = read_index
    c.args.ends.now c.loop-end.end-index c.from-end.result c.loop-end-test.true c.from-end.ensures in
    let past = c.loop-end.invariant kept block h in
    let l = look kept block c.args.words.now c.args.ends.now c.loop-end.begin c.args.last c.loop-end.end-index c.from-end.result h past at in
    found kept block c.args.words.now c.loop-end.begin c.args.last c.loop-end.end-index c.from-end.result past
    l (c.same_words.ensures.0 c.if-same_words.true)

pub loop-end-preserved : goal.loop-end-preserved
loop-end-preserved c = λ kept block h.
    let at : slice_get c.args.ends.now c.loop-end.end-index ≡ Some c.from-end.result = read_index
    c.args.ends.now c.loop-end.end-index c.from-end.result c.loop-end-test.true c.from-end.ensures in
    let past = c.loop-end.invariant kept block h in
    let l = look kept block c.args.words.now c.args.ends.now c.loop-end.begin c.args.last c.loop-end.end-index c.from-end.result h past at in
    past_more kept block c.args.words.now c.loop-end.begin c.args.last c.loop-end.end-index c.from-end.result
    past l (λ equal. let yes = c.same_words.ensures.1 equal in absurd (cc (yes, c.if-same_words.false)))

pub returns-clause-none : goal.returns-clause-none
returns-clause-none c = λ kept block h among.
    let whole = take_all c.loop-end.end-index kept
    (omega (
      arith,
      ends_length 0 kept,
      ap (λ (l : List ℕ). length l) h.ends_are,
      c.loop-end-test.false,
    )) in
    (c.loop-end.invariant kept block h).fresh (rw whole among)

pub loop-end-init : goal.loop-end-init
loop-end-init c = omega arith
