use Rattle.std.proofs.Common.{[], ap, ◌∙◌, arith}
use Rattle.call_words.specs.PathWords.{path_in}
use Rattle.call_words.proofs.Pieces.{after_comma, after_other, at_end, refused_at_comma, path_refused, path_read}
use Rattle.call_words.proofs.path_word.path_in.Goals as goal
use Rattle.call_words.proofs.path_word.path_in.Goals.{then-bytes-place-eq44+else-not-put_edge, else-bytes-place-eq44}

pub loop-place-preserved : goal.loop-place-preserved
loop-place-preserved c = elim c.if-bytes-place-eq44.branch [
  | then-bytes-place-eq44+else-not-put_edge w ↦ record {
    begun = omega (arith, w.begin-is);
    within = rw w.path-is w.put_edge.ensures.room;
    same = rw (w.path-is, w.begin-is) (after_comma c.as_bytes-bytes.result.now c.loop-place.path.items
        w.put_edge.new.path.items c.loop-place.begin c.loop-place.place c.loop-place-test.true
        w.if-bytes-place-eq44.true
        (w.put_edge.ensures.read w.if-not-put_edge.false) c.loop-place.invariant.same);
  }
  | else-bytes-place-eq44 w ↦ record {
    begun = omega (arith, w.begin-is, c.loop-place.invariant.begun);
    within = rw w.path-is c.loop-place.invariant.within;
    same = rw (w.path-is, w.begin-is) (after_other c.as_bytes-bytes.result.now c.loop-place.path.items
        c.loop-place.begin c.loop-place.place c.loop-place.invariant.begun c.loop-place-test.true
        w.if-bytes-place-eq44.false
        c.loop-place.invariant.same);
  }
]

pub returns-then-not-put_edge : goal.returns-then-not-put_edge
returns-then-not-put_edge c =
    refused_at_comma c.as_bytes-bytes.result.now c.loop-place.path.items c.loop-place.begin c.loop-place.place
    c.loop-place-test.true c.if-bytes-place-eq44.true c.loop-place.invariant.same
    (c.put_edge.ensures.refused c.if-not-put_edge.true) ∙ ap path_in c.as_bytes-bytes.ensures.value

pub returns-then-not-put_edge-2 : goal.returns-then-not-put_edge-2
returns-then-not-put_edge-2 c =
    path_refused c.as_bytes-bytes.result.now c.loop-place.path.items c.loop-place.begin
    (at_end c.as_bytes-bytes.result.now c.loop-place.path.items c.loop-place.begin c.loop-place.place
    c.loop-place-test.false
    c.loop-place.invariant.begun c.loop-place.auto.place-end c.loop-place.invariant.same) (c.put_edge-2.ensures.refused c.if-not-put_edge-2.true [])
    ∙ ap path_in c.as_bytes-bytes.ensures.value

pub returns : goal.returns
returns c =
    path_read c.as_bytes-bytes.result.now c.loop-place.path.items c.put_edge-2.new.path.items
    c.loop-place.begin c.put_edge-2.ensures.room
    (at_end c.as_bytes-bytes.result.now c.loop-place.path.items c.loop-place.begin c.loop-place.place
    c.loop-place-test.false c.loop-place.invariant.begun c.loop-place.auto.place-end
    c.loop-place.invariant.same) (c.put_edge-2.ensures.read c.if-not-put_edge-2.false)
    ∙ ap path_in c.as_bytes-bytes.ensures.value
