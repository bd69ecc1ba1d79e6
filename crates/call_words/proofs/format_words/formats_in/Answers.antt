use Rattle.std.proofs.Common.{rules, ◌≡◌, ℕ, List, true, [], sym, ap, ◌∙◌}
use lib.Utf8.{scalars, encodes}
use Rattle.call_words.specs.FormatWords.{formats_behind}
use Rattle.tile_shape.specs.Text.{comma}
use Rattle.tile_shape.specs.Words.{texts_between}
use Rattle.call_words.proofs.Commas.{found_none, found_some, pieces_at, pieces_last}
use Rattle.call_words.proofs.format_words.formats_in.Goals as goal

pub returns-then-not-put_format : goal.returns-then-not-put_format
returns-then-not-put_format c =
    let p = found_some c.loop-piece.rest.now c.split_once.result (c.in-Some.piece, c.in-Some.behind) c.split_once.ensures.cases c.in-Some.is in
    sym (sym c.loop-piece.invariant.same ∙ ap (formats_behind c.loop-piece.formats.items)
    (ap (texts_between comma) p.0 ∙ pieces_at c.in-Some.piece.now c.in-Some.behind.now p.1)
    ∙ c.put_format.ensures.refused c.if-not-put_format.true (texts_between comma c.in-Some.behind.now))

pub loop-piece-preserved : goal.loop-piece-preserved
loop-piece-preserved c =
    let p = found_some c.loop-piece.rest.now c.split_once.result (c.in-Some.piece, c.in-Some.behind) c.split_once.ensures.cases c.in-Some.is in
    let t : (x : List ℕ) × ((scalars x ≡ true) × (encodes x ≡ c.in-Some.behind.now)) = search rules in
    record {
      is_text = t;
      same = c.put_format.ensures.read c.if-not-put_format.false (texts_between comma c.in-Some.behind.now)
          ∙ sym (ap (formats_behind c.loop-piece.formats.items)
          (ap (texts_between comma) p.0 ∙ pieces_at c.in-Some.piece.now c.in-Some.behind.now p.1))
          ∙ c.loop-piece.invariant.same;
    }

pub returns-then-not-put_format-2 : goal.returns-then-not-put_format-2
returns-then-not-put_format-2 c =
    sym (sym c.loop-piece.invariant.same ∙ ap (formats_behind c.loop-piece.formats.items)
    (pieces_last c.loop-piece.rest.now (found_none c.loop-piece.rest.now c.split_once.result
    c.split_once.ensures.cases c.in_default.is))
    ∙ c.put_format-2.ensures.refused c.if-not-put_format-2.true [])

pub returns : goal.returns
returns c =
    c.put_format-2.ensures.read c.if-not-put_format-2.false []
    ∙ sym (ap (formats_behind c.loop-piece.formats.items)
    (pieces_last c.loop-piece.rest.now (found_none c.loop-piece.rest.now c.split_once.result
    c.split_once.ensures.cases c.in_default.is)))
    ∙ c.loop-piece.invariant.same
