use Rattle.std.proofs.Common.{ℕ, ◌+◌, ◌-◌, ◌≤◌, length, take, drop, arith}
use Rattle.cyclo_points.specs.Text.{newline}
use Rattle.tile_shape.proofs.Cuts.{parted, whole}
use Rattle.listing_text.proofs.ListedLines.{line_cut, last_cut}
use Rattle.listing_text.proofs.reading.cut_line.Goals as goal

low : (k : ℕ) → 0 ≤ k
low k = omega arith

pub returns-in-Some-clause-line : goal.returns-in-Some-clause-line
returns-in-Some-clause-line c =
    let text = c.args.text.now in
    let place = c.in-Some.place in
    line_cut text (take place text) (take (length text - (place + 1)) (drop (place + 1) text))
    (parted newline c.args.text.now c.in-Some.place c.in-Some.ensures.0.high (λ k l. c.in-Some.ensures.0.before k (low k) l) c.in-Some.ensures.1)

pub returns-in-None-clause-line : goal.returns-in-None-clause-line
returns-in-None-clause-line c =
    last_cut c.args.text.now c.requires.some (whole newline c.args.text.now (λ k l. c.in-None.ensures k (low k) l))
