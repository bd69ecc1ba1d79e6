use Rattle.std.proofs.Common.{◌≤◌, length, IfErr, sym, subst, arith}
use Rattle.tile_io.specs.ReadingAll.{GivesPart}
use Rattle.tile_app.specs.FileKinds.{longest_of}
use Rattle.tile_app.specs.Reading.{IsFileUnread}
use Rattle.tile_app.proofs.FileRead.{whole_read, too_long_read}
use Rattle.tile_app.proofs.file.file_read.Goals as goal

pub returns-in-Ok-clause-read : goal.returns-in-Ok-clause-read
returns-in-Ok-clause-read g c =
    let file = c.in-Ok.bytes.items in
    let short : length file ≤ longest_of c.args.kind = omega (arith, c.in-Ok.bytes.ok.0, c.in-Ok.ensures.at_most, c.longest.ensures) in
    whole_read (longest_of c.args.kind) (g.R.Source.left c.args.source.now) (g.R.Source.left c.read_all.new.source) file c.in-Ok.ensures.all
    c.in-Ok.ensures.to_the_end short

pub returns-in-Err-TooLong-clause-refused : goal.returns-in-Err-TooLong-clause-refused
returns-in-Err-TooLong-clause-refused g c =
    let left = g.R.Source.left c.args.source.now in
    let rest = g.R.Source.left c.read_all.new.source in
    let fault = c.in-Err-TooLong.field-0 in
    let part = subst (λ r. IfErr r (GivesPart left rest c.longest.result)) c.in-Err-TooLong.is c.read_all.ensures.part in
    subst (IsFileUnread c.args.kind left rest) (sym c.too_long.ensures)
    (too_long_read c.args.kind left rest fault (subst (λ n. GivesPart left rest n fault) c.longest.ensures part) c.in-Err-TooLong.field-0-is)
