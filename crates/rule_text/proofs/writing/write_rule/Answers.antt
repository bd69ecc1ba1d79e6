use Rattle.std.proofs.Common.{◌≡◌, ◌∙◌, false, length, Some, string_bytes, ap, subst, ◌≤◌, sym}
use Rattle.std.proofs.lemmas.Str.{IsUtf8-string_bytes}
use Rattle.toml.specs.Data.{Members, members_depth}
use Rattle.toml.specs.Parse.{parse_document}
use Rattle.toml.specs.Text.{IsDocumentText}
use Rattle.rule_text.specs.File.{document_in, rule_of_document}
use Rattle.rule_model.specs.Tiling.{listed}
use Rattle.rule_text.specs.Written.{rule_members}
use Rattle.rule_text.proofs.Meaning.{document-some}
use Rattle.rule_text.proofs.ReadBack.{IsFit, rule-read}
use Rattle.rule_text.proofs.Depths.{rule-shallow}
use Rattle.rule_text.proofs.Limits.{fits-limits}
use Rattle.rule_text.proofs.PrintedDocuments.{document-short}
use Rattle.rule_text.proofs.writing.write_rule.Goals as goal

pub returns-in-Ok : goal.returns-in-Ok
returns-in-Ok c =
    let x = listed c.args.rule.now in
    let text = string_bytes c.in-Ok.text in
    let written = c.in_ok-table.ensures.value in
    let shallow = subst (λ (ms : Members). members_depth ms ≤ 80) (sym written) (rule-shallow x) in
    let parsed : parse_document text ≡ Some (rule_members x) = c.in-Ok.ensures.reads_back shallow ∙ ap Some written in
    let document : document_in text ≡ Some (rule_members x) = document-some text (rule_members x) (IsUtf8-string_bytes c.in-Ok.text) parsed in
    let fit : IsFit x = fits-limits x c.requires.within_limits c.in_ok-table.ensures.fours.0 c.in_ok-table.ensures.fours.1 in
    let printed : IsDocumentText false (rule_members x) text = subst (λ (ms : Members). IsDocumentText false ms text) written c.in-Ok.ensures.text in
    let short : length text ≤ 1048576 = document-short x c.requires.within_limits
    c.in_ok-table.ensures.fours.0 c.in_ok-table.ensures.fours.1 text printed in
    record { printed = printed; document = ap rule_of_document document ∙ rule-read x fit c.requires.order_of_edition; short = short }
