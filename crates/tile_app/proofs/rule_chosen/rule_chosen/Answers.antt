use Rattle.std.proofs.Common.{rules, ◌≡◌, length, ◌≤◌, Ok, IfErr, sym, subst}
use Rattle.std.proofs.lemmas.Result.{IfOk-weaker}
use Rattle.rule_model.specs.Tiling.{tiling_of}
use Rattle.rule_text.specs.Limits.{longest_file}
use Rattle.tile_app.specs.declared.file_kind.FileKind.TheVariants.{Rule}
use Rattle.call_words.specs.declared.rule_choice.RuleChoice.TheVariants.{File}
use Rattle.tile_app.specs.Reading.{IsFileUnread, IsFileRefused, IsRuleRefused}
use Rattle.tile_app.specs.RuleFiles.{tiling_in_file}
use Rattle.tile_app.proofs.Chosen.{built_in, rule_unread, rule_done, rule_faulty, rule_unfailed}
use Rattle.tile_app.proofs.Read.{refused_by}
use Rattle.tile_app.proofs.Tilings.{tiling_is}
use Rattle.tile_app.proofs.rule_chosen.rule_chosen.Goals as goal

-- a built-in rule
pub returns-in_ok-builtin-in-Builtin-clause-chosen : goal.returns-in_ok-builtin-in-Builtin-clause-chosen
returns-in_ok-builtin-in-Builtin-clause-chosen g c =
    let r = c.in_ok-builtin-in-Builtin.field-0 in
    rw c.in-Builtin.is (built_in c.in-Builtin.name (tiling_of r) (g.R.Source.left c.args.source.now)
    (tiling_is c.in-Builtin.name r c.in_ok-builtin-in-Builtin.ensures))

-- the rule file can't be read
pub returns-in_err-file-in-File-clause-refused : goal.returns-in_err-file-in-File-clause-refused
returns-in_err-file-in-File-clause-refused g c =
    let left = g.R.Source.left c.args.source.now in
    let rest = g.R.Source.left c.file_read.new.source in
    let h = refused_by (IsFileUnread Rule left rest) (IsRuleRefused File left rest) (rule_unread left rest)
    c.file_read.result c.file_read.ensures.refused in
    let e = c.in-File.is in
    search (rules, h, e)

-- or is
pub rule_in-requires : goal.rule_in-requires
rule_in-requires g c = record {
  at_most_a_mebibyte = subst (λ f. length f ≤ longest_file)
      (sym c.as_slice.ensures.value) c.in_ok-file-in-File.ensures.not_too_long;
}

pub returns-in_ok-file-in-File-clause-chosen : goal.returns-in_ok-file-in-File-clause-chosen
returns-in_ok-file-in-File-clause-chosen g c =
    rw c.in-File.is (IfOk-weaker c.rule_in.result _ _
    (λ r h. rule_done (g.R.Source.left c.args.source.now) (g.R.Source.left c.file_read.new.source)
    c.in_ok-file-in-File.file.items c.in_ok-file-in-File.ensures.read
    c.in_ok-file-in-File.ensures.not_too_long (tiling_of r)
    (subst (λ f. tiling_in_file f ≡ Ok (tiling_of r)) c.as_slice.ensures.value h))
    c.rule_in.ensures.accepted)

pub returns-in_ok-file-in-File-clause-refused : goal.returns-in_ok-file-in-File-clause-refused
returns-in_ok-file-in-File-clause-refused g c =
    let left = g.R.Source.left c.args.source.now in
    let rest = g.R.Source.left c.file_read.new.source in
    let file = c.in_ok-file-in-File.file.items in
    rw c.in-File.is (refused_by (IsFileRefused file) (IsRuleRefused File left rest)
    (rule_faulty left rest file c.in_ok-file-in-File.ensures.read
    c.in_ok-file-in-File.ensures.not_too_long) c.rule_in.result
    (subst (λ f. IfErr c.rule_in.result (IsFileRefused f)) c.as_slice.ensures.value c.rule_in.ensures.refused))

pub returns-in_ok-file-in-File-clause-read_fault : goal.returns-in_ok-file-in-File-clause-read_fault
returns-in_ok-file-in-File-clause-read_fault g c = λ e. absurd (rule_unfailed c.as_slice.result.now c.rule_in.result c.rule_in.ensures.refused e)
