use Rattle.std.proofs.Common.{◌≡◌, ◌∙◌, Some, None, sym, ap, refl}
use Rattle.std.proofs.lemmas.Bool.{false≢true}
use Rattle.toml.specs.View.{table_view}
use Rattle.rule_text.specs.Agrees.{ReadsAs}
use Rattle.rule_text.specs.File.{document_in, rule_of_document, rule_in_file}
use Rattle.rule_model.specs.Tiling.{listed}
use Rattle.rule_text.proofs.Meaning.{document-some, document-none, meant-read, meant-fault, toml-document}
use Rattle.rule_text.proofs.NarrowDocuments.{document-few}
use Rattle.rule_text.proofs.reading.read_rule.Goals as goal
use Rattle.rule_text.proofs.reading.read_rule.Goals.{After-drop-table}

pub rule_of-requires : goal.rule_of-requires
rule_of-requires c = record {
  few = document-few 1048576 c.args.bytes.now (table_view c.in-Ok.table)
      c.requires.at_most_a_mebibyte c.in-Ok.ensures.ok.1;
}

document : (c : After-drop-table) → document_in c.args.bytes.now ≡ Some (table_view c.in-Ok.table)
document c = document-some c.args.bytes.now (table_view c.in-Ok.table) c.in-Ok.ensures.ok.0 c.in-Ok.ensures.ok.1

given : (c : After-drop-table) → ReadsAs listed c.rule_of.result (rule_in_file c.args.bytes.now)
given c = rw (document c) c.rule_of.ensures

pub returns-in-Ok-clause-read : goal.returns-in-Ok-clause-read
returns-in-Ok-clause-read c = meant-read c.rule_of.result _ (given c)

pub returns-in-Ok-clause-fault : goal.returns-in-Ok-clause-fault
returns-in-Ok-clause-fault c = meant-fault c.rule_of.result _ (given c)

pub returns-in-Ok-clause-not_toml : goal.returns-in-Ok-clause-not_toml
returns-in-Ok-clause-not_toml c = λ _. toml-document c.args.bytes.now _ c.rule_of.result (document c) c.rule_of.ensures

pub returns-in-Err-2-clause-fault : goal.returns-in-Err-2-clause-fault
returns-in-Err-2-clause-fault c =
    let none : document_in c.args.bytes.now ≡ None = document-none c.args.bytes.now
    (c.in-Err.ensures.refused (λ m. false≢true (sym c.if-is_memory.false ∙ c.is_memory.ensures.1 m))) in
    λ _. ap rule_of_document none

pub returns-in-Err-2-clause-not_toml : goal.returns-in-Err-2-clause-not_toml
returns-in-Err-2-clause-not_toml c =
    let none : document_in c.args.bytes.now ≡ None = document-none c.args.bytes.now
    (c.in-Err.ensures.refused (λ m. false≢true (sym c.if-is_memory.false ∙ c.is_memory.ensures.1 m))) in
    λ _. (λ _. none, λ _. refl)
