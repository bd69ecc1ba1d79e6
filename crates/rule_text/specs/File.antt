-- The rule that a file stands for, or its first fault.
use Rattle.std.specs.Prelude.{ℕ, List, Option, Some, None, Result, Err, if◌then◌else◌}
use Rattle.std.specs.Str.{is_utf8}
use Rattle.toml.specs.Data.{Members}
use Rattle.toml.specs.Parse.{parse_document}
use Rattle.rule_text.specs.declared.text_fault.TextFault.{TextFault}
use Rattle.rule_text.specs.declared.text_fault.TextFault.TheVariants.{NotToml}
use Rattle.rule_text.specs.Document.{rule_of_members}
use Rattle.rule_model.specs.Tiling.{ListedRule}

-- the document of which the bytes are the text, if they are one
abbrev pub document_in : List ℕ → Option Members
document_in bytes = if is_utf8 bytes then parse_document bytes else None

abbrev pub rule_of_document : Option Members → Result ListedRule TextFault
rule_of_document None = Err NotToml
rule_of_document (Some members) = rule_of_members members

-- the rule that the bytes of a file stand for, or the first fault
abbrev pub rule_in_file : List ℕ → Result ListedRule TextFault
rule_in_file bytes = rule_of_document (document_in bytes)
