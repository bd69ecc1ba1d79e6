-- What the bytes of a file stand for, by what toml says of them.
use Rattle.std.proofs.Common.{◌≡◌, ◌≢◌, ◌↔◌, ℕ, List, Some, None, Result, Ok, Err, IfOk, IfErr, refl, subst, inl, inr}
use Rattle.std.specs.Str.{IsUtf8, is_utf8}
use Rattle.std.proofs.lemmas.Bool.{cases_Bool}
use Rattle.std.proofs.lemmas.Str.{IsUtf8-from_is_utf8, is_utf8-from_IsUtf8}
use Rattle.toml.specs.Data.{Members}
use Rattle.toml.specs.Parse.{parse_document}
use Rattle.rule_model.specs.declared.rule.Rule.{Rule}
use Rattle.rule_text.specs.declared.text_fault.TextFault.{TextFault}
use Rattle.rule_text.specs.declared.text_fault.TextFault.TheVariants.{NotToml, NoMemory}
use Rattle.rule_text.specs.Agrees.{ReadsAs}
use Rattle.rule_text.specs.Document.{rule_of_members}
use Rattle.rule_model.specs.Tiling.{ListedRule, listed}
use Rattle.rule_text.specs.File.{document_in}
use Rattle.rule_text.proofs.Faults.{rule_in-toml}

pub document-some : (bytes : List ℕ) (ms : Members) → IsUtf8 bytes → parse_document bytes ≡ Some ms → document_in bytes ≡ Some ms
document-some bytes ms u e = rw (is_utf8-from_IsUtf8 bytes u) e

pub document-none : (bytes : List ℕ) → (IsUtf8 bytes → parse_document bytes ≡ None) → document_in bytes ≡ None
document-none bytes h =
    elim (cases_Bool (is_utf8 bytes)) [
      | inl text ↦ rw text (h (IsUtf8-from_is_utf8 bytes text))
      | inr other ↦ rw other refl
    ]

pub meant-read : (r : Result Rule TextFault) (x : Result ListedRule TextFault) → ReadsAs listed r x → IfOk r (λ rule. x ≡ Ok (listed rule))
meant-read (Ok rule) x h = h
meant-read (Err e) x h = tt

pub meant-fault : (r : Result Rule TextFault) (x : Result ListedRule TextFault) → ReadsAs listed r x → IfErr r (λ e. e ≢ NoMemory → x ≡ Err e)
meant-fault (Ok rule) x h = tt
meant-fault (Err e) x h = h

not_toml : (ms : Members) (r : Result Rule TextFault) → ReadsAs listed r (rule_of_members ms) → r ≢ Err NotToml
not_toml ms r h e =
    let given : NotToml ≢ NoMemory → rule_of_members ms ≡ Err NotToml = subst
    (λ (s : Result Rule TextFault). ReadsAs listed s (rule_of_members ms)) e h in
    rule_in-toml ms (given (λ bad. cc))

-- the answer for a document
pub toml-document : (bytes : List ℕ) (ms : Members) (r : Result Rule TextFault) → document_in bytes ≡ Some ms → ReadsAs listed r (rule_of_members ms)
    → (r ≡ Err NotToml) ↔ (document_in bytes ≡ None)
toml-document bytes ms r e h = (λ bad. absurd (not_toml ms r h bad), λ bad. cc)
