-- What is read for the rule that is chosen.
use Rattle.std.proofs.Common.{◌≡◌, ℕ, ◌≤◌, List, [], length, Result, Ok, Err, IfErr, refl, sym, ap, subst, lit≤}
use Rattle.std.specs.declared.option.Option.{Option}
use Rattle.builtin_rules.specs.declared.name.Name.{Name}
use Rattle.call_words.specs.declared.rule_choice.RuleChoice.TheVariants.{Builtin, File}
use Rattle.rule_model.specs.Tiling.{Tiling}
use Rattle.rule_text.specs.Limits.{longest_file}
use Rattle.tile_app.specs.declared.file_kind.FileKind.TheVariants.{Rule}
use Rattle.call_notes.specs.declared.status.Status.{Status}
use Rattle.call_notes.specs.declared.status.Status.TheVariants.{ReadFault, RuleTooLong, RuleRefused, NoMemory}
use Rattle.tile_app.specs.Asked.{WasRead}
use Rattle.tile_app.specs.Reading.{IsFileUnread, IsFileRefused, IsRuleRead, IsRuleRefused}
use Rattle.tile_app.specs.RuleFiles.{tiling_in_file}
use Rattle.tile_app.specs.Tilings.{builtin_tiling}

-- a built-in rule is made at once
pub built_in : (name : Name) (t : Tiling) (left : Option (List ℕ)) → t ≡ builtin_tiling name → IsRuleRead (Builtin name) left left t
built_in name t left e = record { file = []; read = refl; not_too_long = lit≤ tt; chosen = ap (λ s. Ok s) (sym e) }

-- a rule file can't be read
pub rule_unread : (left rest : Option (List ℕ)) (s : Status) → IsFileUnread Rule left rest s → IsRuleRefused File left rest s
rule_unread left rest NoMemory h = tt
rule_unread left rest ReadFault h = refl
rule_unread left rest RuleTooLong h = (refl, h.file, h.read, h.too_long)
rule_unread left rest s h = absurd (cc h.told)

-- it was read
module _ (left rest : Option (List ℕ)) (file : List ℕ) (read : WasRead longest_file left rest file) (short : length file ≤ longest_file) where
  pub rule_done : (t : Tiling) → tiling_in_file file ≡ Ok t → IsRuleRead File left rest t
  rule_done t e = record { file = file; read = read; not_too_long = short; chosen = e }

  pub rule_faulty : (s : Status) → IsFileRefused file s → IsRuleRefused File left rest s
  rule_faulty NoMemory h = tt
  rule_faulty (RuleRefused fault) h = (h.1, file, read, short, h.0)
  rule_faulty s h = absurd h

-- its fault isn't one of the source
pub rule_unfailed : {T : Type 0} (file : List ℕ) (answer : Result T Status) → IfErr answer (IsFileRefused file) → answer ≡ Err ReadFault → ⊥
rule_unfailed file answer h e = subst (λ r. IfErr r (IsFileRefused file)) e h
