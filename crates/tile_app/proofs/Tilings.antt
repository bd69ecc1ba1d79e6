-- The tilings that are named: of a rule that is made for a name, of one that is read, and of which child kinds.
use Rattle.std.proofs.Common.{◌≡◌, ℕ, List, Result, Ok, Err, Some, None, refl, ap, ◌∙◌, subst}
use Rattle.std.specs.declared.option.Option.{Option}
use Rattle.theory_substitution.specs.RuleParts.{map_rule}
use Rattle.theory_substitution.specs.Rule.{Rule as TheRule, child_kinds}
use Rattle.cyclo_points.specs.declared.order.Order.{Order}
use Rattle.cyclo_points.specs.declared.point.Point.{Point}
use Rattle.cyclo_points.specs.Point.{point_in}
use Rattle.dissect_check.specs.declared.check_fault.CheckFault.{CheckFault}
use Rattle.dissect_check.specs.FirstFault.{fault_of_lists}
use Rattle.rule_model.specs.declared.edition.Edition.{Edition}
use Rattle.rule_model.specs.declared.rule.Rule.{Rule}
use Rattle.rule_text.specs.declared.text_fault.TextFault.{TextFault}
use Rattle.rule_model.specs.Tiling.{ListedRule, Tiling, tiling_of, tiling_listed}
use Rattle.rule_text.specs.File.{rule_in_file}
use Rattle.tile_shape.specs.Usable.{AreUsable}
use Rattle.builtin_rules.specs.declared.name.Name.{Name}
use Rattle.builtin_rules.specs.Named.{named, IsWritten}
use Rattle.builtin_rules.proofs.Constants.{rows_usable}
use Rattle.call_words.specs.declared.rule_choice.RuleChoice.{RuleChoice}
use Rattle.call_words.specs.declared.rule_choice.RuleChoice.TheVariants.{Builtin, File}
use Rattle.call_notes.specs.declared.rule_fault.RuleFault.{RuleFault}
use Rattle.tile_app.specs.Choices.{tiling_chosen}
use Rattle.tile_app.specs.RuleFiles.{tiling_unless, tiling_of_text}
use Rattle.tile_app.specs.Tilings.{builtin_tiling}

pub tiling_is : (name : Name) (r : Rule) → IsWritten (named name) r → tiling_of r ≡ builtin_tiling name
tiling_is name r is =
    ap (λ (l : TheRule Point). same r.order l) is.lists ∙ ap (λ (o : Order). same o (named name).rule) is.order
  where
    same : Order → TheRule Point → Tiling
    same o l = record { order = o; rule = map_rule (point_in o) l }

-- ---- the child kinds of a tiling that is named are usable: those of a built-in rule are; those of a rule that no clause refuses by a law
abbrev pub AcceptedAreUsable : Type 0
AcceptedAreUsable = (e : Edition) (o : Order) (l : TheRule Point) → fault_of_lists e o l ≡ None → AreUsable (child_kinds (map_rule (point_in o) l))

ok_is : (s t : Tiling) (o : Result Tiling RuleFault) → o ≡ Ok s → o ≡ Ok t → s ≡ t
ok_is s t o e f = cc

file_is_usable : AcceptedAreUsable → (t : Tiling) (read : Result ListedRule TextFault) → tiling_of_text read ≡ Ok t → AreUsable (child_kinds t.rule)
file_is_usable law t (Err e) h = absurd (cc h)
file_is_usable law t (Ok x) h = at_fault (fault_of_lists x.edition x.order x.rule) refl h
  where
    at_fault : (o : Option CheckFault) → fault_of_lists x.edition x.order x.rule ≡ o → tiling_unless o x ≡ Ok t → AreUsable (child_kinds t.rule)
    at_fault None f g = subst (λ (s : Tiling). AreUsable (child_kinds s.rule))
        (ok_is (tiling_listed x) t (Ok (tiling_listed x)) refl g) (law x.edition x.order x.rule f)
    at_fault (Some e) f g = absurd (cc g)

pub chosen_is_usable : AcceptedAreUsable → (file : List ℕ) (t : Tiling) (choice : RuleChoice)
    → tiling_chosen file choice ≡ Ok t → AreUsable (child_kinds t.rule)
chosen_is_usable law file t File h = file_is_usable law t (rule_in_file file) h
chosen_is_usable law file t (Builtin name) h =
    subst (λ (s : Tiling). AreUsable (child_kinds s.rule)) (ok_is (builtin_tiling name) t (Ok (builtin_tiling name)) refl h) (rows_usable name)

-- where a built-in rule is chosen its tiling is named
pub builtin-chosen : (file : List ℕ) (name : Name) (t : Tiling) → tiling_chosen file (Builtin name) ≡ Ok t → builtin_tiling name ≡ t
builtin-chosen file name t h = ok_is (builtin_tiling name) t (Ok (builtin_tiling name)) refl h
