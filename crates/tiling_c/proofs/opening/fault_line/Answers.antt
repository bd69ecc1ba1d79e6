use Rattle.std.proofs.Common.{◌≡◌, ℕ, List, [], ◌∷◌, ◌++◌, codes, ap, ◌∙◌}
use Rattle.std.specs.Fmt.{digits}
use Rattle.cyclo_points.specs.Text.{blank, newline}
use Rattle.call_notes.specs.RuleFaultText.{rule_fault_text}
use Rattle.tiling_c.proofs.opening.fault_line.Goals as goal

-- the three pieces, put one after another
pieces : (one two three fault : List ℕ) → one ≡ codes "3 RuleRefused" → two ≡ one ++ blank ∷ fault → three ≡ two ++ codes "\n"
    → three ≡ codes "3 RuleRefused " ++ fault ++ newline ∷ []
pieces one two three fault a b c = c ∙ ap (λ (xs : List ℕ). xs ++ codes "\n") (b ∙ ap (λ (xs : List ℕ). xs ++ blank ∷ fault) a)

pub returns-clause-line : goal.returns-clause-line
unfolding digits
returns-clause-line c =
    let one : c.push_str.new.self.bytes ≡ codes "3 RuleRefused" =
    c.push_str.ensures.bytes ∙ ap (λ (xs : List ℕ). xs ++ codes "3 RuleRefused") c.new-line.ensures in
    pieces _ _ c.push_str-2.new.self.bytes (rule_fault_text c.args.fault) one c.put_rule_fault.ensures.fault c.push_str-2.ensures.bytes
