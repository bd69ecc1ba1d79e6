use Rattle.std.proofs.Common.{◌∙◌, ℕ, Bool, List, Bor, sym}
use Rattle.std.specs.Prelude.{bytes_eq}
use Rattle.rule_text.proofs.Names.{list_any-map, list_any-here, list_any-past}
use Rattle.rule_text.proofs.further.is_among.Goals as goal

pub returns-then-eq : goal.returns-then-eq
returns-then-eq c =
    let xs = c.args.names.now in
    let test : Bor (List ℕ) → Bool = λ name. bytes_eq c.args.key.now name.now in
    sym (list_any-here test xs c.loop-name.name-index _ c.loop-name-test.true (sym c.if-eq.ensures))
    ∙ c.loop-name.invariant ∙ sym (list_any-map (bytes_eq c.args.key.now) (λ name. name.now) xs)

pub returns : goal.returns
returns c =
    let xs = c.args.names.now in
    let test : Bor (List ℕ) → Bool = λ name. bytes_eq c.args.key.now name.now in
    sym (list_any-past test xs c.loop-name.name-index c.loop-name-test.false) ∙ c.loop-name.invariant
    ∙ sym (list_any-map (bytes_eq c.args.key.now) (λ name. name.now) xs)
