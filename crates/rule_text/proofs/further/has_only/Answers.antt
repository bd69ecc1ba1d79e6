use Rattle.std.proofs.Common.{◌≡◌, ◌∙◌, [], ◌∷◌, ℕ, Bool, true, false, refl, List, String, Global, sym, map, ap, string_bytes}
use Rattle.std.specs.List.{list_all}
use Rattle.rule_text.specs.Steps.{is_key_among}
use Rattle.rule_text.proofs.Names.{has_only-keys}
use Rattle.rule_text.proofs.further.has_only.Goals as goal

pub returns-then-not-is_among : goal.returns-then-not-is_among
returns-then-not-is_among c =
    let names : List (List ℕ) = map (λ name. name.now) c.args.names.now in
    let test : String Global → Bool = λ k. is_key_among names (string_bytes k) in
    let step : c.loop-key.key-iterator ≡ c.in-Some.key.now ∷ c.next.new.self = c.in-Some.ensures.steps in
    let other : test c.in-Some.key.now ≡ false = ap (is_key_among names) (sym c.as_str.ensures.value) ∙ sym c.if-not-is_among.ensures in
    let lost : false ≡ list_all test c.loop-key.key-iterator = sym (rw (step, other)) in
    lost ∙ c.loop-key.invariant ∙ has_only-keys names c.args.table.now.entries

pub returns : goal.returns
returns c =
    let names : List (List ℕ) = map (λ name. name.now) c.args.names.now in
    let test : String Global → Bool = λ k. is_key_among names (string_bytes k) in
    let step : c.loop-key.key-iterator ≡ [] = c.in-None.ensures.steps.0 in
    let whole : true ≡ list_all test c.loop-key.key-iterator = sym (rw step refl) in
    whole ∙ c.loop-key.invariant ∙ has_only-keys names c.args.table.now.entries
