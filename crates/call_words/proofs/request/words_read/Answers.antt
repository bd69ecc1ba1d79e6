use Rattle.std.proofs.Common.{rules, ◌≡◌, ◌+◌, ◌<◌, true, cond, string_bytes, Err, [], ◌∷◌, ◌++◌, length, take, drop, sym, ap, ◌∙◌, subst, arith}
use Rattle.std.proofs.lemmas.Grind.{common_steps}
use Rattle.std.proofs.lemmas.List.{take_more, drop_more, map-append}
use Rattle.call_words.specs.Reading.{HaveForms}
use Rattle.call_words.specs.Request.{asked_behind}
use Rattle.call_words.specs.Values.{values_given}
use Rattle.call_words.specs.Words.{texts, is_right}
use Rattle.call_words.proofs.OneMore.{values-named}
use Rattle.call_words.proofs.FormedValues.{have_forms, name_gives_nothing}
use Rattle.call_words.proofs.request.words_read.Goals as goal

-- the command's name gives no value
pub loop-place-init : goal.loop-place-init
loop-place-init c =
    let name = c.as_str.result.now in
    let command = c.in-Some-named.command in
    let first : texts (take 1 c.args.words.now) ≡ name ∷ [] = search rules in
    let named = sym c.named.ensures ∙ c.in-Some-named.is in (
      search rules,
      c.new-values.ensures ∙ values-named name command named ∙ ap values_given (sym first),
      subst (HaveForms command) (sym first) (name_gives_nothing name command named),
    )

-- an argument that is right is the last of those before
pub loop-place-preserved : goal.loop-place-preserved
loop-place-preserved c =
    let command = c.in-Some-named.command in
    let words = c.args.words.now in
    let place = c.loop-place.place in
    let word = c.as_str-in-loop-place.result.now in
    let before = texts (take place words) in
    let after = texts (drop (place + 1) words) in
    let so_far = c.loop-place.invariant in
    let put : c.put_word.result ≡ true = search rules in
    let right : is_right command before word ≡ true = sym (c.put_word.ensures.right before so_far.1 so_far.2) ∙ put in
    let string = c.index-words-place.result in
    let below : place < length words = search rules in
    let text : string_bytes string ≡ word = search rules in
    let more : texts (take (place + 1) words) ≡ before ++ word ∷ [] =
    ap texts (take_more words place string below ∙ ap (λ s. take place words ++ s ∷ []) (sym c.index-words-place.is))
    ∙ map-append string_bytes (take place words) (string ∷ []) ∙ ap (λ w. before ++ w ∷ []) text in
    let rest : texts (drop place words) ≡ word ∷ after =
    ap texts (drop_more words place string below
    ∙ ap (λ s. s ∷ drop (place + 1) words) (sym c.index-words-place.is)) ∙ ap (λ w. w ∷ after) text in
    let asked : asked_behind command before (texts (drop place words)) ≡ asked_behind command (before ++ word ∷ []) after =
    ap (asked_behind command before) rest ∙ ap (λ b. cond b (asked_behind command (before ++ word ∷ []) after) (Err (length before))) right in (
      ap (λ ws. asked_behind command ws after) more ∙ sym asked ∙ so_far.0,
      c.put_word.ensures.put before so_far.1 so_far.2 put ∙ ap values_given (sym more),
      subst (HaveForms command) (sym more) (have_forms command before word so_far.2 right),
    )

pub returns-in_default : goal.returns-in_default
returns-in_default c = grind (arith, common_steps)

pub returns-in_default-named : goal.returns-in_default-named
returns-in_default-named c = grind (arith, common_steps)

pub returns : goal.returns
returns c = grind (arith, common_steps)
