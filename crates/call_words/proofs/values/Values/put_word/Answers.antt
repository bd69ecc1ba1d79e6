use Rattle.std.proofs.Common.{rules, ◌≡◌, true, length, nat_lt, ◌∙◌, sym}
use Rattle.std.specs.List.{before_first, after_first, position_or_len}
use Rattle.call_words.specs.Reading.{values_of}
use Rattle.call_words.specs.Words.{is_equals}
use Rattle.call_words.proofs.RightOne.{put-right, put-more}
use Rattle.call_words.proofs.values.Values.put_word.Goals as goal

pub returns-in-Some-key_named-clause-right : goal.returns-in-Some-key_named-clause-right
returns-in-Some-key_named-clause-right c before old forms =
    let has : nat_lt (position_or_len is_equals c.args.word.now) (length c.args.word.now) ≡ true = search rules in
    let name : c.in-Some.name.now ≡ before_first is_equals c.args.word.now = search rules in
    let value : c.in-Some.value.now ≡ after_first is_equals c.args.word.now = search rules in
    put-right c.args.command before c.args.word.now c.in-Some.name.now c.in-Some.value.now c.in-Some-key_named.key has name value
    (sym c.key_named.ensures ∙ c.in-Some-key_named.is) forms (values_of c.args.self.now c.args.path.now) old c.put.result c.put.ensures.right

pub returns-in-Some-key_named-clause-put : goal.returns-in-Some-key_named-clause-put
returns-in-Some-key_named-clause-put c before old forms =
    let has : nat_lt (position_or_len is_equals c.args.word.now) (length c.args.word.now) ≡ true = search rules in
    let name : c.in-Some.name.now ≡ before_first is_equals c.args.word.now = search rules in
    let value : c.in-Some.value.now ≡ after_first is_equals c.args.word.now = search rules in
    put-more c.args.command before c.args.word.now c.in-Some.name.now c.in-Some.value.now c.in-Some-key_named.key has name value
    (sym c.key_named.ensures ∙ c.in-Some-key_named.is) forms (values_of c.args.self.now c.args.path.now) old c.put.result c.put.ensures.right
    (values_of c.put.new.self c.put.new.path) c.put.ensures.put
