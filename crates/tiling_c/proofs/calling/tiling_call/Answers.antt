use Rattle.std.proofs.Common.{◌≡◌, List, ℕ, length, sym, subst, IsUtf8}
use Rattle.tiling_c.specs.Calling.{EndsWith, call_in}
use Rattle.tiling_c.specs.Opening.{HoldsText}
use Rattle.tiling_c.proofs.CallShown.{is_noted, shows_no_text, shows_no_memory, shows_printed, shows_noted}
use Rattle.tiling_c.proofs.KnownResults.{some_is, told_of_ok, told_of_err}
use Rattle.tiling_c.proofs.calling.tiling_call.Goals.{In-Ok, In-Ok-answer}
use Rattle.tiling_c.proofs.calling.tiling_call.Goals as goal

-- the words are UTF-8, and the text is theirs
is_theirs : (c : In-Ok) → (c.in-Ok.text.now ≡ c.args.words.now) × IsUtf8 c.args.words.now
is_theirs c = told_of_ok _ _ c.from_utf8.result c.in-Ok.text c.in-Ok.is c.from_utf8.ensures.cases

-- ---- the words are not UTF-8, or memory runs out
pub returns-in-Err-clause-shown : goal.returns-in-Err-clause-shown
returns-in-Err-clause-shown c = shows_no_text c.args.words.now c.args.input.now c.args.out.now c.args.note.now c.args.out_bytes.now
    c.args.note_bytes.now (told_of_err _ _ _ c.from_utf8.result _ c.in-Err.is c.from_utf8.ensures.cases)

pub returns-in_default-clause-shown : goal.returns-in_default-clause-shown
returns-in_default-clause-shown c = shows_no_memory c.args.words.now c.args.input.now c.args.out.now c.args.note.now c.args.out_bytes.now
    c.args.note_bytes.now (told_of_ok _ _ c.from_utf8.result c.in-Ok.text c.in-Ok.is c.from_utf8.ensures.cases).1

-- ---- the call ends, and what it printed or noted is put down
pub returns-then-ending-eq-OK-clause-shown : goal.returns-then-ending-eq-OK-clause-shown
returns-then-ending-eq-OK-clause-shown c =
    let utf8 = told_of_ok _ _ c.from_utf8.result c.in-Ok.text c.in-Ok.is c.from_utf8.ensures.cases in
    let ending = c.in-Ok-answer.ending in
    let text = some_is _ _ c.bytes.ensures in
    shows_printed c.args.words.now c.args.input.now c.args.out.now c.args.note.now ending.printed.bytes.items ending.noted.bytes.items
    ending.code utf8.1 (subst (λ (xs : List ℕ). EndsWith (call_in xs c.args.input.now) ending.printed.bytes.items ending.noted.bytes.items
    ending.code) utf8.0 c.in-Ok-answer.ensures) c.if-ending-eq-OK.true c.put_text.new.out c.put_text.new.bytes c.args.note_bytes.now
    (subst (λ (xs : List ℕ). HoldsText xs c.args.out.now c.put_text.new.out) (sym text) c.put_text.ensures.text)
    (subst (λ (xs : List ℕ). c.put_text.new.bytes ≡ length xs) (sym text) c.put_text.ensures.bytes)

pub returns-clause-shown : goal.returns-clause-shown
returns-clause-shown c =
    let utf8 = told_of_ok _ _ c.from_utf8.result c.in-Ok.text c.in-Ok.is c.from_utf8.ensures.cases in
    let ending = c.in-Ok-answer.ending in
    let line = some_is _ _ c.bytes-2.ensures in
    shows_noted c.args.words.now c.args.input.now c.args.out.now c.args.note.now ending.printed.bytes.items ending.noted.bytes.items
    ending.code utf8.1 (subst (λ (xs : List ℕ). EndsWith (call_in xs c.args.input.now) ending.printed.bytes.items ending.noted.bytes.items
    ending.code) utf8.0 c.in-Ok-answer.ensures) c.if-ending-eq-OK.false c.put_text-2.new.out c.args.out_bytes.now c.put_text-2.new.bytes
    (subst (λ (xs : List ℕ). HoldsText xs c.args.note.now c.put_text-2.new.out) (sym line) c.put_text-2.ensures.text)
    (subst (λ (xs : List ℕ). c.put_text-2.new.bytes ≡ length xs) (sym line) c.put_text-2.ensures.bytes)

pub returns-clause-note_unchanged : goal.returns-clause-note_unchanged
returns-clause-note_unchanged c = λ e. is_noted (call_in c.in-Ok.text.now c.args.input.now) c.in-Ok-answer.ending.printed.bytes.items
    c.in-Ok-answer.ending.noted.bytes.items c.in-Ok-answer.ending.code c.in-Ok-answer.ensures c.if-ending-eq-OK.false e
