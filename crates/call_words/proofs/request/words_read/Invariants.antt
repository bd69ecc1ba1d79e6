use Rattle.std.proofs.Common.{◌≡◌, drop, take}
use Rattle.call_words.specs.Reading.{HaveForms, values_of}
use Rattle.call_words.specs.Request.{asked_behind}
use Rattle.call_words.specs.Values.{values_given}
use Rattle.call_words.specs.Words.{texts}
use Rattle.call_words.proofs.request.words_read.Given as goal

-- the arguments before are right and read, and what all ask for is decided by those after
abbrev pub invariant-loop-place : goal.invariant-loop-place
invariant-loop-place l =
    (asked_behind l.command (texts (take l.place l.words)) (texts (drop l.place l.words)) ≡ asked_behind
    l.command (texts (take 1 l.words)) (texts (drop 1 l.words)))
    × (values_of l.values l.room ≡ values_given (texts (take l.place l.words)))
    × HaveForms l.command (texts (take l.place l.words))
