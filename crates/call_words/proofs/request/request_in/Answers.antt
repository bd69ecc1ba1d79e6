use Rattle.std.proofs.Common.{◌∙◌}
use Rattle.call_words.specs.Request.{request_in}
use Rattle.call_words.specs.Views.{request_of}
use Rattle.call_words.specs.Words.{texts}
use Rattle.call_words.proofs.RightWords.{refused_alike, place-refused}
use Rattle.call_words.proofs.Within.{answer-within}
use Rattle.call_words.proofs.request.request_in.Goals as goal

-- what is answered is what the definition reads, so it is refused at the same place
pub returns-clause-bad_words : goal.returns-clause-bad_words
returns-clause-bad_words c =
    let words = texts c.args.words.now in
    refused_alike request_of c.words_read.result (request_in words) c.words_read.ensures.asked ∙ place-refused words

-- and its values are within the bounds of their forms
pub returns-clause-within : goal.returns-clause-within
returns-clause-within c = answer-within (texts c.args.words.now) c.words_read.result c.words_read.ensures.asked
