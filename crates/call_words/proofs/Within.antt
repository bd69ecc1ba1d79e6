-- The values of a request are within the bounds of their forms: half extents 1 to 4,096, no coefficient of a
-- centre above 2^20, a depth at most 64, and at
-- most 200 windows.
use Rattle.std.proofs.Common.{◌≡◌, ◌^◌, ◌≤◌, ℕ, Bool, true, false, cond, List, [], ◌∷◌, ◌++◌, length, Some, None, Result, Ok, Err, IfOk, refl, subst, lit≤}
use Rattle.std.specs.declared.option.Option.{Option}
use Rattle.std.specs.Option.{option_map_or, ok_or}
use Rattle.builtin_rules.specs.declared.name.Name.{Name}
use Rattle.cyclo_points.specs.Point.{IsWithin}
use Rattle.call_words.specs.declared.request.Question.{Question}
use Rattle.call_words.specs.declared.request.Question.TheVariants as question
use Rattle.call_words.specs.declared.request.Request.{Request as Asked}
use Rattle.call_words.specs.declared.request.Request.TheVariants as asked
use Rattle.call_words.specs.declared.words.Command.{Command}
use Rattle.call_words.specs.declared.words.Command.TheVariants as command
use Rattle.call_words.specs.Choices.{builtin_name}
use Rattle.call_words.specs.Commands.{command_named, most_windows}
use Rattle.call_words.specs.PathWords.{longest_path}
use Rattle.call_words.specs.Request.{Request, WindowAsked, asked_by, asked_behind, request_in}
use Rattle.call_words.specs.Request.Request.{Walk, Draw, Drill, Verify}
use Rattle.call_words.specs.Values.{Values, values_given, or_default, ◌>>=◌}
use Rattle.call_words.specs.Views.{AnswersAs, AreWithinForms, IsWalkAsked, IsWithinForms, question_of, request_of}
use Rattle.call_words.specs.WindowWords.{FitWindow}
use Rattle.call_words.specs.Words.{is_right}
use Rattle.call_words.proofs.ValuesWithin.{AreFit, values-fit}

-- ---- what a request asks for
pub record IsFitAsked (window : WindowAsked) : Type 0 where
  pub centre : IsWithin (2 ^ 20) window.at
  pub half : FitWindow window.half

abbrev IsFit : Request → Type 0
IsFit (Walk rule addr seed grow path) = IsWalkAsked grow path
IsFit (Draw rule addr seed window layers glue) = IsFitAsked window
IsFit (Drill rule count seed) = count ≤ most_windows
IsFit (Verify name addr seed window) = IsFitAsked window
IsFit _ = Unit {0}

abbrev MayFit : Option Request → Type 0
MayFit None = Unit {0}
MayFit (Some request) = IsFit request

then-fits : {A : Type 0} (o : Option A) (next : A → Option Request) → ((x : A) → o ≡ Some x → MayFit (next x)) → MayFit (o >>= next)
then-fits None next h = tt
then-fits (Some x) next h = h x refl

depth-fits : (o : Option ℕ) → ((n : ℕ) → o ≡ Some n → n ≤ 64) → or_default o 0 ≤ 64
depth-fits None h = lit≤ tt
depth-fits (Some n) h = h n refl

path-fits : (o : Option (List ℕ)) → ((path : List ℕ) → o ≡ Some path → length path ≤ longest_path) → length (or_default o []) ≤ longest_path
path-fits None h = lit≤ tt
path-fits (Some path) h = h path refl

of_command : (c : Command) (v : Values) → AreFit v → MayFit (asked_by c v)
unfolding asked_by
of_command command.Place v f = then-fits v.rule _ (λ rule e. then-fits v.addr _ (λ addr g. tt))
of_command command.Neighbour v f = then-fits v.rule _ (λ rule e. then-fits v.addr _ (λ addr g. then-fits v.edge _ (λ edge h. tt)))
of_command command.Walk v f = then-fits v.rule _ (λ rule e. then-fits v.addr _ (λ addr g.
    record { depth = depth-fits v.grow f.grow; edges = path-fits v.path f.path }))
of_command command.Draw v f =
    then-fits v.rule _ (λ rule e. then-fits v.addr _ (λ addr g. then-fits v.at _ (λ at h. then-fits v.half _ (λ half k. then-fits v.layers _
    (λ layers l. record { centre = f.at at h; half = f.half half k })))))
of_command command.Check v f = then-fits v.rule _ (λ rule e. tt)
of_command command.Calc v f = then-fits v.rule _ (λ rule e. then-fits (builtin_name rule) _ (λ name g. tt))
of_command command.Drill v f = then-fits v.rule _ (λ rule e. then-fits v.count _ (λ count g. f.count count g))
of_command command.Star v f = then-fits v.rule _ (λ rule e. then-fits v.addr _ (λ addr g. then-fits v.vertex _ (λ vertex h. tt)))
of_command command.Verify v f =
    then-fits v.rule _ (λ rule e. then-fits (builtin_name rule) _
    (λ name g. then-fits v.addr _ (λ addr h. then-fits v.at _ (λ at k. then-fits v.half _
    (λ half l. record { centre = f.at at k; half = f.half half l })))))

-- ---- what the arguments of a call ask for
abbrev IsFitAnswer : Result Request ℕ → Type 0
IsFitAnswer (Ok request) = IsFit request
IsFitAnswer (Err place) = Unit {0}

behind-fits : (c : Command) (before after : List (List ℕ)) → IsFitAnswer (asked_behind c before after)
behind-fits c before [] = at_request (asked_by c (values_given before)) (of_command c (values_given before) (values-fit before))
  where
    at_request : (o : Option Request) → MayFit o → IsFitAnswer (ok_or o (length before))
    at_request None h = tt
    at_request (Some request) h = h
behind-fits c before (word ∷ after) = at_test (is_right c before word) (behind-fits c (before ++ word ∷ []) after)
  where
    at_test : (b : Bool) → IsFitAnswer (asked_behind c (before ++ word ∷ []) after)
        → IsFitAnswer (cond b (asked_behind c (before ++ word ∷ []) after) (Err (length before)))
    at_test true h = h
    at_test false h = tt

request-fits : (words : List (List ℕ)) → IsFitAnswer (request_in words)
request-fits [] = tt
request-fits (name ∷ words) = at_name (command_named name)
  where
    at_name : (o : Option Command) → IsFitAnswer (option_map_or (λ c. asked_behind c (name ∷ []) words) o (Err 0))
    at_name None = tt
    at_name (Some c) = behind-fits c (name ∷ []) words

-- the window for which `verify` asks
pub window-asked : (name : Name) (addr : List ℕ) (seed : ℕ) (window : WindowAsked) (words : List (List ℕ))
    → request_in words ≡ Ok (Verify name addr seed window) → IsFitAsked window
window-asked name addr seed window words e = subst IsFitAnswer e (request-fits words)

-- ---- what the program answers
within_question : (addr : List ℕ) (seed : ℕ) (q : Question) → IsFit (question_of addr seed q) → AreWithinForms q
within_question addr seed (question.Walk rule grow path) h = h
within_question addr seed (question.Draw rule window layers glue) h = record { centre = h.centre; half = h.half }
within_question addr seed (question.Star rule vertex) h = tt
within_question addr seed (question.Verify name window) h = record { centre = h.centre; half = h.half }

within_forms : (request : Asked) → IsFit (request_of request) → IsWithinForms request
within_forms (asked.Place rule addr) h = tt
within_forms (asked.Neighbour rule addr edge) h = tt
within_forms (asked.Check rule) h = tt
within_forms (asked.Calc name) h = tt
within_forms (asked.Drill rule count seed) h = h
within_forms (asked.InFrame addr seed q) h = within_question addr.now seed q h

pub answer-within : (words : List (List ℕ)) (answer : Result Asked ℕ) → AnswersAs request_of answer (request_in words) → IfOk answer IsWithinForms
answer-within words (Ok request) e = within_forms request (subst IsFitAnswer e (request-fits words))
answer-within words (Err place) e = tt
