-- The program's request as the definitions have it.
use Rattle.std.specs.Prelude.{◌≡◌, ℕ, ◌≤◌, ◌^◌, List, length, Result, Ok, Err}
use Rattle.cyclo_points.specs.Point.{IsWithin}
use Rattle.call_words.specs.declared.request.Question.{Question}
use Rattle.call_words.specs.declared.request.Question.TheVariants as question
use Rattle.call_words.specs.declared.request.Request.{Request as Asked}
use Rattle.call_words.specs.declared.request.Request.TheVariants as asked
use Rattle.call_words.specs.declared.window_words.WindowWords.{WindowWords}
use Rattle.call_words.specs.PathWords.{longest_path}
use Rattle.call_words.specs.Request.{Request, WindowAsked}
use Rattle.call_words.specs.Request.Request.{Place, Neighbour, Walk, Draw, Check, Calc, Drill, Star, Verify}
use Rattle.call_words.specs.WindowWords.{FitWindow}

abbrev pub window_of : WindowWords → WindowAsked
window_of w = record { at = w.at; half = w.half }

-- a question in the frame of the tile with an address, which grows by a seed
abbrev pub question_of : List ℕ → ℕ → Question → Request
question_of addr seed (question.Walk rule grow path) = Walk rule addr seed grow path.now
question_of addr seed (question.Draw rule window layers glue) =
    Draw rule addr seed (window_of window) layers.items glue
question_of addr seed (question.Star rule vertex) = Star rule addr seed vertex
question_of addr seed (question.Verify name window) = Verify name addr seed (window_of window)

abbrev pub request_of : Asked → Request
request_of (asked.Place rule addr) = Place rule addr.now
request_of (asked.Neighbour rule addr edge) = Neighbour rule addr.now edge
request_of (asked.Check rule) = Check rule
request_of (asked.Calc name) = Calc name
request_of (asked.Drill rule count seed) = Drill rule count seed
request_of (asked.InFrame addr seed q) = question_of addr.now seed q

-- a reader of arguments returns what the definition reads
abbrev pub AnswersAs : {X Y : Type 0} → (X → Y) → Result X ℕ → Result Y ℕ → Type 0
AnswersAs seen (Ok x) read = read ≡ Ok (seen x)
AnswersAs seen (Err place) read = read ≡ Err place

-- A window as it is asked for: half-width and half-height are from 1 to 4,096, and no coefficient of the
-- centre is above 2^20 in absolute value.
pub record IsWindowAsked (window : WindowWords) : Type 0 where
  pub centre : IsWithin (2 ^ 20) window.at
  pub half : FitWindow window.half

-- a walk as it is asked for: a depth at most 64, and a path of at most 1,000 edges
pub record IsWalkAsked (grow : ℕ) (path : List ℕ) : Type 0 where
  pub depth : grow ≤ 64
  pub edges : length path ≤ longest_path

-- the values of a question are within the bounds of their forms
abbrev pub AreWithinForms : Question → Type 0
AreWithinForms (question.Walk rule grow path) = IsWalkAsked grow path.now
AreWithinForms (question.Draw rule window layers glue) = IsWindowAsked window
AreWithinForms (question.Star rule vertex) = Unit {0}
AreWithinForms (question.Verify name window) = IsWindowAsked window

-- the values of a request are within the bounds of their forms
abbrev pub IsWithinForms : Asked → Type 0
IsWithinForms (asked.Drill rule count seed) = count ≤ 200
IsWithinForms (asked.InFrame addr seed q) = AreWithinForms q
IsWithinForms _ = Unit {0}
