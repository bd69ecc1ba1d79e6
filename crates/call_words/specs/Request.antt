-- What the arguments of a call ask for, as one function of the arguments.
use Rattle.std.specs.Prelude.{ℕ, Bool, false, List, [], ◌∷◌, ◌++◌, length, Option, Some, Result, Err, if◌then◌else◌}
use Rattle.std.specs.Option.{option_map_or, ok_or}
use Rattle.builtin_rules.specs.declared.name.Name.{Name}
use Rattle.cyclo_points.specs.declared.point.Point.{Point}
use Rattle.layer_api.specs.declared.format.Format.{Format}
use Rattle.call_words.specs.declared.rule_choice.RuleChoice.{RuleChoice}
use Rattle.call_words.specs.declared.rule_choice.RuleChoice.TheVariants.{Builtin}
use Rattle.call_words.specs.declared.window_words.HalfExtents.{HalfExtents}
use Rattle.call_words.specs.declared.words.Command.{Command}
use Rattle.call_words.specs.declared.words.Command.TheVariants as command
use Rattle.call_words.specs.Choices.{builtin_name}
use Rattle.call_words.specs.Commands.{command_named}
use Rattle.call_words.specs.Values.{Values, values_given, or_default, ◌>>=◌}
use Rattle.call_words.specs.Words.{is_right}

-- a window as it is asked for: its centre, before it is reduced to the order, its half-width and its
-- half-height
pub record WindowAsked : Type 0 where
  pub at : Point
  pub half : HalfExtents

-- a request; a tile is given by the text of its address
pub data Request : Type 0 where
  Place : (rule : RuleChoice) (addr : List ℕ) → Request
  Neighbour : (rule : RuleChoice) (addr : List ℕ) (edge : ℕ) → Request
  Walk : (rule : RuleChoice) (addr : List ℕ) (seed grow : ℕ) (path : List ℕ) → Request
  Draw : (rule : RuleChoice) (addr : List ℕ) (seed : ℕ) (window : WindowAsked) (layers : List Format)
      (glue : Bool) → Request
  Check : (rule : RuleChoice) → Request
  Calc : (name : Name) → Request
  Drill : (rule : RuleChoice) (count seed : ℕ) → Request
  Star : (rule : RuleChoice) (addr : List ℕ) (seed vertex : ℕ) → Request
  Verify : (name : Name) (addr : List ℕ) (seed : ℕ) (window : WindowAsked) → Request

-- the rule of a request
abbrev pub rule_asked : Request → RuleChoice
rule_asked (Place rule addr) = rule
rule_asked (Neighbour rule addr edge) = rule
rule_asked (Walk rule addr seed grow path) = rule
rule_asked (Draw rule addr seed window layers glue) = rule
rule_asked (Check rule) = rule
rule_asked (Calc name) = Builtin name
rule_asked (Drill rule count seed) = rule
rule_asked (Star rule addr seed vertex) = rule
rule_asked (Verify name addr seed window) = Builtin name

-- the formats that need a layer, in order; only `draw` has any
abbrev pub formats_of : Request → List Format
formats_of (Draw rule addr seed window layers glue) = layers
formats_of _ = []

-- what a command asks for with these values, or None if a required key is missing
unfoldable pub asked_by : Command → Values → Option Request
asked_by command.Place v = do
  rule ← v.rule
  addr ← v.addr
  Some (Place rule addr)
asked_by command.Neighbour v = do
  rule ← v.rule
  addr ← v.addr
  edge ← v.edge
  Some (Neighbour rule addr edge)
asked_by command.Walk v = do
  rule ← v.rule
  addr ← v.addr
  Some (Walk rule addr (or_default v.seed 0) (or_default v.grow 0) (or_default v.path []))
asked_by command.Draw v = do
  rule ← v.rule
  addr ← v.addr
  at ← v.at
  half ← v.half
  layers ← v.layers
  Some (Draw rule addr (or_default v.seed 0) (record { at = at; half = half }) layers
      (or_default v.glue false))
asked_by command.Check v = do
  rule ← v.rule
  Some (Check rule)
asked_by command.Calc v = do
  rule ← v.rule
  name ← builtin_name rule
  Some (Calc name)
asked_by command.Drill v = do
  rule ← v.rule
  count ← v.count
  Some (Drill rule count (or_default v.seed 0))
asked_by command.Star v = do
  rule ← v.rule
  addr ← v.addr
  vertex ← v.vertex
  Some (Star rule addr (or_default v.seed 0) vertex)
asked_by command.Verify v = do
  rule ← v.rule
  name ← builtin_name rule
  addr ← v.addr
  at ← v.at
  half ← v.half
  Some (Verify name addr (or_default v.seed 0) (record { at = at; half = half }))

-- What is asked for if the arguments `before` are right, or the position of the first wrong one of the
-- others. It is the number of arguments if a required key is missing.
abbrev pub asked_behind : Command → List (List ℕ) → List (List ℕ) → Result Request ℕ
asked_behind command before [] = ok_or (asked_by command (values_given before)) (length before)
asked_behind command before (word ∷ words) =
    if is_right command before word then asked_behind command (before ++ word ∷ []) words else Err
    (length before)

-- what the arguments ask for, or the position of the first wrong one, counted from 0: the first if it names
-- no command, or there are none
abbrev pub request_in : List (List ℕ) → Result Request ℕ
request_in [] = Err 0
request_in (name ∷ words) =
    option_map_or (λ command. asked_behind command (name ∷ []) words) (command_named name) (Err 0)
