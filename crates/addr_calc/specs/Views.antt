-- The program's values in the terms of the definitions, and what its readers of fields return.
use Rattle.std.specs.Prelude.{◌≡◌, ℕ, List, [], map, Option, Some, None, option_map, Result, Ok, Err}
use Rattle.std.specs.Borrow.{Bor}
use Rattle.cyclo_points.specs.Text.{blank}
use Rattle.pair_machine.specs.Views.{as_pair}
use Rattle.pair_machine.specs.declared.verdict.Verdict.{Verdict}
use Rattle.pair_machine.specs.declared.verdict.Verdict.TheVariants as verdict
use Rattle.addr_calc.specs.declared.statement.Statement.{Statement as Asked}
use Rattle.addr_calc.specs.declared.statement.Statement.TheVariants as asked
use Rattle.tile_shape.specs.Words.{texts_between}
use Rattle.addr_calc.specs.Relation.{Relation}
use Rattle.addr_calc.specs.Relation.Relation.{Strangers, Same, Apart, Beside}
use Rattle.addr_calc.specs.Statement.{Statement}
use Rattle.addr_calc.specs.Statement.Statement.{Nothing, Let, Show, Place, Across, Common, Pair}

-- the statement, each name by its number
abbrev pub statement_of : Asked → Statement
statement_of asked.Nothing = Nothing
statement_of (asked.Let name text) = Let name.number text.now
statement_of (asked.Show name) = Show name.number
statement_of (asked.Place name) = Place name.number
statement_of (asked.Across name edge other) = Across name.number edge other.number
statement_of (asked.Common one other) = Common one.number other.number
statement_of (asked.Pair one other) = Pair one.number other.number

-- the relation that a verdict of the pair machine stands for
abbrev pub relation_of : Verdict → Relation
relation_of verdict.Strangers = Strangers
relation_of verdict.Same = Same
relation_of verdict.Apart = Apart
relation_of (verdict.Beside pairs) = Beside (map as_pair pairs.items)

-- the parts of the text after a mark, if there is a mark
abbrev pub parts_behind : ℕ → Option (List ℕ) → List (List ℕ)
parts_behind mark None = []
parts_behind mark (Some rest) = texts_between mark rest

-- the fields of what is left of a line
abbrev pub words_left : Option (Bor (List ℕ)) → List (List ℕ)
words_left left = parts_behind blank (option_map (λ rest. rest.now) left)

-- any field
abbrev pub any_in : List ℕ → Option (List ℕ)
any_in word = Some word

-- the result of a reader of the program is what the definition reads
abbrev pub FieldsAnswerAs : {X Y : Type 0} → (X → Y) → Result X ℕ → Result Y ℕ → Type 0
FieldsAnswerAs seen (Ok x) read = read ≡ Ok (seen x)
FieldsAnswerAs seen (Err place) read = read ≡ Err place
