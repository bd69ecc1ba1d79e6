use Rattle.std.proofs.Common.{rules, length, ◌≤◌, Err, sym, subst}
use Rattle.std.proofs.lemmas.Result.{err_from_is_err_and}
use Rattle.addr_calc.specs.Script.{IsOutcome, LineOrNoMemory}
use Rattle.rule_model.specs.Tiling.{tiling_of}
use Rattle.rule_text.specs.Limits.{longest_file}
use Rattle.tile_app.specs.declared.file_kind.FileKind.TheVariants.{Script}
use Rattle.tile_app.specs.Calc.{PrintsCalc}
use Rattle.tile_app.specs.Reading.{IsFileUnread, IsScriptRefused}
use Rattle.tile_app.proofs.Own.{script_unread, script_done, script_faulty}
use Rattle.tile_app.proofs.Read.{refused_by}
use Rattle.tile_app.proofs.calc.script_output.Goals as goal

pub returns-in_err-script-clause-refused : goal.returns-in_err-script-clause-refused
returns-in_err-script-clause-refused g c =
    let t = tiling_of c.args.machine.now in
    let left = g.R.Source.left c.args.source.now in
    let rest = g.R.Source.left c.file_read.new.source in
    let h = refused_by (IsFileUnread Script left rest) (IsScriptRefused t left rest)
    (script_unread t left rest) c.file_read.result c.file_read.ensures.refused in
    search (rules, h)

pub calc-requires : goal.calc-requires
calc-requires g c = subst (λ f. length f ≤ longest_file) (sym c.as_slice.ensures.value) c.in_ok-script.ensures.not_too_long

-- the slice is the file
pub returns-in_err-calc-clause-refused : goal.returns-in_err-calc-clause-refused
returns-in_err-calc-clause-refused g c =
    let fault = c.in_err-calc.field-0.0 in
    let of_file = subst (λ file. LineOrNoMemory (λ f. IsOutcome (tiling_of c.args.machine.now) file (Err f)) fault)
    c.as_slice.ensures.value c.in_err-calc.ensures.fault in
    let p = err_from_is_err_and c.from_residual-in_err-calc.result c.from_residual-in_err-calc.ensures.1 in
    rw (p.1, p.2) (script_faulty (tiling_of c.args.machine.now) (g.R.Source.left c.args.source.now)
    (g.R.Source.left c.file_read.new.source) c.in_ok-script.script.items c.in_ok-script.ensures.read
    c.in_ok-script.ensures.not_too_long fault of_file)

pub returns-clause-printed : goal.returns-clause-printed
returns-clause-printed g c =
    let text = c.in_ok-calc.field-0.items in
    script_done (tiling_of c.args.machine.now) (g.R.Source.left c.args.source.now)
    (g.R.Source.left c.file_read.new.source) c.in_ok-script.script.items c.in_ok-script.ensures.read
    c.in_ok-script.ensures.not_too_long text (subst
    (λ file. PrintsCalc file (tiling_of c.args.machine.now) text) c.as_slice.ensures.value
    c.in_ok-calc.ensures.ran)
