use Rattle.std.proofs.Common.{◌≡◌, ◌+◌, ◌<◌, ◌++◌, List, length, map, take, drop, get_or, refl, sym, ap, ap₂, ◌∙◌, arith}
use Rattle.std.proofs.lemmas.List.{get_or_read_under, length-append, length-map, map-append}
use Rattle.theory_addresses.specs.Address.{Step as TheStep}
use Rattle.cyclo_points.specs.declared.motion.Motion.{Motion}
use Rattle.tile_place.specs.declared.placed_tile.PlacedTile.{PlacedTile}
use Rattle.tile_shape.specs.declared.step.Step.{Step}
use Rattle.tile_shape.specs.Views.{step_of}
use Rattle.window_cover.specs.declared.run.Run.{Run}
use Rattle.window_cover.specs.declared.run_tile.RunTile.{RunTile}
use Rattle.window_cover.specs.declared.runs.Runs.{Runs}
use Rattle.window_cover.specs.Admitted.{found_as}
use Rattle.window_cover.specs.Covered.{placed_as, tile_of}
use Rattle.window_cover.specs.Found.{Found}
use Rattle.window_cover.specs.Runs.{no_run, run_of, span_of, run_tile, shifted_by, tile_seen, seen, IsRunTile}
use Rattle.window_cover.proofs.Lifting.{placed-is}
use Rattle.window_cover.proofs.RunTiles.{no_run_tile, run-tile-is, run-tile-seen}
use Rattle.window_cover.proofs.runs.Runs.put_lifted.Goals.{After-index-tile}
use Rattle.window_cover.proofs.runs.Runs.put_lifted.Goals as goal

abbrev t : After-index-tile → RunTile
t c = c.index-tile.result.now

-- the tile is read
read : (c : After-index-tile) → t c ≡ get_or c.args.self.now.tiles.items c.args.number no_run_tile
read c =
    let r = c.args.self.now in
    let many = length-map r.tiles.items (tile_seen r.leaves.found r.runs.items r.spans.items) in
    get_or_read_under r.tiles.items c.args.number (length r.tiles.items) (t c) no_run_tile
    c.index-tile.ensures (omega (arith, many, c.requires.found)) refl

is : (c : After-index-tile) → IsRunTile c.args.self.now.leaves.found c.args.self.now.runs.items c.args.self.now.spans.items (t c)
is c = run-tile-is c.args.self.now c.requires.runs c.args.number c.requires.found (t c) (read c)

its : (c : After-index-tile) → tile_of (seen c.args.self.now) c.args.number
    ≡ tile_seen c.args.self.now.leaves.found c.args.self.now.runs.items c.args.self.now.spans.items (t c)
its c = run-tile-seen c.args.self.now c.requires.runs c.args.number c.requires.found (t c) (read c)

run-read : (r : Runs) (t : RunTile) → t.run < length r.runs.items → (x : Run) → x ≡ get_or r.runs.items t.run x → x ≡ run_of r.runs.items t.run
run-read r t there x e = get_or_read_under r.runs.items t.run (length r.runs.items) x no_run e there refl

pub returns : goal.returns
returns c =
    let q = (goal.at.returns c).After-index-tile in
    let r = c.args.self.now in
    let run : Run = c.index-run.result.now in
    let leaf : Found = tile_of r.leaves.found c.index-tile.result.now.leaf in
    let kind = c.place-own_kind.result.1 in
    let moved : Motion = record { turn = c.place-own_kind.result.0.turn; shift = c.shifted.result } in
    let fine : List Step = c.digits_of-fine.result.now in
    let middle : List Step = c.span-middle.result.now in
    let above : List Step = c.args.above.now in
    let before : PlacedTile = record { kind = kind; motion = moved; addr = record { kind = kind; digits = record { items = fine ++ middle } } } in
    let whole : PlacedTile = record { kind = kind; motion = moved; addr = record { kind = kind; digits = c.put_digits.new.digits } } in
    let both : length fine + length middle ≡ length (fine ++ middle) = (let e = length-append fine middle in omega (arith, e)) in
    let behind : c.put_digits.new.digits.items ≡ (fine ++ middle) ++ drop (length (fine ++ middle)) above =
    c.put_digits.ensures ∙ ap (λ (ds : List Step). (fine ++ middle) ++ ds) (c.behind-coarse.ensures ∙ ap (λ n. drop n above) both) in
    let span : middle ≡ take run.depth (drop run.first r.spans.items) =
    c.span-middle.ensures ∙ ap (λ (ds : List Step). take run.depth (drop run.first ds)) c.deref.ensures.value in
    let digits : map step_of (fine ++ middle) ≡ leaf.digits ++ span_of r.spans.items run =
    map-append step_of fine middle ∙ ap₂ (λ (xs ys : List TheStep). xs ++ ys) c.digits_of-fine.ensures (ap (map step_of) span) in
    let shift = c.shifted.ensures ∙ ap (λ (g : Motion). shifted_by run.shift g.shift) c.place-own_kind.ensures.motion in
    let turn = ap (λ (g : Motion). g.turn) c.place-own_kind.ensures.motion in
    let same : found_as before ≡ run_tile run.shift (span_of r.spans.items run) leaf =
    (λ i. record { kind = c.place-own_kind.ensures.kind i; motion = record { turn = turn i; shift = shift i }; digits = digits i }) in
    placed-is before whole above refl refl refl refl behind
    ∙ ap (placed_as (map step_of above)) (same
    ∙ ap (λ (o : Run). run_tile o.shift (span_of r.spans.items o) leaf) (run-read r c.index-tile.result.now (is q).run_there run c.index-run.ensures)
    ∙ sym (its q))
