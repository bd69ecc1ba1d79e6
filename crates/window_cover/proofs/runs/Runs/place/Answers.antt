use Rattle.std.proofs.Common.{◌≡◌, ◌<◌, ◌^◌, IfSome, length, get_or, refl, sym, ap, ap₂, ◌∙◌, subst, arith}
use Rattle.std.proofs.lemmas.List.{get_or_read_under, length-map}
use Rattle.cyclo_points.specs.declared.motion.Motion.{Motion}
use Rattle.cyclo_points.specs.Point.{IsWithin}
use Rattle.window_cover.specs.declared.run.Run.{Run}
use Rattle.window_cover.specs.declared.run_tile.RunTile.{RunTile}
use Rattle.window_cover.specs.Covered.{tile_of}
use Rattle.window_cover.specs.Found.{Found}
use Rattle.window_cover.specs.Runs.{no_run, run_of, shifted_by, tile_seen, seen, IsRunTile}
use Rattle.window_cover.proofs.RunTiles.{no_run_tile, run-tile-is, run-tile-seen}
use Rattle.window_cover.specs.declared.runs.Runs.{Runs}
use Rattle.window_cover.proofs.runs.Runs.place.Goals.{After-index-tile}
use Rattle.window_cover.proofs.runs.Runs.place.Goals as goal

long : (r : Runs) → length (seen r) ≡ length r.tiles.items
long r = length-map r.tiles.items (tile_seen r.leaves.found r.runs.items r.spans.items)

abbrev t : After-index-tile → RunTile
t c = c.index-tile.result.now

-- the tile is read
read : (c : After-index-tile) → t c ≡ get_or c.args.self.now.tiles.items c.args.number no_run_tile
read c =
    let r = c.args.self.now in
    let many = long r in
    get_or_read_under r.tiles.items c.args.number (length r.tiles.items) (t c) no_run_tile
    c.index-tile.ensures (omega (arith, many, c.requires.below)) refl

is : (c : After-index-tile) → IsRunTile c.args.self.now.leaves.found c.args.self.now.runs.items c.args.self.now.spans.items (t c)
is c = run-tile-is c.args.self.now c.requires.runs c.args.number c.requires.below (t c) (read c)

its : (c : After-index-tile) → tile_of (seen c.args.self.now) c.args.number
    ≡ tile_seen c.args.self.now.leaves.found c.args.self.now.runs.items c.args.self.now.spans.items (t c)
its c = run-tile-seen c.args.self.now c.requires.runs c.args.number c.requires.below (t c) (read c)

run-read : (r : Runs) (t : RunTile) → t.run < length r.runs.items → (x : Run) → x ≡ get_or r.runs.items t.run x → x ≡ run_of r.runs.items t.run
run-read r t there x e = get_or_read_under r.runs.items t.run (length r.runs.items) x no_run e there refl

pub index-tile-requires : goal.index-tile-requires
index-tile-requires c =
    let r = c.args.self.now in
    let many = long r in
    let held = r.tiles.ok in
    omega (arith, many, held, c.requires.below)

pub index-run-requires : goal.index-run-requires
index-run-requires c =
    let p = (goal.at.index-run-requires c).After-index-tile in
    let there = (is p).run_there in
    let held = c.args.self.now.runs.ok in
    omega (arith, there, held)

pub place-kind-requires : goal.place-kind-requires
place-kind-requires c = record { found = (is (goal.at.place-kind-requires c).After-index-tile).leaf_there }

pub shifted-requires-clause-shift_within : goal.shifted-requires-clause-shift_within
shifted-requires-clause-shift_within c =
    subst (λ (m : Motion). IsWithin (2 ^ 24) m.shift) (sym c.place-kind.ensures.motion)
    (is (goal.at.shifted-requires-clause-shift_within c).After-index-tile).leaf_within

pub shifted-requires-clause-by_within : goal.shifted-requires-clause-by_within
shifted-requires-clause-by_within c =
    subst (λ (r : Run). IfSome r.shift (IsWithin (2 ^ 24)))
    (sym (run-read c.args.self.now c.index-tile.result.now
    (is (goal.at.shifted-requires-clause-by_within c).After-index-tile).run_there c.index-run.result.now
    c.index-run.ensures))
    (is (goal.at.shifted-requires-clause-by_within c).After-index-tile).run_within

pub returns-clause-motion : goal.returns-clause-motion
returns-clause-motion c =
    let p = (goal.at.returns-clause-motion c).After-index-tile in
    let leaf : Found = tile_of c.args.self.now.leaves.found (t p).leaf in
    let turn = ap (λ (m : Motion). m.turn) c.place-kind.ensures.motion in
    let shift = c.shifted.ensures ∙ ap₂ (λ (r : Run) (m : Motion). shifted_by r.shift m.shift)
    (run-read c.args.self.now c.index-tile.result.now
    (is (goal.at.returns-clause-motion c).After-index-tile).run_there c.index-run.result.now
    c.index-run.ensures) c.place-kind.ensures.motion in
    (λ i. record { turn = turn i; shift = shift i }) ∙ sym (ap (λ (x : Found). x.motion) (its p))

pub returns-clause-kind : goal.returns-clause-kind
returns-clause-kind c = c.place-kind.ensures.kind ∙ sym (ap (λ (x : Found). x.kind) (its (goal.at.returns-clause-kind c).After-index-tile))
