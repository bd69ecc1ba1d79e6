-- Tiles of runs: runs, leaves and digits behind others change none, and what a further run brings.
use Rattle.std.proofs.Common.{◌≡◌, ℕ, zero, suc, ◌+◌, ◌<◌, ◌≤◌, ◌^◌, List, [], ◌∷◌, ◌++◌, map, length, take, drop, get_or, None, IfSome, refl, sym, ap, ap₂, ◌∙◌, subst, arith, take_all, length-append, length-drop}
use Rattle.std.specs.declared.option.Option.{Option}
use Rattle.std.specs.List.{AllByRecursion}
use Rattle.std.proofs.Math.Seq.{drop-append_seam, get_or-append_seam}
use Rattle.std.proofs.lemmas.List.{take-append-le, drop-append-le, map-append, get_or_append_left, append-nil, length-map, get_or-map}
use Rattle.std.proofs.lemmas.List.Elements.{All-from_recursion}
use Rattle.theory_addresses.specs.Address.{Step as TheStep}
use Rattle.theory_addresses.proofs.Lists.{AllByRecursion-each, AllByRecursion-append}
use Rattle.cyclo_points.specs.declared.point.Point.{Point}
use Rattle.cyclo_points.specs.Point.{IsWithin}
use Rattle.tile_place.specs.Keys.{FitsKey}
use Rattle.tile_shape.specs.declared.step.Step.{Step}
use Rattle.tile_shape.specs.Views.{step_of}
use Rattle.window_cover.specs.declared.block.Block.{Block}
use Rattle.window_cover.specs.declared.run.Run.{Run}
use Rattle.window_cover.specs.declared.run_tile.RunTile.{RunTile}
use Rattle.window_cover.specs.declared.runs.Runs.{Runs}
use Rattle.window_cover.specs.Covered.{none, tile_of}
use Rattle.window_cover.specs.Found.{Found}
use Rattle.window_cover.specs.Keys.{HasKey}
use Rattle.window_cover.specs.Runs.{run_tile, no_run, run_of, span_of, tile_seen, IsRunTile, run_tiles, leaves_from, leaves_in, CanRun, CanRunLeaf, AreRuns, seen}

-- ---- behind others
module _ (leaves more later : List Found) (runs further runs_later : List Run) (spans digits spans_later : List Step)
    (of_leaves : later ≡ leaves ++ more) (of_runs : runs_later ≡ runs ++ further) (of_spans : spans_later ≡ spans ++ digits) where
  module _ (t : RunTile) (h : IsRunTile leaves runs spans t) where
    abbrev run : Run
    run = run_of runs t.run

    run-same : run_of runs_later t.run ≡ run
    run-same = ap (λ (rs : List Run). get_or rs t.run no_run) of_runs ∙ get_or_append_left runs further no_run t.run h.run_there

    leaf-same : tile_of later t.leaf ≡ tile_of leaves t.leaf
    leaf-same = ap (λ (xs : List Found). get_or xs t.leaf none) of_leaves ∙ get_or_append_left leaves more none t.leaf h.leaf_there

    span-same : span_of spans_later run ≡ span_of spans run
    span-same =
        let there = h.span_there in
        let short : run.depth ≤ length (drop run.first spans) = omega (arith, there, length-drop run.first spans) in
        ap (map step_of) (ap (λ l. take run.depth (drop run.first l)) of_spans
        ∙ ap (take run.depth) (drop-append-le run.first spans digits (omega (arith, there)))
        ∙ take-append-le run.depth (drop run.first spans) digits short)

    pub later-seen : tile_seen later runs_later spans_later t ≡ tile_seen leaves runs spans t
    later-seen = ap (λ (r : Run). run_tile r.shift (span_of spans_later r) (tile_of later t.leaf)) run-same
        ∙ ap₂ (λ (ds : List TheStep) (x : Found). run_tile run.shift ds x) span-same leaf-same

    pub later-is : IsRunTile later runs_later spans_later t
    later-is =
        let a = h.run_there in
        let b = h.leaf_there in
        let c = h.span_there in
        let longer_runs = ap length of_runs ∙ length-append runs further in
        let longer_leaves = ap length of_leaves ∙ length-append leaves more in
        let longer_spans = ap length of_spans ∙ length-append spans digits in
        let within : length spans ≤ length spans_later = omega (arith, longer_spans) in
        record {
          run_there = omega (arith, a, longer_runs);
          leaf_there = omega (arith, b, longer_leaves);
          span_there = subst (λ (r : Run). r.first + r.depth ≤ length spans_later) (sym run-same) (omega (arith, c, within));
          run_within = subst (λ (r : Run). IfSome r.shift (IsWithin (2 ^ 24))) (sym run-same) h.run_within;
          leaf_within = subst (λ (x : Found). IsWithin (2 ^ 24) x.motion.shift) (sym leaf-same) h.leaf_within;
          short = subst (λ (x : Found). length x.digits + (run_of runs_later t.run).depth ≤ 64) (sym leaf-same)
              (subst (λ (r : Run). length (tile_of leaves t.leaf).digits + r.depth ≤ 64) (sym run-same) h.short);
          key = subst (λ (x : Found). FitsKey x.motion x.kind) (sym later-seen) h.key;
        }

  pub later-all : (ts : List RunTile) → AllByRecursion (IsRunTile leaves runs spans) ts → AllByRecursion (IsRunTile later runs_later spans_later) ts
  later-all ts h = AllByRecursion-each (IsRunTile leaves runs spans) (IsRunTile later runs_later spans_later) ts later-is h

  pub later-map : (ts : List RunTile) → AllByRecursion (IsRunTile leaves runs spans) ts
      → map (tile_seen later runs_later spans_later) ts ≡ map (tile_seen leaves runs spans) ts
  later-map [] h = refl
  later-map (t ∷ ts) h = ap₂ (λ (x : Found) (xs : List Found). x ∷ xs) (later-seen t h.0) (later-map ts h.1)

-- ---- a further run
module _ (leaves : List Found) (runs runs_later : List Run) (spans digits spans_later : List Step) (own : Run)
    (of_runs : runs_later ≡ runs ++ own ∷ []) (of_spans : spans_later ≡ spans ++ digits)
    (its_first : own.first ≡ length spans) (its_depth : own.depth ≡ length digits) where
  own-run : run_of runs_later (length runs) ≡ own
  own-run = ap (λ (rs : List Run). get_or rs (length runs) no_run) of_runs ∙ get_or-append_seam runs own [] no_run

  own-span : span_of spans_later own ≡ map step_of digits
  own-span = ap (map step_of) (ap₂ (λ i n. take n (drop i spans_later)) its_first its_depth
      ∙ ap (λ l. take (length digits) (drop (length spans) l)) of_spans
      ∙ ap (take (length digits)) (drop-append_seam spans digits) ∙ take_all (length digits) digits (omega arith))

  pub new-seen : (i : ℕ) → tile_seen leaves runs_later spans_later (record { run = length runs; leaf = i })
      ≡ run_tile own.shift (map step_of digits) (tile_of leaves i)
  new-seen i = ap (λ (r : Run). run_tile r.shift (span_of spans_later r) (tile_of leaves i)) own-run
      ∙ ap (λ (ds : List TheStep). run_tile own.shift ds (tile_of leaves i)) own-span

  pub new-map : (first count : ℕ) → map (tile_seen leaves runs_later spans_later) (run_tiles (length runs) first count)
      ≡ map (run_tile own.shift (map step_of digits)) (leaves_from first count leaves)
  new-map first zero = refl
  new-map first (suc count) = ap₂ (λ (x : Found) (xs : List Found). x ∷ xs) (new-seen first) (new-map (suc first) count)

  module _ (by_within : IfSome own.shift (IsWithin (2 ^ 24))) where
    new-is : (i : ℕ) → i < length leaves → CanRunLeaf own.shift digits (tile_of leaves i)
        → IsRunTile leaves runs_later spans_later (record { run = length runs; leaf = i })
    new-is i below can =
        let more_runs = ap length of_runs ∙ length-append runs (own ∷ []) in
        let more_spans = ap length of_spans ∙ length-append spans digits in
        record {
          run_there = omega (arith, more_runs);
          leaf_there = below;
          span_there = subst (λ (r : Run). r.first + r.depth ≤ length spans_later) (sym own-run) (omega (arith, its_first, its_depth, more_spans));
          run_within = subst (λ (r : Run). IfSome r.shift (IsWithin (2 ^ 24))) (sym own-run) by_within;
          leaf_within = can.within;
          short = subst (λ (r : Run). length (tile_of leaves i).digits + r.depth ≤ 64) (sym own-run)
              (subst (λ n. length (tile_of leaves i).digits + n ≤ 64) (sym its_depth) can.short);
          key = subst (λ (x : Found). FitsKey x.motion x.kind) (sym (new-seen i)) can.key;
        }

    pub new-all : (first count : ℕ) → first + count ≤ length leaves
        → ((i : ℕ) → first ≤ i → i < first + count → CanRunLeaf own.shift digits (tile_of leaves i))
        → AllByRecursion (IsRunTile leaves runs_later spans_later) (run_tiles (length runs) first count)
    new-all first zero fits can = tt
    new-all first (suc count) fits can = (
      new-is first (omega (arith, fits)) (can first (omega arith) (omega arith)),
      new-all (suc first) count (omega (arith, fits)) (λ i a b. can i (omega (arith, a)) (omega (arith, b))),
    )

-- ---- the leaves of a block, as a further run
module _ (leaves : List Found) (runs runs_later : List Run) (spans spans_later : List Step) (tiles tiles_later : List RunTile) (shift : Option Point)
    (digits : List Step) (b : Block) (number first : ℕ)
    (of_runs : runs_later ≡ runs ++ record { shift = shift; first = first; depth = length digits } ∷ [])
    (of_spans : spans_later ≡ spans ++ digits) (its_number : number ≡ length runs) (its_first : first ≡ length spans)
    (of_tiles : tiles_later ≡ tiles ++ run_tiles number b.first b.count) (are : AllByRecursion (IsRunTile leaves runs spans) tiles)
    (can : CanRun leaves b shift digits) where
  abbrev its_run : Run
  its_run = record { shift = shift; first = first; depth = length digits }

  ordered : tiles_later ≡ tiles ++ run_tiles (length runs) b.first b.count
  ordered = of_tiles ∙ ap (λ (n : ℕ). tiles ++ run_tiles n b.first b.count) its_number

  pub pushed-all : AllByRecursion (IsRunTile leaves runs_later spans_later) tiles_later
  pushed-all = subst (AllByRecursion (IsRunTile leaves runs_later spans_later)) (sym ordered)
      (AllByRecursion-append (IsRunTile leaves runs_later spans_later) tiles (run_tiles (length runs) b.first b.count)
      (later-all leaves [] leaves runs (its_run ∷ []) runs_later spans digits spans_later (sym (append-nil leaves)) of_runs of_spans tiles are)
      (new-all leaves runs runs_later spans digits spans_later its_run of_runs of_spans its_first refl
      can.by_within b.first b.count can.fits can.each))

  pub pushed-seen : map (tile_seen leaves runs_later spans_later) tiles_later
      ≡ map (tile_seen leaves runs spans) tiles ++ map (run_tile shift (map step_of digits)) (leaves_in b leaves)
  pushed-seen =
      ap (map (tile_seen leaves runs_later spans_later)) ordered
      ∙ map-append (tile_seen leaves runs_later spans_later) tiles (run_tiles (length runs) b.first b.count)
      ∙ ap₂ (λ (xs ys : List Found). xs ++ ys)
      (later-map leaves [] leaves runs (its_run ∷ []) runs_later spans digits spans_later (sym (append-nil leaves)) of_runs of_spans tiles are)
      (new-map leaves runs runs_later spans digits spans_later its_run of_runs of_spans its_first refl b.first b.count)

-- ---- lists
pub run_tiles-more : (run first count : ℕ) → run_tiles run first (count + 1) ≡ run_tiles run first count
    ++ record { run = run; leaf = first + count } ∷ []
run_tiles-more run first count = ap (run_tiles run first) (sym next) ∙ more first count
  where
    next : suc count ≡ count + 1
    next = omega arith

    more : (first count : ℕ) → run_tiles run first (suc count) ≡ run_tiles run first count ++ record { run = run; leaf = first + count } ∷ []
    more first zero = ap (λ (i : ℕ). record { run = run; leaf = i } ∷ []) same
      where
        same : first ≡ first + 0
        same = omega arith
    more first (suc count) = ap (λ (ts : List RunTile). record { run = run; leaf = first } ∷ ts)
        (more (suc first) count ∙ ap (λ (i : ℕ). run_tiles run (suc first) count ++ record { run = run; leaf = i } ∷ []) same)
      where
        same : suc first + count ≡ first + suc count
        same = omega arith

pub length-run_tiles : (run first count : ℕ) → length (run_tiles run first count) ≡ count
length-run_tiles run first zero = refl
length-run_tiles run first (suc count) = ap suc (length-run_tiles run (suc first) count)

one-behind : {A : Type 0} (xs : List A) (y : A) (ys : List A) → (xs ++ y ∷ []) ++ ys ≡ xs ++ y ∷ ys
one-behind [] y ys = refl
one-behind (x ∷ xs) y ys = ap (λ zs. x ∷ zs) (one-behind xs y ys)

one-longer : {A : Type 0} (xs : List A) (y : A) → length (xs ++ y ∷ []) ≡ suc (length xs)
one-longer [] y = refl
one-longer (x ∷ xs) y = ap suc (one-longer xs y)

-- the leaves behind others, from their number on
pub leaves-behind : (front xs : List Found) → leaves_from (length front) (length xs) (front ++ xs) ≡ xs
leaves-behind front [] = refl
leaves-behind front (x ∷ xs) = ap₂ (λ (y : Found) (ys : List Found). y ∷ ys) (get_or-append_seam front x xs none)
    (ap₂ (λ (n : ℕ) (zs : List Found). leaves_from n (length xs) zs) (sym (one-longer front x)) (sym (one-behind front x xs))
    ∙ leaves-behind (front ++ x ∷ []) xs)

-- further leaves change none of those
pub leaves-longer : (first count : ℕ) (leaves more : List Found) → first + count ≤ length leaves
    → leaves_from first count (leaves ++ more) ≡ leaves_from first count leaves
leaves-longer first zero leaves more fits = refl
leaves-longer first (suc count) leaves more fits = ap₂ (λ (y : Found) (ys : List Found). y ∷ ys)
    (get_or_append_left leaves more none first (omega (arith, fits))) (leaves-longer (suc first) count leaves more (omega (arith, fits)))

-- each tile has a key
pub seen-keyed : (leaves : List Found) (runs : List Run) (spans : List Step) (ts : List RunTile) → AllByRecursion (IsRunTile leaves runs spans) ts
    → AllByRecursion HasKey (map (tile_seen leaves runs spans) ts)
seen-keyed leaves runs spans [] h = tt
seen-keyed leaves runs spans (t ∷ ts) h = (h.0.key, seen-keyed leaves runs spans ts h.1)

pub runs-keyed : (r : Runs) → AreRuns r → AllByRecursion HasKey (seen r)
runs-keyed r h = seen-keyed r.leaves.found r.runs.items r.spans.items r.tiles.items h.tiles

pub runs-few : (r : Runs) → AreRuns r → length (seen r) < 2 ^ 18
runs-few r h = let few = h.few in let long = length-map r.tiles.items
    (tile_seen r.leaves.found r.runs.items r.spans.items) in omega (arith, few, long)

-- ---- a single run that moves no leaf
abbrev pub whole_run : Run
whole_run = record { shift = None; first = 0; depth = 0 }

unmoved : (xs : List Found) → map (run_tile None []) xs ≡ xs
unmoved [] = refl
unmoved (x ∷ xs) = ap₂ (λ (y : Found) (ys : List Found). y ∷ ys) (λ i. record { kind = x.kind; motion = x.motion; digits = append-nil x.digits i })
    (unmoved xs)

module _ (leaves : List Found) (runs : List Run) (spans : List Step) (tiles : List RunTile) (of_runs : runs ≡ whole_run ∷ []) (of_spans : spans ≡ [])
    (count : ℕ) (long : count ≡ length leaves) (of_tiles : tiles ≡ run_tiles 0 0 count) where
  pub whole-seen : map (tile_seen leaves runs spans) tiles ≡ leaves
  whole-seen =
      ap (map (tile_seen leaves runs spans)) (of_tiles ∙ ap (run_tiles 0 0) long)
      ∙ new-map leaves [] runs [] [] spans whole_run of_runs of_spans refl refl 0 (length leaves)
      ∙ ap (map (run_tile None [])) (leaves-behind [] leaves) ∙ unmoved leaves

  pub whole-all : AllByRecursion HasKey leaves → AllByRecursion (λ (x : Found). length x.digits ≤ 64) leaves
      → AllByRecursion (IsRunTile leaves runs spans) tiles
  whole-all keyed short = subst (AllByRecursion (IsRunTile leaves runs spans)) (sym of_tiles)
      (new-all leaves [] runs [] [] spans whole_run of_runs of_spans refl refl tt 0 count (omega (arith, long))
      (λ i a b.
      let below : i < length leaves = omega (arith, long, b) in
      let key : HasKey (tile_of leaves i) = All-from_recursion HasKey leaves keyed i none below in
      let few : length (tile_of leaves i).digits ≤ 64 = All-from_recursion (λ (x : Found). length x.digits ≤ 64) leaves short i none below in
      record { within = key.within; short = omega (arith, few); key = key }))

-- ---- the tile of a number
abbrev pub no_run_tile : RunTile
no_run_tile = record { run = 0; leaf = 0 }

module _ (r : Runs) (are : AreRuns r) (number : ℕ) (below : number < length (seen r)) (t : RunTile)
    (read : t ≡ get_or r.tiles.items number no_run_tile) where
  within : number < length r.tiles.items
  within = let long = length-map r.tiles.items (tile_seen r.leaves.found r.runs.items r.spans.items) in omega (arith, below, long)

  pub run-tile-is : IsRunTile r.leaves.found r.runs.items r.spans.items t
  run-tile-is = subst (IsRunTile r.leaves.found r.runs.items r.spans.items) (sym read)
      (All-from_recursion (IsRunTile r.leaves.found r.runs.items r.spans.items) r.tiles.items are.tiles number no_run_tile within)

  pub run-tile-seen : tile_of (seen r) number ≡ tile_seen r.leaves.found r.runs.items r.spans.items t
  run-tile-seen = get_or-map (tile_seen r.leaves.found r.runs.items r.spans.items) r.tiles.items number no_run_tile none within
      ∙ ap (tile_seen r.leaves.found r.runs.items r.spans.items) (sym read)
