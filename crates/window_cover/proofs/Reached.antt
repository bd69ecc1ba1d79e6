-- Tiles of runs held by fields of the runs and of the leaves.
use Rattle.std.proofs.Common.{◌≡◌, ℕ, ◌+◌, ◌<◌, ℤ, ◌+ℤ◌, List, [], ◌∷◌, length, take, get_or, None, Some, pos, refl, sym, subst, arith}
use Rattle.std.specs.declared.option.Option.{Option}
use Rattle.std.specs.List.{AllByRecursion}
use Rattle.std.proofs.lemmas.Int.{ints}
use Rattle.std.proofs.lemmas.List.{take_more}
use Rattle.std.proofs.lemmas.List.Elements.{All-from_recursion}
use Rattle.theory_addresses.proofs.Lists.{AllByRecursion-append, AllByRecursion-each, AllByRecursion-map}
use Rattle.cyclo_points.specs.declared.motion.Motion.{Motion}
use Rattle.cyclo_points.specs.declared.point.Point.{Point}
use Rattle.cyclo_points.specs.Point.{coefficient}
use Rattle.window_cover.specs.declared.fields.Fields.{Fields}
use Rattle.window_cover.specs.declared.run.Run.{Run}
use Rattle.window_cover.specs.declared.run_tile.RunTile.{RunTile}
use Rattle.window_cover.specs.declared.runs.Runs.{Runs}
use Rattle.window_cover.specs.declared.span.Span.{Span}
use Rattle.window_cover.specs.Covered.{none}
use Rattle.window_cover.specs.Found.{Found}
use Rattle.window_cover.specs.Reach.{HoldEach, HoldRun, still_run}
use Rattle.window_cover.specs.Runs.{AreRuns, IsRunTile, no_run, run_of, seen, shifted_by, tile_seen}
use Rattle.window_cover.specs.Words.{AreHeld, LiesIn}

-- ---- a run more
pub held-run_more : (Q T : Run → Type 0) → ((r : Run) → Q r → T r) → (runs : List Run) (i : ℕ) (d : Run) → i < length runs
    → AllByRecursion Q (take i runs) → T (get_or runs i d) → AllByRecursion T (take (i + 1) runs)
held-run_more Q T f runs i d h all own =
    subst (AllByRecursion T) (sym (take_more runs i d h))
    (AllByRecursion-append T (take i runs) (get_or runs i d ∷ []) (AllByRecursion-each Q T (take i runs) f all) (own, tt))

-- ---- sums of coefficients
plus-zero : (x : ℤ) → x +ℤ pos 0 ≡ x
plus-zero x = omega (arith, ints)

module _ (p : Point) where
  sum-0 : (by : Option Point) → coefficient p 0 +ℤ coefficient (still_run by).shift 0 ≡ coefficient (shifted_by by p) 0
  sum-0 None = plus-zero (coefficient p 0)
  sum-0 (Some by) = refl

  sum-1 : (by : Option Point) → coefficient p 1 +ℤ coefficient (still_run by).shift 1 ≡ coefficient (shifted_by by p) 1
  sum-1 None = plus-zero (coefficient p 1)
  sum-1 (Some by) = refl

  sum-2 : (by : Option Point) → coefficient p 2 +ℤ coefficient (still_run by).shift 2 ≡ coefficient (shifted_by by p) 2
  sum-2 None = plus-zero (coefficient p 2)
  sum-2 (Some by) = refl

  sum-3 : (by : Option Point) → coefficient p 3 +ℤ coefficient (still_run by).shift 3 ≡ coefficient (shifted_by by p) 3
  sum-3 None = plus-zero (coefficient p 3)
  sum-3 (Some by) = refl

-- ---- fields that hold the sums hold a tile that is moved
abbrev HoldsSums : Span → Span → Span → Type 0
HoldsSums a b sums = (x y : ℤ) → LiesIn a x → LiesIn b y → LiesIn sums (x +ℤ y)

pub held-moved : (f g h : Fields) → HoldsSums f.a0 g.a0 h.a0 → HoldsSums f.a1 g.a1 h.a1
    → HoldsSums f.a2 g.a2 h.a2 → HoldsSums f.a3 g.a3 h.a3 → h.kinds ≡ f.kinds
    → (m : Motion) (kind : ℕ) (by : Option Point) → AreHeld f m kind → AreHeld g (still_run by) 0
    → AreHeld h (record { turn = m.turn; shift = shifted_by by m.shift }) kind
held-moved f g h s0 s1 s2 s3 kinds m kind by own moved = record {
  a0 = subst (LiesIn h.a0) (sum-0 m.shift by) (s0 _ _ own.a0 moved.a0);
  a1 = subst (LiesIn h.a1) (sum-1 m.shift by) (s1 _ _ own.a1 moved.a1);
  a2 = subst (LiesIn h.a2) (sum-2 m.shift by) (s2 _ _ own.a2 moved.a2);
  a3 = subst (LiesIn h.a3) (sum-3 m.shift by) (s3 _ _ own.a3 moved.a3);
  turn_below = own.turn_below;
  kind_below = let e = own.kind_below in omega (arith, e, kinds);
}

-- ---- all tiles of runs
pub held-seen : (r : Runs) → AreRuns r → (own moved all : Fields) → HoldEach own r.leaves.found → AllByRecursion (HoldRun moved) r.runs.items
    → ((m : Motion) (kind : ℕ) (by : Option Point) → AreHeld own m kind → AreHeld moved (still_run by) 0
    → AreHeld all (record { turn = m.turn; shift = shifted_by by m.shift }) kind) → HoldEach all (seen r)
held-seen r runs own moved all leaves shifts sums =
    AllByRecursion-map (λ (x : Found). AreHeld all x.motion x.kind) (tile_seen r.leaves.found r.runs.items r.spans.items) r.tiles.items
    (AllByRecursion-each (IsRunTile r.leaves.found r.runs.items r.spans.items)
    (λ (t : RunTile). AreHeld all (tile_seen r.leaves.found r.runs.items r.spans.items t).motion
    (tile_seen r.leaves.found r.runs.items r.spans.items t).kind)
    r.tiles.items
    (λ t h. sums (get_or r.leaves.found t.leaf none).motion (get_or r.leaves.found t.leaf none).kind (run_of r.runs.items t.run).shift
    (All-from_recursion (λ (x : Found). AreHeld own x.motion x.kind) r.leaves.found leaves t.leaf none h.leaf_there)
    (All-from_recursion (HoldRun moved) r.runs.items shifts t.run no_run h.run_there)) runs.tiles)
