use Rattle.std.proofs.Common.{◌≤◌, ℕ, zero, suc, List, [], ◌∷◌, take, length, IfSome, refl, sym, ap, ◌∙◌, subst, arith}
use Rattle.std.proofs.lemmas.List.{length-map}
use Rattle.rule_model.specs.Tiling.{tiling_of}
use Rattle.window_descent.specs.Rows.{AreRows}
use Rattle.window_cover.specs.Blocks.{AreBlocks}
use Rattle.window_cover.specs.Found.{Found, CoverValue}
use Rattle.window_cover.specs.Gathering.{gathered}
use Rattle.window_cover.specs.Runs.{tile_seen}
use Rattle.window_cover.specs.Windows.{IsWindow}
use Rattle.window_cover.proofs.FoundBelow.{whole-found}
use Rattle.window_cover.proofs.by_descent.found_below.Goals as goal

take-short : {A : Type 0} (n : ℕ) (xs : List A) → length (take n xs) ≤ n
take-short zero xs = omega arith
take-short (suc n) [] = omega arith
take-short (suc n) (x ∷ xs) = let h = take-short n xs in omega (arith, h)

pub gather-requires-clause-state : goal.gather-requires-clause-state
gather-requires-clause-state c =
    let m = c.args.machine.now in
    let leaves = ap (λ (v : CoverValue). v.found) c.new-runs.ensures.leaves ∙ c.nothing_found.ensures.found in
    record {
      runs = c.new-runs.ensures.runs;
      rows = subst (λ x. IfSome x (AreRows m)) c.in-Some.is c.in_ok-rows.ensures.rows;
      blocks = subst (λ (xs : List Found). AreBlocks m xs c.in_ok-blocks.blocks) (sym leaves) c.in_ok-blocks.ensures;
      window = subst IsWindow (sym (ap (λ (v : CoverValue). v.window) c.new-runs.ensures.leaves
          ∙ c.nothing_found.ensures.window)) c.requires.window_fits;
    }

pub returns-then-done : goal.returns-then-done
returns-then-done c =
    let t = tiling_of c.args.machine.now in
    let g = c.in_ok-done.ensures c.if-done.true in
    let few = g.state.runs.few in
    let r = c.gather.new.self in
    let long = length-map r.tiles.items (tile_seen r.leaves.found r.runs.items r.spans.items) in (
      g.state.runs,
      whole-found t c.args.frame.now c.args.window.now (gathered c.new-runs.result) (gathered r) _ _ c.args.top.now.level
          (record { kind = c.kind_of.result; motion = c.args.top.now.motion })
          (ap (λ (v : CoverValue). v.window) c.new-runs.ensures.leaves ∙ c.nothing_found.ensures.window)
          c.new-runs.ensures.none refl (take-short c.args.top.now.level _)
          g.descended c.kind_of.ensures.kind c.requires.ancestor.motion_is c.requires.own_level (omega (arith, few, long)),
    )
