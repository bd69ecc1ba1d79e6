use Rattle.std.specs.Prelude.{slice_index, slice_set}
use Rattle.std.proofs.Common.{◌≡◌, ◌+◌, ◌<◌, ◌≤◌, ◌++◌, ◌∷◌, [], ℕ, length, take, take_all, sym, ◌∙◌, subst, arith}
use Rattle.std.proofs.lemmas.List.{take_more, length-replicate, length-set}
use Rattle.window_cover.specs.Covered.{none, tile_of}
use Rattle.window_cover.specs.Found.{Found}
use Rattle.window_cover.specs.Runs.{seen}
use Rattle.window_cover.proofs.KindCounts.{AreCounts, none-counted, one-counted}
use Rattle.window_cover.proofs.runs.Runs.counts.Goals as goal

pub loop-number-init : goal.loop-number-init
loop-number-init c = record { size = length-replicate {A = ℕ} 256 0; counted = λ kind. none-counted 256 kind }

pub loop-number-preserved : goal.loop-number-preserved
loop-number-preserved c =
    let found = seen c.args.self.now in
    let i = c.loop-number.number in
    let x : Found = tile_of found i in
    let before = c.loop-number.invariant in
    let below : i < length found = omega (arith, c.loop-number-test.true, c.len-number-end.ensures) in
    let kind : c.from.result ≡ x.kind = c.from.ensures ∙ c.place-kind.ensures.kind in
    let small : x.kind < length c.loop-number.counts = omega (arith, before.size, kind) in
    record {
      size = length-set c.loop-number.counts c.from.result _ ∙ before.size;
      counted = subst (AreCounts _) (sym (take_more found i none below))
          (subst (λ (k : ℕ). AreCounts (slice_set c.loop-number.counts k (slice_index c.loop-number.counts k + 1)) (take i found ++ x ∷ []))
          (sym kind)
          (one-counted c.loop-number.counts (take i found) x small before.counted));
    }

pub returns : goal.returns
returns c =
    let found = seen c.args.self.now in
    let all : length found ≤ c.loop-number.number = omega (arith, c.loop-number-test.false, c.len-number-end.ensures) in
    subst (AreCounts c.loop-number.counts) (take_all c.loop-number.number found all) c.loop-number.invariant.counted
