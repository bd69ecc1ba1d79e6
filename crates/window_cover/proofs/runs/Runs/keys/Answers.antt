use Rattle.std.proofs.Common.{◌≡◌, length, suc, ◌+◌, ◌<◌, ◌≤◌, ◌^◌, ℕ, List, [], ◌∷◌, ◌++◌, take, sym, ap, ap₂, ◌∙◌, subst, arith, take_all}
use Rattle.cyclo_points.specs.declared.motion.Motion.{Motion}
use Rattle.tile_place.specs.declared.order_key.OrderKey.{OrderKey}
use Rattle.cyclo_points.specs.Point.{IsWithin}
use Rattle.tile_place.specs.Keys.{key_of}
use Rattle.window_cover.specs.Covered.{tile_of}
use Rattle.window_cover.specs.Keys.{HasKey, keys_from}
use Rattle.window_cover.specs.Runs.{seen}
use Rattle.window_cover.proofs.BlockTiles.{each-of}
use Rattle.window_cover.proofs.Keyed.{keys-more, some-at}
use Rattle.window_cover.proofs.RunTiles.{runs-keyed, runs-few}
use Rattle.window_cover.proofs.runs.Runs.keys.Goals as goal

pub of-requires-clause-within : goal.of-requires-clause-within
of-requires-clause-within c =
    let found = seen c.args.self.now in
    let k = c.loop-number.number in
    let below : k < length found = omega (arith, c.loop-number-test.true, c.len-count.ensures) in
    subst (λ (m : Motion). IsWithin (2 ^ 24) m.shift) (sym c.place-kind.ensures.motion)
    (each-of HasKey found (runs-keyed c.args.self.now c.requires.runs) k below).within

pub of-requires-clause-turn_fits : goal.of-requires-clause-turn_fits
of-requires-clause-turn_fits c =
    let found = seen c.args.self.now in
    let k = c.loop-number.number in
    let below : k < length found = omega (arith, c.loop-number-test.true, c.len-count.ensures) in
    subst (λ (m : Motion). m.turn < 16) (sym c.place-kind.ensures.motion)
    (each-of HasKey found (runs-keyed c.args.self.now c.requires.runs) k below).turn_fits

pub loop-number-preserved : goal.loop-number-preserved
loop-number-preserved c =
    let found = seen c.args.self.now in
    let k = c.loop-number.number in
    let below : k < length found = omega (arith, c.loop-number-test.true, c.len-count.ensures) in
    let next : suc k ≡ k + 1 = omega arith in
    let its : c.of.result ≡ key_of (tile_of found k).motion (tile_of found k).kind k =
    c.of.ensures ∙ ap₂ (λ (m : Motion) (i : ℕ). key_of m i k) c.place-kind.ensures.motion c.place-kind.ensures.kind in
    subst (λ m. c.push.new.self.items ≡ keys_from 0 (take m found)) next
    (c.in_ok-push.ensures.items ∙ ap (λ (ks : List OrderKey). ks ++ c.of.result ∷ []) c.loop-number.invariant
    ∙ sym (keys-more 0 k k found c.of.result (omega arith) below (some-at (λ x. c.of.result ≡ key_of x.motion x.kind k) found k below its)))

pub returns-clause-keyed : goal.returns-clause-keyed
returns-clause-keyed c = runs-keyed c.args.self.now c.requires.runs

pub returns-in_err-keys-clause-keyed : goal.returns-in_err-keys-clause-keyed
returns-in_err-keys-clause-keyed c = runs-keyed c.args.self.now c.requires.runs

pub returns-in_err-push-clause-keyed : goal.returns-in_err-push-clause-keyed
returns-in_err-push-clause-keyed c = runs-keyed c.args.self.now c.requires.runs

pub returns-clause-few : goal.returns-clause-few
returns-clause-few c = runs-few c.args.self.now c.requires.runs

pub returns-in_err-keys-clause-few : goal.returns-in_err-keys-clause-few
returns-in_err-keys-clause-few c = runs-few c.args.self.now c.requires.runs

pub returns-in_err-push-clause-few : goal.returns-in_err-push-clause-few
returns-in_err-push-clause-few c = runs-few c.args.self.now c.requires.runs

pub returns-clause-keys : goal.returns-clause-keys
returns-clause-keys c =
    let found = seen c.args.self.now in
    let all : length found ≤ c.loop-number.number = omega (arith, c.loop-number-test.false, c.len-count.ensures) in
    c.loop-number.invariant ∙ ap (keys_from 0) (take_all c.loop-number.number found all)
