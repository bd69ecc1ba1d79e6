use Rattle.std.proofs.Common.{◌≡◌, length, suc, ◌+◌, ◌<◌, ◌≤◌, ℕ, [], ◌∷◌, ◌++◌, take, sym, ap, ap₂, ◌∙◌, subst, arith, take_all}
use Rattle.std.proofs.lemmas.Grind.{common_steps}
use Rattle.cyclo_points.specs.declared.motion.Motion.{Motion}
use Rattle.window_cover.specs.Covered.{tile_of}
use Rattle.window_cover.specs.Found.{Found}
use Rattle.window_cover.specs.Runs.{seen}
use Rattle.window_cover.specs.Words.{AreHeld, tile_word, words_from}
use Rattle.window_cover.proofs.BlockTiles.{each-of}
use Rattle.window_cover.proofs.Keyed.{some-at}
use Rattle.window_cover.proofs.RunTiles.{runs-keyed, runs-few}
use Rattle.window_cover.proofs.Words.{words-more}
use Rattle.window_cover.proofs.runs.Runs.words.Goals as goal

pub word-requires-clause-held : goal.word-requires-clause-held
word-requires-clause-held c =
    let found = seen c.args.self.now in
    let k = c.loop-number.number in
    let f = c.args.fields.now in
    let below : k < length found = omega (arith, c.loop-number-test.true, c.len-count.ensures) in
    subst (λ (i : ℕ). AreHeld f c.place-kind.result.0 i) (sym c.place-kind.ensures.kind)
    (subst (λ (m : Motion). AreHeld f m (tile_of found k).kind) (sym c.place-kind.ensures.motion)
    (each-of (λ (x : Found). AreHeld f x.motion x.kind) found c.requires.hold.held k below))

pub word-requires-clause-few : goal.word-requires-clause-few
word-requires-clause-few c =
    let few = runs-few c.args.self.now c.requires.runs in
    omega (arith, few, c.loop-number-test.true, c.len-count.ensures)

pub loop-number-preserved : goal.loop-number-preserved
loop-number-preserved c =
    let found = seen c.args.self.now in
    let k = c.loop-number.number in
    let f = c.args.fields.now in
    let below : k < length found = omega (arith, c.loop-number-test.true, c.len-count.ensures) in
    let next : suc k ≡ k + 1 = omega arith in
    let its : c.word.result ≡ tile_word f (tile_of found k).motion (tile_of found k).kind k =
    c.word.ensures ∙ ap₂ (λ (m : Motion) (i : ℕ). tile_word f m i k) c.place-kind.ensures.motion c.place-kind.ensures.kind in
    subst (λ m. c.push.new.self.items ≡ words_from f 0 (take m found)) next
    (c.in_ok-push.ensures.items ∙ ap (λ ws. ws ++ c.word.result ∷ []) c.loop-number.invariant
    ∙ sym (words-more f 0 k k found c.word.result (omega arith) below
    (some-at (λ x. c.word.result ≡ tile_word f x.motion x.kind k) found k below its)))

pub returns-clause-keyed : goal.returns-clause-keyed
returns-clause-keyed c = runs-keyed c.args.self.now c.requires.runs

pub returns-in_err-words-clause-keyed : goal.returns-in_err-words-clause-keyed
returns-in_err-words-clause-keyed c = runs-keyed c.args.self.now c.requires.runs

pub returns-in_err-push-clause-keyed : goal.returns-in_err-push-clause-keyed
returns-in_err-push-clause-keyed c = runs-keyed c.args.self.now c.requires.runs

pub returns-clause-few : goal.returns-clause-few
returns-clause-few c = runs-few c.args.self.now c.requires.runs

pub returns-in_err-words-clause-few : goal.returns-in_err-words-clause-few
returns-in_err-words-clause-few c = runs-few c.args.self.now c.requires.runs

pub returns-in_err-push-clause-few : goal.returns-in_err-push-clause-few
returns-in_err-push-clause-few c = runs-few c.args.self.now c.requires.runs

pub returns-clause-words : goal.returns-clause-words
returns-clause-words c =
    let found = seen c.args.self.now in
    let all : length found ≤ c.loop-number.number = omega (arith, c.loop-number-test.false, c.len-count.ensures) in
    c.loop-number.invariant ∙ ap (words_from c.args.fields.now 0) (take_all c.loop-number.number found all)

pub loop-number-init : goal.loop-number-init
loop-number-init c = grind (arith, common_steps)

pub place-kind-requires-clause-runs : goal.place-kind-requires-clause-runs
place-kind-requires-clause-runs c = grind (arith, common_steps)

pub place-kind-requires-clause-below : goal.place-kind-requires-clause-below
place-kind-requires-clause-below c = grind (arith, common_steps)

pub overflow_cast-number : goal.overflow_cast-number
overflow_cast-number c = grind (arith, common_steps)

pub word-requires-clause-fields : goal.word-requires-clause-fields
word-requires-clause-fields c = grind (arith, common_steps)

pub word-requires-clause-fit : goal.word-requires-clause-fit
word-requires-clause-fit c = grind (arith, common_steps)
