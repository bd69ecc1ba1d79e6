use Rattle.std.proofs.Common.{rules, ◌≡◌, ◌+◌, ◌*◌, ◌<◌, ◌^◌, sym, ◌∙◌, subst, arith}
use Rattle.std.proofs.lemmas.Grind.{common_steps}
use Rattle.cyclo_points.specs.Point.{coefficient}
use Rattle.window_cover.specs.Words.{offset_in, tile_word}
use Rattle.window_cover.proofs.WordOrder.{DoFit, do-fit, word_1, word_2, word_3, word_4, word_5}
use Rattle.window_cover.proofs.fields.Fields.word.Goals.{After-place, After-place-2, After-place-3, After-from, After-from-2, After-from-3}
use Rattle.window_cover.proofs.fields.Fields.word.Goals as goal

-- ---- the word after each field
word-1 : (c : After-place) → c.place-a0.result * c.count.result + c.place.result ≡ word_1 c.args.self.now c.args.motion.now c.args.kind
word-1 c =
    let f0 : c.place-a0.result ≡ offset_in c.args.self.now.a0 (coefficient c.args.motion.now.shift 0) =
    let e = c.place-a0.ensures in search (rules, e) in
    let f1 : c.place.result ≡ offset_in c.args.self.now.a1 (coefficient c.args.motion.now.shift 1) =
    let e = c.place.ensures in search (rules, e) in
    λ i. f0 i * c.count.ensures i + f1 i

word-2 : (c : After-place-2) → c.place-a0.result * c.count.result + c.place.result ≡ word_1 c.args.self.now c.args.motion.now c.args.kind
    → c.joined-a1.result * c.count-2.result + c.place-2.result ≡ word_2 c.args.self.now c.args.motion.now c.args.kind
word-2 c before =
    let f2 : c.place-2.result ≡ offset_in c.args.self.now.a2 (coefficient c.args.motion.now.shift 2) =
    let e = c.place-2.ensures in search (rules, e) in
    λ i. (c.joined-a1.ensures ∙ before) i * c.count-2.ensures i + f2 i

word-3 : (c : After-place-3) → c.joined-a1.result * c.count-2.result + c.place-2.result ≡ word_2 c.args.self.now c.args.motion.now c.args.kind
    → c.joined-a2.result * c.count-3.result + c.place-3.result ≡ word_3 c.args.self.now c.args.motion.now c.args.kind
word-3 c before =
    let f3 : c.place-3.result ≡ offset_in c.args.self.now.a3 (coefficient c.args.motion.now.shift 3) =
    let e = c.place-3.ensures in search (rules, e) in
    λ i. (c.joined-a2.ensures ∙ before) i * c.count-3.ensures i + f3 i

word-4 : (c : After-from) → c.joined-a2.result * c.count-3.result + c.place-3.result ≡ word_3 c.args.self.now c.args.motion.now c.args.kind
    → c.joined-a3.result * 2 ^ 4 + c.from.result ≡ word_4 c.args.self.now c.args.motion.now c.args.kind
word-4 c before =
    let f4 : c.from.result ≡ c.args.motion.now.turn =
    let e = c.from.ensures in search (rules, e) in
    λ i. (c.joined-a3.ensures ∙ before) i * 16 + f4 i

word-5 : (c : After-from-2) → c.joined-a3.result * 2 ^ 4 + c.from.result ≡ word_4 c.args.self.now c.args.motion.now c.args.kind
    → c.joined-turned.result * c.args.self.now.kinds + c.from-2.result ≡ word_5 c.args.self.now c.args.motion.now c.args.kind
word-5 c before =
    let f5 : c.from-2.result ≡ c.args.kind =
    let e = c.from-2.ensures in search (rules, e) in
    λ i. (c.joined-turned.ensures ∙ before) i * c.args.self.now.kinds + f5 i

word-6 : (c : After-from-3) → c.joined-turned.result * c.args.self.now.kinds + c.from-2.result ≡ word_5 c.args.self.now c.args.motion.now c.args.kind
    → c.joined-tile.result * 2 ^ 18 + c.from-3.result ≡ tile_word c.args.self.now c.args.motion.now c.args.kind c.args.number
word-6 c before =
    let f6 : c.from-3.result ≡ c.args.number =
    let e = c.from-3.ensures in search (rules, e) in
    λ i. (c.joined-tile.ensures ∙ before) i * 262144 + f6 i

-- each is below 2^64, as the last is
fit : (c : After-place) → DoFit c.args.self.now c.args.motion.now c.args.kind c.args.number
fit c = do-fit c.args.self.now c.args.motion.now c.args.kind c.args.number c.requires.fields c.requires.fit c.requires.held c.requires.few

pub joined-a1-requires : goal.joined-a1-requires
joined-a1-requires c = subst (λ w. w < 2 ^ 64) (sym (word-1 c)) (fit c).fit_1

pub joined-a2-requires : goal.joined-a2-requires
joined-a2-requires c =
    let p = goal.at.joined-a2-requires c in
    subst (λ w. w < 2 ^ 64) (sym (word-2 c (word-1 p.After-place))) (fit p.After-place).fit_2

pub joined-a3-requires : goal.joined-a3-requires
joined-a3-requires c =
    let p = goal.at.joined-a3-requires c in
    subst (λ w. w < 2 ^ 64) (sym (word-3 c (word-2 p.After-place-2 (word-1 p.After-place)))) (fit p.After-place).fit_3

pub joined-turned-requires : goal.joined-turned-requires
joined-turned-requires c =
    let p = goal.at.joined-turned-requires c in
    subst (λ w. w < 2 ^ 64) (sym (word-4 c (word-3 p.After-place-3 (word-2 p.After-place-2 (word-1 p.After-place))))) (fit p.After-place).fit_4

pub joined-tile-requires : goal.joined-tile-requires
joined-tile-requires c =
    let p = goal.at.joined-tile-requires c in
    subst (λ w. w < 2 ^ 64)
    (sym (word-5 c (word-4 p.After-from (word-3 p.After-place-3 (word-2 p.After-place-2 (word-1 p.After-place)))))) (fit p.After-place).fit_5

pub joined-requires : goal.joined-requires
joined-requires c =
    let p = goal.at.joined-requires c in
    subst (λ w. w < 2 ^ 64) (sym (word-6 c (word-5 p.After-from-2 (word-4 p.After-from (word-3 p.After-place-3
    (word-2 p.After-place-2 (word-1 p.After-place))))))) (fit p.After-place).fit_all

pub returns : goal.returns
returns c =
    let p = goal.at.returns c in
    c.joined.ensures ∙ word-6 p.After-from-3 (word-5 p.After-from-2 (word-4 p.After-from (word-3 p.After-place-3
    (word-2 p.After-place-2 (word-1 p.After-place)))))

pub place-a0-requires-clause-span : goal.place-a0-requires-clause-span
place-a0-requires-clause-span c = grind (arith, common_steps)

pub place-a0-requires-clause-held : goal.place-a0-requires-clause-held
place-a0-requires-clause-held c = grind (arith, common_steps)

pub count-requires : goal.count-requires
count-requires c = grind (arith, common_steps)

pub place-requires-clause-span : goal.place-requires-clause-span
place-requires-clause-span c = grind (arith, common_steps)
