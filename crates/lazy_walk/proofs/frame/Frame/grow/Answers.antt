use Rattle.std.proofs.Common.{◌≡◌, ◌<◌, ◌+◌, ◌++◌, [], ◌∷◌, length, map, sym, ap, ap₂, ◌∙◌, subst, arith}
use Rattle.std.proofs.lemmas.List.{length-map, map-append}
use Rattle.theory_addresses.specs.Address.{depth, kind_at}
use Rattle.theory_frames.specs.Growth.{chosen}
use Rattle.rule_model.specs.declared.rule.Rule.{Rule}
use Rattle.rule_model.specs.Tiling.{tiling_of, children}
use Rattle.tile_shape.specs.Usable.{AreUsable}
use Rattle.tile_shape.specs.UsesInOrder.{uses_in_order}
use Rattle.tile_shape.specs.Views.{step_of}
use Rattle.seeded_growth.specs.Words.{word}
use Rattle.theory_walks.specs.Frames.{FrameValue, whole, GrowsTo}
use Rattle.theory_walks.proofs.Walks.{StillFits, later, top-below, one_deeper}
use Rattle.lazy_walk.proofs.frame.Frame.grow.Goals as goal

pub next_digit-digit-requires-clause-exists : goal.next_digit-digit-requires-clause-exists
next_digit-digit-requires-clause-exists c =
    let same : c.uses-uses.result.now ≡ children (tiling_of c.args.machine.now) = c.uses-uses.ensures
    ∙ ap (λ (r : Rule). children (tiling_of r)) c.checked.ensures.rule in
    let fits : StillFits (children (tiling_of c.args.machine.now)) = λ base start n h.
    c.grown_fits_law.ensures (children (tiling_of c.args.machine.now)) base start n
    (subst AreUsable same c.kinds-usable.ensures.limits) h in
    subst (λ rows. c.kind_at-top.result < length rows) (sym same)
    (top-below (tiling_of c.args.machine.now) fits c.args.self.now c.kind_at-top.result c.requires.frame
    (c.kind_at-top.ensures ∙ ap (kind_at (whole c.args.self.now)) c.depth-depth.ensures.digits))

pub returns-clause-one_more : goal.returns-clause-one_more
returns-clause-one_more c =
    let same : c.uses-uses.result.now ≡ children (tiling_of c.args.machine.now) = c.uses-uses.ensures
    ∙ ap (λ (r : Rule). children (tiling_of r)) c.checked.ensures.rule in
    one_deeper (tiling_of c.args.machine.now) (λ base start n. c.next_digit_law.ensures
    (children (tiling_of c.args.machine.now)) base start n) c.args.self.now _
    (step_of c.next_digit-digit.result)
    c.kind_at-top.result c.self.inside.growth.taken c.requires.frame
    (ap (λ (f : FrameValue). f.base) c.self.view_is)
    (c.next_digit-digit.ensures.same_start ∙ ap (λ (f : FrameValue). f.start) c.self.view_is)
    (ap (map step_of) c.push.ensures.items ∙ map-append step_of c.self.inside.digits.items (c.next_digit-digit.result ∷ [])
    ∙ ap (λ xs. xs ++ step_of c.next_digit-digit.result ∷ []) (ap (λ (f : FrameValue). f.digits) c.self.view_is))
    (c.next_digit-digit.ensures.next ∙ ap₂ (λ rows s. chosen (uses_in_order rows c.kind_at-top.result)
    (word s c.self.inside.growth.taken)) same (ap (λ (f : FrameValue). f.start) c.self.view_is))
    counted (c.kind_at-top.ensures ∙ ap (kind_at (whole c.args.self.now)) c.depth-depth.ensures.digits)
  where
    counted : depth c.args.self.now.base + c.self.inside.growth.taken ≡ length c.args.self.now.digits
    counted =
        sym (ap (λ (f : FrameValue). depth f.base + c.self.inside.growth.taken) c.self.view_is)
        ∙ ap (λ n. n + c.self.inside.growth.taken) (length-map c.self.inside.base.digits.items step_of) ∙ c.self.invariant
        ∙ sym (length-map c.self.inside.digits.items step_of) ∙ ap (λ (f : FrameValue). length f.digits) c.self.view_is

pub returns-clause-frame : goal.returns-clause-frame
returns-clause-frame c =
    subst (GrowsTo (tiling_of c.args.machine.now) c.args.self.now) (sym (returns-clause-one_more c))
    (later (tiling_of c.args.machine.now) c.args.self.now (length c.args.self.now.digits + 1) c.requires.frame
    (omega arith) (omega (arith, c.depth-depth.ensures.digits, c.depth-depth.ensures.at_most_64)))
