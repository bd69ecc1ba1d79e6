use Rattle.std.proofs.Common.{ℕ, Option, hash_map_len, ◌+◌, sym, ap, ◌∙◌, arith}
use Rattle.std.specs.Bool.{if◌then◌else◌}
use Rattle.std.specs.Option.{is_some}
use Rattle.window_cover.specs.Border.{has_ends, open_of}
use Rattle.window_cover.proofs.Closing.{others, others-all}
use Rattle.window_cover.proofs.Borders.{place-within, has_ends-found, has_ends-missed, open_of-closing, closing-border}
use Rattle.window_cover.proofs.border.Border.close.Goals as goal

pub index_mut-requires : goal.index_mut-requires
index_mut-requires c =
    let found = sym c.remove.ensures.value ∙ c.in-Some.is in
    let held = c.self.inside.listed.ok in
    omega (arith, held, place-within c.self.invariant c.args.ends.now c.in-Some.place found)

pub invariant_of-self : goal.invariant_of-self
invariant_of-self c =
    let found = sym c.remove.ensures.value ∙ c.in-Some.is in
    let fewer = ap (λ (x : Option ℕ). hash_map_len c.remove.new.self + (if is_some x then 1 else 0)) (sym c.in-Some.is) ∙ c.remove.ensures.len in
    closing-border c.self.invariant c.args.ends.now c.in-Some.place c.index_mut.result.now found
    c.index_mut.ensures.value _ c.remove.ensures.updates.0 _ fewer

pub returns-in-Some-clause-found : goal.returns-in-Some-clause-found
returns-in-Some-clause-found c =
    let found = sym c.remove.ensures.value ∙ c.in-Some.is in
    sym (has_ends-found c.self.invariant c.args.ends.now c.in-Some.place found) ∙ ap (has_ends c.args.ends.now) c.self.view_is

pub returns-in-Some-clause-closed : goal.returns-in-Some-clause-closed
returns-in-Some-clause-closed c =
    let found = sym c.remove.ensures.value ∙ c.in-Some.is in
    open_of-closing c.self.invariant c.args.ends.now c.in-Some.place c.index_mut.result.now found c.index_mut.ensures.value
    ∙ ap (others c.args.ends.now) c.self.view_is

pub returns-in-None-clause-found : goal.returns-in-None-clause-found
returns-in-None-clause-found c =
    let missed = sym c.remove.ensures.value ∙ c.in-None.is in
    sym (has_ends-missed c.self.invariant c.args.ends.now missed) ∙ ap (has_ends c.args.ends.now) c.self.view_is

pub returns-in-None-clause-closed : goal.returns-in-None-clause-closed
returns-in-None-clause-closed c =
    let missed = sym c.remove.ensures.value ∙ c.in-None.is in
    sym (others-all c.args.ends.now (open_of c.self.inside.listed.items) (has_ends-missed c.self.invariant c.args.ends.now missed))
    ∙ ap (others c.args.ends.now) c.self.view_is
