use Rattle.std.proofs.Common.{◌≡◌, ◌++◌, [], ◌∷◌, length, map, replicate, None, option_map, ap, ◌∙◌, arith}
use Rattle.std.proofs.lemmas.List.{replicate-append-replicate}
use Rattle.tile_shape.specs.Views.{address_of}
use Rattle.addr_calc.proofs.bindings.Bindings.new.Goals as goal

pub loop-init : goal.loop-init
loop-init c = c.in_ok-addresses.ensures.items

pub loop-preserved : goal.loop-preserved
loop-preserved c =
    c.in_ok-push.ensures.items ∙ ap (λ xs. xs ++ None ∷ []) c.loop.invariant ∙ replicate-append-replicate c.loop.counter 1 None

pub invariant_of-result : goal.invariant_of-result
invariant_of-result c =
    let all : c.loop.counter ≡ 26 = omega arith in
    ap (λ xs. length xs) (c.loop.invariant ∙ ap (λ n. replicate n None) all)

pub returns : goal.returns
returns c =
    let all : c.loop.counter ≡ 26 = omega arith in
    ap (map (option_map address_of)) (c.loop.invariant ∙ ap (λ n. replicate n None) all)
