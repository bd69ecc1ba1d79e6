use Rattle.std.proofs.Common.{◌≡◌, map, sym, ap, ◌∙◌}
use Rattle.theory_addresses.specs.Address.{Address}
use Rattle.tile_shape.specs.Views.{step_of}
use Rattle.tile_shape.proofs.SameDigits.{same-digits}
use Rattle.star_walk.proofs.turn.is_base.Goals as goal

pub returns-then-addr-base : goal.returns-then-addr-base
returns-then-addr-base c =
    let own : map step_of c.as_slice-then-addr-base.result.now ≡ c.args.frame.now.digits = ap (map step_of)
    c.as_slice-then-addr-base.ensures.value ∙ c.digits.ensures in
    let test = same-digits c.as_slice.result.now c.as_slice-then-addr-base.result.now in
    let kind : c.args.addr.now.kind ≡ c.args.frame.now.base.kind = c.if-addr-base.true ∙ ap (λ (a : Address). a.kind) c.base.ensures in
    let seen : map step_of c.as_slice.result.now ≡ map step_of c.args.addr.now.digits.items = ap (map step_of) c.as_slice.ensures.value in (
      λ h. let d = sym seen ∙ test.0 (sym c.eq.ensures ∙ h) ∙ own in λ i. record { kind = kind i; digits = d i },
      λ e. c.eq.ensures ∙ test.1 (seen ∙ ap (λ (a : Address). a.digits) e ∙ sym own),
    )
