use Rattle.std.proofs.Common.{◌≡◌, map, sym, ap, ◌∙◌}
use Rattle.theory_addresses.specs.Address.{Address}
use Rattle.tile_shape.specs.Views.{step_of}
use Rattle.tile_shape.proofs.SameDigits.{same-digits}
use Rattle.list_verify.proofs.same_address.is_same_address.Goals as goal

pub returns-then-a-b : goal.returns-then-a-b
returns-then-a-b c =
    let test = same-digits c.as_slice.result.now c.as_slice-then-a-b.result.now in
    let own : map step_of c.as_slice.result.now ≡ map step_of c.args.a.now.digits.items = ap (map step_of) c.as_slice.ensures.value in
    let its : map step_of c.as_slice-then-a-b.result.now ≡ map step_of c.args.b.now.digits.items = ap
    (map step_of) c.as_slice-then-a-b.ensures.value in (
      λ h. let d = sym own ∙ test.0 (sym c.eq.ensures ∙ h) ∙ its in λ i. record { kind = c.if-a-b.true i; digits = d i },
      λ e. c.eq.ensures ∙ test.1 (own ∙ ap (λ (a : Address). a.digits) e ∙ sym its),
    )
