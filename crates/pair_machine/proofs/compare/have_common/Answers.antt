use Rattle.std.proofs.Common.{◌≡◌, ◌∙◌, Some, eq-eqb, sym, ap, map}
use Rattle.std.proofs.lemmas.Bool.{eqb-true}
use Rattle.tile_shape.specs.Views.{address_of, step_of}
use Rattle.theory_addresses.specs.Address.{top_kind, kind_at}
use Rattle.pair_machine.proofs.OneLevel.{top_read}
use Rattle.pair_machine.proofs.compare.have_common.Goals as goal

pub returns-then-depth : goal.returns-then-depth
returns-then-depth c = (λ h. absurd cc, λ h. absurd (c.if-depth.true (c.depth.ensures.seen ∙ sym h.one_depth ∙ sym c.depth-depth.ensures.seen)))

pub returns : goal.returns
returns c =
    let top_a : Some c.kind_at.result ≡ Some (top_kind (address_of c.args.a.now)) =
    c.kind_at.ensures ∙ ap (kind_at (address_of c.args.a.now)) c.depth-depth.ensures.seen
    ∙ top_read c.args.a.now.kind (map step_of c.args.a.now.digits.items) in
    let top_b : Some c.kind_at-2.result ≡ Some (top_kind (address_of c.args.b.now)) =
    c.kind_at-2.ensures ∙ ap (kind_at (address_of c.args.b.now)) (sym c.if-depth.false ∙ c.depth.ensures.seen)
    ∙ top_read c.args.b.now.kind (map step_of c.args.b.now.digits.items) in
    let a : c.kind_at.result ≡ top_kind (address_of c.args.a.now) = cc in
    let b : c.kind_at-2.result ≡ top_kind (address_of c.args.b.now) = cc in (
      λ yes. record {
        one_depth = sym c.depth-depth.ensures.seen ∙ sym c.if-depth.false ∙ c.depth.ensures.seen;
        one_top = sym a ∙ eqb-true c.kind_at.result c.kind_at-2.result yes ∙ b;
      },
      λ h. eq-eqb c.kind_at.result c.kind_at-2.result (a ∙ h.one_top ∙ sym b),
    )
