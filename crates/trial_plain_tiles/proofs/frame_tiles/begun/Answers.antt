use Rattle.std.proofs.Common.{◌≡◌, sym, ap, ◌∙◌, subst}
use Rattle.theory_addresses.specs.Address.{Fits}
use Rattle.rule_model.specs.declared.rule.Rule.{Rule}
use Rattle.rule_model.specs.Tiling.{tiling_of, children}
use Rattle.tile_shape.specs.Views.{address_of}
use Rattle.trial_plain_tiles.proofs.frame_tiles.begun.Goals as goal

pub returns : goal.returns
returns c =
    let m = c.args.machine.now in
    let kinds : c.uses.result.now ≡ children (tiling_of m) = c.uses.ensures ∙ ap (λ (r : Rule). children (tiling_of r)) c.checked.ensures.rule in
    c.new.ensures.is_frame (tiling_of m)
    (subst (Fits (children (tiling_of m))) (sym c.copy.ensures.seen)
    (subst (λ rows. Fits rows (address_of c.args.base.now)) kinds (c.fits.ensures.0 c.if-not-fits.false)))
