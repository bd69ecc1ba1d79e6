use mir.Val.{SFits}
use Rattle.std.specs.Int.{w64}
use Rattle.std.proofs.lemmas.Int.{to_z-of_z}
use Rattle.std.proofs.Common.{rules, Some, sym, ap, ◌∙◌}
use Rattle.tile_shape.specs.Text.{comma}
use Rattle.tile_shape.specs.Words.{first_by, texts_between}
use Rattle.listing_text.specs.Signed.{signed_in}
use Rattle.listing_text.specs.Views.{texts_behind}
use Rattle.listing_text.proofs.Shifts.{third_fails, more_follow, none_follow}
use Rattle.listing_text.proofs.line.shift_in.Goals as goal

pub returns-in_err-c : goal.returns-in_err-c
returns-in_err-c c =
    c.from_residual-in_err-c.ensures
    ∙ third_fails (texts_between comma c.args.text.now) (texts_behind comma c.in_ok-a.left)
    (texts_behind comma c.in_ok-b.left) c.in_ok-a.a c.in_ok-b.b
    c.in_ok-a.ensures
    (c.in_ok-b.ensures ∙ ap (λ l. first_by signed_in (texts_behind comma l)) (sym c.in_ok-left.was))
    (c.in_err-c.ensures ∙ ap (λ l. first_by signed_in (texts_behind comma l)) (sym c.in_ok-left-2.was))

pub returns-in-Some : goal.returns-in-Some
returns-in-Some c =
    more_follow (texts_between comma c.args.text.now) (texts_behind comma c.in_ok-a.left) (texts_behind comma c.in_ok-b.left) c.in_ok-a.a c.in_ok-b.b
    c.in_ok-a.ensures
    (c.in_ok-b.ensures ∙ ap (λ l. first_by signed_in (texts_behind comma l)) (sym c.in_ok-left.was))
    c.in_ok-c.c c.in_ok-d.d (texts_behind comma c.in_ok-c.left) c.in-Some.field-0.now
    (c.in_ok-c.ensures ∙ ap (λ l. first_by signed_in (texts_behind comma l)) (sym c.in_ok-left-2.was))
    (sym (ap (λ l. Some (c.in_ok-d.d, texts_behind comma l)) c.in-Some.is) ∙ c.in_ok-d.ensures
    ∙ ap (λ l. first_by signed_in (texts_behind comma l)) (sym c.in_ok-left-3.was))

pub returns-in-None : goal.returns-in-None
returns-in-None c =
    let fits_a : SFits w64 c.in_ok-a.a = search rules in
    let fits_b : SFits w64 c.in_ok-b.b = search rules in
    let fits_c : SFits w64 c.in_ok-c.c = search rules in
    let fits_d : SFits w64 c.in_ok-d.d = search rules in
    ap (λ p. Some p) (simp to_z-of_z at c.point_of.ensures)
    ∙ none_follow (texts_between comma c.args.text.now) (texts_behind comma c.in_ok-a.left)
    (texts_behind comma c.in_ok-b.left) c.in_ok-a.a c.in_ok-b.b
    c.in_ok-a.ensures
    (c.in_ok-b.ensures ∙ ap (λ l. first_by signed_in (texts_behind comma l)) (sym c.in_ok-left.was))
    c.in_ok-c.c c.in_ok-d.d (texts_behind comma c.in_ok-c.left)
    (c.in_ok-c.ensures ∙ ap (λ l. first_by signed_in (texts_behind comma l)) (sym c.in_ok-left-2.was))
    (sym (ap (λ l. Some (c.in_ok-d.d, texts_behind comma l)) c.in-None.is) ∙ c.in_ok-d.ensures
    ∙ ap (λ l. first_by signed_in (texts_behind comma l)) (sym c.in_ok-left-3.was))
