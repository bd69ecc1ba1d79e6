-- The head of a picture, from its pieces, the last one first.
use Rattle.std.proofs.Common.{◌≡◌, ℕ, ◌*◌, List, ◌∷◌, ◌++◌, codes, ap, ◌∙◌, arith, append_assoc}
use Rattle.std.specs.Fmt.{decimal}
use Rattle.layer_api.specs.declared.view.View.{View}
use Rattle.layer_api.specs.SvgText.{height, scale_text, half_text, millionths_text, head_text}

-- texts put one before the other
eleven : (old t1 t2 t3 t4 t5 t6 t7 t8 t9 t10 new a b c d e f g h i j k : List ℕ) → t1 ≡ a ++ old → t2 ≡ b
    ++ t1 → t3 ≡ c ++ t2 → t4 ≡ d ++ t3 → t5 ≡ e ++ t4 → t6 ≡ f ++ t5 → t7 ≡ g ++ t6
    → t8 ≡ h ++ t7 → t9 ≡ i ++ t8 → t10 ≡ j ++ t9 → new ≡ k ++ t10
    → new ≡ (k ++ j ++ i ++ h ++ g ++ f ++ e ++ d ++ c ++ b ++ a) ++ old
eleven old t1 t2 t3 t4 t5 t6 t7 t8 t9 t10 new a b c d e f g h i j k e1 e2 e3 e4 e5 e6 e7 e8 e9 e10 e11 =
    let all : new ≡ k ++ (j ++ (i ++ (h ++ (g ++ (f ++ (e ++ (d ++ (c ++ (b ++ (a ++ old)))))))))) = cc in
    all ∙ simp append_assoc

pub head_from : (v : View) (h w two : ℕ) (scale old t1 t2 t3 t4 t5 t6 t7 t8 t9 t10 new : List ℕ)
    → h ≡ v.h * height v.order → two ≡ 2 * h → w ≡ v.w → scale ≡ scale_text v.order
    → t1 ≡ codes ")\" fill=\"none\" stroke=\"black\" stroke-width=\"40\">\n" ++ old → t2 ≡ scale ++ t1
    → t3 ≡ codes "\">\n<g transform=\"scale(0.0005 -" ++ t2
    → t4 ≡ millionths_text two ++ t3 → t5 ≡ 32 ∷ t4 → t6 ≡ decimal w ++ t5 → t7 ≡ 32 ∷ t6
    → t8 ≡ millionths_text h ++ t7 → t9 ≡ codes " -" ++ t8 → t10 ≡ half_text v.w ++ t9
    → new ≡ codes "<svg xmlns=\"http://www.w3.org/2000/svg\" version=\"1.1\" viewBox=\"-" ++ t10 → new ≡ head_text v ++ old
head_from v h w two scale old t1 t2 t3 t4 t5 t6 t7 t8 t9 t10 new is_h is_two is_w is_scale e1 e2 e3 e4 e5 e6 e7 e8 e9 e10 e11 =
    let doubled : two ≡ 2 * v.h * height v.order = is_two ∙ ap (λ x. 2 * x) is_h ∙ omega arith in
    eleven old t1 t2 t3 t4 t5 t6 t7 t8 t9 t10 new
    (codes ")\" fill=\"none\" stroke=\"black\" stroke-width=\"40\">\n") (scale_text v.order)
    (codes "\">\n<g transform=\"scale(0.0005 -") (millionths_text (2 * v.h * height v.order)) (codes " ")
    (decimal v.w)
    (codes " ") (millionths_text (v.h * height v.order)) (codes " -") (half_text v.w)
    (codes "<svg xmlns=\"http://www.w3.org/2000/svg\" version=\"1.1\" viewBox=\"-")
    e1 (e2 ∙ ap (λ x. x ++ t1) is_scale) e3 (e4 ∙ ap (λ n. millionths_text n ++ t3) doubled) e5
    (e6 ∙ ap (λ n. decimal n ++ t5) is_w) e7 (e8 ∙ ap (λ n. millionths_text n ++ t7) is_h) e9 e10 e11
