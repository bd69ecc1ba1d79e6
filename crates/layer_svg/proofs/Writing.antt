-- A picture with one path more.
use Rattle.std.proofs.Common.{◌≡◌, ℕ, Bool, true, false, List, [], ◌∷◌, ◌++◌, sym, ap, ◌∙◌, length, arith, append_assoc, append-nil}
use Rattle.std.specs.List.{flat_map}
use Rattle.std.proofs.lemmas.Grind.{flat_map-append}
use Rattle.layer_api.specs.declared.drawn.Drawn.{Drawn}
use Rattle.layer_api.specs.declared.view.View.{View}
use Rattle.layer_api.specs.SvgText.{head_text, path_line}
use Rattle.layer_svg.specs.Written.{opened_text, IsPictureWritten}

first_path : (v : View) (d : Drawn) → head_text v ++ path_line v d ≡ opened_text v (d ∷ [])
first_path v d = ap (λ t. head_text v ++ t) (sym (append-nil (path_line v d)))

next_path : (v : View) (e : Drawn) (ds : List Drawn) (d : Drawn) → opened_text v (e ∷ ds) ++ path_line v d ≡ opened_text v (e ∷ (ds ++ d ∷ []))
next_path v e ds d =
    append_assoc (head_text v) (flat_map (path_line v) (e ∷ ds)) (path_line v d)
    ∙ ap (λ t. head_text v ++ t) (ap (λ t. flat_map (path_line v) (e ∷ ds) ++ t)
    (sym (append-nil (path_line v d))) ∙ sym (flat_map-append (path_line v) (e ∷ ds) (d ∷ [])))

-- the first tile put writes the head too
pub first_put : (v : View) (ended : Bool) (text line new : List ℕ) (d : Drawn) → ended ≡ false
    → length text ≡ 0 → line ≡ head_text v ++ path_line v d → new ≡ text ++ line
    → (tiles : List Drawn) → IsPictureWritten v ended text tiles → IsPictureWritten v ended new (tiles ++ d ∷ [])
first_put v true text line new d going empty e f tiles h = absurd (cc going)
first_put v false text line new d going empty e f [] h = f ∙ ap (λ t. t ++ line) h ∙ e ∙ first_path v d
first_put v false text line new d going empty e f (x ∷ xs) h = absurd (not_nothing v x xs (ap length (sym h) ∙ empty))
  where
    not_nothing : (v : View) (x : Drawn) (xs : List Drawn) → length (opened_text v (x ∷ xs)) ≡ 0 → ⊥
    not_nothing v x xs e = absurd (omega arith)

-- and each further one its path
pub next_put : (v : View) (ended : Bool) (text line new : List ℕ) (d : Drawn) → ended ≡ false
    → (text ≡ [] → ⊥) → line ≡ path_line v d → new ≡ text ++ line
    → (tiles : List Drawn) → IsPictureWritten v ended text tiles → IsPictureWritten v ended new (tiles ++ d ∷ [])
next_put v true text line new d going some e f tiles h = absurd (cc going)
next_put v false text line new d going some e f [] h = absurd (some h)
next_put v false text line new d going some e f (x ∷ xs) h = f ∙ ap (λ t. t ++ line) h ∙ ap (λ t. opened_text v (x ∷ xs) ++ t) e ∙ next_path v x xs d
