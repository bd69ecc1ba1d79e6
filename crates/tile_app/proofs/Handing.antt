-- Texts of layers: drawn one after the other, and handed on one behind the other.
use Rattle.std.proofs.Common.{◌≡◌, inl, inr, ℕ, ◌+◌, ◌<◌, Bool, List, [], ◌∷◌, ◌++◌, All, length, map, take, drop, get_or, None, Some, set, position, refl}
use Rattle.std.proofs.Common.{sym, ap, ap₂, ◌∙◌, subst, arith, append-nil, IfSome, OnErr, Result, Ok, Err, slice_get}
use Rattle.std.proofs.lemmas.Bool.{cases_eq}
use Rattle.std.proofs.lemmas.Grind.{flat_map-append}
use Rattle.std.proofs.lemmas.List.{get_or-set_same, get_or-set_other, take-append-le, take_more, take-append-drop, length-append}
use Rattle.std.proofs.lemmas.Option.{slice_get_read}
use Rattle.std.proofs.Math.Seq.{take-append-add}
use Rattle.std.specs.declared.option.Option.{Option}
use Rattle.std.specs.List.{flat_map}
use Rattle.call_words.specs.FormatWords.{same_format}
use Rattle.layer_api.specs.declared.drawn.Drawn.{Drawn}
use Rattle.layer_api.specs.declared.format.Format.{Format}
use Rattle.layer_api.specs.declared.format.Format.TheVariants.{Svg}
use Rattle.layer_api.specs.declared.view.View.{View}
use Rattle.layer_api.specs.LayerText.{layer_text}
use Rattle.tile_io.specs.Taken.{Takes, TakesProperPrefix, TakenInTurn}
use Rattle.tile_app.specs.Draw.{texts_of}
use Rattle.tile_app.specs.LayerTexts.{HasDrawn, FirstHasDrawn}
use Rattle.tile_app.proofs.SameTexts.{same-text}

some_is : (k l : ℕ) → Some k ≡ Some l → k ≡ l
some_is k l e = cc

module _ {D : Type 0} (form : D → Format) (seen : D → View) (ended : D → Bool) (draws : D → List Drawn → Type 0)
    (view : View) (picture : List Drawn) where
  abbrev Has : D → Type 0
  Has = HasDrawn form seen ended draws view picture

  abbrev First : List D → Format → Type 0
  First = FirstHasDrawn form seen ended draws view picture

  -- ---- one layer has drawn, the others are as they were
  module _ (layers : List D) (place : ℕ) (layer : D) (below : place < length layers)
      (same : map form (set layers place layer) ≡ map form layers) (has : Has layer) where
    here : (at : ℕ) → at ≡ place → (d : D) → Has (get_or (set layers place layer) at d)
    here at e d = rw e (subst Has (sym (get_or-set_same layers place layer d below)) has)

    pub own-drawn : (format : Format) → position (λ f. same_format f format) (map form layers) ≡ Some place → First (set layers place layer) format
    own-drawn format own at e d = here at (some_is at place (sym e ∙ ap (position (λ f. same_format f format)) same ∙ own)) d

    pub others-drawn : (other : Format) → First layers other → First (set layers place layer) other
    others-drawn other h at e d = elim (cases_eq at place) [
      | inl is ↦ here at is d
      | inr other_place ↦ subst Has (sym (get_or-set_other layers place at layer d other_place))
          (h at (sym (ap (position (λ f. same_format f other)) same) ∙ e) d)
    ]

  -- ---- the text of one of these layers
  module _ (layers : List D) (formats : List Format) (drawn : All (First layers) formats) (i : ℕ) (below : i < length formats)
      (found : Option ℕ) (place : ℕ) (layer : D) (first : found ≡ position (λ f. same_format f (get_or formats i Svg)) (map form layers))
      (some : found ≡ Some place) (is : layer ≡ get_or layers place layer) where
    pub its-drawn : Has layer
    its-drawn = subst Has (sym is) (drawn i Svg below place (sym first ∙ some) layer)

    pub its-text : IfSome found (λ k. k < length layers) → IfSome found (λ k. IfSome (slice_get layers k) (λ d. form d ≡ get_or formats i Svg))
        → (bytes : List ℕ) → ((tiles : List Drawn) → draws layer tiles → bytes ≡ layer_text (form layer) (seen layer) tiles)
        → bytes ≡ layer_text (get_or formats i Svg) view picture
    its-text inside its_form bytes told =
        let format = get_or formats i Svg in
        let there : place < length layers = subst (λ o. IfSome o (λ k. k < length layers)) some inside in
        let at : slice_get layers place ≡ Some layer = slice_get_read layers (length layers) place layer refl there is in
        let of_place = subst (λ o. IfSome o (λ k. IfSome (slice_get layers k) (λ d. form d ≡ format))) some its_form in
        let same : form layer ≡ format = subst (λ o. IfSome o (λ d. form d ≡ format)) at of_place in
        told its-drawn.its_tiles its-drawn.its_picture
        ∙ same-text (form layer) (seen layer) its-drawn.its_tiles picture its-drawn.alike
        ∙ ap₂ (λ f v. layer_text f v picture) same its-drawn.its_view

-- ---- the texts in turn
pub takes_none : (a : Option (List ℕ)) → Takes a a []
takes_none None = tt
takes_none (Some bytes) = sym (append-nil bytes)

module _ (view : View) (picture : List Drawn) (formats : List Format) (i : ℕ) (d : Format) (below : i < length formats) where
  abbrev text : Format → List ℕ
  text f = layer_text f view picture

  pub one-text-more : texts_of view picture (take (i + 1) formats)
      ≡ texts_of view picture (take i formats) ++ layer_text (get_or formats i d) view picture
  one-text-more =
      ap (flat_map text) (take_more formats i d below) ∙ flat_map-append text (take i formats) (get_or formats i d ∷ [])
      ∙ ap (λ xs. texts_of view picture (take i formats) ++ xs) (append-nil (text (get_or formats i d)))

  texts-in-turn : texts_of view picture formats ≡ texts_of view picture (take (i + 1) formats) ++ texts_of view picture (drop (i + 1) formats)
  texts-in-turn =
      ap (flat_map text) (sym (take-append-drop (i + 1) formats)) ∙ flat_map-append text (take (i + 1) formats) (drop (i + 1) formats)

  -- the texts before, one more, and those behind
  pub before-and-behind : texts_of view picture formats
      ≡ (texts_of view picture (take i formats) ++ layer_text (get_or formats i d) view picture) ++ texts_of view picture (drop (i + 1) formats)
  before-and-behind = texts-in-turn ∙ ap (λ xs. xs ++ texts_of view picture (drop (i + 1) formats)) one-text-more

-- a proper prefix of a piece, behind what was taken before, is one of the whole
pub prefix-of-whole : TakenInTurn → (a b c : Option (List ℕ)) (before piece after : List ℕ) → Takes a b before → TakesProperPrefix b c piece
    → TakesProperPrefix a c ((before ++ piece) ++ after)
prefix-of-whole in-turn a b c before piece after h k =
    let count = k.0 in
    let long : length (before ++ piece) ≡ length before + length piece = length-append before piece in
    let all : length ((before ++ piece) ++ after) ≡ length (before ++ piece) + length after = length-append (before ++ piece) after in
    let cut : take (length before + count) ((before ++ piece) ++ after) ≡ before ++ take count piece =
    take-append-le (length before + count) (before ++ piece) after (omega (arith, long, k.1)) ∙ take-append-add before piece count in
    (length before + count, omega (arith, long, all, k.1), subst (Takes a c) (sym cut) (in-turn a b c before (take count piece) h k.2))

-- what holds holds at an error
pub on-err : {T E : Type 0} (P : Type 0) (r : Result T E) → P → OnErr r P
on-err P (Ok x) h = tt
on-err P (Err e) h = h
