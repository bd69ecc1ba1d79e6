-- What layers have drawn; and what answers a call: a text, or the texts of layers.
use Rattle.std.specs.Prelude.{◌≡◌, ℕ, Bool, IsTrue, List, map, None, Some, position, HoldsAt, All}
use Rattle.call_words.specs.FormatWords.{same_format, first_lacking}
use Rattle.layer_api.specs.declared.drawn.Drawn.{Drawn}
use Rattle.layer_api.specs.declared.format.Format.{Format}
use Rattle.layer_api.specs.declared.view.View.{View}
use Rattle.tile_app.specs.declared.whole_answer.WholeAnswer.{WholeAnswer}
use Rattle.tile_app.specs.declared.whole_answer.WholeAnswer.TheVariants.{Text, Layers}
use Rattle.tile_app.specs.Alike.{AreAlikeIn}
use Rattle.tile_app.specs.Draw.{texts_of}

-- a layer has drawn tiles of a view, to its end, and in its format they have the text of this picture
pub record HasDrawn {D : Type 0} (form : D → Format) (seen : D → View) (ended : D → Bool)
    (draws : D → List Drawn → Type 0) (view : View) (picture : List Drawn) (layer : D) : Type 0 where
  pub its_view : seen layer ≡ view
  pub has_ended : IsTrue (ended layer)
  pub its_tiles : List Drawn
  pub alike : AreAlikeIn (form layer) its_tiles picture
  pub its_picture : draws layer its_tiles

module _ {D : Type 0} (form : D → Format) (seen : D → View) (ended : D → Bool)
    (draws : D → List Drawn → Type 0) where
  -- the first layer with a format has drawn them
  abbrev pub FirstHasDrawn : View → List Drawn → List D → Format → Type 0
  FirstHasDrawn view picture layers format =
      (place : ℕ) → position (λ f. same_format f format) (map form layers) ≡ Some place
      → HoldsAt (HasDrawn form seen ended draws view picture) layers place

  -- Each of these formats has a layer, and the first layers with them have drawn the same tiles of the same
  -- view. This is the text of these layers, one behind the other.
  pub record HaveText (layers : List D) (formats : List Format) (text : List ℕ) : Type 0 where
    pub have_layers : first_lacking (map form layers) formats ≡ None
    pub view : View
    pub picture : List Drawn
    pub drawn : All (FirstHasDrawn view picture layers) formats
    pub is_text : text ≡ texts_of view picture formats

  -- the text of an answer
  abbrev pub IsTextOf : List D → WholeAnswer → List ℕ → Type 0
  IsTextOf layers (Text bytes) text = text ≡ bytes.items
  IsTextOf layers (Layers formats) text = HaveText layers formats.items text
