-- From what is printed of a tile of a built-in rule, or refused, to the call that was made.
use Rattle.std.proofs.Common.{◌≡◌, ℕ, ◌≤◌, List, [], Ok, refl, arith}
use Rattle.std.specs.declared.option.Option.{Option}
use Rattle.builtin_rules.specs.declared.name.Name.{Name}
use Rattle.call_words.specs.declared.rule_choice.RuleChoice.TheVariants.{Builtin}
use Rattle.call_words.specs.Request.{Request, request_in}
use Rattle.call_words.specs.Request.Request.{Place}
use Rattle.layer_api.specs.declared.format.Format.{Format}
use Rattle.rule_model.specs.Tiling.{Tiling}
use Rattle.rule_text.specs.Limits.{longest_file}
use Rattle.call_notes.specs.declared.status.Status.{Status}
use Rattle.tile_app.specs.Answer.{Prints, TileRefuses}
use Rattle.tile_app.specs.Asked.{OfCall}
use Rattle.tile_app.specs.Causes.{IsRefused}
use Rattle.tile_app.specs.Place.{PrintsPlace, PlaceRefuses}
use Rattle.tile_app.specs.Reading.{IsRuleRead}
use Rattle.call_notes.specs.Status.{OrNoMemory}
use Rattle.tile_app.specs.Tile.{OfTile}
use Rattle.tile_app.specs.Tilings.{builtin_tiling}
use Rattle.tile_app.proofs.Own.{alone_printed, alone_refused}
use Rattle.tile_app.proofs.Read.{prints_asked, request_refused}

zero≤ : (n : ℕ) → 0 ≤ n
zero≤ n = omega arith

-- no file is read
module _ (words : List (List ℕ)) (handed : List Format) (name : Name) (addr : List ℕ)
    (right : request_in words ≡ Ok (Place (Builtin name) addr)) (left : Option (List ℕ)) where
  abbrev asked : Request
  asked = Place (Builtin name) addr

  abbrev t : Tiling
  t = builtin_tiling name

  rule : IsRuleRead (Builtin name) left left t
  rule = record { file = []; read = refl; not_too_long = zero≤ longest_file; chosen = refl }

  pub named_printed : (text : List ℕ) → OfTile t addr (λ a. PrintsPlace t a text) → OfCall words handed left left (λ c. Prints c text)
  named_printed text h = prints_asked words handed asked right refl t left left left rule (λ e. refl)
      (λ e. refl) text (alone_printed asked t left refl text h)

  pub named_refused : (s : Status) → OrNoMemory (TileRefuses t addr (PlaceRefuses t)) s → IsRefused words handed left left s
  named_refused s h = request_refused words handed asked right refl t left left left rule (λ e. refl)
      (λ e. refl) s (alone_refused asked t left refl s h)
