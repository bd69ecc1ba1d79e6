-- From what is asked of a tile, or in its frame, to what is asked of the text of its address.
use Rattle.std.proofs.Common.{◌≡◌, ℕ, true, List, length, Result, Ok, Err, IfErr, refl, sym, ap, ap₂, ◌∙◌, subst}
use Rattle.theory_addresses.specs.Address.{Address, depth}
use Rattle.theory_walks.specs.Frames.{FrameValue, IsFrameOf}
use Rattle.theory_walks.proofs.Walks.{frame_path}
use Rattle.rule_model.specs.Tiling.{Tiling, children}
use Rattle.call_words.specs.declared.request.Question.{Question}
use Rattle.call_words.specs.Views.{question_of}
use Rattle.tile_shape.specs.Accepted.{IsAcceptedAddress}
use Rattle.tile_shape.specs.Text.{address_text}
use Rattle.tile_shape.specs.declared.address_fault.AddressFault.{AddressFault}
use Rattle.call_notes.specs.declared.status.Status.{Status}
use Rattle.call_notes.specs.declared.status.Status.TheVariants.{BadAddress, NoMemory}
use Rattle.tile_app.specs.Answer.{TileRefuses}
use Rattle.tile_app.specs.BaseFrame.{frame_of, IsBegun, IsBaseFrame, question_in}
use Rattle.call_notes.specs.Status.{OrNoMemory}
use Rattle.tile_app.specs.Tile.{IsTile, OfTile, is_tile}

-- what is refused of the tile is refused of the text
pub tile_refuses : (t : Tiling) (addr : List ℕ) (a : Address) (P : Address → Status → Type 0)
    → IsTile t addr a → ((fault : AddressFault) → P a (BadAddress fault) → ⊥)
    → (s : Status) → OrNoMemory (P a) s → OrNoMemory (TileRefuses t addr P) s
tile_refuses t addr a P tile never NoMemory h = tt
tile_refuses t addr a P tile never (BadAddress fault) h = absurd (never fault h)
tile_refuses t addr a P tile never s h = record { address = a; tile = tile; holds = h }

pub tile_refused : {T : Type 0} (t : Tiling) (addr : List ℕ) (a : Address) (P : Address → Status → Type 0)
    → IsTile t addr a → ((fault : AddressFault) → P a (BadAddress fault) → ⊥)
    → (answer : Result T Status) → IfErr answer (OrNoMemory (P a)) → IfErr answer (OrNoMemory (TileRefuses t addr P))
tile_refused t addr a P tile never (Ok x) h = h
tile_refused t addr a P tile never (Err s) h = tile_refuses t addr a P tile never s h

-- ---- in the frame of its tile
module _ (t : Tiling) (f : FrameValue) (base : IsBaseFrame t f) where
  pub frame_holds : (P : FrameValue → Type 0) → P f → OfTile t (address_text f.base) (λ a. P (frame_of a f.start))
  frame_holds P h = record { address = f.base; tile = base.tile; holds = subst P base.begun h }

  pub frame_refused : {T : Type 0} (P : FrameValue → Status → Type 0) → ((g : FrameValue) (fault : AddressFault) → P g (BadAddress fault) → ⊥)
      → (answer : Result T Status) → IfErr answer (OrNoMemory (P f))
      → IfErr answer (OrNoMemory (TileRefuses t (address_text f.base) (λ a. P (frame_of a f.start))))
  frame_refused P never answer h =
      tile_refused t (address_text f.base) f.base (λ a. P (frame_of a f.start)) base.tile
      (λ fault k. never (frame_of f.base f.start) fault k) answer
      (subst (λ g. IfErr answer (OrNoMemory (P g))) base.begun h)

-- a frame that hasn't grown has the depth of its base
pub begun_depth : (f : FrameValue) → IsBegun f → length f.digits ≡ depth f.base
begun_depth f h = ap (λ (g : FrameValue). length g.digits) h

-- ---- a frame that is made of the tile of a text, and of a seed, is its frame
module _ (t : Tiling) (text : List ℕ) (seed : ℕ) (a : Address) (f : FrameValue) (tile : IsTile t text a) (is : f.base ≡ a)
    (start : f.start ≡ seed) where
  same_text : text ≡ address_text f.base
  same_text = tile.is_text ∙ ap address_text (sym is)

  pub base_made : is_tile t text ≡ true → f.digits ≡ a.digits → IsFrameOf t f → IsBaseFrame t f
  base_made told digits is_frame = record {
    tile = record { is_text = refl; accepted = subst (IsAcceptedAddress (children t)) (sym is) tile.accepted };
    told = subst (λ x. is_tile t x ≡ true) same_text told;
    begun = frame_path f (frame_of f.base f.start) refl refl (digits ∙ ap (λ (b : Address). b.digits) (sym is));
    is_frame = is_frame;
  }

  -- and a question about it is that of the text and the seed
  pub same_question : (q : Question) → question_in f q ≡ question_of text seed q
  same_question q = ap₂ (λ (x : List ℕ) (n : ℕ). question_of x n q) (sym same_text) start
