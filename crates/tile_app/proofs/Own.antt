-- From what each command says of its own file to what is said of a request's.
use Rattle.std.proofs.Common.{◌≡◌, ◌⊎◌, inl, inr, ℕ, true, false, List, [], length, ◌≤◌, Result, Err, IfErr, sym, ap, ◌∙◌, subst, refl, arith}
use Rattle.std.proofs.lemmas.Result.{IfErr-weaker}
use Rattle.std.specs.declared.option.Option.{Option}
use Rattle.builtin_rules.specs.declared.name.Name.{Name}
use Rattle.call_words.specs.declared.request.Question.{Question}
use Rattle.call_words.specs.declared.request.Question.TheVariants as question
use Rattle.call_words.specs.Request.{WindowAsked}
use Rattle.call_words.specs.Views.{question_of}
use Rattle.call_words.specs.Request.{Request}
use Rattle.call_words.specs.Request.Request.{Calc, Verify}
use Rattle.addr_calc.specs.declared.calc_fault.CalcFault.{CalcFault}
use Rattle.addr_calc.specs.declared.calc_fault.CalcFault.TheVariants as calculating
use Rattle.addr_calc.specs.Script as calculated
use Rattle.theory_walks.specs.Frames.{FrameValue}
use Rattle.plane_geom.specs.declared.window.Window.{Window}
use Rattle.rule_model.specs.Tiling.{Tiling}
use Rattle.tile_app.specs.declared.file_kind.FileKind.TheVariants.{Script, Listing}
use Rattle.call_notes.specs.declared.status.Status.{Status}
use Rattle.call_notes.specs.declared.status.Status.TheVariants.{ReadFault, BadAddress, NoMemory}
use Rattle.tile_app.specs.Answer.{IsPrinted, Refuses}
use Rattle.tile_app.specs.Asked.{WasRead, WasFileIn}
use Rattle.tile_shape.specs.declared.address_fault.AddressFault.{AddressFault}
use Rattle.tile_shape.specs.Text.{address_text}
use Rattle.tile_app.specs.BaseFrame.{frame_of, IsBaseFrame}
use Rattle.tile_app.specs.Calc.{PrintsCalc, CalcRefuses}
use Rattle.tile_app.specs.FileKinds.{longest_of}
use Rattle.tile_app.specs.Files.{has_own_file, longest_for}
use Rattle.tile_app.specs.Reading.{OfFile, IsTooLong, IsFileUnread, OfOwnFile, IsOwnTooLong, IsRequestRefused, IsScriptPrinted, IsScriptRefused, IsListingPrinted, IsListingRefused, IsItsTiling}
use Rattle.call_notes.specs.Status.{OrNoMemory}
use Rattle.tile_app.specs.Tile.{IsNoTile, OfTile, is_tile}
use Rattle.tile_app.specs.Tilings.{builtin_tiling}
use Rattle.call_notes.specs.FaultStatus.{status_of_calc}
use Rattle.tile_app.specs.Verify.{PrintsVerify, VerifyRefuses}
use Rattle.tile_app.specs.Windows.{window_asked}
use Rattle.tile_app.proofs.Tiles.{frame_holds}
use Rattle.tile_app.proofs.Unrefused.{no_read_fault}

-- ---- a request without a file of its own
pub own_none : (q : Request) (left : Option (List ℕ)) (P : List ℕ → Type 0) → has_own_file q ≡ false → P [] → OfOwnFile q left left P
own_none q left P e h = record {
  file = [];
  read = subst (λ b. WasFileIn (longest_for q) b left left []) (sym e) refl;
  not_too_long = zero≤ (longest_for q);
  holds = h;
}
  where
    zero≤ : (n : ℕ) → 0 ≤ n
    zero≤ n = omega arith

module _ (q : Request) (t : Tiling) (left : Option (List ℕ)) (none : has_own_file q ≡ false) where
  pub alone_printed : (text : List ℕ) → IsPrinted q [] t text → OfOwnFile q left left (λ file. IsPrinted q file t text)
  alone_printed text h = own_none q left (λ file. IsPrinted q file t text) none h

  pub alone_refused : (s : Status) → OrNoMemory (λ u. Refuses q [] t u) s → IsRequestRefused q t left left s
  alone_refused NoMemory h = tt
  alone_refused ReadFault h = absurd (no_read_fault [] t q h)
  alone_refused s h = inr (own_none q left (λ file. Refuses q file t s) none h)

-- it isn't refused for a fault of the source
pub alone_unread : {T : Type 0} (q : Request) (t : Tiling) (answer : Result T Status)
    → IfErr answer (OrNoMemory (λ u. Refuses q [] t u)) → answer ≡ Err ReadFault → ⊥
alone_unread q t answer h e = no_read_fault [] t q (subst (λ r. IfErr r (OrNoMemory (λ u. Refuses q [] t u))) e h)

-- want of memory alone refuses it
pub only_memory : (q : Request) (t : Tiling) (left : Option (List ℕ)) (s : Status) → s ≡ NoMemory → IsRequestRefused q t left left s
only_memory q t left s e = subst (IsRequestRefused q t left left) (sym e) tt

pub memory_unread : {T : Type 0} (answer : Result T Status) → IfErr answer (λ s. s ≡ NoMemory) → answer ≡ Err ReadFault → ⊥
memory_unread answer h e = absurd (cc (subst (λ r. IfErr r (λ s. s ≡ NoMemory)) e h))

-- and where a request is, it has a file of its own
pub source_failed : {T : Type 0} (q : Request) (t : Tiling) (left rest : Option (List ℕ))
    (answer : Result T Status) → IfErr answer (IsRequestRefused q t left rest) → answer ≡ Err ReadFault
    → has_own_file q ≡ true
source_failed q t left rest answer h e = subst (λ r. IfErr r (IsRequestRefused q t left rest)) e h

-- ---- `calc`
pub script_printed : (name : Name) (t : Tiling) (left rest : Option (List ℕ)) (text : List ℕ)
    → IsScriptPrinted t left rest text → OfOwnFile (Calc name) left rest
    (λ file. IsPrinted (Calc name) file t text)
script_printed name t left rest text h = record { file = h.file; read = h.read; not_too_long = h.not_too_long; holds = h.holds }

script_either : (name : Name) (t : Tiling) (left rest : Option (List ℕ)) (s : Status)
    → IsTooLong Script left rest s ⊎ OfFile Script left rest (λ file. CalcRefuses file t s)
    → IsOwnTooLong (Calc name) left rest s ⊎ OfOwnFile (Calc name) left rest (λ file. Refuses (Calc name) file t s)
script_either name t left rest s (inl h) = inl (record { reads = refl; file = h.file; read = h.read; too_long = h.too_long; told = h.told })
script_either name t left rest s (inr h) = inr (record { file = h.file; read = h.read; not_too_long = h.not_too_long; holds = h.holds })

pub script_refused : (name : Name) (t : Tiling) (left rest : Option (List ℕ)) (s : Status)
    → IsScriptRefused t left rest s → IsRequestRefused (Calc name) t left rest s
script_refused name t left rest NoMemory h = tt
script_refused name t left rest ReadFault h = refl
script_refused name t left rest s h = script_either name t left rest s h

-- ---- `verify`
module _ (name : Name) (asked : WindowAsked) (t : Tiling) (f : FrameValue) (base : IsBaseFrame t f) (its : t ≡ builtin_tiling name)
    (left rest : Option (List ℕ)) where
  abbrev q : Request
  q = Verify name (address_text f.base) f.start asked

  -- it reads its file, since the base is a tile
  own : has_own_file q ≡ true
  own = sym (ap (λ s. is_tile s (address_text f.base)) its) ∙ base.told

  pub listing_printed : (text : List ℕ) → IsListingPrinted t f (window_asked t.order asked) left rest text
      → OfOwnFile q left rest (λ file. IsPrinted q file t text)
  listing_printed text h = record {
    file = h.file;
    read = subst (λ b. WasFileIn (longest_for q) b left rest h.file) (sym own) h.read;
    not_too_long = h.not_too_long;
    holds = frame_holds t f base (λ g. PrintsVerify t g (window_asked t.order asked) h.file text) h.holds;
  }

  listing_either : (s : Status)
      → IsTooLong Listing left rest s ⊎ OfFile Listing left rest (λ file. VerifyRefuses t f (window_asked t.order asked) file s)
      → ((file : List ℕ) → OfTile t (address_text f.base) (λ a. VerifyRefuses t (frame_of a f.start) (window_asked t.order asked) file s)
      → Refuses q file t s)
      → IsOwnTooLong q left rest s ⊎ OfOwnFile q left rest (λ file. Refuses q file t s)
  listing_either s h same = elim h [
    | inl long ↦ inl (record { reads = own; file = long.file; read = long.read; too_long = long.too_long; told = long.told })
    | inr of ↦ inr (record {
      file = of.file;
      read = subst (λ b. WasFileIn (longest_for q) b left rest of.file) (sym own) of.read;
      not_too_long = of.not_too_long;
      holds = same of.file (frame_holds t f base (λ g. VerifyRefuses t g (window_asked t.order asked) of.file s) of.holds);
    })
  ]

  pub listing_refused : (s : Status) → IsListingRefused t f (window_asked t.order asked) left rest s → IsRequestRefused q t left rest s
  listing_refused NoMemory h = tt
  listing_refused ReadFault h = own
  listing_refused (BadAddress fault) h = elim h [
    | inl long ↦ absurd (cc long.told)
    | inr of ↦ absurd of.holds
  ]
  listing_refused s h = listing_either s h (λ file k. k)

-- ---- where the address of the base is that of no tile, nothing is read
module _ (t : Tiling) (addr : List ℕ) (seed : ℕ) (fault : AddressFault) (no_tile : IsNoTile t addr fault) (told : is_tile t addr ≡ false)
    (left : Option (List ℕ)) where
  no_base : (q : Question) (file : List ℕ) → Refuses (question_of addr seed q) file t (BadAddress fault)
  no_base (question.Walk rule grow path) file = no_tile
  no_base (question.Draw rule window layers glue) file = no_tile
  no_base (question.Star rule vertex) file = no_tile
  no_base (question.Verify name window) file = no_tile

  no_file : (q : Question) → IsItsTiling (question_of addr seed q) t → has_own_file (question_of addr seed q) ≡ false
  no_file (question.Walk rule grow path) its = refl
  no_file (question.Draw rule window layers glue) its = refl
  no_file (question.Star rule vertex) its = refl
  no_file (question.Verify name window) its = sym (ap (λ s. is_tile s addr) its) ∙ told

  pub base_refused : (q : Question) → IsItsTiling (question_of addr seed q) t
      → IsRequestRefused (question_of addr seed q) t left left (BadAddress fault)
  base_refused q its = inr (own_none (question_of addr seed q) left (λ file. Refuses (question_of addr seed q) file t (BadAddress fault))
      (no_file q its) (no_base q []))

-- ---- from a file that is read to what is said of the script or the listing
pub script_unread : (t : Tiling) (left rest : Option (List ℕ)) (s : Status) → IsFileUnread Script left rest s → IsScriptRefused t left rest s
script_unread t left rest NoMemory h = tt
script_unread t left rest ReadFault h = tt
script_unread t left rest s h = inl h

-- a script that was read
module _ (t : Tiling) (left rest : Option (List ℕ)) (file : List ℕ)
    (read : WasRead (longest_of Script) left rest file) (short : length file ≤ longest_of Script) where
  pub script_done : (text : List ℕ) → PrintsCalc file t text → IsScriptPrinted t left rest text
  script_done text h = record { file = file; read = read; not_too_long = short; holds = h }

  -- a fault of its lines
  pub script_faulty : (fault : CalcFault) → calculated.LineOrNoMemory (λ f. calculated.IsOutcome t file (Err f))
      fault → IsScriptRefused t left rest (status_of_calc fault)
  script_faulty calculating.NoMemory h = tt
  script_faulty fault h = inr (record { file = file; read = read; not_too_long = short; holds = h })

-- of a window in a frame
module _ (t : Tiling) (f : FrameValue) (w : Window) (left rest : Option (List ℕ)) where
  pub listing_unread : (s : Status) → IsFileUnread Listing left rest s → IsListingRefused t f w left rest s
  listing_unread NoMemory h = tt
  listing_unread ReadFault h = tt
  listing_unread s h = inl h

  -- a listing that was read
  module _ (file : List ℕ) (read : WasRead (longest_of Listing) left rest file) (short : length file ≤ longest_of Listing) where
    pub listing_done : (text : List ℕ) → PrintsVerify t f w file text → IsListingPrinted t f w left rest text
    listing_done text h = record { file = file; read = read; not_too_long = short; holds = h }

    listing_faulty : (s : Status) → OrNoMemory (VerifyRefuses t f w file) s → IsListingRefused t f w left rest s
    listing_faulty NoMemory h = tt
    listing_faulty ReadFault h = absurd h
    listing_faulty s h = inr (record { file = file; read = read; not_too_long = short; holds = h })

    pub listing_wrong : {T : Type 0} (answer : Result T Status) → IfErr answer (OrNoMemory (VerifyRefuses t f w file))
        → IfErr answer (IsListingRefused t f w left rest)
    listing_wrong answer h = IfErr-weaker answer (OrNoMemory (VerifyRefuses t f w file)) (IsListingRefused t f w left rest) listing_faulty h

-- its fault isn't one of the source
pub listing_unfailed : {T : Type 0} (t : Tiling) (f : FrameValue) (w : Window) (file : List ℕ)
    (answer : Result T Status) → IfErr answer (OrNoMemory (VerifyRefuses t f w file))
    → answer ≡ Err ReadFault → ⊥
listing_unfailed t f w file answer h e = subst (λ r. IfErr r (OrNoMemory (VerifyRefuses t f w file))) e h
