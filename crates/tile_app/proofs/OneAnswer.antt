-- A call has one answer: the cause of one status is no cause of another.
use Rattle.std.proofs.Common.{◌≡◌, ◌⊎◌, inl, inr, ℕ, ◌<◌, ◌≤◌, List, length, Some, None, Result, Ok, Err, refl, sym, ap, ◌∙◌, subst, arith}
use Rattle.std.specs.declared.option.Option.{Option}
use Rattle.theory_addresses.specs.Address.{Address}
use Rattle.addr_calc.specs.declared.calc_fault.CalcFault.{CalcFault}
use Rattle.addr_calc.specs.Script.{Outcome as ScriptOutcome, IsOutcome}
use Rattle.addr_calc.proofs.Faults.{OneText, fault_once}
use Rattle.addr_calc.proofs.OneEffect.{FitsAreShort}
use Rattle.call_words.specs.Request.{Request, request_in, rule_asked}
use Rattle.call_words.specs.Request.Request.{Place, Neighbour, Walk, Draw, Check, Calc, Drill, Star, Verify}
use Rattle.call_words.proofs.RightWords.{place-refused}
use Rattle.call_words.specs.WrongWord.{place_refused, wrong_place}
use Rattle.theory_walks.specs.Frames.{FrameValue, IsFrameOf}
use Rattle.theory_walks.proofs.Walks.{new-is_frame}
use Rattle.layer_api.specs.declared.format.Format.{Format}
use Rattle.list_verify.specs.declared.list_fault.ListFault.TheVariants as listing
use Rattle.list_verify.specs.OneVerdict.{HasOneVerdict}
use Rattle.list_verify.specs.Verdict.{LacksTiles}
use Rattle.rule_model.specs.Tiling.{Tiling, children}
use Rattle.tile_shape.specs.declared.address_fault.AddressFault.{AddressFault}
use Rattle.tile_shape.specs.Usable.{AreUsable}
use Rattle.call_notes.specs.declared.rule_fault.RuleFault.{RuleFault}
use Rattle.call_notes.specs.declared.script_fault.ScriptFault.TheVariants as script
use Rattle.call_notes.specs.declared.status.Status.{Status}
use Rattle.call_notes.specs.declared.status.Status.TheVariants.{Done, BadWords, NoLayer, RuleTooLong, RuleRefused, BadAddress, BadScript, BadListing}
use Rattle.tile_app.specs.Answer.{OfRequest, HasAnswer, Refuses, TileRefuses, CanBeAnswered, IsLimitOf, IsBeyond, IsBeyondLimits}
use Rattle.tile_app.specs.BaseFrame.{frame_of}
use Rattle.tile_app.specs.Calc.{CanCalculate, CalcRefuses}
use Rattle.tile_app.specs.Call.{Call, AreRight, Asks, TellsTooLong, HasRuleFault}
use Rattle.tile_app.specs.Causes.{Causes}
use Rattle.tile_app.specs.Choices.{tiling_chosen}
use Rattle.tile_app.specs.Draw.{PassesLimits, DrawRefuses}
use Rattle.tile_app.specs.Files.{longest_for, too_long_for}
use Rattle.tile_app.specs.Glue.{IsWithinTheirLimits}
use Rattle.tile_app.specs.Layers.{lacking}
use Rattle.tile_app.specs.Neighbour.{IsInside, NeighbourRefuses}
use Rattle.tile_app.specs.Place.{CanBePlaced, PlaceRefuses}
use Rattle.tile_app.specs.Star.{HasStar, PassesStarLimits, StarRefuses}
use Rattle.call_notes.specs.Status.{IsLimit}
use Rattle.tile_app.specs.Tile.{IsTile, IsNoTile, OfTile}
use Rattle.tile_app.specs.Verify.{CanVerify, VerifyRefuses, BuiltinVerdictLaw}
use Rattle.tile_app.specs.Walk.{CanWalk, WalkRefuses}
use Rattle.tile_app.specs.Windows.{window_asked}
use Rattle.tile_app.proofs.Once.{IsOf, place_once, neighbour_once, walk_once, draw_once, draw_beyond, star_once, star_beyond}
use Rattle.tile_app.proofs.Requested.{some_is}
use Rattle.tile_app.proofs.Tilings.{AcceptedAreUsable, chosen_is_usable, builtin-chosen}
use Rattle.tile_app.proofs.Verdicts.{verify_once, verify_beyond}
use Rattle.tile_app.proofs.Windows.{window-fits}

-- ---- the laws from which it follows
abbrev pub OneOutcome : Type 0
OneOutcome = (t : Tiling) (script : List ℕ) (one other : ScriptOutcome) → AreUsable (children t)
    → IsOutcome t script one → IsOutcome t script other → one ≡ other

pub record Laws : Type 0 where
  pub one_text : OneText
  pub short : FitsAreShort
  pub usable : AcceptedAreUsable
  pub one_outcome : OneOutcome
  pub one_verdict : BuiltinVerdictLaw

-- what `verify` needs beyond it of the tiling: that one thing is said of a listing of its window, in each frame
abbrev HasVerdictFor : Request → Tiling → Type 0
HasVerdictFor (Verify name addr seed window) t = (f : FrameValue) (file : List ℕ) → IsFrameOf t f
    → HasOneVerdict t f (window_asked t.order window) file
HasVerdictFor _ t = Unit {0}

module _ (laws : Laws) (t : Tiling) (usable : AreUsable (children t)) where
  -- ---- a text names one tile, or has one fault
  module _ (addr : List ℕ) where
    same_tile : (a b : Address) → IsTile t addr a → IsTile t addr b → a ≡ b
    same_tile a b p q =
        laws.one_text a b (laws.short (children t) a usable p.accepted.fits)
        (laws.short (children t) b usable q.accepted.fits) (sym p.is_text ∙ q.is_text)

    tile_or_none : (a : Address) (fault : AddressFault) → IsTile t addr a → IsNoTile t addr fault → ⊥
    tile_or_none a fault p q = q.none a p.accepted p.is_text

    same_fault : (f g : AddressFault) → IsNoTile t addr f → IsNoTile t addr g → f ≡ g
    same_fault f g p q = fault_once laws.one_text (children t) addr f g p.first q.first

    -- ---- so what has one answer for each tile has one for the text
    module _ (Has : Address → Type 0) (R : Address → Status → Type 0) where
      abbrev IsAsked : Status → Type 0
      IsAsked s = IsOf (OfTile t addr Has) (TileRefuses t addr R) s

      abbrev IsNone : Status → Type 0
      IsNone s = (fault : AddressFault) × (s ≡ BadAddress fault) × IsNoTile t addr fault

      abbrev IsAtTile : Status → Type 0
      IsAtTile s = OfTile t addr (λ a. IsOf (Has a) (R a) s)

      tile_or_not : (s : Status) → IsAsked s → IsNone s ⊎ IsAtTile s
      tile_or_not Done h = inr h
      tile_or_not (BadAddress fault) h = inl (fault, refl, h)
      tile_or_not s h = inr h

      module _ (L : Status → Type 0) (once : (a : Address) → IsTile t addr a → (s u : Status)
          → IsOf (Has a) (R a) s → IsOf (Has a) (R a) u → (s ≡ u) ⊎ (L s × L u)) where
        both : (s u : Status) → IsNone s ⊎ IsAtTile s → IsNone u ⊎ IsAtTile u → (s ≡ u) ⊎ (L s × L u)
        both s u (inl h) (inl k) = inl (h.1 ∙ ap (λ f. BadAddress f) (same_fault h.0 k.0 h.2 k.2) ∙ sym k.1)
        both s u (inl h) (inr k) = absurd (tile_or_none k.address h.0 k.tile h.2)
        both s u (inr h) (inl k) = absurd (tile_or_none h.address k.0 h.tile k.2)
        both s u (inr h) (inr k) =
            once k.address k.tile s u (subst (λ a. IsOf (Has a) (R a) s) (same_tile h.address k.address h.tile k.tile) h.holds) k.holds

        tile_once : (s u : Status) → IsAsked s → IsAsked u → (s ≡ u) ⊎ (L s × L u)
        tile_once s u h k = both s u (tile_or_not s h) (tile_or_not u k)

      module _ (B : Address → Type 0) (beyond : (a : Address) → IsTile t addr a → (s : Status) → IsOf (Has a) (R a) s → B a → IsLimit s) where
        at_beyond : (s : Status) → IsNone s ⊎ IsAtTile s → OfTile t addr B → IsLimit s
        at_beyond s (inl h) k = absurd (tile_or_none k.address h.0 k.tile h.2)
        at_beyond s (inr h) k = beyond k.address k.tile s
            (subst (λ a. IsOf (Has a) (R a) s) (same_tile h.address k.address h.tile k.tile) h.holds) k.holds

        tile_beyond : (s : Status) → IsAsked s → OfTile t addr B → IsLimit s
        tile_beyond s h k = at_beyond s (tile_or_not s h) k

  -- ---- `calc`: a script has one outcome
  module _ (file : List ℕ) where
    calc_or_refused : (fault : CalcFault) → CanCalculate file t → CalcRefuses file t (BadScript (script.Calc fault)) → ⊥
    calc_or_refused fault h k = let e = laws.one_outcome t file (Ok h.0) (Err fault) usable h.1 k in absurd (cc e)

    err_is : (f g : CalcFault) → (let o : ScriptOutcome = Err f in o) ≡ Err g → f ≡ g
    err_is f g e = cc

    calc_once : (s u : Status) → IsOf (CanCalculate file t) (CalcRefuses file t) s → IsOf (CanCalculate file t) (CalcRefuses file t) u → s ≡ u
    calc_once Done Done h k = refl
    calc_once Done (BadScript (script.Calc f)) h k = absurd (calc_or_refused f h k)
    calc_once Done u h k = absurd k
    calc_once (BadScript (script.Calc f)) Done h k = absurd (calc_or_refused f k h)
    calc_once (BadScript (script.Calc f)) (BadScript (script.Calc g)) h k = ap
        (λ x. BadScript (script.Calc x)) (err_is f g (laws.one_outcome t file (Err f) (Err g) usable h k))
    calc_once (BadScript (script.Calc f)) u h k = absurd k
    calc_once s u h k = absurd h

  -- ---- what refuses nothing is always done
  done_once : (s u : Status) → IsOf (Unit {0}) (λ x. ⊥) s → IsOf (Unit {0}) (λ x. ⊥) u → s ≡ u
  done_once Done Done h k = refl
  done_once Done u h k = absurd k
  done_once s u h k = absurd h

  -- the frame of a tile, before it grows
  base-is_frame : (addr : List ℕ) (seed : ℕ) (a : Address) → IsTile t addr a → IsFrameOf t (frame_of a seed)
  base-is_frame addr seed a tile = new-is_frame t (frame_of a seed) tile.accepted.fits refl tile.accepted.has_room

  -- ---- by cases of the request
  abbrev pub IsFor : Request → List ℕ → Status → Type 0
  IsFor q file s = IsOf (HasAnswer q file t) (Refuses q file t) s

  -- the two are the same, or both are limits of the request
  abbrev AreAlike : Request → Status → Status → Type 0
  AreAlike q s u = (s ≡ u) ⊎ (IsLimitOf q s × IsLimitOf q u)

  request_once : (q : Request) (file : List ℕ) (s u : Status) → HasVerdictFor q t → IsFor q file s → IsFor q file u → AreAlike q s u
  request_once (Place rule addr) file s u law h k =
      tile_once addr (CanBePlaced t) (PlaceRefuses t) (λ x. ⊥) (λ a tile x y p q. inl (place_once t a x y p q)) s u h k
  request_once (Neighbour rule addr edge) file s u law h k =
      tile_once addr (λ a. IsInside t a edge) (λ a. NeighbourRefuses t a edge) (λ x. ⊥)
      (λ a tile x y p q. inl (neighbour_once t a edge x y p q)) s u h k
  request_once (Walk rule addr seed grow path) file s u law h k =
      tile_once addr (λ a. CanWalk t (frame_of a seed) path) (λ a. WalkRefuses t (frame_of a seed) path)
      (λ x. ⊥) (λ a tile x y p q. inl (walk_once t (frame_of a seed) path x y p q)) s u h k
  request_once (Draw rule addr seed window layers glue) file s u law h k =
      tile_once addr (λ a. IsWithinTheirLimits glue t (frame_of a seed) (window_asked t.order window))
      (λ a. DrawRefuses glue t (frame_of a seed) (window_asked t.order window)) IsLimit
      (λ a tile x y p q. draw_once t glue (frame_of a seed) (window_asked t.order window) x y p q) s u h k
  request_once (Check rule) file s u law h k = inl (done_once s u h k)
  request_once (Calc name) file s u law h k = inl (calc_once file s u h k)
  request_once (Drill rule count seed) file s u law h k = inl (done_once s u h k)
  request_once (Star rule addr seed vertex) file s u law h k =
      tile_once addr (λ a. HasStar t (frame_of a seed) vertex) (λ a. StarRefuses t (frame_of a seed) vertex)
      IsLimit (λ a tile x y p q. star_once t (frame_of a seed) vertex x y p q) s u h k
  request_once (Verify name addr seed window) file s u law h k =
      tile_once addr (λ a. CanVerify t (frame_of a seed) (window_asked t.order window) file)
      (λ a. VerifyRefuses t (frame_of a seed) (window_asked t.order window) file) IsLimit
      (λ a tile x y p q. verify_once t (frame_of a seed) (window_asked t.order window) file
      (law (frame_of a seed) file (base-is_frame addr seed a tile)) x y p q) s u h k

  request_beyond : (q : Request) (file : List ℕ) (s : Status) → HasVerdictFor q t → IsFor q file s → IsBeyond q file t → IsLimit s
  request_beyond (Draw rule addr seed window layers glue) file s law h k =
      tile_beyond addr (λ a. IsWithinTheirLimits glue t (frame_of a seed) (window_asked t.order window))
      (λ a. DrawRefuses glue t (frame_of a seed) (window_asked t.order window))
      (λ a. PassesLimits glue t (frame_of a seed) (window_asked t.order window))
      (λ a tile x p b. draw_beyond t glue (frame_of a seed) (window_asked t.order window) x p b) s h k
  request_beyond (Star rule addr seed vertex) file s law h k =
      tile_beyond addr (λ a. HasStar t (frame_of a seed) vertex) (λ a. StarRefuses t (frame_of a seed) vertex)
      (λ a. PassesStarLimits t (frame_of a seed) vertex)
      (λ a tile x p b. star_beyond t (frame_of a seed) vertex x p b) s h k
  request_beyond (Verify name addr seed window) file s law h k =
      tile_beyond addr (λ a. CanVerify t (frame_of a seed) (window_asked t.order window) file)
      (λ a. VerifyRefuses t (frame_of a seed) (window_asked t.order window) file)
      (λ a. LacksTiles t (frame_of a seed) (window_asked t.order window) file)
      (λ a tile x p b. verify_beyond t (frame_of a seed) (window_asked t.order window) file
      (law (frame_of a seed) file (base-is_frame addr seed a tile)) x p b) s h k
  request_beyond q file s law h k = absurd k

-- ---- words and files
-- a status for which nothing is asked of a tiling
abbrev IsEarly : Call → Status → Type 0
IsEarly c (BadWords place) = Causes c (BadWords place)
IsEarly c (NoLayer format) = Causes c (NoLayer format)
IsEarly c RuleTooLong = Causes c RuleTooLong
IsEarly c (RuleRefused fault) = Causes c (RuleRefused fault)
IsEarly c (BadScript script.TooLong) = Causes c (BadScript script.TooLong)
IsEarly c (BadListing listing.TooLong) = TellsTooLong c (BadListing listing.TooLong)
IsEarly c status = ⊥

ok_is : (p q : Request) (o : Result Request ℕ) → o ≡ Ok p → o ≡ Ok q → p ≡ q
ok_is p q o e f = cc

-- words that are wrong ask for nothing
right_or_wrong : (words : List (List ℕ)) (q : Request) (place : ℕ) → request_in words ≡ Ok q → wrong_place words ≡ Some place → ⊥
right_or_wrong words q place e f = none (place-refused words ∙ f) e
  where
    none : place_refused (request_in words) ≡ Some place → request_in words ≡ Ok q → ⊥
    none g h = absurd (cc (sym (ap (λ r. place_refused r) h) ∙ g))

has_or_lacks : (format : Format) (o : Option Format) → o ≡ None → o ≡ Some format → ⊥
has_or_lacks format o e f = absurd (cc (e, f))

long_or_not : (m n : ℕ) → m < n → n ≤ m → ⊥
long_or_not m n l k = omega arith

fault_is : (x y : RuleFault) (o : Result Tiling RuleFault) → o ≡ Err x → o ≡ Err y → x ≡ y
fault_is x y o e f = cc

either : (t : Tiling) (x : RuleFault) (o : Result Tiling RuleFault) → o ≡ Ok t → o ≡ Err x → ⊥
either t x o e f = absurd (cc (e, f))

tiling_is : (s t : Tiling) (o : Result Tiling RuleFault) → o ≡ Ok s → o ≡ Ok t → s ≡ t
tiling_is s t o e f = cc

module _ (c : Call) where
  same_request : (p q : Request) → AreRight c p → AreRight c q → p ≡ q
  same_request p q h k = ok_is p q (request_in c.words) h.asked k.asked

  -- a file that is too long is read, for right words each of whose formats has a layer
  wrong_or_long : (p : ℕ) (s : Status) → Causes c (BadWords p) → TellsTooLong c s → ⊥
  wrong_or_long p s h k = right_or_wrong c.words k.request p k.right.asked h

  lacking_or_right : (f : Format) (q : Request) → Causes c (NoLayer f) → AreRight c q → ⊥
  lacking_or_right f q h k = has_or_lacks f (lacking q c.handed) k.layers
      (subst (λ r. lacking r c.handed ≡ Some f) (ok_is h.0 q (request_in c.words) h.1 k.asked) h.2)

  refused_or_long : (x : RuleFault) (s : Status) → HasRuleFault c x → TellsTooLong c s → ⊥
  refused_or_long x s h k =
      long_or_not (longest_for k.request) (length c.file) k.too_long
      (subst (λ q. length c.file ≤ longest_for q) (same_request h.request k.request h.right k.right)
      h.not_too_long)

  -- by one status it is told
  told_once : (s u : Status) → TellsTooLong c s → TellsTooLong c u → s ≡ u
  told_once s u h k = h.told ∙ ap too_long_for (same_request h.request k.request h.right k.right) ∙ sym k.told

  long_once : (s u : Status) → TellsTooLong c s → IsEarly c u → s ≡ u
  long_once s (BadWords q) h k = absurd (wrong_or_long q s k h)
  long_once s (NoLayer f) h k = absurd (lacking_or_right f h.request k h.right)
  long_once s (RuleRefused x) h k = absurd (refused_or_long x s k h)
  long_once s RuleTooLong h k = told_once s RuleTooLong h k
  long_once s (BadScript script.TooLong) h k = told_once s (BadScript script.TooLong) h k
  long_once s (BadListing listing.TooLong) h k = told_once s (BadListing listing.TooLong) h k
  long_once s u h k = absurd k

  rule_once : (x y : RuleFault) → HasRuleFault c x → HasRuleFault c y → x ≡ y
  rule_once x y h k = fault_is x y (tiling_chosen c.file (rule_asked k.request))
      (subst (λ q. tiling_chosen c.file (rule_asked q) ≡ Err x)
      (same_request h.request k.request h.right k.right) h.first) k.first

  lacking_once : (f g : Format) → Causes c (NoLayer f) → Causes c (NoLayer g) → f ≡ g
  lacking_once f g h k = some_is f g (sym (subst (λ r. lacking r c.handed ≡ Some f) (ok_is h.0 k.0 (request_in c.words) h.1 k.1) h.2) ∙ k.2)

  early_once : (s u : Status) → IsEarly c s → IsEarly c u → s ≡ u
  early_once (BadWords p) (BadWords q) h k = ap (λ n. BadWords n) (some_is p q (sym h ∙ k))
  early_once (BadWords p) (NoLayer f) h k = absurd (right_or_wrong c.words k.0 p k.1 h)
  early_once (BadWords p) (RuleRefused x) h k = absurd (right_or_wrong c.words k.request p k.right.asked h)
  early_once (BadWords p) RuleTooLong h k = absurd (wrong_or_long p RuleTooLong h k)
  early_once (BadWords p) (BadScript script.TooLong) h k = absurd (wrong_or_long p (BadScript script.TooLong) h k)
  early_once (BadWords p) (BadListing listing.TooLong) h k = absurd (wrong_or_long p (BadListing listing.TooLong) h k)
  early_once (BadWords p) u h k = absurd k
  early_once (NoLayer f) (BadWords q) h k = absurd (right_or_wrong c.words h.0 q h.1 k)
  early_once (NoLayer f) (NoLayer g) h k = ap (λ x. NoLayer x) (lacking_once f g h k)
  early_once (NoLayer f) (RuleRefused x) h k = absurd (lacking_or_right f k.request h k.right)
  early_once (NoLayer f) RuleTooLong h k = absurd (lacking_or_right f k.request h k.right)
  early_once (NoLayer f) (BadScript script.TooLong) h k = absurd (lacking_or_right f k.request h k.right)
  early_once (NoLayer f) (BadListing listing.TooLong) h k = absurd (lacking_or_right f k.request h k.right)
  early_once (NoLayer f) u h k = absurd k
  early_once (RuleRefused x) (BadWords q) h k = absurd (right_or_wrong c.words h.request q h.right.asked k)
  early_once (RuleRefused x) (NoLayer f) h k = absurd (lacking_or_right f h.request k h.right)
  early_once (RuleRefused x) (RuleRefused y) h k = ap (λ z. RuleRefused z) (rule_once x y h k)
  early_once (RuleRefused x) RuleTooLong h k = absurd (refused_or_long x RuleTooLong h k)
  early_once (RuleRefused x) (BadScript script.TooLong) h k = absurd (refused_or_long x (BadScript script.TooLong) h k)
  early_once (RuleRefused x) (BadListing listing.TooLong) h k = absurd (refused_or_long x (BadListing listing.TooLong) h k)
  early_once (RuleRefused x) u h k = absurd k
  early_once RuleTooLong u h k = long_once RuleTooLong u h k
  early_once (BadScript script.TooLong) u h k = long_once (BadScript script.TooLong) u h k
  early_once (BadListing listing.TooLong) u h k = long_once (BadListing listing.TooLong) u h k
  early_once s u h k = absurd h

  long_or_asks : (s : Status) (q : Request) (t : Tiling) → TellsTooLong c s → Asks c q t → ⊥
  long_or_asks s q t h k =
      long_or_not (longest_for q) (length c.file)
      (subst (λ p. longest_for p < length c.file) (same_request h.request q h.right k.right) h.too_long)
      k.names.not_too_long

  early_or_asks : (s : Status) (q : Request) (t : Tiling) → IsEarly c s → Asks c q t → ⊥
  early_or_asks (BadWords p) q t h k = right_or_wrong c.words q p k.right.asked h
  early_or_asks (NoLayer f) q t h k = lacking_or_right f q h k.right
  early_or_asks RuleTooLong q t h k = long_or_asks RuleTooLong q t h k
  early_or_asks (BadScript script.TooLong) q t h k = long_or_asks (BadScript script.TooLong) q t h k
  early_or_asks (BadListing listing.TooLong) q t h k = long_or_asks (BadListing listing.TooLong) q t h k
  early_or_asks (RuleRefused x) q t h k =
      either t x (tiling_chosen c.file (rule_asked q)) k.names.chosen
      (subst (λ p. tiling_chosen c.file (rule_asked p) ≡ Err x) (same_request h.request q h.right k.right)
      h.first)
  early_or_asks s q t h k = h

  -- something to print, where all is done, or the cause of a refusal
  abbrev pub Outcome : Status → Type 0
  Outcome Done = CanBeAnswered c
  Outcome status = Causes c status

  -- it is an early one, or that of a request
  abbrev IsOfRequest : Status → Type 0
  IsOfRequest s = OfRequest (λ q file t. IsOf (HasAnswer q file t) (Refuses q file t) s) c

  no_cause : Causes c Done → ⊥
  no_cause h = none h.request c.file h.tiling h.holds
    where
      none : (q : Request) (file : List ℕ) (t : Tiling) → Refuses q file t Done → ⊥
      none (Check rule) file t k = k
      none (Calc name) file t k = k
      none (Drill rule count seed) file t k = k
      none q file t k = k.holds

  pub outcome_of : (s : Status) → Causes c s → Outcome s
  outcome_of Done h = absurd (no_cause h)
  outcome_of s h = h

  pub refused_at_done : (s : Status) → Causes c s → Done ≡ s → ⊥
  refused_at_done s h e = no_cause (subst (Causes c) (sym e) h)

  early_or_request : (s : Status) → Outcome s → IsEarly c s ⊎ IsOfRequest s
  early_or_request Done h = inr h
  early_or_request (BadWords p) h = inl h
  early_or_request (NoLayer f) h = inl h
  early_or_request RuleTooLong h = inl h
  early_or_request (RuleRefused x) h = inl h
  early_or_request (BadScript script.TooLong) h = inl h
  early_or_request (BadListing listing.TooLong) h = h
  early_or_request s h = inr h

  -- one request and one tiling are asked
  for_asked : (q : Request) (t : Tiling) (s : Status) → Asks c q t → IsOfRequest s → IsOf (HasAnswer q c.file t) (Refuses q c.file t) s
  for_asked q t s k h =
      let same = same_request h.request q h.asks.right k.right in
      let tiling = tiling_is h.tiling t (tiling_chosen c.file (rule_asked q))
      (subst (λ p. tiling_chosen c.file (rule_asked p) ≡ Ok h.tiling) same h.asks.names.chosen)
      k.names.chosen in
      subst (λ x. IsOf (HasAnswer q c.file x) (Refuses q c.file x) s) tiling
      (subst (λ p. IsOf (HasAnswer p c.file h.tiling) (Refuses p c.file h.tiling) s) same h.holds)

  -- `verify` is asked of the tiling of a built-in rule, and of a window that fits
  has_verdict : (laws : Laws) (q : Request) (t : Tiling) → Asks c q t → HasVerdictFor q t
  has_verdict laws (Verify name addr seed window) t asks = λ f file is_frame.
      let same = builtin-chosen c.file name t asks.names.chosen in
      let frame = subst (λ s. IsFrameOf s f) (sym same) is_frame in
      let fits = window-fits t.order c.words name addr seed window asks.right.asked in
      subst (λ (s : Tiling). HasOneVerdict s f (window_asked t.order window) file) same
      (laws.one_verdict name f (window_asked t.order window) file frame fits)
  has_verdict laws q t asks = tt

  -- the two are the same, or both are limits of what is asked for
  abbrev pub AreOne : Status → Status → Type 0
  AreOne s u = (s ≡ u) ⊎ ((q : Request) × (request_in c.words ≡ Ok q) × IsLimitOf q s × IsLimitOf q u)

  usable : Laws → (q : Request) (t : Tiling) → Asks c q t → AreUsable (children t)
  usable laws q t k = chosen_is_usable laws.usable c.file t (rule_asked q) k.names.chosen

  asked_once : (laws : Laws) (s u : Status) → IsOfRequest s → IsOfRequest u → AreOne s u
  asked_once laws s u h k =
      elim (request_once laws k.tiling (usable laws k.request k.tiling k.asks) k.request c.file s u
      (has_verdict laws k.request k.tiling k.asks) (for_asked k.request k.tiling s k.asks h) k.holds) [
        | inl e ↦ inl e
        | inr l ↦ inr (k.request, k.asks.right.asked, l.0, l.1)
      ]

  -- beyond the limits of a window one of them comes
  pub limit_beyond : (laws : Laws) (s : Status) → Outcome s → IsBeyondLimits c → IsLimit s
  limit_beyond laws s h k =
      elim (early_or_request s h) [
        | inl e ↦ absurd (early_or_asks s k.request k.tiling e k.asks)
        | inr e ↦ request_beyond laws k.tiling (usable laws k.request k.tiling k.asks) k.request c.file s
            (has_verdict laws k.request k.tiling k.asks) (for_asked k.request k.tiling s k.asks e) k.holds
      ]

  pub one_answer : (laws : Laws) (s u : Status) → Outcome s → Outcome u → AreOne s u
  one_answer laws s u h k =
      elim (early_or_request s h) [
        | inl e ↦ elim (early_or_request u k) [
          | inl f ↦ inl (early_once s u e f)
          | inr f ↦ absurd (early_or_asks s f.request f.tiling e f.asks)
        ]
        | inr e ↦ elim (early_or_request u k) [
          | inl f ↦ absurd (early_or_asks u e.request e.tiling f e.asks)
          | inr f ↦ asked_once laws s u e f
        ]
      ]
