-- From what a call answers to its clauses.
use Rattle.std.proofs.Common.{◌≡◌, ◌⊎◌, inl, inr, ℕ, ◌≤◌, List, map, length, Some, Ok, refl, sym, subst, ◌∙◌}
use Rattle.std.specs.declared.option.Option.{Option}
use Rattle.call_words.specs.Request.{Request, request_in}
use Rattle.call_words.specs.Request.Request.{Place, Neighbour, Walk, Draw, Check, Calc, Drill, Star, Verify}
use Rattle.call_words.specs.WrongWord.{wrong_place}
use Rattle.layer_api.specs.declared.format.Format.{Format}
use Rattle.list_verify.specs.declared.list_fault.ListFault.TheVariants as listing
use Rattle.rule_model.specs.Tiling.{Tiling}
use Rattle.call_notes.specs.declared.script_fault.ScriptFault.TheVariants as script
use Rattle.call_notes.specs.declared.status.Status.{Status}
use Rattle.call_notes.specs.declared.status.Status.TheVariants.{Done, BadWords, NoLayer, ReadFault, RuleTooLong, RuleRefused, BadScript, BadListing, WriteFault, NoMemory}
use Rattle.tile_app.specs.Answer.{OfRequest, IsPrinted, HasAnswer, Refuses, Prints, CanBeAnswered, IsLimitOf, IsBeyondLimits}
use Rattle.tile_app.specs.Asked.{OfCall, IsAsked, WasAsked}
use Rattle.tile_app.specs.Call.{Call, Asks, HasRuleFault}
use Rattle.tile_app.specs.Causes.{Causes, IsNoLimit, IsRefused}
use Rattle.tile_app.specs.Layers.{lacking}
use Rattle.call_notes.specs.Status.{IsCutShort, IsLimit, IsRefusal}
use Rattle.tile_app.proofs.OneAnswer.{Laws, outcome_of, refused_at_done, AreOne, one_answer, limit_beyond}
use Rattle.tile_app.proofs.Requested.{same_call, same_told, longest_is}

-- what is printed is an answer
can : (q : Request) (file : List ℕ) (t : Tiling) (text : List ℕ) → IsPrinted q file t text → HasAnswer q file t
can (Place rule addr) file t text p = record { address = p.address; tile = p.tile; holds = p.holds.within }
can (Neighbour rule addr edge) file t text p = record { address = p.address; tile = p.tile; holds = p.holds.inside }
can (Walk rule addr seed grow path) file t text p = record { address = p.address; tile = p.tile; holds = p.holds.walked }
can (Draw rule addr seed window layers glue) file t text p = record { address = p.address; tile = p.tile; holds = p.holds.pictures.within }
can (Check rule) file t text p = tt
can (Calc name) file t text p = (text, p)
can (Drill rule count seed) file t text p = tt
can (Star rule addr seed vertex) file t text p = record { address = p.address; tile = p.tile; holds = p.holds.has }
can (Verify name addr seed window) file t text p = record { address = p.address; tile = p.tile; holds = (p.holds.0, p.holds.1) }

can_be_answered : (c : Call) (text : List ℕ) → Prints c text → CanBeAnswered c
can_be_answered c text p = record { request = p.request; tiling = p.tiling; asks = p.asks; holds = can p.request c.file p.tiling text p.holds }

-- equal words, with equal layers, make the same call
pub same_asked : {D : Type 0} (form : D → Format) (words other : List (List ℕ)) (layers had : List D)
    (left : Option (List ℕ)) (c : Call) → IsAsked other (map form had) left c
    → words ≡ other → layers ≡ had → IsAsked words (map form layers) left c
same_asked form words other layers had left c h e f =
    subst (λ ds. IsAsked words (map form ds) left c) (sym f) (subst (λ ws. IsAsked ws (map form had) left c) (sym e) h)

-- Done has no cause
pub never_at_done : (c : Call) → Causes c Done → ⊥
never_at_done c cause = refused_at_done c Done cause refl

-- Done is no limit
done_is_none : (q : Request) → IsLimitOf q Done → ⊥
done_is_none (Draw rule addr seed window layers glue) h = h
done_is_none (Star rule addr seed vertex) h = h
done_is_none (Verify name addr seed window) h = h
done_is_none q h = h

module _ (words : List (List ℕ)) (handed : List Format) (left rest : Option (List ℕ)) where
  -- ---- from a call that was made to the one that is made
  module _ (c : Call) (h : IsAsked words handed left c) where
    -- what was asked is short enough, so it is the same call
    same_short : (d : Call) (q : Request) (t : Tiling) → WasAsked words handed left rest d → Asks d q t → d ≡ c
    same_short d q t k asks =
        same_call words handed left rest c d h k
        (subst (λ n. length d.file ≤ n) (sym (longest_is d.words q asks.right.asked))
        asks.names.not_too_long)

    -- of a request
    pub of_asked : (P : Request → List ℕ → Tiling → Type 0) → OfCall words handed left rest (OfRequest P) → OfRequest P c
    of_asked P k = subst (OfRequest P) (same_short k.0 k.2.request k.2.tiling k.1 k.2.asks) k.2

    -- a listing that is too long, in bytes or in lines
    too_long_listing : IsRefused words handed left rest (BadListing listing.TooLong) → Causes c (BadListing listing.TooLong)
    too_long_listing k = elim k.2 [
      | inl told ↦ inl (same_told words handed left rest c k.0 (BadListing listing.TooLong) h k.1 told)
      | inr asked ↦ inr (of_asked (λ q file t. Refuses q file t (BadListing listing.TooLong)) (k.0, k.1, asked))
    ]

    pub caused : (s : Status) → IsRefusal s → IsRefused words handed left rest s → IsCutShort s ⊎ Causes c s
    caused Done i k = absurd i
    caused (BadWords place) i k = inr (subst (λ ws. wrong_place ws ≡ Some place) (k.1.by_words ∙ sym h.by_words) k.2)
    caused (NoLayer format) i k =
        inr (
          k.2.0,
          subst (λ ws. request_in ws ≡ Ok k.2.0) (k.1.by_words ∙ sym h.by_words) k.2.1,
          subst
              (λ hs. lacking k.2.0 hs ≡ Some format) (k.1.by_layers ∙ sym h.by_layers) k.2.2,
        )
    caused ReadFault i k = inl tt
    caused RuleTooLong i k = inr (same_told words handed left rest c k.0 RuleTooLong h k.1 k.2)
    caused (BadScript script.TooLong) i k = inr (same_told words handed left rest c k.0 (BadScript script.TooLong) h k.1 k.2)
    caused (BadListing listing.TooLong) i k = inr (too_long_listing k)
    caused (RuleRefused fault) i k =
        inr (subst (λ d. HasRuleFault d fault) (same_call words handed left rest c k.1.0 h k.1.1
        (subst (λ n. length k.1.0.file ≤ n) (sym (longest_is k.1.0.words k.1.2.request k.1.2.right.asked))
        k.1.2.not_too_long)) k.1.2)
    caused WriteFault i k = absurd i
    caused NoMemory i k = inl tt
    caused s i k = inr (of_asked (λ q file t. Refuses q file t s) k)

    printed : {Q : List ℕ → Type 0} → OfCall words handed left rest (λ d. (text : List ℕ) × Prints d text × Q text) → CanBeAnswered c
    printed k = of_asked HasAnswer (k.0, k.1, can_be_answered k.0 k.2.0 k.2.1)

    -- ---- a status, with what a call says of it
    module _ (laws : Laws) where
      -- where a status has to come it is the answer
      is_one : (s u : Status) → AreOne c s u → IsNoLimit c u → s ≡ u
      is_one s u (inl e) no_limit = e
      is_one s u (inr l) no_limit = absurd (no_limit l.0 l.1 l.3)

      by_refusal : (s u : Status) → IsRefusal s → IsRefused words handed left rest s → Causes c u → IsNoLimit c u → (s ≡ u) ⊎ IsCutShort s
      by_refusal s u i k q no_limit = elim (caused s i k) [
        | inl d ↦ inr d
        | inr d ↦ inl (is_one s u (one_answer c laws s u (outcome_of c s d) (outcome_of c u q)) no_limit)
      ]

      -- where there is a cause it is found
      pub refused_when : {Q R : List ℕ → Type 0} (s u : Status)
          → (s ≡ Done → OfCall words handed left rest (λ d. (text : List ℕ) × Prints d text × Q text))
          → (s ≡ WriteFault → OfCall words handed left rest (λ d. (text : List ℕ) × Prints d text × R text))
          → (IsRefusal s → IsRefused words handed left rest s)
          → Causes c u → IsNoLimit c u → (s ≡ u) ⊎ IsCutShort s
      refused_when Done u done part refused q no_limit = inl
          (is_one Done u (one_answer c laws Done u (printed (done refl)) (outcome_of c u q)) no_limit)
      refused_when WriteFault u done part refused q no_limit =
          absurd (refused_at_done c u q (is_one Done u (one_answer c laws Done u (printed (part refl)) (outcome_of c u q)) no_limit))
      refused_when s u done part refused q no_limit = by_refusal s u tt (refused tt) q no_limit

      -- beyond the limits of a window one of them comes
      pub beyond_limits : {Q R : List ℕ → Type 0} (s : Status)
          → (s ≡ Done → OfCall words handed left rest (λ d. (text : List ℕ) × Prints d text × Q text))
          → (s ≡ WriteFault → OfCall words handed left rest (λ d. (text : List ℕ) × Prints d text × R text))
          → (IsRefusal s → IsRefused words handed left rest s)
          → IsBeyondLimits c → IsLimit s ⊎ IsCutShort s
      beyond_limits Done done part refused b = absurd (limit_beyond c laws Done (printed (done refl)) b)
      beyond_limits WriteFault done part refused b = absurd (limit_beyond c laws Done (printed (part refl)) b)
      beyond_limits s done part refused b = elim (caused s tt (refused tt)) [
        | inl d ↦ inr d
        | inr d ↦ inl (limit_beyond c laws s (outcome_of c s d) b)
      ]

      -- where there is an answer it is printed, unless a source or the sink failed or memory was wanted
      pub complete : (s : Status) → (IsRefusal s → IsRefused words handed left rest s) → CanBeAnswered c
          → (s ≡ WriteFault → ⊥) → (s ≡ ReadFault → ⊥) → (s ≡ Done) ⊎ (s ≡ NoMemory)
      complete Done refused p sink source = inl refl
      complete WriteFault refused p sink source = absurd (sink refl)
      complete ReadFault refused p sink source = absurd (source refl)
      complete NoMemory refused p sink source = inr refl
      complete s refused p sink source = elim (caused s tt (refused tt)) [
        | inl d ↦ absurd d
        | inr d ↦ inl (is_one s Done (one_answer c laws s Done (outcome_of c s d) p) (λ q right. done_is_none q))
      ]
