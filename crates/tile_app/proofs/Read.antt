-- From what is read of the source, for the rule and by the request itself, to the call that was made.
use Rattle.std.proofs.Common.{◌≡◌, ◌⊎◌, inl, inr, ℕ, ◌<◌, ◌≤◌, Bool, true, false, ◌||◌, is_none, ◌&&◌, List, [], length, Some, Result, Ok, Err, IfErr, sym, ap, ◌∙◌, subst, refl}
use Rattle.std.specs.declared.option.Option.{Option}
use Rattle.call_words.specs.declared.rule_choice.RuleChoice.{RuleChoice}
use Rattle.call_words.specs.declared.rule_choice.RuleChoice.TheVariants.{Builtin, File}
use Rattle.call_words.specs.Request.{Request, request_in, rule_asked}
use Rattle.call_words.specs.Request.Request.{Calc, Verify}
use Rattle.call_words.specs.WrongWord.{wrong_place}
use Rattle.layer_api.specs.declared.format.Format.{Format}
use Rattle.list_verify.specs.declared.list_fault.ListFault.TheVariants as listing
use Rattle.rule_model.specs.Tiling.{Tiling}
use Rattle.rule_text.specs.Limits.{longest_file}
use Rattle.tile_app.specs.declared.file_kind.FileKind.TheVariants.{Rule}
use Rattle.call_notes.specs.declared.rule_fault.RuleFault.{RuleFault}
use Rattle.call_notes.specs.declared.script_fault.ScriptFault.TheVariants as script
use Rattle.call_notes.specs.declared.status.Status.{Status}
use Rattle.call_notes.specs.declared.status.Status.TheVariants.{BadWords, NoLayer, ReadFault, RuleTooLong, RuleRefused, BadScript, BadListing, NoMemory}
use Rattle.tile_app.specs.Answer.{OfRequest, IsPrinted, Refuses, Prints}
use Rattle.tile_app.specs.Asked.{WasRead, WasFileIn, WasAsked, OfCall}
use Rattle.tile_app.specs.Call.{Call, AreRight, TellsTooLong, HasRuleFault, has_file_in, longest_in, reads_file, longest_read}
use Rattle.tile_app.specs.Causes.{Causes, IsRefused}
use Rattle.tile_app.specs.Choices.{is_file, tiling_chosen}
use Rattle.tile_app.specs.FileKinds.{longest_of, too_long_of}
use Rattle.tile_app.specs.Files.{has_own_file, has_file, file_kind_of, longest_for, too_long_for}
use Rattle.tile_app.specs.Layers.{HaveLayers, lacking}
use Rattle.tile_app.specs.Reading.{IsRuleRead, IsRuleRefused, IsItsTiling, OfOwnFile, IsOwnTooLong, IsRequestRefused}
use Rattle.tile_app.specs.Tilings.{builtin_tiling}
use Rattle.tile_app.proofs.Unrefused.{no_words, no_layer, no_read_fault, no_long_rule, no_rule, no_long_script}

-- the refusal of an answer, by that of its status
pub refused_by : {T : Type 0} (P Q : Status → Type 0) → ((s : Status) → P s → Q s) → (answer : Result T Status) → IfErr answer P → IfErr answer Q
refused_by P Q f (Ok x) h = h
refused_by P Q f (Err s) h = f s h

-- ---- a request that has a rule file read has none of its own
own_or_rule : (q : Request) → rule_asked q ≡ File → has_own_file q ≡ false
own_or_rule (Calc name) e = absurd (cc e)
own_or_rule (Verify name addr seed window) e = absurd (cc e)
own_or_rule q e = refl

rule_kind : (q : Request) → rule_asked q ≡ File → file_kind_of q ≡ Rule
rule_kind (Calc name) e = absurd (cc e)
rule_kind (Verify name addr seed window) e = absurd (cc e)
rule_kind q e = refl

its_rule : (choice : RuleChoice) → is_file choice ≡ true → choice ≡ File
its_rule File e = refl
its_rule (Builtin name) e = absurd (cc e)

-- a request that has one of its own read is of a built-in rule
pub own_builtin : (q : Request) → has_own_file q ≡ true → is_file (rule_asked q) ≡ false
own_builtin (Calc name) e = refl
own_builtin (Verify name addr seed window) e = refl
own_builtin q e = absurd (cc e)

-- and the tiling of its rule is that rule's
ok_is : (t u : Tiling) → (let o : Result Tiling RuleFault = Ok t in o) ≡ Ok u → t ≡ u
ok_is t u e = cc

pub its_tiling : (q : Request) (left rest : Option (List ℕ)) (t : Tiling) → IsRuleRead (rule_asked q) left rest t → IsItsTiling q t
its_tiling (Calc name) left rest t h = sym (ok_is (builtin_tiling name) t h.chosen)
its_tiling (Verify name addr seed window) left rest t h = sym (ok_is (builtin_tiling name) t h.chosen)
its_tiling q left rest t h = tt

-- what a request of the rule of a file prints, or is refused for, doesn't speak of a file of its own
pub prints_without : (t : Tiling) (text : List ℕ) (q : Request) → rule_asked q ≡ File → (file other : List ℕ)
    → IsPrinted q file t text → IsPrinted q other t text
prints_without t text (Calc name) e file other h = absurd (cc e)
prints_without t text (Verify name addr seed window) e file other h = absurd (cc e)
prints_without t text q e file other h = h

pub refuses_without : (t : Tiling) (s : Status) (q : Request) → rule_asked q ≡ File → (file other : List ℕ) → Refuses q file t s → Refuses q other t s
refuses_without t s (Calc name) e file other h = absurd (cc e)
refuses_without t s (Verify name addr seed window) e file other h = absurd (cc e)
refuses_without t s q e file other h = h

-- ---- the file of a call, by the two readings
record OfItsFile (q : Request) (left rest : Option (List ℕ)) (t : Tiling) (P : List ℕ → Type 0) : Type 0 where
  file : List ℕ
  read : WasFileIn (longest_for q) (has_file q) left rest file
  not_too_long : length file ≤ longest_for q
  chosen : tiling_chosen file (rule_asked q) ≡ Ok t
  holds : P file

left_false : (a b : Bool) → a || b ≡ false → a ≡ false
left_false true b e = e
left_false false b e = refl

right_false : (a b : Bool) → a || b ≡ false → b ≡ false
right_false true b e = absurd (cc e)
right_false false b e = e

rule_has_file : (q : Request) (b : Bool) → is_file (rule_asked q) ≡ b → has_file q ≡ b || has_own_file q
rule_has_file q b e = ap (λ c. c || has_own_file q) e

module _ (q : Request) (t : Tiling) (left mid rest : Option (List ℕ)) (P : List ℕ → Type 0)
    (without : rule_asked q ≡ File → (file other : List ℕ) → P file → P other)
    (rule : IsRuleRead (rule_asked q) left mid t) (unread : is_file (rule_asked q) ≡ false → mid ≡ left)
    (unread_own : has_own_file q ≡ false → rest ≡ mid) (own : OfOwnFile q mid rest P) where
  by_choice : (choice : RuleChoice) → rule_asked q ≡ choice → OfItsFile q left rest t P
  by_choice File e =
      let n : longest_for q ≡ longest_file = ap (λ k. longest_of k) (rule_kind q e) in
      let reads : is_file (rule_asked q) ≡ has_file q = ap is_file e ∙ sym (rule_has_file q true (ap is_file e)) in
      let there = subst (λ r. WasFileIn longest_file (is_file (rule_asked q)) left r rule.file) (sym (unread_own (own_or_rule q e))) rule.read in
      record {
        file = rule.file;
        read = subst (λ m. WasFileIn m (has_file q) left rest rule.file) (sym n)
            (subst (λ b. WasFileIn longest_file b left rest rule.file) reads there);
        not_too_long = subst (λ m. length rule.file ≤ m) (sym n) rule.not_too_long;
        chosen = rule.chosen;
        holds = without e own.file rule.file own.holds;
      }
  by_choice (Builtin name) e = record {
    file = own.file;
    read = subst (λ l. WasFileIn (longest_for q) (has_file q) l rest own.file) (unread (ap is_file e))
        (subst (λ b. WasFileIn (longest_for q) b mid rest own.file) (sym (rule_has_file q false (ap is_file e))) own.read);
    not_too_long = own.not_too_long;
    chosen = ap (tiling_chosen own.file) e ∙ sym (ap (tiling_chosen rule.file) e) ∙ rule.chosen;
    holds = own.holds;
  }

  its_file : OfItsFile q left rest t P
  its_file = by_choice (rule_asked q) refl

-- ---- the call of right words
module _ (words : List (List ℕ)) (handed : List Format) (q : Request) (right : request_in words ≡ Ok q) (have : HaveLayers q handed) where
  pub reads_is : reads_file words handed ≡ has_file q
  reads_is = ap (λ r. has_file_in r handed) right ∙ ap (λ l. is_none l && has_file q) have

  -- where none is read, none is read for the rule, nor by the request itself
  pub rule_unread : reads_file words handed ≡ false → is_file (rule_asked q) ≡ false
  rule_unread e = left_false (is_file (rule_asked q)) (has_own_file q) (sym reads_is ∙ e)

  pub own_unread : reads_file words handed ≡ false → has_own_file q ≡ false
  own_unread e = right_false (is_file (rule_asked q)) (has_own_file q) (sym reads_is ∙ e)

  longest_is : longest_read words ≡ longest_for q
  longest_is = ap longest_in right

  abbrev call : List ℕ → Call
  call file = record { words = words; handed = handed; file = file }

  is_right : (file : List ℕ) → AreRight (call file) q
  is_right file = record { asked = right; layers = have }

  was_asked : (left rest : Option (List ℕ)) (file : List ℕ)
      → WasFileIn (longest_for q) (has_file q) left rest file → WasAsked words handed left rest (call file)
  was_asked left rest file h = record {
    by_words = refl;
    by_layers = refl;
    from_source = subst (λ n. WasFileIn n (reads_file words handed) left rest file) (sym longest_is)
        (subst (λ b. WasFileIn (longest_for q) b left rest file) (sym reads_is) h);
  }

  of_request : (t : Tiling) (left rest : Option (List ℕ)) (P : Request → List ℕ → Tiling → Type 0)
      → OfItsFile q left rest t (λ file. P q file t) → OfCall words handed left rest (OfRequest P)
  of_request t left rest P h = (
    call h.file,
    was_asked left rest h.file h.read,
    record {
      request = q;
      tiling = t;
      asks = record { right = is_right h.file; names = record { not_too_long = h.not_too_long; chosen = h.chosen } };
      holds = h.holds;
    },
  )

  -- ---- the rule is refused
  is_its_file : is_file (rule_asked q) ≡ true → has_file q ≡ true
  is_its_file e = rule_has_file q true e

  module _ (left rest : Option (List ℕ)) (e : is_file (rule_asked q) ≡ true) (file : List ℕ) where
    rule_longest : longest_for q ≡ longest_file
    rule_longest = ap (λ k. longest_of k) (rule_kind q (its_rule (rule_asked q) e))

    rule_too_long : WasRead longest_file left rest file → longest_file < length file → OfCall words handed left rest (λ c. TellsTooLong c RuleTooLong)
    rule_too_long read long = (
      call file,
      was_asked left rest file (subst (λ b. WasFileIn (longest_for q) b left rest file) (sym (is_its_file e))
          (subst (λ n. WasRead n left rest file) (sym rule_longest) read)),
      record {
        request = q;
        right = is_right file;
        reads = is_its_file e;
        too_long = subst (λ n. n < length file) (sym rule_longest) long;
        told = sym (ap (λ k. too_long_of k) (rule_kind q (its_rule (rule_asked q) e)));
      },
    )

    rule_faulty : (fault : RuleFault) → WasRead longest_file left rest file → length file ≤ longest_file
        → tiling_chosen file (rule_asked q) ≡ Err fault
        → OfCall words handed left rest (λ c. HasRuleFault c fault)
    rule_faulty fault read short first = (
      call file,
      was_asked left rest file (subst (λ b. WasFileIn (longest_for q) b left rest file) (sym (is_its_file e))
          (subst (λ n. WasRead n left rest file) (sym rule_longest) read)),
      record { request = q; right = is_right file; not_too_long = subst (λ n. length file ≤ n) (sym rule_longest) short; first = first },
    )

  -- a built-in rule has no fault
  faulty_is_file : (choice : RuleChoice) (file : List ℕ) (fault : RuleFault) → tiling_chosen file choice ≡ Err fault → is_file choice ≡ true
  faulty_is_file File file fault e = refl
  faulty_is_file (Builtin name) file fault e = absurd (cc e)

  pub rule_refused : (left rest : Option (List ℕ)) (s : Status) → IsRuleRefused (rule_asked q) left rest s → IsRefused words handed left rest s
  rule_refused left rest NoMemory h = (q, right, have)
  rule_refused left rest ReadFault h = reads_is ∙ is_its_file h
  rule_refused left rest RuleTooLong h = rule_too_long left rest h.0 h.1 h.2 h.3
  rule_refused left rest (RuleRefused fault) h =
      let file = faulty_is_file (rule_asked q) h.1 fault h.4 in
      (h.0, rule_faulty left rest file h.1 fault (subst (λ b. WasFileIn longest_file b left rest h.1) file h.2) h.3 h.4)
  rule_refused left rest s h = absurd h

  -- ---- the request itself
  module _ (t : Tiling) (left mid rest : Option (List ℕ)) (rule : IsRuleRead (rule_asked q) left mid t)
      (unread : is_file (rule_asked q) ≡ false → mid ≡ left) (unread_own : has_own_file q ≡ false → rest ≡ mid)
    where
      pub prints_asked : (text : List ℕ) → OfOwnFile q mid rest (λ file. IsPrinted q file t text) → OfCall words handed left rest (λ c. Prints c text)
      prints_asked text own =
          of_request t left rest (λ p file u. IsPrinted p file u text)
          (its_file q t left mid rest (λ file. IsPrinted q file t text) (prints_without t text q) rule
          unread unread_own own)

      refused_asked : (s : Status) → OfOwnFile q mid rest (λ file. Refuses q file t s)
          → OfCall words handed left rest (OfRequest (λ p file u. Refuses p file u s))
      refused_asked s own =
          of_request t left rest (λ p file u. Refuses p file u s)
          (its_file q t left mid rest (λ file. Refuses q file t s) (refuses_without t s q) rule unread
          unread_own own)

      -- by its own cause
      own_refused : (s : Status) → OfOwnFile q mid rest (λ file. Refuses q file t s) → IsRefused words handed left rest s
      own_refused (BadWords place) h = absurd (no_words h.file t place q h.holds)
      own_refused (NoLayer format) h = absurd (no_layer h.file t format q h.holds)
      own_refused ReadFault h = absurd (no_read_fault h.file t q h.holds)
      own_refused RuleTooLong h = absurd (no_long_rule h.file t q h.holds)
      own_refused (RuleRefused fault) h = absurd (no_rule h.file t fault q h.holds)
      own_refused (BadScript script.TooLong) h = absurd (no_long_script h.file t q h.holds)
      own_refused (BadListing listing.TooLong) h = let k = refused_asked (BadListing listing.TooLong) h in (k.0, k.1, inr k.2)
      own_refused NoMemory h = (q, right, have)
      own_refused s h = refused_asked s h

      -- or its own file is too long
      long_call : (s : Status) → IsOwnTooLong q mid rest s → OfCall words handed left rest (λ c. TellsTooLong c s)
      long_call s h =
          let none = own_builtin q h.reads in
          let own : has_file q ≡ true = rule_has_file q false none ∙ h.reads in (
            call h.file,
            was_asked left rest h.file (subst (λ b. WasFileIn (longest_for q) b left rest h.file) (sym own)
                (subst (λ l. WasRead (longest_for q) l rest h.file) (unread none) h.read)),
            record { request = q; right = is_right h.file; reads = own; too_long = h.too_long; told = h.told },
          )

      long_refused : (p : Request) → q ≡ p → (s : Status) → IsOwnTooLong q mid rest s → has_own_file p ≡ true
          → s ≡ too_long_for p → IsRefused words handed left rest s
      long_refused (Calc name) same s h own told = subst (IsRefused words handed left rest) (sym told)
          (long_call (BadScript script.TooLong) (subst (IsOwnTooLong q mid rest) told h))
      long_refused (Verify name addr seed window) same s h own told =
          let k = long_call (BadListing listing.TooLong) (subst (IsOwnTooLong q mid rest) told h) in
          subst (IsRefused words handed left rest) (sym told) (k.0, k.1, inl k.2)
      long_refused p same s h own told = absurd (cc own)

      either_refused : (s : Status) → IsOwnTooLong q mid rest s
          ⊎ OfOwnFile q mid rest (λ file. Refuses q file t s) → IsRefused words handed left rest s
      either_refused s (inl h) = long_refused q refl s h h.reads h.told
      either_refused s (inr h) = own_refused s h

      pub request_refused : (s : Status) → IsRequestRefused q t mid rest s → IsRefused words handed left rest s
      request_refused NoMemory h = (q, right, have)
      request_refused ReadFault h = reads_is ∙ rule_has_file q false (own_builtin q h) ∙ h
      request_refused s h = either_refused s h

-- ---- words that aren't right make this call of any source, which isn't read
pub wrong_words : (words : List (List ℕ)) (handed : List Format) (left : Option (List ℕ)) (place : ℕ)
    → request_in words ≡ Err place → wrong_place words ≡ Some place
    → OfCall words handed left left (λ c. wrong_place c.words ≡ Some place)
wrong_words words handed left place e wrong = (
  record { words = words; handed = handed; file = [] },
  record {
    by_words = refl;
    by_layers = refl;
    from_source = subst (λ b. WasFileIn (longest_read words) b left left []) (sym (ap (λ r. has_file_in r handed) e)) refl;
  },
  wrong,
)

-- and so do right words one of whose formats has no layer
pub layer_lacks : (words : List (List ℕ)) (handed : List Format) (left : Option (List ℕ)) (q : Request)
    (format : Format) → request_in words ≡ Ok q → lacking q handed ≡ Some format
    → OfCall words handed left left (λ c. Causes c (NoLayer format))
layer_lacks words handed left q format right lacks = (
  record { words = words; handed = handed; file = [] },
  record {
    by_words = refl;
    by_layers = refl;
    from_source = subst (λ b. WasFileIn (longest_read words) b left left [])
        (sym (ap (λ r. has_file_in r handed) right ∙ ap (λ l. is_none l && has_file q) lacks)) refl;
  },
  (q, right, lacks),
)
