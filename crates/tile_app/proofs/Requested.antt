-- What is asked is one call: the file that was read is the one that the source had, or a part of one that is too long.
use Rattle.std.proofs.Common.{◌≡◌, ℕ, ◌<◌, ◌≤◌, Bool, true, false, List, [], ◌++◌, length, Some, None, Ok, IfSome, sym, ap, ap₂, ◌∙◌, subst, arith}
use Rattle.std.proofs.lemmas.List.{length-append, append-nil as append_nil}
use Rattle.std.specs.declared.option.Option.{Option}
use Rattle.layer_api.specs.declared.format.Format.{Format}
use Rattle.tile_io.specs.Left.{Gives}
use Rattle.call_notes.specs.declared.status.Status.{Status}
use Rattle.tile_app.specs.Asked.{IsFileIn, WasFileIn, IsAsked, WasAsked}
use Rattle.call_words.specs.Request.{Request, request_in}
use Rattle.tile_app.specs.Call.{Call, TellsTooLong, reads_file, longest_in, longest_read}
use Rattle.tile_app.specs.Files.{longest_for}
use Rattle.tile_app.specs.Layers.{HaveLayers}

pub some_is : {A : Type 0} (x y : A) → Some x ≡ Some y → x ≡ y
some_is x y e = cc

-- ---- a file that isn't too long was read whole
all_read : (file other : List ℕ) (left rest : Option (List ℕ)) → left ≡ Some file → Gives left rest other
    → IfSome rest (λ bytes. bytes ≡ []) → other ≡ file
all_read file other None rest e g h = absurd (cc e)
all_read file other (Some l) None e g h = absurd g
all_read file other (Some l) (Some r) e g h = sym (append_nil other) ∙ ap (λ ys. other ++ ys) (sym h) ∙ sym g ∙ some_is l file e

same_file : (longest : ℕ) (b : Bool) (left rest : Option (List ℕ)) (file other : List ℕ)
    → IsFileIn b left file → WasFileIn longest b left rest other → length other ≤ longest → other ≡ file
same_file longest true left rest file other h k l = all_read file other left rest h k.given (k.to_the_end l)
same_file longest false left rest file other h k l = k ∙ sym h

pub same_call : (words : List (List ℕ)) (handed : List Format) (left rest : Option (List ℕ)) (c d : Call)
    → IsAsked words handed left c → WasAsked words handed left rest d
    → length d.file ≤ longest_read d.words → d ≡ c
same_call words handed left rest c d h k l =
    ap₂ (λ (w : List (List ℕ)) (f : List ℕ). (let s : Call = record { words = w; handed = d.handed; file = f } in s)) (k.by_words ∙ sym h.by_words)
    (same_file (longest_read words) (reads_file words handed) left rest c.file d.file h.in_source
    k.from_source (subst (λ ws. length d.file ≤ longest_read ws) k.by_words l))
    ∙ ap (λ (hs : List Format). (let s : Call = record { words = c.words; handed = hs; file = c.file } in s)) (k.by_layers ∙ sym h.by_layers)

-- the length of a file is told by the request
pub longest_is : (words : List (List ℕ)) (q : Request) → request_in words ≡ Ok q → longest_read words ≡ longest_for q
longest_is words q e = ap longest_in e

-- ---- of a file that is too long a part was read, which is too long
module _ (longest : ℕ) where
  longer : (bytes rest piece : List ℕ) → bytes ≡ piece ++ rest → longest < length piece → longest < length bytes
  longer bytes rest piece e h = let f = ap (λ xs. length xs) e ∙ length-append piece rest in omega (arith, f, h)

  gives_longer : (file piece : List ℕ) (left rest : Option (List ℕ)) → left ≡ Some file
      → Gives left rest piece → longest < length piece → longest < length file
  gives_longer file piece None rest e g h = absurd (cc e)
  gives_longer file piece (Some l) None e g h = absurd g
  gives_longer file piece (Some l) (Some r) e g h = subst (λ (xs : List ℕ). longest < length xs) (some_is l file e) (longer l r piece g h)

  too_long_file : (b : Bool) (left rest : Option (List ℕ)) (file other : List ℕ) → IsFileIn b left file
      → WasFileIn longest b left rest other → longest < length other → longest < length file
  too_long_file true left rest file other h k l = gives_longer file other left rest h k.given l
  too_long_file false left rest file other h k l = subst (λ (xs : List ℕ). longest < length xs) (k ∙ sym h) l

-- and so it is told
pub same_told : (words : List (List ℕ)) (handed : List Format) (left rest : Option (List ℕ)) (c d : Call)
    (s : Status) → IsAsked words handed left c → WasAsked words handed left rest d
    → TellsTooLong d s → TellsTooLong c s
same_told words handed left rest c d s h k l =
    let asked : request_in words ≡ Ok l.request = subst (λ ws. request_in ws ≡ Ok l.request) k.by_words l.right.asked in
    let longest : longest_read words ≡ longest_for l.request = longest_is words l.request asked in
    record {
      request = l.request;
      right = record {
        asked = subst (λ ws. request_in ws ≡ Ok l.request) (sym h.by_words) asked;
        layers = subst (HaveLayers l.request) (k.by_layers ∙ sym h.by_layers) l.right.layers;
      };
      reads = l.reads;
      too_long = subst (λ n. n < length c.file) longest
          (too_long_file (longest_read words) (reads_file words handed) left rest c.file d.file h.in_source
          k.from_source (subst (λ n. n < length d.file) (sym longest) l.too_long));
      told = l.told;
    }
