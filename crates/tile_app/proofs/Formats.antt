-- Formats, and the layers that have them.
use Rattle.std.proofs.Common.{◌≡◌, ℕ, zero, suc, ◌+◌, ◌<◌, Bool, true, false, not, List, [], ◌∷◌, length, get_or, drop, arith, is_some, Some, None, cond, refl, sym, ap, ◌∙◌}
use Rattle.std.proofs.lemmas.List.{at_drop_more}
use Rattle.std.specs.declared.option.Option.{Option}
use Rattle.layer_api.specs.declared.format.Format.{Format}
use Rattle.layer_api.specs.declared.format.Format.TheVariants.{Svg, List as Listing, Census}
use Rattle.call_words.specs.FormatWords.{same_format, is_among, first_lacking}

-- ---- where none lacks, each has a layer
pub has_layer : (handed named : List Format) (i : ℕ) (d : Format) → i < length named
    → first_lacking handed named ≡ None → is_among (get_or named i d) handed ≡ true
has_layer handed [] i d l e = absurd (omega (arith, l))
has_layer handed (f ∷ fs) zero d l e = at_test (is_among f handed) refl e
  where
    at_test : (b : Bool) → is_among f handed ≡ b → cond (not b) (Some f) (first_lacking handed fs) ≡ None → is_among f handed ≡ true
    at_test true g h = g
    at_test false g h = absurd (cc h)
has_layer handed (f ∷ fs) (suc i) d l e = has_layer handed fs i d (omega (arith, l)) (at_test (is_among f handed) e)
  where
    at_test : (b : Bool) → cond (not b) (Some f) (first_lacking handed fs) ≡ None → first_lacking handed fs ≡ None
    at_test true h = h
    at_test false h = absurd (cc h)

-- ---- formats that the test takes for the same are the same
pub same_formats : (f g : Format) → same_format f g ≡ true → f ≡ g
same_formats Svg Svg e = refl
same_formats Listing Listing e = refl
same_formats Census Census e = refl
same_formats f g e = absurd (cc e)

-- a format for which there is a layer isn't the first that lacks one
pub went_on : (handed named : List Format) (i : ℕ) (place : Option ℕ) → i < length named
    → is_some place ≡ is_among (get_or named i Svg) handed → is_some place ≡ true
    → first_lacking handed (drop i named) ≡ first_lacking handed named → first_lacking handed (drop (i + 1) named) ≡ first_lacking handed named
went_on handed named i None below has e before = absurd (cc e)
went_on handed named i (Some place) below has e before =
    sym (ap (λ b. cond (not b) (Some (get_or named i Svg)) (first_lacking handed (drop (i + 1) named))) (sym has))
    ∙ sym (at_drop_more (first_lacking handed) named i Svg below) ∙ before
