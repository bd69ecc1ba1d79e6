-- What a border's parts keep when an edge is closed or opened.
use Rattle.std.proofs.Common.{◌≡◌, ℕ, ◌+◌, ◌<◌, true, false, cond, Option, None, Some, List, [], ◌∷◌, ◌++◌, length, take, get_or, set, refl, sym, ap, ◌∙◌, subst, arith, length-append}
use Rattle.std.specs.List.{position, IsDistinct}
use Rattle.std.specs.Option.{is_some}
use Rattle.std.proofs.lemmas.List.{take-append-le, length-set}
use Rattle.std.proofs.Math.Seq.{get_or-append_seam, set-append_seam}
use Rattle.std.proofs.lemmas.List.Quantifiers.{position-Some}
use Rattle.std.proofs.lemmas.Map.Keys.{IsDistinct-push}
use Rattle.window_cover.specs.declared.ends.Ends.{Ends}
use Rattle.window_cover.specs.declared.open_edge.OpenEdge.{OpenEdge}
use Rattle.window_cover.specs.declared.border.Listed.{Listed}
use Rattle.window_cover.specs.Border.{have_same_ends, open_of, waits_at, has_ends, HasDistinctEnds, IsBorder}
use Rattle.window_cover.proofs.SameEnds.{waiting-laws}
use Rattle.window_cover.proofs.Open.{listed, waiting, open_of-append, open_of-pushed, has_ends-position, position-none}
use Rattle.window_cover.proofs.Closing.{closing, closed, set-closed, open_of-closed, others, others-distinct, length-others, none_before-closed}
use Rattle.window_cover.proofs.ClosedPlaces.{position-closed}
use Rattle.window_cover.proofs.Opening.{position-closed_push, position-open_push}

-- nothing is listed
pub no-border : {ls : List Listed} {place_of : Ends → Option ℕ} {count : ℕ} → ls ≡ []
    → ((k : Ends) → place_of k ≡ None) → count ≡ 0 → IsBorder ls place_of count 0
unfolding IsDistinct
no-border {ls} e f c = record {
  found = λ q. f q ∙ sym (ap (position (waits_at q)) e);
  distinct = subst HasDistinctEnds (sym (ap open_of e)) tt;
  counted = c ∙ sym (ap (λ (l : List Listed). length (open_of l)) e);
  within = omega arith;
  none_before = refl;
}

-- a place that is found is in the list
pub place-within : {ls : List Listed} {place_of : Ends → Option ℕ} {count next : ℕ} → IsBorder ls place_of count next
    → (k : Ends) (i : ℕ) → place_of k ≡ Some i → i < length ls
place-within {ls} b k i h = (position-Some (waits_at k) ls i (listed k (record { tile = 0; edge = 0 }) false) (sym (b.found k) ∙ h)).0

pub has_ends-found : {ls : List Listed} {place_of : Ends → Option ℕ} {count next : ℕ} → IsBorder ls place_of count next
    → (k : Ends) (i : ℕ) → place_of k ≡ Some i → has_ends k (open_of ls) ≡ true
has_ends-found {ls} b k i h = has_ends-position k ls ∙ ap is_some (sym (b.found k) ∙ h)

pub has_ends-missed : {ls : List Listed} {place_of : Ends → Option ℕ} {count next : ℕ} → IsBorder ls place_of count next
    → (k : Ends) → place_of k ≡ None → has_ends k (open_of ls) ≡ false
has_ends-missed {ls} b k h = has_ends-position k ls ∙ ap is_some (sym (b.found k) ∙ h)

-- the edges that wait, once one is closed
pub open_of-closing : {ls : List Listed} {place_of : Ends → Option ℕ} {count next : ℕ} → IsBorder ls place_of count next
    → (k : Ends) (i : ℕ) (r : Listed) → place_of k ≡ Some i → r ≡ get_or ls i r → open_of (set ls i (closing r)) ≡ others k (open_of ls)
open_of-closing {ls} b k i r h e = ap open_of (set-closed k ls i r (sym (b.found k) ∙ h) e) ∙ open_of-closed k ls b.distinct

pub closing-border : {ls : List Listed} {place_of : Ends → Option ℕ} {count next : ℕ} → IsBorder ls place_of count next
    → (k : Ends) (i : ℕ) (r : Listed) → place_of k ≡ Some i → r ≡ get_or ls i r
    → (after : Ends → Option ℕ) → ((q : Ends) → after q ≡ cond (have_same_ends k q) None (place_of q)) → (fewer : ℕ) → fewer + 1 ≡ count
    → IsBorder (set ls i (closing r)) after fewer next
closing-border {ls} {next = next} b k i r h e after f fewer c =
    let same : set ls i (closing r) ≡ closed k ls = set-closed k ls i r (sym (b.found k) ∙ h) e in
    let rest = open_of-closing b k i r h e in
    let one = length-others k (open_of ls) b.distinct (has_ends-found b k i h) in
    let many = b.counted in
    record {
      found = λ q. f q ∙ ap (λ (x : Option ℕ). cond (have_same_ends k q) None x) (b.found q)
          ∙ sym (ap (position (waits_at q)) same ∙ position-closed k q ls b.distinct);
      distinct = subst HasDistinctEnds (sym rest) (others-distinct k (open_of ls) b.distinct);
      counted = omega (arith, one, many, c, ap length rest);
      within = omega (arith, b.within, length-set ls i (closing r));
      none_before = ap (λ (ms : List Listed). open_of (take next ms)) same ∙ none_before-closed k ls next b.none_before;
    }

-- one more that is closed
pub pushed-border : {ls : List Listed} {place_of : Ends → Option ℕ} {count next : ℕ} → IsBorder ls place_of count next
    → (n : Ends) (g : OpenEdge) (ms : List Listed) → ms ≡ ls ++ listed n g false ∷ []
    → (after : Ends → Option ℕ) → ((q : Ends) → after q ≡ place_of q) → (as_many : ℕ) → as_many ≡ count → IsBorder ms after as_many next
pushed-border {ls} {next = next} b n g ms e after f as_many c =
    let same : open_of ms ≡ open_of ls = open_of-pushed ls n g e in
    record {
      found = λ q. f q ∙ b.found q ∙ sym (ap (position (waits_at q)) e ∙ position-closed_push q n g ls);
      distinct = subst HasDistinctEnds (sym same) b.distinct;
      counted = c ∙ b.counted ∙ sym (ap length same);
      within = omega (arith, b.within, ap length e, length-append ls (listed n g false ∷ []));
      none_before = ap (λ (l : List Listed). open_of (take next l)) e
          ∙ ap open_of (take-append-le next ls (listed n g false ∷ []) b.within) ∙ b.none_before;
    }

-- that one opened
pub opened : (ls : List Listed) (n : Ends) (g : OpenEdge) {ms : List Listed} {i : ℕ} {r : Listed} → ms ≡ ls
    ++ listed n g false ∷ [] → i ≡ length ls → r ≡ get_or ms i r
    → set ms i (listed r.ends r.edge true) ≡ ls ++ listed n g true ∷ []
opened ls n g {ms} {i} {r} e f h =
    let l = listed n g false in
    let it : r ≡ l = h ∙ ap (λ (l : List Listed). get_or l i r) e
    ∙ ap (λ (j : ℕ). get_or (ls ++ listed n g false ∷ []) j r) f ∙ get_or-append_seam ls l [] r in
    ap (λ (m : Listed). set ms i (listed m.ends m.edge true)) it ∙ ap (λ (v : List Listed). set v i (listed n g true)) e
    ∙ ap (λ (j : ℕ). set (ls ++ listed n g false ∷ []) j (listed n g true)) f ∙ set-append_seam ls l [] (listed n g true)

-- one more that is open
pub opening-border : {ls : List Listed} {place_of : Ends → Option ℕ} {count next : ℕ} → IsBorder ls place_of count next
    → (n : Ends) (g : OpenEdge) (ms : List Listed) → ms ≡ ls ++ listed n g true ∷ [] → has_ends n (open_of ls) ≡ false
    → (i : ℕ) → i ≡ length ls → (after : Ends → Option ℕ) → ((q : Ends) → after q ≡ cond (have_same_ends n q) (Some i) (place_of q))
    → (more : ℕ) → more ≡ count + 1 → IsBorder ms after more next
opening-border {ls} {place_of} {next = next} b n g ms e fresh i at after f more c =
    let same : open_of ms ≡ open_of ls ++ waiting n g ∷ [] = ap open_of e ∙ open_of-append ls (listed n g true ∷ []) in
    let many = b.counted in
    record {
      found = λ q. f q ∙ ap (λ (j : ℕ). cond (have_same_ends n q) (Some j) (place_of q)) at
          ∙ ap (λ (x : Option ℕ). cond (have_same_ends n q) (Some (length ls)) x) (b.found q)
          ∙ sym (ap (position (waits_at q)) e ∙ position-open_push n g ls (position-none n ls fresh) q);
      distinct = subst HasDistinctEnds (sym same) (IsDistinct-push waiting-laws (open_of ls) (waiting n g) b.distinct fresh);
      counted = omega (arith, many, c, ap length same, length-append (open_of ls) (waiting n g ∷ []));
      within = omega (arith, b.within, ap length e, length-append ls (listed n g true ∷ []));
      none_before = ap (λ (l : List Listed). open_of (take next l)) e
          ∙ ap open_of (take-append-le next ls (listed n g true ∷ []) b.within) ∙ b.none_before;
    }
