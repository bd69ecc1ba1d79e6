-- The blocks of a row, kept one after another.
use Rattle.std.proofs.Common.{◌≡◌, ℕ, ◌+◌, ◌*◌, ◌≤◌, List, [], ◌∷◌, ◌++◌, length, sym, ap, ◌∙◌, arith, append_assoc, length-append}
use Rattle.std.specs.List.{concat}
use Rattle.transducer_core.specs.Merging.{block_ends, AreBlocksKept, StandsLast, IsBlockPlaced, ArePlaced, AllStand}
use Rattle.transducer_core.proofs.Standing.{concat-append, append-none, AllStand-more, AllStand-push}

-- ---- the blocks of a row
pub placed_none : (kept : List (List ℕ)) (words ends before : List ℕ) → AreBlocksKept kept words ends → ArePlaced kept [] words ends before before
placed_none kept words ends before h =
    let none = append-none kept in
    record {
      places = [];
      places_are = sym (append-none before);
      stand = tt;
      more = [];
      kept_are = record { words_are = h.words_are ∙ ap concat (sym none); ends_are = h.ends_are ∙ ap (block_ends 0) (sym none) };
      few = omega arith;
      short = omega arith;
      once = λ all once. rw (append-none all, none) once;
    }

pub words_grown : (kept more : List (List ℕ)) (words ends longer : List ℕ) → words ≡ concat kept
    → AreBlocksKept (kept ++ more) longer ends → longer ≡ words ++ concat more
words_grown kept more words ends longer is h = h.words_are ∙ concat-append kept more ∙ ap (λ (w : List ℕ). w ++ concat more) (sym is)

pub placed_more : (kept row : List (List ℕ)) (block words ends before after longer ends' after' : List ℕ)
    (start : ℕ) → length block ≤ 16 → (p : ArePlaced kept row words ends before after)
    → IsBlockPlaced (kept ++ p.more) block longer ends' start → after' ≡ after ++ start ∷ []
    → ArePlaced kept (row ++ block ∷ []) longer ends' before after'
placed_more kept row block words ends before after longer ends' after' start size p one after_is =
    let both = append_assoc kept p.more one.more in
    let grown = words_grown (kept ++ p.more) one.more words ends' longer p.kept_are.words_are one.kept_are in
    let stand : AllStand longer p.places row = rw grown (AllStand-more words (concat one.more) p.places row p.stand) in
    record {
      places = p.places ++ start ∷ [];
      places_are = after_is ∙ ap (λ (l : List ℕ). l ++ start ∷ []) p.places_are ∙ append_assoc before p.places (start ∷ []);
      stand = AllStand-push longer p.places row start block stand one.stands;
      more = p.more ++ one.more;
      kept_are = record { words_are = one.kept_are.words_are ∙ ap concat both; ends_are = one.kept_are.ends_are ∙ ap (block_ends 0) both };
      few = omega (arith, length-append p.more one.more, length-append row (block ∷ []), p.few, one.few);
      short = omega (
        arith,
        ap (λ (w : List ℕ). length w) (concat-append p.more one.more),
        length-append
            (concat p.more) (concat one.more),
        length-append row (block ∷ []),
        p.short,
        one.short,
        size,
      );
      once = λ all once. rw (← both, ← append_assoc all row (block ∷ [])) (one.once (all ++ row) (p.once all once));
    }

-- a block that is written behind those that are kept
pub last_of_row : (kept : List (List ℕ)) (block words longer ends : List ℕ) (last : ℕ)
    → AreBlocksKept kept words ends → longer ≡ words ++ block → last ≡ length words
    → StandsLast kept block longer ends last
last_of_row kept block words longer ends last h longer_is last_is = record {
  words_are = longer_is ∙ ap (λ (w : List ℕ). w ++ block) h.words_are;
  ends_are = h.ends_are;
  last_is = last_is ∙ ap (λ (w : List ℕ). length w) h.words_are;
}

-- the words of a row are few
pub words_short : (kept row : List (List ℕ)) (words ends longer ends' before after : List ℕ)
    → AreBlocksKept kept words ends → ArePlaced kept row longer ends' before after
    → length longer ≤ length words + 16 * length row
words_short kept row words ends longer ends' before after h p =
    omega (
      arith,
      ap (λ (w : List ℕ). length w)
          (words_grown kept p.more words ends' longer h.words_are p.kept_are),
      length-append words
          (concat p.more),
      p.short,
    )
