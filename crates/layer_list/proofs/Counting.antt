-- The counts of a list of tiles, with one tile more, and the lines of the census.
use Rattle.std.specs.Prelude.{slice_index, slice_set, ◌==◌, IsTrue}
use Rattle.std.proofs.Common.{◌≡◌, ℕ, ◌+◌, ◌*◌, ◌<◌, Bool, true, false, cond, List, [], ◌++◌, length, replicate, refl, sym, ap, subst, ◌∙◌, arith, length-append}
use Rattle.std.proofs.lemmas.Bool.{eqb-true, eqb-false}
use Rattle.std.proofs.lemmas.List.{get_or-set_same, get_or-set_other, get_or-replicate, length-replicate}
use Rattle.std.proofs.lemmas.List.Folds.{sum_by-replicate}
use Rattle.std.proofs.lemmas.List.Sums.{sum_by-append}
use Rattle.layer_api.specs.declared.drawn.Drawn.{Drawn}
use Rattle.layer_api.specs.CensusText.{count_of}
use Rattle.layer_list.specs.Counts.{IsCensus}

not_ended : (ended : Bool) (A : Type 0) → ended ≡ false → IsTrue ended → A
not_ended ended A e t = let z : true ≡ false = (sym t ∙ e) in cc

-- no tile
pub none : (counts : List ℕ) (all kinds : ℕ) (ended : Bool) (text : List ℕ) → counts ≡ replicate 256 0
    → all ≡ 0 → ended ≡ false → IsCensus counts all ended text kinds []
none counts all kinds ended text e f g = record {
  counted = record { each = λ class h. ap (λ cs. slice_index cs class) e ∙ get_or-replicate 256 class 0 0 h; in_all = f };
  made = λ t. not_ended ended _ g t;
}

-- so many tiles of one class more
count-more : (class n : ℕ) (tiles : List Drawn) (d : Drawn)
    → count_of class (tiles ++ replicate n d) ≡ count_of class tiles + n * cond (d.class == class) 1 0
count-more class n tiles d =
    sum_by-append (λ (x : Drawn). cond (x.class == class) 1 0) tiles (replicate n d)
    ∙ ap (λ m. count_of class tiles + m) (sum_by-replicate (λ (x : Drawn). cond (x.class == class) 1 0) n d)

pub more : (counts : List ℕ) (all kinds : ℕ) (ended : Bool) (text : List ℕ) (tiles : List Drawn) (d : Drawn)
    (n : ℕ) → length counts ≡ 256 → d.class < 256 → ended ≡ false → IsCensus counts all ended text kinds tiles
    → IsCensus (slice_set counts d.class (slice_index counts d.class + n)) (all + n) ended text kinds (tiles ++ replicate n d)
more counts all kinds ended text tiles d n size small g h = record {
  counted = record {
    each = λ class below. at_test class below (d.class == class) refl;
    in_all = ap (λ m. m + n) h.counted.in_all
        ∙ sym (length-append tiles (replicate n d) ∙ ap (λ m. length tiles + m) (length-replicate n d));
  };
  made = λ t. not_ended ended _ g t;
}
  where
    count : ℕ
    count = slice_index counts d.class + n

    by_one : (m : ℕ) → m + n * 1 ≡ m + n
    by_one m = omega arith

    by_none : (m : ℕ) → m + n * 0 ≡ m
    by_none m = omega arith

    at_test : (class : ℕ) → class < 256 → (b : Bool) → (d.class == class) ≡ b
        → slice_index (slice_set counts d.class count) class ≡ count_of class (tiles ++ replicate n d)
    at_test class below true t =
        let same : d.class ≡ class = eqb-true d.class class t in
        subst (λ k. slice_index (slice_set counts d.class count) k ≡ count_of class (tiles ++ replicate n d)) same
        (get_or-set_same counts d.class count 0 (subst (λ m. d.class < m) (sym size) small)
        ∙ ap (λ m. m + n) (ap (λ k. slice_index counts k) same ∙ h.counted.each class below)
        ∙ sym (count-more class n tiles d ∙ ap (λ b. count_of class tiles + n * cond b 1 0) t ∙ by_one (count_of class tiles)))
    at_test class below false t =
        get_or-set_other counts d.class class count 0 (λ same. eqb-false d.class class t (sym same)) ∙ h.counted.each class below
        ∙ sym (count-more class n tiles d ∙ ap (λ b. count_of class tiles + n * cond b 1 0) t ∙ by_none (count_of class tiles))
