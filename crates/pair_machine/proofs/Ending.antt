-- Where reading may begin and end: equal digits leave no pair where no child meets itself, and where none is left and the digits differ, none comes.
use Rattle.std.proofs.Common.{◌≡◌, inl, ℕ, zero, suc, Bool, true, false, ◌&&◌, List, [], ◌∷◌, drop, map, refl, sym, ap, ◌∙◌, subst, eqb}
use Rattle.std.proofs.lemmas.List.{drop-map}
use Rattle.tile_shape.specs.declared.step.Step as program
use Rattle.tile_shape.specs.Views.{step_of}
use Rattle.theory_addresses.specs.Address.{Step}
use Rattle.theory_addresses.specs.Search.{IsAmong}
use Rattle.theory_addresses.specs.Tables.{Tables}
use Rattle.pair_machine.specs.Between.{Pair}
use Rattle.pair_machine.specs.Itself.{SomeMeetsItself}
use Rattle.pair_machine.specs.Kept.{ArePairsKept}
use Rattle.pair_machine.specs.Reading.{same_steps, between_children, first_pairs, pairs_read}
use Rattle.pair_machine.proofs.LeftOfRows.{between-among, same_steps-true, same_steps-same}

none_among : (ps : List Pair) → ((p : Pair) → IsAmong p ps → ⊥) → ps ≡ []
none_among [] h = refl
none_among (p ∷ ps) h = elim (h p (inl refl)) [ ]

-- a child that doesn't meet itself
first_none : (t : Tables) (x : Step) (b : Bool) → (SomeMeetsItself t → ⊥) → first_pairs t x x b ≡ []
first_none t x false h = refl
first_none t x true h = none_among (between_children t x.parent x.child x.child)
    (λ p i. h (record {
      kind = x.parent;
      has = record {
        child = x.child;
        itself = record {
          edge = p.mine;
          back = p.theirs;
          is = between-among t x.parent x.child x.child p.mine p.theirs i;
        };
      };
    }))

pub equal_none : (t : Tables) (ds : List Step) → (SomeMeetsItself t → ⊥) → pairs_read t ds ds ≡ []
equal_none t [] h = refl
equal_none t (d ∷ ds) h = rw (equal_none t ds h, first_none t d (eqb d.parent d.parent && same_steps ds ds) h) refl

pub equal_read : (t : Tables) (xs ys : List Step) → xs ≡ ys → (SomeMeetsItself t → ⊥) → pairs_read t xs ys ≡ []
equal_read t xs ys same h = subst (λ (zs : List Step). pairs_read t xs zs ≡ []) same (equal_none t xs h)

-- digits that differ above differ
differ_below : (xs ys : List Step) (level : ℕ) → same_steps (drop level xs) (drop level ys) ≡ false → same_steps xs ys ≡ false
differ_below xs ys level differ = by_case (same_steps xs ys) refl
  where
    by_case : (b : Bool) → same_steps xs ys ≡ b → b ≡ false
    by_case false is = refl
    by_case true is =
        let here : same_steps (drop level xs) (drop level ys) ≡ true = subst
        (λ (zs : List Step). same_steps (drop level xs) (drop level zs) ≡ true) (same_steps-true xs ys is)
        (same_steps-same (drop level xs)) in
        absurd cc

and_false : (b : Bool) → (b && false) ≡ false
and_false true = refl
and_false false = refl

pub none_left : (t : Tables) (xs ys : List Step) (level : ℕ)
    → pairs_read t (drop level xs) (drop level ys) ≡ [] → same_steps (drop level xs) (drop level ys) ≡ false
    → pairs_read t xs ys ≡ []
none_left t [] ys level none differ = refl
none_left t (x ∷ xs) [] level none differ = refl
none_left t (x ∷ xs) (y ∷ ys) zero none differ = none
none_left t (x ∷ xs) (y ∷ ys) (suc level) none differ =
    rw (none_left t xs ys level none differ, differ_below xs ys level differ, and_false (eqb x.parent y.parent)) refl

-- nothing is kept of nothing
pub kept_nothing : (kept ps : List Pair) → kept ≡ [] → ArePairsKept kept ps → ps ≡ []
kept_nothing kept ps none h = none_among ps (λ p i. let j : IsAmong p [] = subst (IsAmong p) none (h.all p i) in elim j [ ])

pub nothing_kept : (kept ps : List Pair) → kept ≡ [] → ps ≡ [] → ArePairsKept kept ps
nothing_kept kept ps none empty = rw (none, empty) (record { all = λ p i. i; only = λ p i. i })

pub ends : (t : Tables) (xs ys : List Step) (level : ℕ) (same : Bool) (kept : List Pair) → kept ≡ []
    → same ≡ false → same ≡ same_steps (drop level xs) (drop level ys)
    → ArePairsKept kept (pairs_read t (drop level xs) (drop level ys)) → ArePairsKept kept (pairs_read t xs ys)
ends t xs ys level same kept none differ is h =
    nothing_kept kept (pairs_read t xs ys) none
    (none_left t xs ys level (kept_nothing kept (pairs_read t (drop level xs) (drop level ys)) none h)
    (sym is ∙ differ))

-- what is the same reads the same
pub same_read : (xs ys : List Step) → xs ≡ ys → true ≡ same_steps xs ys
same_read xs ys same = subst (λ (zs : List Step). true ≡ same_steps xs zs) same (sym (same_steps-same xs))

pub same_views : (xs ys : List program.Step) (level : ℕ) → drop level xs ≡ drop level ys → drop level (map step_of xs) ≡ drop level (map step_of ys)
same_views xs ys level same = drop-map step_of level xs ∙ ap (map step_of) same ∙ sym (drop-map step_of level ys)
