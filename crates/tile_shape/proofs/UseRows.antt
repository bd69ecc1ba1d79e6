-- The uses of a kind, row by row and child by child.
use Rattle.std.proofs.Math.ListN.{get_or-map}
use Rattle.std.proofs.lemmas.Bool.{and_parts, or_cases, cases_lt}
use Rattle.std.proofs.lemmas.List.{length-map, at_drop_more, at_drop_all}
use Rattle.std.proofs.Common.{T, eqb→eq, ◌==◌, ◌⊎◌, inl, inr, zero-add, add-zero, ◌≡◌, ℕ, zero, suc, ◌+◌, ◌-◌, ◌<◌, ◌≤◌, Bool, true, false, cond, nat_eq, List, [], ◌∷◌, ◌++◌, length, drop, get_or, map, slice_get, Some, refl, sym, ap, ◌∙◌, subst, arith, length-append}
use Rattle.std.specs.List.{list_any, list_all, range_with_len}
use Rattle.std.specs.Option.{option_and_then}
use Rattle.theory_addresses.specs.Address.{Step, child_kind}
use Rattle.theory_addresses.proofs.Ranges.{slice_get-append_left}
use Rattle.tile_shape.specs.UsesInOrder.{uses_in_row, uses_in_rows, uses_in_order}
use Rattle.tile_shape.specs.Usable.{AreUsable, is_child_kind}
use Rattle.tile_shape.proofs.SmallTables.{row_is_small}

-- the uses among the children from number n on
abbrev pub row_rest : ℕ → ℕ → ℕ → List ℕ → List Step
row_rest kind p n row = uses_in_row kind p n (drop n row)

-- child number n is a use, or it isn't
pub row_hit : (kind p n d : ℕ) (row : List ℕ) → n < length row → nat_eq (get_or row n d) kind ≡ true
    → row_rest kind p n row ≡ record { child = n; parent = p } ∷ row_rest kind p (n + 1) row
row_hit kind p n d row h e = at_drop_more (uses_in_row kind p n) row n d h
    ∙ ap (λ b. cond b (record { child = n; parent = p } ∷ row_rest kind p (n + 1) row)
    (row_rest kind p (n + 1) row)) e

pub row_miss : (kind p n d : ℕ) (row : List ℕ) → n < length row → nat_eq (get_or row n d) kind ≡ false
    → row_rest kind p n row ≡ row_rest kind p (n + 1) row
row_miss kind p n d row h e = at_drop_more (uses_in_row kind p n) row n d h
    ∙ ap (λ b. cond b (record { child = n; parent = p } ∷ row_rest kind p (n + 1) row)
    (row_rest kind p (n + 1) row)) e

pub row_end : (kind p n : ℕ) (row : List ℕ) → length row ≤ n → row_rest kind p n row ≡ []
row_end kind p n row h = at_drop_all (uses_in_row kind p n) row n h

-- the uses in the rows from parent number n on
abbrev pub rows_rest : ℕ → ℕ → List (List ℕ) → List Step
rows_rest kind n rows = uses_in_rows kind n (drop n rows)

pub rows_next : (kind n : ℕ) (d : List ℕ) (rows : List (List ℕ)) → n < length rows
    → rows_rest kind n rows ≡ uses_in_row kind n 0 (get_or rows n d) ++ rows_rest kind (n + 1) rows
rows_next kind n d rows h = at_drop_more (uses_in_rows kind n) rows n d h

pub rows_end : (kind n : ℕ) (rows : List (List ℕ)) → length rows ≤ n → rows_rest kind n rows ≡ []
rows_end kind n rows h = at_drop_all (uses_in_rows kind n) rows n h

-- lists of rows that are looked at through f, as a vector's items
module _ {R : Type 0} (f : R → List ℕ) (rows : List R) where
  pub row_short : (n : ℕ) (row : R) → AreUsable (map f rows) → n < length rows → row ≡ get_or rows n row → length (f row) ≤ 16
  row_short n row usable h e = (row_is_small (map f rows) n (f row) usable (row_there rows n h e)).at_most_16
    where
      row_there : (xs : List R) (n : ℕ) → n < length xs → row ≡ get_or xs n row → slice_get (map f xs) n ≡ Some (f row)
      row_there [] n h e = absurd (omega arith)
      row_there (x ∷ xs) zero h e = ap (λ y. Some (f y)) (sym e)
      row_there (x ∷ xs) (suc n) h e = row_there xs n (omega arith) e

  pub rows_step : (kind n : ℕ) (row : R) → n < length rows → row ≡ get_or rows n row
      → rows_rest kind n (map f rows) ≡ uses_in_row kind n 0 (f row) ++ rows_rest kind (n + 1) (map f rows)
  rows_step kind n row h e =
      rows_next kind n (f row) (map f rows) (omega (arith, length-map rows f))
      ∙ ap (λ xs. uses_in_row kind n 0 xs ++ rows_rest kind (n + 1) (map f rows)) (get_or-map f rows n row ∙ ap f (sym e))

-- each kind that is used has a use
in_row : (kind p n c : ℕ) (cs : List ℕ) (b : Bool) → nat_eq c kind ≡ b → b ≡ true
    ⊎ (0 < length (uses_in_row kind p (n + 1) cs)) → 0 < length (uses_in_row kind p n (c ∷ cs))
in_row kind p n c cs true q h = rw q (omega arith)
in_row kind p n c cs false q (inl e) = absurd (cc e)
in_row kind p n c cs false q (inr h) = rw q h

used_in_row : (kind p n : ℕ) (row : List ℕ) → list_any (λ child. child == kind) row ≡ true → 0 < length (uses_in_row kind p n row)
used_in_row kind p n [] e = absurd (cc e)
used_in_row kind p n (c ∷ cs) e =
    in_row kind p n c cs (nat_eq c kind) refl (elim
    (or_cases (c == kind) (list_any (λ child. child == kind) cs) e)
    [ inl q ↦ inl q | inr q ↦ inr (used_in_row kind p (n + 1) cs q) ])

used_in_rows : (kind n : ℕ) (rows : List (List ℕ)) → is_child_kind rows kind ≡ true → 0 < length (uses_in_rows kind n rows)
used_in_rows kind n [] e = absurd (cc e)
used_in_rows kind n (row ∷ rows) e =
    elim (or_cases (list_any (λ child. child == kind) row) (is_child_kind rows kind) e) [
      | inl q ↦ omega (arith, used_in_row kind n 0 row q, length-append (uses_in_row kind n 0 row) (uses_in_rows kind (n + 1) rows))
      | inr q ↦ omega (arith, used_in_rows kind (n + 1) rows q, length-append (uses_in_row kind n 0 row) (uses_in_rows kind (n + 1) rows))
    ]

each_below : (test : ℕ → Bool) (a n k : ℕ) → k < n → list_all test (range_with_len a n) ≡ true → test (a + k) ≡ true
each_below test a zero k h e = absurd (omega arith)
each_below test a (suc n) zero h e = ap test (add-zero a) ∙ (and_parts _ _ e).0
each_below test a (suc n) (suc k) h e = ap test next ∙ each_below test (a + 1) n k (omega arith) (and_parts _ _ e).1
  where
    next : a + suc k ≡ (a + 1) + k
    next = omega arith

pub some_use : (children : List (List ℕ)) (kind : ℕ) → AreUsable children → kind < length children → 0 < length (uses_in_order children kind)
some_use children kind usable h =
    used_in_rows kind 0 children (ap (is_child_kind children) (sym (zero-add kind))
    ∙ each_below (is_child_kind children) 0 (length children) kind h usable.each_used)

-- an element of the second of two lists
pub slice_get-behind : {A : Type 0} (xs ys : List A) (i n : ℕ) → n ≡ length xs → n ≤ i → slice_get (xs ++ ys) i ≡ slice_get ys (i - n)
slice_get-behind [] ys i n e h = ap (slice_get ys) (omega (arith, e))
slice_get-behind (x ∷ xs) ys zero n e h = absurd (omega (arith, e))
slice_get-behind (x ∷ xs) ys (suc i) n e h = slice_get-behind xs ys i (n - 1) (omega (arith, e))
    (omega (arith, e)) ∙ ap (slice_get ys) (omega (arith, e))

-- each use names a child of the kind: the rows are those of a table from number p on, the children those of a row from number n on
record IsUseAt (front : ℕ) (row : List ℕ) (kind : ℕ) (s : Step) : Type 0 where
  at : ℕ
  child : s.child ≡ front + at
  here : slice_get row at ≡ Some kind

use_in_row : (kind p n : ℕ) (row : List ℕ) (i : ℕ) (s : Step)
    → slice_get (uses_in_row kind p n row) i ≡ Some s → (s.parent ≡ p) × IsUseAt n row kind s
use_in_row kind p n [] i s e = absurd (cc e)
use_in_row kind p n (c ∷ cs) i s e = by (nat_eq c kind) refl i e (λ j f. later (use_in_row kind p (n + 1) cs j s f))
  where
    later : (s.parent ≡ p) × IsUseAt (n + 1) cs kind s → (s.parent ≡ p) × IsUseAt n (c ∷ cs) kind s
    later h = (h.0, record { at = suc h.1.at; child = h.1.child ∙ next h.1.at; here = h.1.here })
      where
        next : (a : ℕ) → (n + 1) + a ≡ n + suc a
        next a = omega arith

    by : (b : Bool) → nat_eq c kind ≡ b → (i : ℕ) → slice_get (uses_in_row kind p n (c ∷ cs)) i ≡ Some s
        → ((j : ℕ) → slice_get (uses_in_row kind p (n + 1) cs) j ≡ Some s → (s.parent ≡ p)
        × IsUseAt n (c ∷ cs) kind s) → (s.parent ≡ p) × IsUseAt n (c ∷ cs) kind s
    by true q zero f rest =
        let same : record { child = n; parent = p } ≡ s = cc (rw q at f) in (
          sym (ap (λ (t : Step). t.parent) same),
          record {
            at = 0;
            child = sym (ap (λ (t : Step). t.child) same) ∙ sym (add-zero n);
            here = ap (λ k. Some k) (eqb→eq c kind (subst T (sym q) tt));
          },
        )
    by true q (suc j) f rest = rest j (rw q at f)
    by false q j f rest = rest j (rw q at f)

-- the rows of a table from number p on
record IsUseFrom (front : ℕ) (rows : List (List ℕ)) (kind : ℕ) (s : Step) : Type 0 where
  at : ℕ
  row : List ℕ
  parent : s.parent ≡ front + at
  this : slice_get rows at ≡ Some row
  here : slice_get row s.child ≡ Some kind

use_in_rows : (kind p : ℕ) (rows : List (List ℕ)) (i : ℕ) (s : Step) → slice_get (uses_in_rows kind p rows) i ≡ Some s → IsUseFrom p rows kind s
use_in_rows kind p [] i s e = absurd (cc e)
use_in_rows kind p (row ∷ rows) i s e =
    elim (cases_lt i (length (uses_in_row kind p 0 row))) [
      | inl h ↦ first (use_in_row kind p 0 row i s (sym (slice_get-append_left (uses_in_row kind p 0 row) (uses_in_rows kind (p + 1) rows) i h) ∙ e))
      | inr h ↦ later (use_in_rows kind (p + 1) rows (i - length (uses_in_row kind p 0 row)) s
          (sym (slice_get-behind (uses_in_row kind p 0 row) (uses_in_rows kind (p + 1) rows) i (length (uses_in_row kind p 0 row)) refl h) ∙ e))
    ]
  where
    first : (s.parent ≡ p) × IsUseAt 0 row kind s → IsUseFrom p (row ∷ rows) kind s
    first h = record {
      at = 0;
      row = row;
      parent = h.0 ∙ sym (add-zero p);
      this = refl;
      here = ap (slice_get row) (h.1.child ∙ zero-add h.1.at) ∙ h.1.here;
    }

    later : IsUseFrom (p + 1) rows kind s → IsUseFrom p (row ∷ rows) kind s
    later h = record { at = suc h.at; row = h.row; parent = h.parent ∙ next h.at; this = h.this; here = h.here }
      where
        next : (a : ℕ) → (p + 1) + a ≡ p + suc a
        next a = omega arith

pub use_is_child : (children : List (List ℕ)) (kind i : ℕ) (s : Step)
    → slice_get (uses_in_order children kind) i ≡ Some s → child_kind children s.parent s.child ≡ Some kind
use_is_child children kind i s e =
    let u = use_in_rows kind 0 children i s e in
    ap (option_and_then (λ row. slice_get row s.child)) (ap (slice_get children) (u.parent ∙ zero-add u.at) ∙ u.this) ∙ u.here
