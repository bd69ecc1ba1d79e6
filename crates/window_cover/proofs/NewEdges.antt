-- The edges of a new tile, one after another, against the edges that are open.
use Rattle.std.proofs.Common.{◌≡◌, ℕ, zero, suc, ◌+◌, ◌<◌, ◌≤◌, Bool, true, false, not, cond, ◌&&◌, ◌||◌, List, [], ◌∷◌, ◌++◌, length, get_or, add-one, refl, sym, ap, ap₂, ◌∙◌, subst, arith, append_assoc, append-nil}
use Rattle.std.specs.List.{filter, list_any}
use Rattle.std.proofs.lemmas.Bool.{lt-ltb, le-ltb}
use Rattle.std.proofs.lemmas.List.{get_or_default}
use Rattle.std.proofs.lemmas.List.Elements.{filter-append}
use Rattle.std.proofs.lemmas.List.Folds.{list_any-append}
use Rattle.std.proofs.lemmas.Map.Views.{any-filter_same}
use Rattle.theory_addresses.specs.Search.{some_below}
use Rattle.cyclo_points.specs.declared.order.Order.{Order}
use Rattle.cyclo_points.specs.declared.point.Point.{Point}
use Rattle.plane_geom.specs.declared.window.Window.{Window}
use Rattle.rule_model.specs.Usable.{origin}
use Rattle.window_cover.specs.declared.ends.Ends.{Ends}
use Rattle.window_cover.specs.declared.open_edge.OpenEdge.{OpenEdge}
use Rattle.window_cover.specs.Border.{Waiting, have_same_ends, has_ends}
use Rattle.window_cover.specs.NewEdges.{reversed, start_at, end_at, ends_at, meets_window, waiting_at, closes, without, left_open, opened, AreNew}
use Rattle.window_cover.proofs.SameEnds.{have_same_ends-refl, have_same_ends-exact}
use Rattle.window_cover.proofs.Closing.{others, others-all}

abbrev pub waiting : Ends → OpenEdge → Waiting
waiting k e = record { ends = k; edge = e }

-- a test that can't pass fails
pub fails : (b : Bool) → (¬ b ≡ true) → b ≡ false
fails true h = absurd (h refl)
fails false h = refl

pub no_pass : (b : Bool) → b ≡ false → ¬ b ≡ true
no_pass b e h = let k : true ≡ false = sym h ∙ e in cc

-- where no item passes, none of those kept does
pub any-filter_none : {X : Type 0} (test p : X → Bool) (xs : List X) → list_any test xs ≡ false → list_any test (filter p xs) ≡ false
any-filter_none test p [] h = refl
any-filter_none {X} test p (x ∷ xs) h = at_test (test x) refl h (any-filter_none test p xs) (p x)
  where
    at_test : (b : Bool) → test x ≡ b → b || list_any test xs ≡ false → (list_any test xs ≡ false → list_any test (filter p xs) ≡ false) → (q : Bool)
        → list_any test (cond q (x ∷ filter p xs) (filter p xs)) ≡ false
    at_test true e k r q = absurd (no_pass true k refl)
    at_test false e k r true = ap (λ c. c || list_any test (filter p xs)) e ∙ r k
    at_test false e k r false = r k

-- items kept twice
pub filter-twice : {X : Type 0} (p q r : X → Bool) → ((x : X) → r x ≡ (q x && p x)) → (xs : List X) → filter p (filter q xs) ≡ filter r xs
filter-twice p q r same [] = refl
filter-twice {X} p q r same (x ∷ xs) = at_tests (q x) (p x) refl refl (filter-twice p q r same xs)
  where
    at_tests : (a b : Bool) → q x ≡ a → p x ≡ b → filter p (filter q xs) ≡ filter r xs
        → filter p (cond (q x) (x ∷ filter q xs) (filter q xs)) ≡ cond (r x) (x ∷ filter r xs) (filter r xs)
    at_tests true true e f h =
        ap (λ c. filter p (cond c (x ∷ filter q xs) (filter q xs))) e
        ∙ ap (λ c. cond c (x ∷ filter p (filter q xs)) (filter p (filter q xs))) f ∙ ap (λ ys. x ∷ ys) h
        ∙ sym (ap (λ c. cond c (x ∷ filter r xs) (filter r xs)) (same x ∙ ap₂ (λ a b. a && b) e f))
    at_tests true false e f h =
        ap (λ c. filter p (cond c (x ∷ filter q xs) (filter q xs))) e ∙ ap (λ c. cond c (x ∷ filter p (filter q xs)) (filter p (filter q xs))) f ∙ h
        ∙ sym (ap (λ c. cond c (x ∷ filter r xs) (filter r xs)) (same x ∙ ap₂ (λ a b. a && b) e f))
    at_tests false b e f h =
        ap (λ c. filter p (cond c (x ∷ filter q xs) (filter q xs))) e ∙ h
        ∙ sym (ap (λ c. cond c (x ∷ filter r xs) (filter r xs)) (same x ∙ ap₂ (λ a b. a && b) e f))

-- no more are kept than there are
pub length-kept : {X : Type 0} (p : X → Bool) (xs : List X) → length (filter p xs) ≤ length xs
length-kept p [] = omega arith
length-kept {X} p (x ∷ xs) = at_test (p x) (length-kept p xs)
  where
    at_test : (b : Bool) → length (filter p xs) ≤ length xs → length (cond b (x ∷ filter p xs) (filter p xs)) ≤ suc (length xs)
    at_test true h = omega (arith, h)
    at_test false h = omega (arith, h)

-- ---- one edge
module _ (ends back : Ends) (edge : OpenEdge) (old after : List Waiting) (closed meets : Bool)
    (turned : back ≡ reversed ends) (found : closed ≡ has_ends back old) (left : after ≡ others back old) where
  abbrev met : List Waiting
  met = without ends old ++ cond (meets && not (closes ends old)) (waiting ends edge ∷ []) []

  pub after-is : after ≡ without ends old
  after-is = left ∙ ap (λ k. others k old) turned

  closes-is : closes ends old ≡ closed
  closes-is = sym (found ∙ ap (λ k. has_ends k old) turned)

  pub stays_fresh : has_ends ends old ≡ false → has_ends ends after ≡ false
  stays_fresh h = ap (has_ends ends) left ∙ any-filter_none (λ o. have_same_ends ends o.ends) (λ o. not (have_same_ends back o.ends)) old h

  pub met-opened : (new : List Waiting) → closed ≡ false → meets ≡ true → new ≡ after ++ waiting ends edge ∷ [] → new ≡ met
  met-opened new e m is = is ∙ ap₂ (λ ws b. ws ++ cond b (waiting ends edge ∷ []) []) after-is (sym (ap₂ (λ a b. a && not b) m (closes-is ∙ e)))

  pub met-closed : closed ≡ true → after ≡ met
  met-closed e = after-is ∙ sym (ap (λ b. without ends old ++ cond b (waiting ends edge ∷ []) [])
      (ap (λ b. meets && not b) (closes-is ∙ e) ∙ no_more meets) ∙ append-nil (without ends old))
    where
      no_more : (b : Bool) → b && false ≡ false
      no_more true = refl
      no_more false = refl

  pub met-passed : meets ≡ false → after ≡ met
  met-passed e = after-is ∙ sym (ap (λ b. without ends old
      ++ cond (b && not (closes ends old)) (waiting ends edge ∷ []) []) e ∙ append-nil (without ends old))

  pub no_longer : length after ≤ length old
  no_longer = subst (λ ws. length ws ≤ length old) (sym left) (length-kept (λ o. not (have_same_ends back o.ends)) old)

-- ---- all edges
reversed-apart : (a b : Ends) → have_same_ends a b ≡ false → have_same_ends (reversed a) (reversed b) ≡ false
reversed-apart a b h =
    fails _ (λ k. no_pass _ h (subst (λ x. have_same_ends a x ≡ true)
    (ap reversed (have_same_ends-exact (reversed a) (reversed b) k)) (have_same_ends-refl a)))

none_below : (p : ℕ → Bool) (n : ℕ) → ((e : ℕ) → e < n → p e ≡ false) → some_below n p ≡ false
none_below p zero h = refl
none_below p (suc n) h = ap₂ (λ a b. a || b) (none_below p n (λ e l. h e (omega (arith, l)))) (h n (omega arith))

module _ (o : Order) (w : Window) (i : ℕ) (corners : List Point) (old : List Waiting) (is_new : AreNew corners old) where
  -- whether edge number n, open, stands among these
  abbrev opens : ℕ → Bool
  opens e = meets_window o w (start_at corners e) (end_at corners e) && not (closes (ends_at corners e) old)

  -- none of its own first n edges has ends that none of them has
  own-absent : (k : Ends) (n : ℕ) → ((e : ℕ) → e < n → have_same_ends k (ends_at corners e) ≡ false) → has_ends k (opened o w i corners n old) ≡ false
  own-absent k zero h = refl
  own-absent k (suc n) h =
      list_any-append (λ x. have_same_ends k x.ends) (opened o w i corners n old) (cond (opens n) (waiting_at i corners n ∷ []) [])
      ∙ ap₂ (λ a b. a || b) (own-absent k n (λ e l. h e (omega (arith, l)))) (last (opens n))
    where
      last : (b : Bool) → has_ends k (cond b (waiting_at i corners n ∷ []) []) ≡ false
      last true = ap (λ c. c || false) (h n (omega arith))
      last false = refl

  module _ (n : ℕ) (below : n < length corners) where
    abbrev so_far : List Waiting
    so_far = left_open corners n old ++ opened o w i corners n old

    own-no_return : has_ends (reversed (ends_at corners n)) (opened o w i corners n old) ≡ false
    own-no_return = own-absent (reversed (ends_at corners n)) n (λ e l. is_new.no_return n e below (omega (arith, l, below)))

    pub fresh-still : has_ends (ends_at corners n) so_far ≡ false
    fresh-still =
        list_any-append (λ x. have_same_ends (ends_at corners n) x.ends) (left_open corners n old) (opened o w i corners n old)
        ∙ ap₂ (λ a b. a || b) (any-filter_none (λ x. have_same_ends (ends_at corners n) x.ends) _ old (is_new.fresh n below))
        (own-absent (ends_at corners n) n (λ e l. is_new.apart n e below (omega (arith, l, below)) (λ same. absurd (omega (arith, l, same)))))

    -- an edge that it meets isn't met by those before it
    not_before : (x : Waiting) → have_same_ends (reversed (ends_at corners n)) x.ends ≡ true
        → not (some_below n (λ e. have_same_ends (reversed (ends_at corners e)) x.ends)) ≡ true
    not_before x h = ap not (none_below _ n (λ e l. subst
        (λ k. have_same_ends (reversed (ends_at corners e)) k ≡ false)
        (have_same_ends-exact (reversed (ends_at corners n)) x.ends h)
        (reversed-apart (ends_at corners e) (ends_at corners n)
        (is_new.apart e n (omega (arith, l, below)) below (λ same. absurd (omega (arith, l, same)))))))

    closes-still : closes (ends_at corners n) so_far ≡ closes (ends_at corners n) old
    closes-still =
        list_any-append (λ x. have_same_ends (reversed (ends_at corners n)) x.ends) (left_open corners n old) (opened o w i corners n old)
        ∙ ap₂ (λ a b. a || b) (any-filter_same (λ x. have_same_ends (reversed (ends_at corners n)) x.ends) _ true not_before old) own-no_return
        ∙ or_false (closes (ends_at corners n) old)
      where
        or_false : (b : Bool) → b || false ≡ b
        or_false true = refl
        or_false false = refl

    not_or : (a b : Bool) → not (a || b) ≡ (not a && not b)
    not_or true b = refl
    not_or false b = refl

    pub next-met : (new : List Waiting)
        → new ≡ without (ends_at corners n) so_far
        ++ cond (meets_window o w (start_at corners n) (end_at corners n)
        && not (closes (ends_at corners n) so_far)) (waiting_at i corners n ∷ []) []
        → new ≡ left_open corners (suc n) old ++ opened o w i corners (suc n) old
    next-met new is =
        is ∙ ap₂ (λ ws b. ws ++ cond b (waiting_at i corners n ∷ []) [])
        (filter-append (λ x. not (have_same_ends (reversed (ends_at corners n)) x.ends)) (left_open corners n old) (opened o w i corners n old)
        ∙ ap₂ (λ xs ys. xs ++ ys) (filter-twice _ _ _
        (λ x. not_or (some_below n (λ e. have_same_ends (reversed (ends_at corners e)) x.ends))
        (have_same_ends (reversed (ends_at corners n)) x.ends)) old)
        (others-all (reversed (ends_at corners n)) (opened o w i corners n old) own-no_return))
        (ap (λ b. meets_window o w (start_at corners n) (end_at corners n) && not b) closes-still)
        ∙ append_assoc (left_open corners (suc n) old) (opened o w i corners n old) (cond (opens n) (waiting_at i corners n ∷ []) [])

-- ---- corners as they are read
pub end-next : (corners : List Point) (e : ℕ) (p d : Point) → e + 1 < length corners → p ≡ get_or corners (e + 1) d → p ≡ end_at corners e
end-next corners e p d h is =
    is ∙ get_or_default corners (e + 1) d origin h
    ∙ ap (λ i. get_or corners i origin) (add-one e
    ∙ sym (ap (λ b. cond b (suc e) 0) (lt-ltb (suc e) (length corners) (omega (arith, h)))))

pub end-last : (corners : List Point) (e : ℕ) (p d : Point) → length corners ≤ e + 1 → 0 < length corners
    → p ≡ get_or corners 0 d → p ≡ end_at corners e
end-last corners e p d h some is =
    is ∙ get_or_default corners 0 d origin some
    ∙ ap (λ i. get_or corners i origin) (sym
    (ap (λ b. cond b (suc e) 0) (le-ltb (suc e) (length corners) (omega (arith, h)))))

-- none of no edges meets another
pub left-none : (corners : List Point) (ws : List Waiting) → left_open corners 0 ws ≡ ws
left-none corners [] = refl
left-none corners (o ∷ ws) = ap (λ xs. o ∷ xs) (left-none corners ws)
