-- One level down, and the list at the end.
use Rattle.std.proofs.Common.{◌≡◌, ℕ, ◌+◌, ◌-◌, ◌<◌, ◌≤◌, Bool, true, false, ◌&&◌, List, [], ◌∷◌, length, map, drop, get_or, Some, IsSome, refl, sym, ap, ◌∙◌, subst, arith, eqb, eq-eqb}
use Rattle.std.specs.List.{slice_get}
use Rattle.std.proofs.lemmas.Bool.{eqb-true, and_parts}
use Rattle.std.specs.Cmp.Lexicographic.{pointwise}
use Rattle.theory_addresses.specs.Address.{Step, Address, Fits, top_from}
use Rattle.theory_addresses.specs.Search.{IsAmong}
use Rattle.theory_addresses.specs.Tables.{Tables, child_kinds, child_kind_of}
use Rattle.theory_addresses.specs.Coherent.{IsCoherent}
use Rattle.std.proofs.Math.ListN.{get_or-map}
use Rattle.std.proofs.lemmas.List.{length-map, drop_more, append-nil}
use Rattle.tile_shape.specs.declared.step.Step as program
use Rattle.tile_shape.specs.Views.{step_of}
use Rattle.theory_addresses.proofs.Chains.{IsChain, IsChain-drop, level_kind}
use Rattle.pair_machine.specs.Between.{Pair, IsInOrder, IsBetween}
use Rattle.pair_machine.specs.Kept.{ArePairsKept, IsFunctional}
use Rattle.pair_machine.specs.Nodes.{IsNode}
use Rattle.pair_machine.specs.Reading.{same_steps, between_children, node_of, step_pairs, pairs_read}
use Rattle.pair_machine.proofs.Leaving.{read_touches}
use Rattle.pair_machine.proofs.LeftOfRows.{same_steps-true, same_steps-same}
use Rattle.pair_machine.proofs.Keeping.{two, functional_less, kept_same}
use Rattle.pair_machine.proofs.Levels.{step_less, read_node, read_functional}

-- ---- one level down
pub record Readable (t : Tables) (x y : Step) (xs ys : List Step) (fresh : Bool) (above : List Pair) : Type 0 where
  pub nodes : (p : Pair) → IsAmong p above → IsNode t (node_of x y p)
  pub functional : IsFunctional (step_pairs t x y fresh above)
  pub more : (new : List Pair) → ArePairsKept new (step_pairs t x y fresh above) → ArePairsKept new (pairs_read t (x ∷ xs) (y ∷ ys))

pub readable : (t : Tables) (k l : ℕ) (x y : Step) (xs ys : List Step) (fresh : Bool) (above : List Pair)
    → IsCoherent t → IsChain t k (x ∷ xs) → IsChain t l (y ∷ ys)
    → fresh ≡ (eqb x.parent y.parent && same_steps xs ys) → ArePairsKept above (pairs_read t xs ys) → Readable t x y xs ys fresh above
readable t k l x y xs ys fresh above coherent fits fits' same kept =
    let to : (p : Pair) → IsAmong p (step_pairs t x y fresh above) → IsAmong p (pairs_read t (x ∷ xs) (y ∷ ys)) = λ p i.
    subst (λ (b : Bool). IsAmong p (step_pairs t x y b (pairs_read t xs ys))) same (step_less t x y fresh above (pairs_read t xs ys) kept.only p i) in
    let from : (p : Pair) → IsAmong p (pairs_read t (x ∷ xs) (y ∷ ys)) → IsAmong p (step_pairs t x y fresh above) = λ p i.
    step_less t x y fresh (pairs_read t xs ys) above kept.all p
    (subst (λ (b : Bool). IsAmong p (step_pairs t x y b (pairs_read t xs ys))) (sym same) i) in
    record {
      nodes = λ p i. read_node t xs ys x.parent y.parent p.mine p.theirs coherent fits.1 fits'.1 (kept.only p i);
      functional = functional_less (step_pairs t x y fresh above) (pairs_read t (x ∷ xs) (y ∷ ys)) to
          (read_functional t (x ∷ xs) (y ∷ ys) k l coherent fits fits');
      more = λ new h. kept_same new (step_pairs t x y fresh above) (pairs_read t (x ∷ xs) (y ∷ ys)) to from h;
    }

-- ---- where a level begins
pub start_fresh : (t : Tables) (x y : Step) (fresh : Bool) (now : List Pair) → fresh ≡ true
    → ArePairsKept now (between_children t x.parent x.child y.child) → ArePairsKept now (step_pairs t x y fresh [])
start_fresh t x y fresh now is kept = rw (is, append-nil (between_children t x.parent x.child y.child)) kept

pub start_plain : (t : Tables) (x y : Step) (fresh : Bool) (now : List Pair) → fresh ≡ false → now ≡ [] → ArePairsKept now (step_pairs t x y fresh [])
start_plain t x y fresh now is none = rw (is, none) (record { all = λ p i. i; only = λ p i. i })

-- ---- the digits at a level
pub digits_at : (xs ys : List program.Step) (level : ℕ) (d : program.Step) → ys ≡ xs → 0 < level → level ≤ length xs
    → drop (level - 1) (map step_of xs) ≡ step_of (get_or ys (level - 1) d) ∷ drop level (map step_of xs)
digits_at xs ys level d same some within =
    let more : level - 1 + 1 ≡ level = omega arith in
    let inside : level - 1 < length (map step_of xs) = omega (arith, length-map xs step_of) in
    let here : get_or (map step_of xs) (level - 1) (step_of d) ≡ step_of (get_or ys (level - 1) d) = rw same (get_or-map step_of xs (level - 1) d) in
    drop_more (map step_of xs) (level - 1) (step_of d) inside ∙ rw (here, more) refl

-- ---- a level of the loop
abbrev pub digit : List program.Step → ℕ → Step
digit xs level = step_of (get_or xs (level - 1) (record { child = 0; parent = 0 }))

pub record AtLevel (t : Tables) (xs ys us vs : List program.Step) (level : ℕ) (fresh : Bool) (table : List Pair) : Type 0 where
  pub split_x : drop (level - 1) (map step_of xs) ≡ digit us level ∷ drop level (map step_of xs)
  pub split_y : drop (level - 1) (map step_of ys) ≡ digit vs level ∷ drop level (map step_of ys)
  pub child : IsSome (child_kind_of t (digit us level).parent (digit us level).child)
  pub readable_here : Readable t (digit us level) (digit vs level) (drop level (map step_of xs)) (drop level (map step_of ys)) fresh table

pub at_level : (t : Tables) (k l : ℕ) (xs ys us vs : List program.Step) (level : ℕ) (same fresh : Bool) (table : List Pair) → IsCoherent t
    → IsChain t k (map step_of xs) → IsChain t l (map step_of ys) → length xs ≡ length ys → us ≡ xs → vs ≡ ys → 0 < level → level ≤ length xs
    → same ≡ same_steps (drop level (map step_of xs)) (drop level (map step_of ys))
    → fresh ≡ (eqb (digit us level).parent (digit vs level).parent && same)
    → ArePairsKept table (pairs_read t (drop level (map step_of xs)) (drop level (map step_of ys)))
    → AtLevel t xs ys us vs level fresh table
at_level t k l xs ys us vs level same fresh table coherent fits fits' depths own own' some within same_is fresh_is kept =
    let sx = digits_at xs us level (record { child = 0; parent = 0 }) own some within in
    let sy = digits_at ys vs level (record { child = 0; parent = 0 }) own' some (omega (arith, depths, within)) in
    let cx : IsChain t (level_kind k (map step_of xs) (level - 1)) (digit us level ∷ drop level (map step_of xs)) =
    subst (IsChain t (level_kind k (map step_of xs) (level - 1))) sx
    (IsChain-drop t k (map step_of xs) (level - 1) fits (omega (arith, length-map xs step_of, within))) in
    let cy : IsChain t (level_kind l (map step_of ys) (level - 1)) (digit vs level ∷ drop level (map step_of ys)) =
    subst (IsChain t (level_kind l (map step_of ys) (level - 1))) sy
    (IsChain-drop t l (map step_of ys) (level - 1) fits'
    (omega (arith, length-map ys step_of, depths, within))) in
    record {
      split_x = sx;
      split_y = sy;
      child = rw cx.0 refl;
      readable_here = readable t (level_kind k (map step_of xs) (level - 1))
          (level_kind l (map step_of ys) (level - 1)) (digit us level) (digit vs level)
          (drop level (map step_of xs)) (drop level (map step_of ys))
          fresh table coherent cx cy (fresh_is ∙ ap (λ (b : Bool). eqb (digit us level).parent (digit vs level).parent && b) same_is) kept;
    }

pub kept_below : (t : Tables) (xs ys us vs : List program.Step) (level : ℕ) (fresh : Bool)
    (table new : List Pair) → AtLevel t xs ys us vs level fresh table
    → ArePairsKept new (step_pairs t (digit us level) (digit vs level) fresh table)
    → ArePairsKept new (pairs_read t (drop (level - 1) (map step_of xs)) (drop (level - 1) (map step_of ys)))
kept_below t xs ys us vs level fresh table new h kept = rw (h.split_x, h.split_y) (h.readable_here.more new kept)

pub same_below : (t : Tables) (xs ys us vs : List program.Step) (level : ℕ) (same fresh next : Bool)
    (table : List Pair) → AtLevel t xs ys us vs level fresh table
    → same ≡ same_steps (drop level (map step_of xs)) (drop level (map step_of ys))
    → fresh ≡ (eqb (digit us level).parent (digit vs level).parent && same)
    → next ≡ (eqb (digit us level).child (digit vs level).child && fresh)
    → next ≡ same_steps (drop (level - 1) (map step_of xs)) (drop (level - 1) (map step_of ys))
same_below t xs ys us vs level same fresh next table h same_is fresh_is next_is =
    rw (h.split_x, h.split_y)
    (next_is ∙ ap (λ (b : Bool). eqb (digit us level).child (digit vs level).child && b)
    (fresh_is ∙ ap (λ (b : Bool). eqb (digit us level).parent (digit vs level).parent && b) same_is))

-- ---- the kind on top
pub top_read : (kind : ℕ) (ds : List Step) → slice_get (kind ∷ map (λ (d : Step). d.parent) ds) (length ds) ≡ Some (top_from kind ds)
top_read kind [] = refl
top_read kind (d ∷ ds) = top_read d.parent ds

-- ---- equal digits
pub pointwise-steps : (xs ys : List program.Step)
    → pointwise (λ (a b : program.Step). eqb a.child b.child && eqb a.parent b.parent) xs ys ≡ same_steps (map step_of xs) (map step_of ys)
pointwise-steps [] [] = refl
pointwise-steps [] (y ∷ ys) = refl
pointwise-steps (x ∷ xs) [] = refl
pointwise-steps (x ∷ xs) (y ∷ ys) =
    and_three (eqb x.child y.child) (eqb x.parent y.parent) (pointwise (λ (a b : program.Step). eqb a.child b.child && eqb a.parent b.parent) xs ys)
    ∙ ap (λ (b : Bool). eqb x.child y.child && (eqb x.parent y.parent && b)) (pointwise-steps xs ys)
  where
    and_three : (a b c : Bool) → ((a && b) && c) ≡ (a && (b && c))
    and_three true b c = refl
    and_three false b c = refl

pub same_address : (a b : Address) (r : Bool) → r ≡ (eqb a.kind b.kind && same_steps a.digits b.digits) → (r ≡ true → a ≡ b) × (a ≡ b → r ≡ true)
same_address a b r is = (
  λ yes. let two : (eqb a.kind b.kind && same_steps a.digits b.digits) ≡ true = sym is ∙ yes in
      let parts = and_parts (eqb a.kind b.kind) (same_steps a.digits b.digits) two in
      address-eq (eqb-true a.kind b.kind parts.0) (same_steps-true a.digits b.digits parts.1),
  λ same. is ∙ subst (λ (x : Address). (eqb a.kind x.kind && same_steps a.digits x.digits) ≡ true) same
      (rw (eq-eqb a.kind a.kind refl, same_steps-same a.digits) refl),
)
  where
    address-eq : a.kind ≡ b.kind → a.digits ≡ b.digits → a ≡ b
    address-eq k d = λ i. record { kind = k i; digits = d i }

-- ---- the list at the end
pub between_of : (t : Tables) (a b : Address) (kept : List Pair) → IsCoherent t → Fits (child_kinds t) a
    → Fits (child_kinds t) b → IsInOrder kept → ArePairsKept kept (pairs_read t a.digits b.digits)
    → IsBetween t a b kept
between_of t a b kept coherent fits fits' order h = record {
  in_order = order;
  touching = λ e f.
      let read = read_touches t a b e f coherent fits fits' in
      (λ i. read.0 (h.only (two e f) i), λ m. h.all (two e f) (read.1 m));
}
