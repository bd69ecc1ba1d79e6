-- Which edges listed are open, and the first of them.
use Rattle.std.proofs.Common.{◌≡◌, ℕ, zero, suc, ◌<◌, ◌≤◌, Bool, true, false, ◌||◌, Option, None, Some, List, [], ◌∷◌, ◌++◌, length, take, get_or, refl, sym, ap, ◌∙◌, arith, append-nil}
use Rattle.std.specs.List.{position, slice_get}
use Rattle.std.specs.Option.{option_map, is_some}
use Rattle.std.proofs.lemmas.List.{take_all}
use Rattle.std.proofs.lemmas.Option.{slice_get_past}
use Rattle.window_cover.specs.declared.ends.Ends.{Ends}
use Rattle.window_cover.specs.declared.open_edge.OpenEdge.{OpenEdge}
use Rattle.window_cover.specs.declared.border.Listed.{Listed}
use Rattle.window_cover.specs.Border.{Waiting, have_same_ends, open_of, waits_at, has_ends, first_waiting}
use Rattle.window_cover.proofs.Positions.{position-here, position-later}

abbrev pub listed : Ends → OpenEdge → Bool → Listed
listed n g b = record { ends = n; edge = g; is_open = b }

abbrev pub waiting : Ends → OpenEdge → Waiting
waiting n g = record { ends = n; edge = g }

-- the open edges of two lists, one after the other
pub open_of-append : (ls ms : List Listed) → open_of (ls ++ ms) ≡ open_of ls ++ open_of ms
open_of-append [] ms = refl
open_of-append (l ∷ ls) ms = step l.is_open (open_of-append ls ms)
  where
    step : (b : Bool) → open_of (ls ++ ms) ≡ open_of ls ++ open_of ms
        → open_of (listed l.ends l.edge b ∷ ls ++ ms) ≡ open_of (listed l.ends l.edge b ∷ ls) ++ open_of ms
    step true r = ap (λ (ws : List Waiting). waiting l.ends l.edge ∷ ws) r
    step false r = r

-- one more that is closed
pub open_of-pushed : (ls : List Listed) (n : Ends) (g : OpenEdge) {ms : List Listed} → ms ≡ ls ++ listed n g false ∷ [] → open_of ms ≡ open_of ls
open_of-pushed ls n g e = ap open_of e ∙ open_of-append ls (listed n g false ∷ []) ∙ append-nil (open_of ls)

-- what stands at the first open edge
pub first-at : (ls : List Listed) (i : ℕ) (d : Listed) → i < length ls → open_of (take i ls) ≡ [] → (get_or ls i d).is_open ≡ true
    → first_waiting (open_of ls) ≡ option_map (λ l. l.edge) (slice_get ls i)
first-at [] i d h e f = refl
first-at (l ∷ ls) zero d h e f = rw f refl
first-at (l ∷ ls) (suc i) d h e f = step l.is_open e (λ k. first-at ls i d (omega arith) k f)
  where
    step : (b : Bool) → open_of (listed l.ends l.edge b ∷ take i ls) ≡ []
        → (open_of (take i ls) ≡ [] → first_waiting (open_of ls) ≡ option_map (λ l. l.edge) (slice_get ls i))
        → first_waiting (open_of (listed l.ends l.edge b ∷ ls)) ≡ option_map (λ l. l.edge) (slice_get ls i)
    step true k r = grind (arith, k)
    step false k r = r k

-- one more that is closed
pub none_before-more : (ls : List Listed) (i : ℕ) (d : Listed) → i < length ls → open_of (take i ls) ≡ []
    → (get_or ls i d).is_open ≡ false → open_of (take (suc i) ls) ≡ []
none_before-more [] i d h e f = refl
none_before-more (l ∷ ls) zero d h e f = rw f refl
none_before-more (l ∷ ls) (suc i) d h e f = step l.is_open e (λ k. none_before-more ls i d (omega arith) k f)
  where
    step : (b : Bool) → open_of (listed l.ends l.edge b ∷ take i ls) ≡ []
        → (open_of (take i ls) ≡ [] → open_of (take (suc i) ls) ≡ [])
        → open_of (listed l.ends l.edge b ∷ take (suc i) ls) ≡ []
    step true k r = grind (arith, k)
    step false k r = r k

-- where all are closed there is no first
pub none_left : (ls : List Listed) (i : ℕ) → length ls ≤ i → open_of (take i ls) ≡ []
    → first_waiting (open_of ls) ≡ option_map (λ l. l.edge) (slice_get ls (length ls))
none_left ls i h e =
    ap first_waiting (sym (ap open_of (take_all i ls h)) ∙ e)
    ∙ sym (ap (option_map (λ (l : Listed). l.edge)) (slice_get_past ls (length ls) (omega arith)))

later : (x : Option ℕ) → is_some (option_map suc x) ≡ is_some x
later None = refl
later (Some i) = refl

-- an edge waits with these ends exactly where one has a place
pub has_ends-position : (k : Ends) (ls : List Listed) → has_ends k (open_of ls) ≡ is_some (position (waits_at k) ls)
has_ends-position k [] = refl
has_ends-position k (l ∷ ls) = step l.is_open (have_same_ends k l.ends) refl (has_ends-position k ls)
  where
    step : (b c : Bool) → have_same_ends k l.ends ≡ c → has_ends k (open_of ls) ≡ is_some (position (waits_at k) ls)
        → has_ends k (open_of (listed l.ends l.edge b ∷ ls)) ≡ is_some (position (waits_at k) (listed l.ends l.edge b ∷ ls))
    step true true f r = ap (λ (c : Bool). c || has_ends k (open_of ls)) f
        ∙ sym (ap is_some (position-here (waits_at k) (listed l.ends l.edge true) ls f))
    step true false f r =
        ap (λ (c : Bool). c || has_ends k (open_of ls)) f ∙ r
        ∙ sym (ap is_some (position-later (waits_at k) (listed l.ends l.edge true) ls f) ∙ later (position (waits_at k) ls))
    step false c f r = r ∙ sym (ap is_some (position-later (waits_at k) (listed l.ends l.edge false) ls refl) ∙ later (position (waits_at k) ls))

none_from : (x : Option ℕ) → is_some x ≡ false → x ≡ None
none_from None h = refl
none_from (Some i) h = grind arith

pub position-none : (k : Ends) (ls : List Listed) → has_ends k (open_of ls) ≡ false → position (waits_at k) ls ≡ None
position-none k ls h = none_from (position (waits_at k) ls) (sym (has_ends-position k ls) ∙ h)
