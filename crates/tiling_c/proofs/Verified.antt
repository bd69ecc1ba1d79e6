-- Two arrays as entries, one by one, and what is read of them.
use Rattle.std.proofs.Common.{◌≡◌, ◌⊎◌, ℕ, zero, suc, ◌+◌, ◌<◌, ◌≤◌, List, [], ◌∷◌, ◌++◌, All, length, take, get_or, Ok, Err, inl, inr, refl, sym, ap, ap₂, ◌∙◌, subst, arith}
use Rattle.std.specs.declared.result.Result.{Result}
use Rattle.std.proofs.lemmas.Bool.{cases_lt}
use Rattle.std.proofs.lemmas.List.{map-append, take_all}
use Rattle.cyclo_points.specs.Order.{is_refused}
use Rattle.rule_model.specs.Tiling.{Tiling}
use Rattle.theory_listings.specs.FrameListing.{AreUnrefused}
use Rattle.theory_walks.specs.Frames.{FrameValue}
use Rattle.plane_geom.specs.declared.window.Window.{Window}
use Rattle.listing_text.specs.declared.entry.Entry as program
use Rattle.listing_text.specs.Listing.{Entry}
use Rattle.listing_text.specs.Views.{entry_of}
use Rattle.list_verify.specs.declared.list_fault.ListFault.{ListFault}
use Rattle.list_verify.specs.declared.list_fault.ListFault.TheVariants.{TooLong, BadLine, Address, BadKind, NotOfFrame, Double, Missing, WrongPlace, Stray, DepthLimit, CoordLimit, NoMemory}
use Rattle.list_verify.specs.FoundLines.{entries_of}
use Rattle.list_verify.specs.Listing.{Reading, IsRightFor, IsRightReading, tiles_listed}
use Rattle.list_verify.specs.Verdict.{IsCauseIn}
use Rattle.c_values.specs.declared.plain_address.PlainAddress.{PlainAddress}
use Rattle.c_values.specs.declared.plain_tile.PlainTile.{PlainTile}
use Rattle.c_values.specs.Statuses.{ok, no_memory, bad_words, bad_address, bad_listing}
use Rattle.tiling_c.specs.Arrays.{plain_tile_at, plain_address_at}
use Rattle.tiling_c.specs.Verify.{entry_given, entries_given, AreEntries, AreTilesOf, status_told, fault_of}

none : {A : Type 0} (xs : List A) → take 0 xs ≡ []
none [] = refl
none (x ∷ xs) = refl

-- an entry that exists is the same with any other value for one that does not
same_entry : {A : Type 0} (d e : A) (xs : List A) (i : ℕ) → i < length xs → get_or xs i d ≡ get_or xs i e
same_entry d e [] i h = absurd (omega arith)
same_entry d e (x ∷ xs) zero h = refl
same_entry d e (x ∷ xs) (suc i) h = same_entry d e xs i (omega (arith, h))

module _ (Q : PlainTile → PlainAddress → Type 0) (tiles : List PlainTile) (addrs : List PlainAddress) (i : ℕ) (d : PlainTile) (e : PlainAddress)
    (in_tiles : i < length tiles) (in_addrs : i < length addrs) where
  pub there : Q (get_or tiles i d) (get_or addrs i e) → Q (plain_tile_at tiles i) (plain_address_at addrs i)
  there q = subst (λ x. Q x (plain_address_at addrs i)) (same_entry d _ tiles i in_tiles)
      (subst (λ y. Q (get_or tiles i d) y) (same_entry e _ addrs i in_addrs) q)

  pub here : Q (plain_tile_at tiles i) (plain_address_at addrs i) → Q (get_or tiles i d) (get_or addrs i e)
  here q = subst (λ x. Q x (get_or addrs i e)) (same_entry _ d tiles i in_tiles)
      (subst (λ y. Q (plain_tile_at tiles i) y) (same_entry _ e addrs i in_addrs) q)

-- one entry more
entries_more : (i : ℕ) (tiles : List PlainTile) (addrs : List PlainAddress) → i < length tiles → i < length addrs
    → entries_given (take (suc i) tiles) (take (suc i) addrs)
    ≡ entries_given (take i tiles) (take i addrs) ++ entry_given (plain_tile_at tiles i) (plain_address_at addrs i) ∷ []
entries_more i [] addrs h k = absurd (omega arith)
entries_more i (t ∷ ts) [] h k = absurd (omega arith)
entries_more zero (t ∷ ts) (a ∷ bs) h k =
    ap₂ (λ us vs. entry_given t a ∷ entries_given us vs) (none ts) (none bs)
entries_more (suc i) (t ∷ ts) (a ∷ bs) h k = ap (λ es. entry_given t a ∷ es) (entries_more i ts bs (omega (arith, h)) (omega (arith, k)))

pub entries_pushed : (i : ℕ) (tiles : List PlainTile) (addrs : List PlainAddress) (own : List program.Entry) (e : program.Entry)
    → i < length tiles → i < length addrs → entries_of own ≡ entries_given (take i tiles) (take i addrs)
    → entry_of e ≡ entry_given (plain_tile_at tiles i) (plain_address_at addrs i)
    → entries_of (own ++ e ∷ []) ≡ entries_given (take (i + 1) tiles) (take (i + 1) addrs)
entries_pushed i tiles addrs own e h k so_far its_entry =
    map-append entry_of own (e ∷ [])
    ∙ ap₂ (λ (x y : List Entry). x ++ y) so_far (ap (λ (x : Entry). x ∷ []) its_entry)
    ∙ sym (entries_more i tiles addrs h k)
    ∙ ap (λ n. entries_given (take n tiles) (take n addrs)) (let e : suc i ≡ i + 1 = omega arith in e)

pub entries_none : (tiles : List PlainTile) (addrs : List PlainAddress) → [] ≡ entries_given (take 0 tiles) (take 0 addrs)
entries_none tiles addrs = sym (ap₂ entries_given (none tiles) (none addrs))

pub entries_whole : (n : ℕ) (tiles : List PlainTile) (addrs : List PlainAddress) → length addrs ≡ length tiles → length tiles ≤ n
    → entries_given (take n tiles) (take n addrs) ≡ entries_given tiles addrs
entries_whole n tiles addrs same past = ap₂ entries_given (take_all n tiles past) (take_all n addrs (omega (arith, same, past)))

-- one more that fits
pub all_push : {A : Type 0} (P : A → Type 0) (xs : List A) (x : A) → All P xs → P x → All P (xs ++ x ∷ [])
all_push P [] x before last zero d l = last
all_push P [] x before last (suc k) d l = absurd (omega (arith, l))
all_push P (y ∷ ys) x before last zero d l = before 0 d (omega arith)
all_push P (y ∷ ys) x before last (suc k) d l =
    all_push P ys x (λ j e m. before (suc j) e (omega (arith, m))) last k d (omega (arith, l))

pub none_fit : {A : Type 0} (P : A → Type 0) → All P []
none_fit P = λ k d l. absurd (omega (arith, l))

-- what holds of each entry before one, and of it
pub one_more : (P : ℕ → Type 0) (i : ℕ) → ((j : ℕ) → j < i → P j) → P i → (j : ℕ) → j < i + 1 → P j
one_more P i before last j below = elim (cases_lt j i) [
  | inl h ↦ before j h
  | inr h ↦ subst P (let e : i ≡ j = omega (arith, h, below) in e) last
]

pub entries_length : (tiles : List PlainTile) (addrs : List PlainAddress) → length addrs ≡ length tiles
    → length (entries_given tiles addrs) ≡ length tiles
entries_length [] addrs same = refl
entries_length (t ∷ ts) [] same = absurd (omega (arith, same))
entries_length (t ∷ ts) (a ∷ bs) same = ap suc (entries_length ts bs (omega (arith, same)))

-- what is read of the entries of two arrays is so of these, and the other way round
module _ (t : Tiling) (f : FrameValue) (w : Window) (tiles : List PlainTile) (addrs : List PlainAddress) (own : List program.Entry)
    (is : entries_of own ≡ entries_given tiles addrs) where
  pub are_tiles : (n : ℕ) → AreEntries t tiles addrs → IsRightReading t f w (Ok (entries_of own)) n → AreTilesOf t f w tiles addrs
  are_tiles n each v = record {
    entries = each;
    right = subst (λ (es : List Entry). IsRightFor t f w es) (same v.entries v.read) v.right;
    unrefused = subst (λ (es : List Entry). AreUnrefused (is_refused t.order) (tiles_listed t es)) (same v.entries v.read) v.unrefused;
    centre_found = v.centre_found;
  }
    where
      same : (entries : List Entry) → (let r : Reading = Ok (entries_of own) in r) ≡ Ok entries → entries ≡ entries_given tiles addrs
      same entries e = sym (inside e) ∙ is
        where
          inside : (let r : Reading = Ok (entries_of own) in r) ≡ Ok entries → entries_of own ≡ entries
          inside e = cc e

  pub are_right : AreTilesOf t f w tiles addrs → IsRightReading t f w (Ok (entries_of own)) (length (entries_given tiles addrs))
  are_right r = record {
    entries = entries_given tiles addrs;
    read = ap (λ (es : List Entry). let r : Reading = Ok es in r) is;
    count = refl;
    right = r.right;
    unrefused = r.unrefused;
    centre_found = r.centre_found;
  }

-- a fault has not the status of an answer, nor those of bad words or a bad address
pub fault_not_ok : (why : ListFault) → ¬ status_told why ≡ ok
fault_not_ok TooLong e = absurd (cc e)
fault_not_ok (BadLine _ _) e = absurd (cc e)
fault_not_ok (Address _ _) e = absurd (cc e)
fault_not_ok (BadKind _) e = absurd (cc e)
fault_not_ok (NotOfFrame _) e = absurd (cc e)
fault_not_ok (Double _) e = absurd (cc e)
fault_not_ok (Missing _) e = absurd (cc e)
fault_not_ok (WrongPlace _ _) e = absurd (cc e)
fault_not_ok (Stray _) e = absurd (cc e)
fault_not_ok (DepthLimit _ _) e = absurd (cc e)
fault_not_ok (CoordLimit _) e = absurd (cc e)
fault_not_ok NoMemory e = absurd (cc e)

pub fault_not_words : (why : ListFault) → ¬ status_told why ≡ bad_words
fault_not_words TooLong e = absurd (cc e)
fault_not_words (BadLine _ _) e = absurd (cc e)
fault_not_words (Address _ _) e = absurd (cc e)
fault_not_words (BadKind _) e = absurd (cc e)
fault_not_words (NotOfFrame _) e = absurd (cc e)
fault_not_words (Double _) e = absurd (cc e)
fault_not_words (Missing _) e = absurd (cc e)
fault_not_words (WrongPlace _ _) e = absurd (cc e)
fault_not_words (Stray _) e = absurd (cc e)
fault_not_words (DepthLimit _ _) e = absurd (cc e)
fault_not_words (CoordLimit _) e = absurd (cc e)
fault_not_words NoMemory e = absurd (cc e)

pub fault_not_address : (why : ListFault) → ¬ status_told why ≡ bad_address
fault_not_address TooLong e = absurd (cc e)
fault_not_address (BadLine _ _) e = absurd (cc e)
fault_not_address (Address _ _) e = absurd (cc e)
fault_not_address (BadKind _) e = absurd (cc e)
fault_not_address (NotOfFrame _) e = absurd (cc e)
fault_not_address (Double _) e = absurd (cc e)
fault_not_address (Missing _) e = absurd (cc e)
fault_not_address (WrongPlace _ _) e = absurd (cc e)
fault_not_address (Stray _) e = absurd (cc e)
fault_not_address (DepthLimit _ _) e = absurd (cc e)
fault_not_address (CoordLimit _) e = absurd (cc e)
fault_not_address NoMemory e = absurd (cc e)

-- a right list is refused only if memory runs out
pub no_room : (r : Result ℕ ListFault) (why : ListFault) (n status : ℕ) → r ≡ Err why → status ≡ status_told why
    → (r ≡ Ok n) ⊎ (r ≡ Err NoMemory) → (status ≡ ok) ⊎ (status ≡ no_memory)
no_room r why n status e is (inl found) = absurd (not_both why n (sym e ∙ found))
  where
    not_both : (x : ListFault) (y : ℕ) → (let o : Result ℕ ListFault = Err x in o) ≡ Ok y → ⊥
    not_both x y e = absurd (cc e)
no_room r why n status e is (inr none) = inr (is ∙ ap status_told (same why NoMemory (sym e ∙ none)))
  where
    same : (x y : ListFault) → (let o : Result ℕ ListFault = Err x in o) ≡ Err y → x ≡ y
    same x y e = cc

-- entries have no fault of a text, so the number of theirs is 2 or more
pub some_fault : (t : Tiling) (f g : FrameValue) (w : Window) (entries : List Entry) (why : ListFault)
    → IsCauseIn t f g w (Ok entries) why → status_told why ≡ bad_listing → 2 ≤ fault_of why
some_fault t f g w entries TooLong cause e = absurd (cc cause)
some_fault t f g w entries (BadLine _ _) cause e = absurd (cc cause)
some_fault t f g w entries (Address _ _) cause e = absurd (cc cause)
some_fault t f g w entries (BadKind _) cause e = absurd (cc cause)
some_fault t f g w entries (NotOfFrame _) cause e = omega arith
some_fault t f g w entries (Double _) cause e = omega arith
some_fault t f g w entries (Missing _) cause e = omega arith
some_fault t f g w entries (WrongPlace _ _) cause e = omega arith
some_fault t f g w entries (Stray _) cause e = omega arith
some_fault t f g w entries (DepthLimit _ _) cause e = absurd (cc e)
some_fault t f g w entries (CoordLimit _) cause e = absurd (cc e)
some_fault t f g w entries NoMemory cause e = absurd (cc e)
