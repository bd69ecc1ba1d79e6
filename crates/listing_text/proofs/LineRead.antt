-- The entry of a line, by its first three words and what stands behind them.
use Rattle.std.proofs.lemmas.Bool.Decides.{nat_tests}
use Rattle.std.proofs.Common.{length, arith, suc, ◌≡◌, ℕ, true, false, cond, List, [], ◌∷◌, nat_eq, Some, Ok, Err, refl, sym, ap, ◌∙◌}
use Rattle.theory_addresses.specs.Address.{Address}
use Rattle.cyclo_points.specs.Text.{blank}
use Rattle.cyclo_points.specs.declared.motion.Motion.{Motion}
use Rattle.tile_shape.specs.AddressIn.{address_of_text}
use Rattle.tile_shape.specs.Text.{address_text, HasShortNumbers}
use Rattle.tile_shape.specs.declared.address_fault.AddressFault.{AddressFault}
use Rattle.tile_shape.specs.Words.{some_text, texts_between}
use Rattle.listing_text.specs.declared.listing_fault.ListingFault.TheVariants as faults
use Rattle.listing_text.specs.Listing.{entry_at, entry_of_words, entry_in}
use Rattle.listing_text.specs.Words.{listed_motion, listed_behind, listed_in}
use Rattle.listing_text.proofs.AddressAlone.{address_alone, address_some}
use Rattle.listing_text.proofs.NumberOn.{some_first}

-- ---- what stands behind three words
pub behind_none : (kind : ℕ) (motion : Motion) → listed_behind kind motion [] ≡ Err 3
unfolding listed_behind
behind_none kind motion = refl

pub behind_empty : (kind : ℕ) (motion : Motion) (texts : List (List ℕ)) → listed_behind kind motion ([] ∷ texts) ≡ Err 3
unfolding listed_behind
behind_empty kind motion texts = refl

pub behind_two : (kind : ℕ) (motion : Motion) (b : ℕ) (bs w : List ℕ) (ws : List (List ℕ)) → listed_behind kind motion ((b ∷ bs) ∷ w ∷ ws) ≡ Err 4
unfolding listed_behind
behind_two kind motion b bs w ws = refl

pub behind_one : (kind : ℕ) (motion : Motion) (b : ℕ) (bs : List ℕ)
    → listed_behind kind motion ((b ∷ bs) ∷ []) ≡ Ok
    (record { kind = kind; motion = motion; address = b ∷ bs })
unfolding listed_behind
behind_one kind motion b bs = refl

behind_address : (kind : ℕ) (motion : Motion) (a : Address) → HasShortNumbers a
    → listed_behind kind motion (texts_between blank (address_text a)) ≡ Ok (record { kind = kind; motion = motion; address = address_text a })
behind_address kind motion a h = ap (listed_behind kind motion) (address_alone a h) ∙ some (address_text a) (address_some a)
  where
    some : (t : List ℕ) → some_text t ≡ Some t → listed_behind kind motion (t ∷ []) ≡ Ok (record { kind = kind; motion = motion; address = t })
    some [] e = absurd (cc e)
    some (b ∷ bs) e = behind_one kind motion b bs

zero_of : (n : ℕ) → nat_eq (suc n) 0 ≡ true → ⊥
zero_of n h = grind (arith, nat_tests)

-- ---- lines
module _ (children : List (List ℕ)) (number : ℕ) (line : List ℕ) where
  pub start_wrong : (place : ℕ) → listed_motion (texts_between blank line) ≡ Err place
      → entry_in children number line ≡ Err (faults.BadLine number place)
  unfolding listed_in
  start_wrong place e = rw e

  pub started : (kind : ℕ) (motion : Motion) (texts : List (List ℕ)) → listed_motion (texts_between blank line) ≡ Ok (kind, motion, texts)
      → entry_in children number line ≡ entry_of_words children number (listed_behind kind motion texts)
  unfolding listed_in
  started kind motion texts e = rw e

  -- the fourth word is the text of an address
  module _ (kind : ℕ) (motion : Motion) (text : List ℕ) (a : Address)
      (start : listed_motion (texts_between blank line) ≡ Ok (kind, motion, texts_between blank text))
      (its_text : text ≡ address_text a) (short : HasShortNumbers a) (read : address_of_text children text ≡ Ok a) where
    by_kind : entry_in children number line ≡ entry_at number (record { kind = kind; motion = motion; address = text }) (Ok a)
    by_kind =
        started kind motion (texts_between blank text) start
        ∙ ap (entry_of_words children number)
        (ap (λ t. listed_behind kind motion (texts_between blank t)) its_text
        ∙ behind_address kind motion a short ∙ ap
        (λ t. Ok (record { kind = kind; motion = motion; address = t })) (sym its_text))
        ∙ ap (entry_at number (record { kind = kind; motion = motion; address = text })) read

    pub of_its_kind : nat_eq a.kind kind ≡ true → entry_in children number line ≡ Ok (record { motion = motion; address = a })
    of_its_kind e = by_kind ∙ ap (λ b. cond b (Ok (record { motion = motion; address = a })) (Err (faults.BadKind number))) e

    pub of_another_kind : nat_eq a.kind kind ≡ false → entry_in children number line ≡ Err (faults.BadKind number)
    of_another_kind e = by_kind ∙ ap (λ b. cond b (Ok (record { motion = motion; address = a })) (Err (faults.BadKind number))) e

  -- the fourth word is none, or there is a fifth, or its address is refused
  module _ (kind : ℕ) (motion : Motion) (text w : List ℕ) where
    pub no_fourth : (ws : List (List ℕ)) → texts_between blank text ≡ w ∷ ws → nat_eq (length w) 0 ≡ true
        → entry_of_words children number (listed_behind kind motion (texts_between blank text)) ≡ Err
        (faults.BadLine number 3)
    no_fourth ws e h = ap (λ ts. entry_of_words children number (listed_behind kind motion ts)) e ∙ empty w h
      where
        empty : (xs : List ℕ) → nat_eq (length xs) 0 ≡ true
            → entry_of_words children number (listed_behind kind motion (xs ∷ ws)) ≡ Err
            (faults.BadLine number 3)
        empty [] h = ap (entry_of_words children number) (behind_empty kind motion ws)
        empty (x ∷ xs) h = absurd (zero_of (length xs) h)

    pub a_fifth : (left : List ℕ) → texts_between blank text ≡ w ∷ texts_between blank left
        → nat_eq (length w) 0 ≡ false → entry_of_words children number
        (listed_behind kind motion (texts_between blank text)) ≡ Err (faults.BadLine number 4)
    a_fifth left e h = let s = some_first blank left in ap
        (λ ts. entry_of_words children number (listed_behind kind motion ts)) (e ∙ ap (λ ws. w ∷ ws) s.2)
        ∙ some w h s.0 s.1
      where
        some : (xs : List ℕ) → nat_eq (length xs) 0 ≡ false → (v : List ℕ) (vs : List (List ℕ))
            → entry_of_words children number (listed_behind kind motion (xs ∷ v ∷ vs)) ≡ Err
            (faults.BadLine number 4)
        some [] h v vs = absurd (cc h)
        some (x ∷ xs) h v vs = ap (entry_of_words children number) (behind_two kind motion x xs v vs)

    pub no_address : (fault : AddressFault) → texts_between blank text ≡ w ∷ [] → w ≡ text
        → nat_eq (length w) 0 ≡ false → address_of_text children text ≡ Err fault
        → entry_of_words children number (listed_behind kind motion (texts_between blank text)) ≡ Err (faults.Address number fault)
    no_address fault e whole h refused = ap (λ ts. entry_of_words children number
        (listed_behind kind motion ts)) e ∙ some w h (ap (address_of_text children) whole ∙ refused)
      where
        some : (xs : List ℕ) → nat_eq (length xs) 0 ≡ false → address_of_text children xs ≡ Err fault
            → entry_of_words children number (listed_behind kind motion (xs ∷ [])) ≡ Err
            (faults.Address number fault)
        some [] h r = absurd (cc h)
        some (x ∷ xs) h r = ap (entry_of_words children number) (behind_one kind motion x xs)
            ∙ ap (entry_at number (record { kind = kind; motion = motion; address = x ∷ xs })) r
