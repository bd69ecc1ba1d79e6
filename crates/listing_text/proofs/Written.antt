-- The lines of entries, as they are written, are read back as these entries.
use Rattle.std.proofs.Common.{◌≡◌, ◌≢◌, ℕ, zero, suc, ℤ, pos, negsuc, ◌≤ℤ◌, ◌+◌, ◌<◌, ◌≤◌, ◌^◌, ◌%◌, true, false, cond, List, [], ◌∷◌, ◌++◌, map, flat_map, length, get_or, Option, Some, Ok, Err, nat_le, nat_eq, refl, sym, ap, subst, ◌∙◌, append_assoc, arith}
use Rattle.std.proofs.lemmas.Int.{ints}
use Rattle.std.proofs.lemmas.Bool.{le-leb}
use Rattle.std.proofs.lemmas.Bool.Decides.{nat_tests}
use Rattle.std.proofs.lemmas.Fmt.{decimal_by_steps}
use Rattle.std.proofs.lemmas.List.Elements.{All-nil, All-cons, All-push, All-append, All-weaker}
use Rattle.std.proofs.lemmas.List.Splits.{slice_split_at, slice_split_none}
use Rattle.std.specs.Fmt.{decimal, signed_decimal}
use Rattle.std.specs.List.{All, AllByRecursion, join_with_byte}
use Rattle.theory_addresses.specs.Address.{Address, Step}
use Rattle.cyclo_points.specs.Text.{blank, newline, point_text, motion_text, coefficients_text}
use Rattle.cyclo_points.specs.declared.motion.Motion.{Motion}
use Rattle.cyclo_points.specs.declared.point.Point.{Point}
use Rattle.cyclo_points.specs.Point.{coefficient, Within, IsWithin}
use Rattle.tile_shape.specs.Accepted.{IsAcceptedAddress}
use Rattle.tile_shape.specs.AddressIn.{address_of_text}
use Rattle.tile_shape.specs.Decimal.{number_up_to}
use Rattle.tile_shape.specs.Text.{colon, comma, slash, digit_text, digits_text, address_text, IsShort, HasShortNumbers}
use Rattle.tile_shape.specs.Usable.{AreUsable}
use Rattle.tile_shape.specs.Words.{texts_between}
use Rattle.listing_text.specs.declared.listing_fault.ListingFault.TheVariants.{TooLong}
use Rattle.listing_text.specs.Limits.{most_lines, most_shift}
use Rattle.listing_text.specs.Lines.{lines_in}
use Rattle.listing_text.specs.Listing.{Entry, entry_in, entries_before, first_then, entries_from, entries_of_lines, listing_in}
use Rattle.listing_text.specs.Signed.{signed_in, shift_in}
use Rattle.listing_text.specs.Words.{listed_motion}
use Rattle.listing_text.specs.Written.{entry_text, entries_text, CanBeListed, CanAllBeListed}
use Rattle.listing_text.proofs.LineRead.{of_its_kind}
use Rattle.listing_text.proofs.ListedLines.{line_cut}
use Rattle.listing_text.proofs.Numbers.{size, number_back, signed_back}

-- ---- which bytes are written: figures from 48 on, `-` is 45, `,` 44, `/` 47, `:` 58
abbrev From : ℕ → ℕ → Type 0
From least byte = least ≤ byte

higher : (m n : ℕ) (bs : List ℕ) → m ≤ n → All (From n) bs → All (From m) bs
higher m n bs h = All-weaker (From n) (From m) (λ b k. omega (arith, h, k)) bs

not_the : (byte least : ℕ) (bs : List ℕ) → byte < least → All (From least) bs → All (λ b. nat_eq b byte ≡ false) bs
not_the byte least bs h = All-weaker (From least) (λ b. nat_eq b byte ≡ false) (λ b k. other b k) bs
  where
    other : (b : ℕ) → least ≤ b → nat_eq b byte ≡ false
    other b k = grind (arith, nat_tests)

decimal_bytes : (n : ℕ) → n < 2 ^ 64 → All (From 48) (decimal n)
decimal_bytes n h =
    decimal_by_steps (λ m ds. All (From 48) ds)
    (λ m l. All-cons (From 48) (48 + m) [] (omega arith) (All-nil (From 48)))
    (λ m ds l p. All-push (From 48) ds (48 + m % 10) p (omega arith))
    n h

signed_bytes : (z : ℤ) → size z < 2 ^ 64 → All (From 45) (signed_decimal z)
signed_bytes (pos n) h = higher 45 48 (decimal n) (omega arith) (decimal_bytes n h)
signed_bytes (negsuc n) h = All-cons (From 45) 45 (decimal (suc n)) (omega arith)
    (higher 45 48 (decimal (suc n)) (omega arith) (decimal_bytes (suc n) h))

-- two texts with a byte between them
joined : (least byte : ℕ) (xs ys : List ℕ) → least ≤ byte → All (From least) xs → All (From least) ys → All (From least) (xs ++ byte ∷ ys)
joined least byte xs ys h x y = All-append (From least) xs (byte ∷ ys) x (All-cons (From least) byte ys h y)

short_bytes : (n : ℕ) → n < 1000 → All (From 44) (decimal n)
short_bytes n h = higher 44 48 (decimal n) (omega arith) (decimal_bytes n (omega (arith, h)))

digit_bytes : (d : Step) → IsShort d → All (From 44) (digit_text d)
digit_bytes d h = joined 44 slash (decimal d.child) (decimal d.parent) (omega arith) (short_bytes d.child h.child) (short_bytes d.parent h.parent)

digits_bytes : (ds : List Step) → AllByRecursion IsShort ds → All (From 44) (digits_text ds)
digits_bytes [] h = All-nil (From 44)
digits_bytes (d ∷ []) h = digit_bytes d h.0
digits_bytes (d ∷ e ∷ ds) h = joined 44 comma (digit_text d) (digits_text (e ∷ ds)) (omega arith) (digit_bytes d h.0) (digits_bytes (e ∷ ds) h.1)

address_bytes : (a : Address) → HasShortNumbers a → All (From 44) (address_text a)
address_bytes a h = joined 44 colon (decimal a.kind) (digits_text a.digits) (omega arith) (short_bytes a.kind h.kind) (digits_bytes a.digits h.digits)

-- ---- a shift is read back
within-size : (z : ℤ) → Within most_shift z → size z ≤ most_shift
within-size (pos n) h = let k = h.high in omega (arith, ints, k)
within-size (negsuc n) h = let k = h.low in omega (arith, ints, k)

module _ (w x y z : ℤ) (hw : size w ≤ most_shift) (hx : size x ≤ most_shift) (hy : size y ≤ most_shift) (hz : size z ≤ most_shift) where
  abbrev pub A : List ℕ
  A = signed_decimal w

  abbrev pub B : List ℕ
  B = signed_decimal x

  abbrev pub C : List ℕ
  C = signed_decimal y

  abbrev pub D : List ℕ
  D = signed_decimal z

  small : (n : ℕ) → n ≤ most_shift → n < 2 ^ 64
  small n h = omega (arith, h)

  bytes : (v : ℤ) → size v ≤ most_shift → All (From 45) (signed_decimal v)
  bytes v h = signed_bytes v (small (size v) h)

  plain : (v : ℤ) → size v ≤ most_shift → All (λ b. nat_eq b comma ≡ false) (signed_decimal v)
  plain v h = not_the comma 45 (signed_decimal v) (omega arith) (bytes v h)

  abbrev pub four_text : List ℕ
  four_text = A ++ comma ∷ (B ++ comma ∷ (C ++ comma ∷ D))

  pub four_texts : texts_between comma four_text ≡ A ∷ B ∷ C ∷ D ∷ []
  four_texts =
      slice_split_at (λ b. nat_eq b comma) A comma (B ++ comma ∷ (C ++ comma ∷ D)) (plain w hw) refl
      ∙ ap (λ ts. A ∷ ts) (slice_split_at (λ b. nat_eq b comma) B comma (C ++ comma ∷ D) (plain x hx) refl
      ∙ ap (λ ts. B ∷ ts) (slice_split_at (λ b. nat_eq b comma) C comma D (plain y hy) refl
      ∙ ap (λ ts. C ∷ ts) (slice_split_none (λ b. nat_eq b comma) D (plain z hz))))

  back : (v : ℤ) → size v ≤ most_shift → signed_in (signed_decimal v) ≡ Some v
  back v h = signed_back most_shift v h (small (size v) h)

  pub four_back : shift_in four_text ≡ Some (record { c = w ∷ x ∷ y ∷ z ∷ [] })
  four_back = rw (four_texts, back w hw, back x hx, back y hy, back z hz)

  pub four_bytes : All (From 44) four_text
  four_bytes =
      joined 44 comma A (B ++ comma ∷ (C ++ comma ∷ D)) (omega arith) (higher 44 45 A (omega arith) (bytes w hw))
      (joined 44 comma B (C ++ comma ∷ D) (omega arith) (higher 44 45 B (omega arith) (bytes x hx))
      (joined 44 comma C D (omega arith) (higher 44 45 C (omega arith) (bytes y hy)) (higher 44 45 D (omega arith) (bytes z hz))))

-- the text of a shift within the limit is read back, and has no byte below `,`
record IsRead (p : Point) : Type 0 where
  pub back : shift_in (point_text p) ≡ Some p
  pub bytes : All (From 44) (point_text p)

shift_read : (p : Point) → length p.c ≡ 4 → IsWithin most_shift p → IsRead p
shift_read p four h = by_list p.c four refl h
  where
    by_list : (cs : List ℤ) → length cs ≡ 4 → p.c ≡ cs → IsWithin most_shift p → IsRead p
    by_list (w ∷ x ∷ y ∷ z ∷ []) e is h = subst IsRead (sym same) (record {
      back = four_back w x y z (within-size w l.at_0) (within-size x l.at_1) (within-size y l.at_2) (within-size z l.at_3);
      bytes = four_bytes w x y z (within-size w l.at_0) (within-size x l.at_1) (within-size y l.at_2) (within-size z l.at_3);
    })
      where
        same : p ≡ record { c = w ∷ x ∷ y ∷ z ∷ [] }
        same = ap (λ (cs : List ℤ). record { c = cs }) is

        l : IsWithin most_shift (record { c = w ∷ x ∷ y ∷ z ∷ [] })
        l = subst (IsWithin most_shift) same h
    by_list [] e is h = absurd (omega (arith, e))
    by_list (w ∷ []) e is h = absurd (omega (arith, e))
    by_list (w ∷ x ∷ []) e is h = absurd (omega (arith, e))
    by_list (w ∷ x ∷ y ∷ []) e is h = absurd (omega (arith, e))
    by_list (w ∷ x ∷ y ∷ z ∷ v ∷ cs) e is h = absurd (omega (arith, e))

-- ---- a line
-- three words that are read, before others
three_words : (k t s : List ℕ) (ws : List (List ℕ)) (kind turn : ℕ) (shift : Point)
    → number_up_to 255 k ≡ Some kind → number_up_to 255 t ≡ Some turn → shift_in s ≡ Some shift
    → listed_motion (k ∷ t ∷ s ∷ ws) ≡ Ok (kind, record { turn = turn; shift = shift }, ws)
unfolding listed_motion
three_words k t s ws kind turn shift a b c = rw (a, b, c)

module _ (children : List (List ℕ)) (usable : AreUsable children) (e : Entry) (can : CanBeListed children e)
    (short : HasShortNumbers e.address) (read : address_of_text children (address_text e.address) ≡ Ok e.address)
  where
    abbrev pub K : List ℕ
    K = decimal e.address.kind

    abbrev pub T : List ℕ
    T = decimal e.motion.turn

    abbrev pub S : List ℕ
    S = point_text e.motion.shift

    abbrev pub N : List ℕ
    N = address_text e.address

    kind_below : e.address.kind < 1000
    kind_below = short.kind

    shift : IsRead e.motion.shift
    shift = shift_read e.motion.shift can.four can.within

    K_bytes : All (From 44) K
    K_bytes = short_bytes e.address.kind kind_below

    T_bytes : All (From 44) T
    T_bytes = let t = can.turn in higher 44 48 T (omega arith) (decimal_bytes e.motion.turn (omega (arith, t)))

    -- the parts stand behind each other
    flat : entry_text e ≡ K ++ blank ∷ (T ++ blank ∷ (S ++ blank ∷ N))
    flat = append_assoc K (blank ∷ (T ++ blank ∷ S)) (blank ∷ N) ∙ ap (λ t. K ++ blank ∷ t) (append_assoc T (blank ∷ S) (blank ∷ N))

    no_blank : (bs : List ℕ) → All (From 44) bs → All (λ b. nat_eq b blank ≡ false) bs
    no_blank bs = not_the blank 44 bs (omega arith)

    its_words : texts_between blank (entry_text e) ≡ K ∷ T ∷ S ∷ texts_between blank N
    its_words =
        ap (texts_between blank) flat
        ∙ slice_split_at (λ b. nat_eq b blank) K blank (T ++ blank ∷ (S ++ blank ∷ N)) (no_blank K K_bytes) refl
        ∙ ap (λ ts. K ∷ ts) (slice_split_at (λ b. nat_eq b blank) T blank (S ++ blank ∷ N) (no_blank T T_bytes) refl
        ∙ ap (λ ts. T ∷ ts) (slice_split_at (λ b. nat_eq b blank) S blank N (no_blank S shift.bytes) refl))

    -- a kind of a table is below 16
    module _ (kind_small : e.address.kind ≤ 255) where
      start : listed_motion (texts_between blank (entry_text e)) ≡ Ok (e.address.kind, e.motion, texts_between blank N)
      start =
          let t = can.turn in
          ap listed_motion its_words
          ∙ three_words K T S (texts_between blank N) e.address.kind e.motion.turn e.motion.shift
          (number_back 255 e.address.kind kind_small (omega (arith, kind_small))) (number_back 255 e.motion.turn t (omega (arith, t))) shift.back

      pub entry_back : (number : ℕ) → entry_in children number (entry_text e) ≡ Ok e
      entry_back number = of_its_kind children number (entry_text e) e.address.kind e.motion N e.address start refl short read same
        where
          same : nat_eq e.address.kind e.address.kind ≡ true
          same = grind (arith, nat_tests)

    pub entry_bytes : All (λ b. nat_eq b newline ≡ false) (entry_text e)
    entry_bytes = subst (All (λ b. nat_eq b newline ≡ false)) (sym flat) (not_the newline 32 _ (omega arith) whole)
      where
        low : (bs : List ℕ) → All (From 44) bs → All (From 32) bs
        low bs = higher 32 44 bs (omega arith)

        whole : All (From 32) (K ++ blank ∷ (T ++ blank ∷ (S ++ blank ∷ N)))
        whole =
            joined 32 blank K (T ++ blank ∷ (S ++ blank ∷ N)) (omega arith) (low K K_bytes)
            (joined 32 blank T (S ++ blank ∷ N) (omega arith) (low T T_bytes)
            (joined 32 blank S N (omega arith) (low S shift.bytes) (low N (address_bytes e.address short))))

-- ---- a listing
-- what the laws of addresses give of each entry
pub record AddressLaws (children : List (List ℕ)) : Type 0 where
  pub usable : AreUsable children
  pub short : (a : Address) → IsAcceptedAddress children a → HasShortNumbers a
  pub read : (a : Address) → IsAcceptedAddress children a → address_of_text children (address_text a) ≡ Ok a

module _ (children : List (List ℕ)) (laws : AddressLaws children) where
  first_back : (e : Entry) → CanBeListed children e → (number : ℕ) → entry_in children number (entry_text e) ≡ Ok e
  first_back e can number =
      let few = laws.usable.at_most_16_kinds in
      let exists = can.address.fits.kind_exists in
      entry_back children laws.usable e can (laws.short e.address can.address) (laws.read e.address can.address) (omega (arith, few, exists)) number

  first_line : (e : Entry) (es : List Entry) → CanBeListed children e → lines_in (entries_text (e ∷ es)) ≡ entry_text e ∷ lines_in (entries_text es)
  first_line e es can =
      ap lines_in (append_assoc (entry_text e) (newline ∷ []) (entries_text es))
      ∙ line_cut (entry_text e ++ newline ∷ entries_text es) (entry_text e) (entries_text es)
      (slice_split_at (λ b. nat_eq b newline) (entry_text e) newline (entries_text es)
      (entry_bytes children laws.usable e can (laws.short e.address can.address) (laws.read e.address can.address)) refl)

  all_lines : (es : List Entry) → AllByRecursion (CanBeListed children) es → lines_in (entries_text es) ≡ map entry_text es
  all_lines [] h = refl
  all_lines (e ∷ es) h = first_line e es h.0 ∙ ap (λ ls. entry_text e ∷ ls) (all_lines es h.1)

  all_entries : (es : List Entry) → AllByRecursion (CanBeListed children) es → (number : ℕ) → entries_from children number (map entry_text es) ≡ Ok es
  all_entries [] h number = refl
  all_entries (e ∷ es) h number =
      ap (λ o. first_then o (entries_from children (number + 1) (map entry_text es))) (first_back e h.0 number)
      ∙ ap (entries_before (e ∷ [])) (all_entries es h.1 (number + 1))

  pub listing_back : (es : List Entry) → CanAllBeListed children es → listing_in children (entries_text es) ≡ Ok es
  listing_back es can =
      ap (entries_of_lines children) (all_lines es can.each)
      ∙ few
    where
      count : (es : List Entry) → length (map entry_text es) ≡ length es
      count [] = refl
      count (e ∷ es) = ap suc (count es)

      few : entries_of_lines children (map entry_text es) ≡ Ok es
      few =
          ap (λ n. cond (nat_le n most_lines) (entries_from children 1 (map entry_text es)) (Err TooLong)) (count es)
          ∙ ap (λ b. cond b (entries_from children 1 (map entry_text es)) (Err TooLong)) (le-leb (length es) most_lines can.few)
          ∙ all_entries es can.each 1
