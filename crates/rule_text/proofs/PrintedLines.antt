-- How long the lines of a document are printed.
use Rattle.std.proofs.Common.{◌≡◌, ◌∙◌, ℕ, suc, ◌+◌, ◌*◌, ◌≤◌, Bool, true, false, List, [], ◌∷◌, ◌++◌, All, length, map, codes, refl, sym, ap, subst, inl, inr, append_assoc, length-append, suc-mul, arith}
use Rattle.std.proofs.lemmas.Bool.{cases_Bool}
use Rattle.toml_parser.specs.Lexical.{line_feed}
use Rattle.toml_writer.specs.Text.{key_text}
use Rattle.toml.specs.Data.{Data, table, Members, member}
use Rattle.toml.specs.Tables.{key_value, array_table, Expression}
use Rattle.toml.specs.Text.{IsLineText, IsLinesText, is_section, pairs, sections, elements, gap, header_open, header_close}
use Rattle.toml.specs.View.{items_of}
use Rattle.rule_text.proofs.PrintedValues.{IsShort}

-- each text of the line, or of the lines, has at most n bytes
abbrev pub IsShortLine : ℕ → Expression → Type 0
IsShortLine n e = (started : Bool) (text : List ℕ) → IsLineText false started e.0 e.1 text → length text ≤ n

abbrev pub AreShort : ℕ → List Expression → Type 0
AreShort n es = (started : Bool) (text : List ℕ) → IsLinesText false started es text → length text ≤ n

pub none-short : AreShort 0 []
none-short started text h = omega (arith, ap length h)

pub more-short : (n m : ℕ) (e : Expression) (es : List Expression) → IsShortLine n e → AreShort m es → AreShort (n + m) (e ∷ es)
more-short n m e es first others started text (this, rest, eq, line, lines) =
    omega (arith, ap length eq, length-append this rest, first started this line, others true rest lines)

-- the text of some lines and of further lines is cut between them
record Cut (started : Bool) (es fs : List Expression) (text : List ℕ) : Type 0 where
  between : Bool
  front : List ℕ
  back : List ℕ
  joined : text ≡ front ++ back
  first : IsLinesText false started es front
  second : IsLinesText false between fs back

cut : (es fs : List Expression) (started : Bool) (text : List ℕ) → IsLinesText false started (es ++ fs) text → Cut started es fs text
cut [] fs started text h = record { between = started; front = []; back = text; joined = refl; first = refl; second = h }
cut (e ∷ es) fs started text (this, rest, eq, line, lines) =
    let c = cut es fs true rest lines in
    record {
      between = c.between;
      front = this ++ c.front;
      back = c.back;
      joined = eq ∙ (ap (λ bytes. this ++ bytes) c.joined ∙ sym (append_assoc this c.front c.back));
      first = (this, c.front, refl, line, c.first);
      second = c.second;
    }

pub both-short : (n m : ℕ) (es fs : List Expression) → AreShort n es → AreShort m fs → AreShort (n + m) (es ++ fs)
both-short n m es fs first second started text h =
    let c = cut es fs started text h in
    omega (arith, ap length c.joined, length-append c.front c.back, first started c.front c.first, second c.between c.back c.second)

-- a key and its value, with ` = ` between them and a newline behind
pub pair-short : (n : ℕ) (k : List ℕ) (d : Data) → length (key_text k) ≤ 10 → IsShort n d → IsShortLine (n + 14) (([], k), key_value d)
pair-short n k d short value started text (this, eq, h) =
    let tail = this ++ line_feed ∷ [] in
    omega (
      arith,
      ap length eq,
      length-append (key_text k) (codes " = " ++ tail),
      length-append (codes " = ") tail,
      length-append this (line_feed ∷ []),
      short,
      value this h,
    )

gap-short : (started : Bool) → length (gap started) ≤ 1
gap-short true = omega arith
gap-short false = omega arith

-- the header of an element of an array of tables
pub header-short : (k : List ℕ) → length (key_text k) ≤ 10 → IsShortLine 17 (([], k), array_table)
header-short k short started text h =
    let closed = key_text k ++ header_close true in
    omega (
      arith,
      ap length h,
      length-append (gap started) (header_open true ++ closed),
      length-append (header_open true) closed,
      length-append (key_text k) (header_close true),
      gap-short started,
      short,
    )

-- a key whose value is a table, or an array of tables, is no pair
pub section-apart : (k : List ℕ) (d : Data) (ms : Members) → is_section d ≡ true → pairs (member k d ms) ≡ pairs ms
section-apart k d ms e = rw e refl

pub member-short : (n m : ℕ) (k : List ℕ) (d : Data) (ms : Members) → length (key_text k) ≤ 10 → IsShort n d
    → AreShort m (pairs ms) → AreShort (n + 14 + m) (pairs (member k d ms))
member-short n m k d ms short value others =
    elim (cases_Bool (is_section d)) [
      | inl apart ↦ rw apart (λ started text h. omega (arith, others started text h))
      | inr among ↦ rw among (more-short (n + 14) m (([], k), key_value d) (pairs ms) (pair-short n k d short value) others)
    ]

-- the elements of an array of tables, each with no tables of its own
pub elements-short : {A : Type 0} (n : ℕ) (k : List ℕ) (members : A → Members) (xs : List A) → length (key_text k) ≤ 10
    → All (λ x. AreShort n (pairs (members x)) × (sections (k ∷ []) (members x) ≡ [])) xs
    → AreShort (length xs * (n + 17)) (elements ([], k) (items_of (map (λ x. table (members x)) xs)))
elements-short n k members [] short all started text h = omega (arith, none-short started text h)
elements-short n k members (x ∷ xs) short all started text h =
    let (own, alone) = all 0 x (omega arith) in
    let ms = members x in
    let others = elements ([], k) (items_of (map (λ y. table (members y)) xs)) in
    let entry : AreShort (n + 0) (pairs ms ++ sections (k ∷ []) ms) = subst
    (λ es. AreShort (n + 0) (pairs ms ++ es)) (sym alone) (both-short n 0 (pairs ms) [] own none-short) in
    let behind : AreShort (length xs * (n + 17)) others = elements-short n k members xs short (λ i d lt. all (suc i) d (omega (arith, lt))) in
    let lines = both-short (n + 0) (length xs * (n + 17)) (pairs ms ++ sections (k ∷ []) ms) others entry behind in
    let whole = more-short 17 (n + 0 + length xs * (n + 17)) (([], k), array_table)
    ((pairs ms ++ sections (k ∷ []) ms) ++ others) (header-short k short) lines in
    omega (arith, whole started text h, suc-mul (length xs) (n + 17))
