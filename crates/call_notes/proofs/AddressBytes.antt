-- The text of an address is of ASCII bytes.
use Rattle.std.proofs.Common.{ℕ, ◌<◌, List, [], ◌∷◌, zero, suc, IsAscii, IsUtf8, decimal, arith}
use Rattle.std.proofs.lemmas.Fmt.{IsAscii-decimal}
use Rattle.std.proofs.lemmas.Str.{IsAscii-append, IsUtf8-from_ascii}
use Rattle.std.proofs.lemmas.Str.Ascii.{IsAscii-nil}
use Rattle.std.specs.List.{AllByRecursion}
use Rattle.theory_addresses.specs.Address.{Step, Address}
use Rattle.tile_shape.specs.Text.{digit_text, digits_text, address_text, IsShort, HasShortNumbers, slash, comma, colon}

mark : (c : ℕ) (bs : List ℕ) → c < 128 → IsAscii bs → IsAscii (c ∷ bs)
mark c bs h k zero = h
mark c bs h k (suc i) = k i

short_number : (n : ℕ) → n < 1000 → IsAscii (decimal n)
short_number n h = IsAscii-decimal n (omega (arith, h))

digit : (d : Step) → IsShort d → IsAscii (digit_text d)
digit d h = IsAscii-append (decimal d.child) (slash ∷ decimal d.parent) (short_number d.child h.child)
    (mark slash (decimal d.parent) (omega arith) (short_number d.parent h.parent))

digits : (ds : List Step) → AllByRecursion IsShort ds → IsAscii (digits_text ds)
digits [] h = IsAscii-nil
digits (d ∷ []) h = digit d h.0
digits (d ∷ e ∷ ds) h = IsAscii-append (digit_text d) (comma ∷ digits_text (e ∷ ds)) (digit d h.0)
    (mark comma (digits_text (e ∷ ds)) (omega arith) (digits (e ∷ ds) h.1))

pub address_is_utf8 : (a : Address) → HasShortNumbers a → IsUtf8 (address_text a)
address_is_utf8 a h =
    IsUtf8-from_ascii (address_text a) (IsAscii-append (decimal a.kind) (colon ∷ digits_text a.digits)
    (short_number a.kind h.kind) (mark colon (digits_text a.digits) (omega arith)
    (digits a.digits h.digits)))
