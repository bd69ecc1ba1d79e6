-- The entries of a document, once their key is read.
use Rattle.std.proofs.Common.{◌≡◌, ◌∙◌, ℕ, suc, ◌≤◌, List, [], ◌∷◌, length, map, Option, Some, None, Ok, codes, refl, sym, ap, arith}
use Rattle.std.specs.Prelude.{ok_or, option_and_then}
use Rattle.std.proofs.lemmas.Option.{same_Some}
use Rattle.std.proofs.lemmas.List.{length-map}
use Rattle.toml.specs.Data.{Data, string, integer, float, boolean, datetime, array, table, Items, no_items, item, Members, get_member, as_table}
use Rattle.cyclo_points.specs.declared.order.Order.{Order}
use Rattle.rule_text.specs.declared.key.Key.{Key}
use Rattle.rule_text.specs.declared.key.Key.TheVariants as key
use Rattle.rule_text.specs.declared.text_fault.TextFault.TheVariants.{Missing, WrongType, OutOfRange}
use Rattle.rule_text.specs.Forms.{each, list_of, tables}
use Rattle.rule_text.specs.Narrow.{item_count, IsNarrow, MayNarrow, AreNarrow}
use Rattle.rule_text.specs.Steps.{◌>>=◌, value_at, in_order}
use Rattle.rule_text.specs.Document.{type_in, kind_in, types_in, kinds_in}

pub types_in-entries : (ms : Members) (xs : List Members)
    → value_at key.TypeList (codes "type") tables Some ms ≡ Ok xs → types_in ms ≡ in_order type_in 0 xs
unfolding types_in
types_in-entries ms xs e = rw e refl

pub kinds_in-entries : (o : Order) (ms : Members) (xs : List Members)
    → value_at key.KindList (codes "kind") tables Some ms ≡ Ok xs → kinds_in o ms ≡ in_order (kind_in o) 0 xs
unfolding kinds_in
kinds_in-entries o ms xs e = rw e refl

-- ---- there are no more entries than the array has items

each-step : {B : Type 0} (n : ℕ) (o : Option B) (r : Option (List B)) (ys : List B) → ((zs : List B) → r ≡ Some zs → length zs ≡ n)
    → option_and_then (λ y. option_and_then (λ zs. Some (y ∷ zs)) r) o ≡ Some ys → length ys ≡ suc n
each-step n None r ys ih e = absurd cc
each-step n (Some y) None ys ih e = absurd cc
each-step n (Some y) (Some zs) ys ih e = sym (ap length (same_Some _ _ e)) ∙ ap suc (ih zs refl)

each-length : {A B : Type 0} (f : A → Option B) (xs : List A) (ys : List B) → each f xs ≡ Some ys → length ys ≡ length xs
each-length f [] ys e = sym (ap length (same_Some _ _ e))
each-length f (x ∷ xs) ys e = each-step (length xs) (f x) (each f xs) ys (each-length f xs) e

list_of-length : (ds : Items) → length (list_of ds) ≡ item_count ds
list_of-length no_items = refl
list_of-length (item d ds) = ap suc (list_of-length ds)

tables-few : (k : ℕ) (d : Data) (xs : List Members) → IsNarrow k d → tables d ≡ Some xs → length xs ≤ k
tables-few k (array ds) xs h e = omega (arith, h, each-length as_table (list_of ds) xs e, list_of-length ds)
tables-few k (string s) xs h e = absurd cc
tables-few k (integer z) xs h e = absurd cc
tables-few k (float x) xs h e = absurd cc
tables-few k (boolean b) xs h e = absurd cc
tables-few k (datetime dt) xs h e = absurd cc
tables-few k (table ms) xs h e = absurd cc

formed : (k : Key) (o : Option (List Members)) (xs : List Members)
    → (ok_or o (WrongType k) >>= λ x. ok_or (Some x) (OutOfRange k)) ≡ Ok xs → o ≡ Some xs
formed k None xs e = absurd cc
formed k (Some ys) xs e = cc

found : (n : ℕ) (k : Key) (o : Option Data) (xs : List Members) → MayNarrow n o
    → (ok_or o (Missing k) >>= λ d. ok_or (tables d) (WrongType k) >>= λ x. ok_or (Some x) (OutOfRange k))
    ≡ Ok xs → length xs ≤ n
found n k None xs h e = absurd cc
found n k (Some d) xs h e = tables-few n d xs h (formed k (tables d) xs e)

entries-few : (n : ℕ) (k : Key) (name : List ℕ) (ms : Members) (xs : List Members) → AreNarrow n ms
    → value_at k name tables Some ms ≡ Ok xs → length xs ≤ n
unfolding value_at
entries-few n k name ms xs h e = found n k (get_member name ms) xs (h name) e

-- entries that are seen as the tables of an array
pub seen-few : {A : Type 0} (n : ℕ) (k : Key) (name : List ℕ) (ms : Members) (seen : A → Members)
    (entries slice : List A) → AreNarrow n ms → value_at k name tables Some ms ≡ Ok (map seen entries)
    → slice ≡ entries
    → length slice ≤ n
seen-few n k name ms seen entries slice h e same =
    omega (arith, entries-few n k name ms (map seen entries) h e, length-map entries seen, ap length same)
