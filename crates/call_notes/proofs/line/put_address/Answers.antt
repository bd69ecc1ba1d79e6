use Rattle.std.proofs.Common.{Result, Ok, Err, IsOk, MatchResult, refl, subst, sym, ◌∙◌, IsUtf8}
use Rattle.tile_shape.specs.Views.{address_of}
use Rattle.call_notes.proofs.AddressBytes.{address_is_utf8}
use Rattle.call_notes.proofs.line.put_address.Goals as goal

is_ok : {T E : Type 0} (r : Result T E) (U : Type 0) (P : T → Type 0) (Q : E → Type 0) → MatchResult r P (λ e. (¬ U) × Q e) → U → IsOk r
is_ok (Ok x) U P Q h u = refl
is_ok (Err e) U P Q h u = absurd (h.0 u)

pub unwrap-requires : goal.unwrap-requires
unwrap-requires c =
    let utf8 : IsUtf8 c.as_slice.result.now = subst IsUtf8
    (sym (c.as_slice.ensures.value ∙ c.write_address-text.ensures.text))
    (address_is_utf8 (address_of c.args.addr.now) c.write_address-text.ensures.short) in
    is_ok c.from_utf8.result (IsUtf8 c.as_slice.result.now) _ _ c.from_utf8.ensures.cases utf8
