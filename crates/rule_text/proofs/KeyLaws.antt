-- A key whose value is there and has its form.
use Rattle.std.proofs.Common.{◌≡◌, ℕ, List, Option, Some, None, Result, refl}
use Rattle.std.specs.Prelude.{ok_or, option_map}
use Rattle.toml.specs.Data.{Data, Members, get_member}
use Rattle.rule_text.specs.declared.key.Key.{Key}
use Rattle.rule_text.specs.declared.text_fault.TextFault.{TextFault}
use Rattle.rule_text.specs.declared.text_fault.TextFault.TheVariants.{OutOfRange}
use Rattle.rule_text.specs.Agrees.{ReadsAs}
use Rattle.rule_text.specs.Steps.{value_at}

pub value_at-formed : {A B : Type 0} (key : Key) (name : List ℕ) (form : Data → Option A)
    (range : A → Option B) (members : Members) (d : Data) (x : A) (o : Option B)
    → get_member name members ≡ Some d → form d ≡ Some x → range x ≡ o → value_at key name form range members ≡ ok_or o (OutOfRange key)
unfolding value_at
value_at-formed key name form range _ d x o e1 e2 e3 = rw (e1, e2, e3) refl

pub Gives-ok_or : {X Y : Type 0} (seen : X → Y) (found : Option X) (e : TextFault) (read : Result Y TextFault)
    → read ≡ ok_or (option_map seen found) e → ReadsAs seen (ok_or found e) read
Gives-ok_or seen None e read h = λ _. h
Gives-ok_or seen (Some x) e read h = h
