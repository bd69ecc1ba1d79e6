-- A document has no other fault than one of a key or of a place.
use Rattle.std.proofs.Common.{◌≢◌, ℕ, suc, Bool, true, false, List, [], ◌∷◌, Option, Some, None, Result, Ok, Err, subst}
use Rattle.std.specs.Prelude.{ok_or, if◌then◌else◌}
use Rattle.toml.specs.Data.{Data, Members}
use Rattle.cyclo_points.specs.declared.order.Order.{Order}
use Rattle.rule_text.specs.declared.key.Key.{Key}
use Rattle.rule_text.specs.declared.place.Place.{Place}
use Rattle.rule_text.specs.declared.place.Place.TheVariants.{Top, InType, InKind}
use Rattle.rule_text.specs.declared.text_fault.TextFault.{TextFault}
use Rattle.rule_text.specs.declared.text_fault.TextFault.TheVariants.{NotToml, Missing, WrongType, OutOfRange, UnknownKey, NoMemory}
use Rattle.rule_text.specs.Steps.{◌>>=◌, value_at, has_only, unless_further, in_order}
use Rattle.rule_text.specs.Document.{type_keys, kind_keys, top_keys, type_in, kind_in, types_in, kinds_in, rule_of_members}

-- a fault of a key or of a place
abbrev IsOfDocument : TextFault → Type 0
IsOfDocument NotToml = ⊥
IsOfDocument NoMemory = ⊥
IsOfDocument (Missing key) = Unit {0}
IsOfDocument (WrongType key) = Unit {0}
IsOfDocument (OutOfRange key) = Unit {0}
IsOfDocument (UnknownKey place) = Unit {0}

abbrev IsOwn : {A : Type 0} → Result A TextFault → Type 0
IsOwn (Ok x) = Unit {0}
IsOwn (Err e) = IsOfDocument e

own-then : {A B : Type 0} (r : Result A TextFault) (f : A → Result B TextFault) → IsOwn r → ((x : A) → IsOwn (f x)) → IsOwn (r >>= f)
own-then (Ok x) f h more = more x
own-then (Err e) f h more = h

own-ok_or : {A : Type 0} (o : Option A) (e : TextFault) → IsOfDocument e → IsOwn (ok_or o e)
own-ok_or None e h = h
own-ok_or (Some x) e h = tt

own-value : {A B : Type 0} (key : Key) (name : List ℕ) (form : Data → Option A) (range : A → Option B)
    (ms : Members) → IsOwn (value_at key name form range ms)
unfolding value_at
own-value key name form range ms =
    own-then (ok_or _ (Missing key)) _ (own-ok_or _ (Missing key) tt)
    (λ d. own-then (ok_or (form d) (WrongType key)) _ (own-ok_or (form d) (WrongType key) tt)
    (λ x. own-ok_or (range x) (OutOfRange key) tt))

own-test : {A : Type 0} (b : Bool) (place : Place) (x : A) → IsOwn (if b then Ok x else Err (UnknownKey place))
own-test true place x = tt
own-test false place x = tt

own-further : {A : Type 0} (names : List (List ℕ)) (place : Place) (ms : Members) (x : A) → IsOwn (unless_further names place ms x)
own-further names place ms x = own-test (has_only names ms) place x

own-order : {A B : Type 0} (f : ℕ → A → Result B TextFault) → ((n : ℕ) (x : A) → IsOwn (f n x)) → (n : ℕ) (xs : List A) → IsOwn (in_order f n xs)
own-order f h n [] = tt
own-order f h n (x ∷ xs) = own-then (f n x) _ (h n x) (λ y. own-then (in_order f (suc n) xs) _ (own-order f h (suc n) xs) (λ ys. tt))

own-type : (ty : ℕ) (ms : Members) → IsOwn (type_in ty ms)
unfolding type_in
own-type ty ms =
    own-then (value_at _ _ _ _ ms) _ (own-value _ _ _ _ ms)
    (λ mate. own-then (value_at _ _ _ _ ms) _ (own-value _ _ _ _ ms)
    (λ parts. own-further type_keys (InType ty) ms (record { mate = mate; parts = parts })))

own-kind : (o : Order) (k : ℕ) (ms : Members) → IsOwn (kind_in o k ms)
unfolding kind_in
own-kind o k ms =
    own-then (value_at _ _ _ _ ms) _ (own-value _ _ _ _ ms)
    (λ vertices. own-then (value_at _ _ _ _ ms) _ (own-value _ _ _ _ ms)
    (λ edges. own-then (value_at _ _ _ _ ms) _ (own-value _ _ _ _ ms)
    (λ children. own-further kind_keys (InKind k) ms
    (record { vertices = vertices; edges = edges; children = children }))))

own-types : (ms : Members) → IsOwn (types_in ms)
unfolding types_in
own-types ms = own-then (value_at _ _ _ _ ms) _ (own-value _ _ _ _ ms) (λ entries. own-order type_in own-type 0 entries)

own-kinds : (o : Order) (ms : Members) → IsOwn (kinds_in o ms)
unfolding kinds_in
own-kinds o ms = own-then (value_at _ _ _ _ ms) _ (own-value _ _ _ _ ms) (λ entries. own-order (kind_in o) (own-kind o) 0 entries)

own-rule : (ms : Members) → IsOwn (rule_of_members ms)
unfolding rule_of_members
own-rule ms =
    own-then (value_at _ _ _ _ ms) _ (own-value _ _ _ _ ms) (λ edition. own-then (value_at _ _ _ _ ms) _ (own-value _ _ _ _ ms)
    (λ order. own-then (value_at _ _ _ _ ms) _ (own-value _ _ _ _ ms) (λ factor. own-then (value_at _ _ _ _ ms) _ (own-value _ _ _ _ ms)
    (λ glue. own-then (types_in ms) _ (own-types ms)
    (λ types. own-then (kinds_in order ms) _ (own-kinds order ms)
    (λ kinds. own-further top_keys Top ms (record {
      edition = edition;
      order = order;
      rule = record
          { factor = factor; glue = glue; types = types; kinds = kinds };
    })))))))

-- a document is never one that toml refuses
pub rule_in-toml : (ms : Members) → rule_of_members ms ≢ Err NotToml
rule_in-toml ms e = subst IsOwn e (own-rule ms)
