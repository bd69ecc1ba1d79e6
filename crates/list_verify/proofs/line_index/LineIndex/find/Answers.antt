use Rattle.std.proofs.Common.{ℕ, ◌<◌, length, Option, Some, None, IfNone, IfSome, sym, subst}
use Rattle.tile_shape.specs.Views.{address_of}
use Rattle.std.proofs.lemmas.Option.{slice_get_within}
use Rattle.list_verify.specs.LineIndex.{HasAddress, Indexes}
use Rattle.list_verify.proofs.line_index.LineIndex.find.Goals as goal

if_none-each : {A : Type 0} (o : Option A) (P Q : Type 0) → (P → Q) → IfNone o P → IfNone o Q
if_none-each None P Q f h = f h
if_none-each (Some x) P Q f h = tt

if_some-each : {A : Type 0} (o : Option A) (P Q : A → Type 0) → ((x : A) → P x → Q x) → IfSome o P → IfSome o Q
if_some-each None P Q f h = tt
if_some-each (Some x) P Q f h = f x h

pub find_from-requires-clause-index : goal.find_from-requires-clause-index
find_from-requires-clause-index c = subst (Indexes c.args.self.now c.args.lines.now) (sym c.requires.index.many) c.requires.index

pub returns-clause-found : goal.returns-clause-found
returns-clause-found c = if_some-each c.find_from.result _ _ its c.find_from.ensures.found
  where
    its : (i : ℕ) → (i < length c.args.self.now.before.items) × HasAddress c.args.lines.now i (address_of c.args.address.now)
        → HasAddress c.args.lines.now i (address_of c.args.address.now)
    its i (below, has) = has

pub returns-clause-none : goal.returns-clause-none
returns-clause-none c = if_none-each c.find_from.result _ _ each c.find_from.ensures.none
  where
    each : ((i : ℕ) → i < length c.args.self.now.before.items
        → ¬ HasAddress c.args.lines.now i (address_of c.args.address.now)) → (i : ℕ)
        → ¬ HasAddress c.args.lines.now i (address_of c.args.address.now)
    each none i has = absurd (none i (subst (λ n. i < n)
        (sym c.requires.index.many)
        (slice_get_within c.args.lines.now i has.0 has.1)) has)
