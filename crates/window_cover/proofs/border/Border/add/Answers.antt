use Rattle.std.proofs.Common.{◌≡◌, ◌+◌, ℕ, List, [], ◌∷◌, ◌++◌, Option, Result, Ok, Err, false, true, hash_map_len, length, ap, ◌∙◌, arith}
use Rattle.std.specs.Option.{is_some}
use Rattle.std.specs.Result.{OnErr}
use Rattle.std.specs.Bool.{if◌then◌else◌}
use Rattle.std.specs.Map.{lookup}
use Rattle.window_cover.specs.Border.{Waiting, have_same_ends, has_ends, open_of}
use Rattle.window_cover.proofs.Open.{open_of-append, open_of-pushed, position-none, listed, waiting}
use Rattle.window_cover.proofs.Borders.{pushed-border, opened, opening-border}
use Rattle.window_cover.proofs.border.Border.add.Goals as goal

pub invariant_of-self-in_err-insert : goal.invariant_of-self-in_err-insert
invariant_of-self-in_err-insert c =
    pushed-border c.self.invariant c.args.ends c.args.edge _ c.in_ok-push.ensures.items
    _ (λ q. ap (lookup (have_same_ends q)) c.in_err-insert.ensures.err) _ (ap length c.in_err-insert.ensures.err)

pub invariant_of-self-2 : goal.invariant_of-self-2
invariant_of-self-2 c =
    let ls = c.self.inside.listed.items in
    let held = c.self.inside.listed.ok in
    let at : c.len-place.result ≡ length ls = omega (arith, held, c.len-place.ensures) in
    let fresh : has_ends c.args.ends (open_of ls) ≡ false = ap (has_ends c.args.ends) c.self.view_is ∙ c.requires.fresh in
    let unfound = c.in_ok-insert.ensures.old ∙ c.self.invariant.found c.args.ends ∙ position-none c.args.ends ls fresh in
    let more = c.in_ok-insert.ensures.len ∙ ap (λ (x : Option ℕ). hash_map_len c.self.inside.places + (if is_some x then 0 else 1)) unfound in
    opening-border c.self.invariant c.args.ends c.args.edge _
    (opened ls c.args.ends c.args.edge c.in_ok-push.ensures.items at c.index_mut.ensures.value) fresh
    _ at _ c.in_ok-insert.ensures.updates.0 _ more

pub returns-clause-added : goal.returns-clause-added
returns-clause-added c =
    let ls = c.self.inside.listed.items in
    let held = c.self.inside.listed.ok in
    let at : c.len-place.result ≡ length ls = omega (arith, held, c.len-place.ensures) in
    ap open_of (opened ls c.args.ends c.args.edge c.in_ok-push.ensures.items at c.index_mut.ensures.value)
    ∙ open_of-append ls (listed c.args.ends c.args.edge true ∷ [])
    ∙ ap (λ (ws : List Waiting). ws ++ waiting c.args.ends c.args.edge ∷ []) c.self.view_is

-- what is so is so in case of an error
on_err : {T E P : Type 0} (r : Result T E) → P → OnErr r P
on_err (Ok x) p = tt
on_err (Err e) p = p

pub returns-in_err-insert-clause-kept : goal.returns-in_err-insert-clause-kept
returns-in_err-insert-clause-kept c =
    on_err c.from_residual-in_err-insert.result
    (open_of-pushed c.self.inside.listed.items c.args.ends c.args.edge c.in_ok-push.ensures.items
    ∙ c.self.view_is)
