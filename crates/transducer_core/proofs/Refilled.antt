-- Digits that were changed in place.
use Rattle.std.proofs.Common.{◌≡◌, ◌∙◌, ℕ, ◌+◌, List, ◌++◌, length, take, drop, map, Result, Ok, Err, OnErr, ap, subst, arith}
use Rattle.std.proofs.Math.Seq.{take-append-add}
use Rattle.std.proofs.lemmas.List.{append-nil}
use Rattle.std.specs.List.{refill}
use Rattle.theory_addresses.specs.Tables.{Tables}
use Rattle.tile_shape.specs.Views.{step_of}
use Rattle.tile_shape.specs.declared.address.Address.{Address}
use Rattle.tile_shape.specs.declared.step.Step.{Step}
use Rattle.transducer_core.specs.declared.outside.Outside.{Outside}
use Rattle.transducer_core.specs.Crossed.{IsCrossing, IsCrossingInPlace}

-- what is put back in as many places is what is there
pub filled_up : {A : Type 0} (n : ℕ) (xs ws : List A) → length ws ≡ n → refill n xs ws ≡ ws
filled_up n xs ws is =
    ap (λ k. take k (ws ++ drop (length ws) xs)) (let e : n ≡ length ws + 0 = omega (arith, is) in e)
    ∙ take-append-add ws (drop (length ws) xs) 0 ∙ append-nil ws

-- a kind and digits that are unchanged are an unchanged address
unchanged : (before : Address) (x : Result ℕ Outside) (kind : ℕ) (ws : List Step)
    → OnErr x ((kind ≡ before.kind) × (ws ≡ before.digits.items))
    → OnErr x (◌≡◌ {A = Address} (record { kind = kind; digits = record { items = ws } }) before)
unchanged before (Ok back) kind ws same = tt
unchanged before (Err o) kind ws same = λ i. record { kind = same.0 i; digits = record { items = same.1 i } }

-- a crossing of the digits is one of the address that has them
pub in_place : (t : Tables) (before : Address) (xs : List Step) (e : ℕ) (x : Result ℕ Outside) (kind : ℕ) (ws : List Step)
    → xs ≡ before.digits.items → length ws ≡ length xs
    → IsCrossing t (record { kind = before.kind; digits = map step_of xs }) e x (λ _. record { kind = kind; digits = map step_of ws }) (λ back. back)
    → OnErr x ((kind ≡ before.kind) × (ws ≡ xs))
    → IsCrossingInPlace t before e x (record { kind = kind; digits = record { items = refill (length before.digits.items) before.digits.items ws } })
in_place t before xs e x kind ws is long crossing same =
    let whole : refill (length before.digits.items) before.digits.items ws ≡ ws =
    filled_up (length before.digits.items) before.digits.items ws (long ∙ ap length is) in
    rw whole
    (record {
      crossing = subst (λ (ys : List Step). IsCrossing t (record { kind = before.kind; digits = map step_of ys }) e x
          (λ _. record { kind = kind; digits = map step_of ws }) (λ back. back)) is crossing;
      unchanged = unchanged before x kind ws (subst (λ (ys : List Step). OnErr x ((kind ≡ before.kind) × (ws ≡ ys))) is same);
    })
