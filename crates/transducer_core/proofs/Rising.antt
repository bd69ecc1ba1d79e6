-- The climb, level by level, over plain variables.
use Rattle.std.proofs.Common.{◌≡◌, ℕ, ◌+◌, ◌*◌, ◌-◌, ◌<◌, ◌/◌, ◌%◌, List, [], ◌∷◌, ◌++◌, length, map, reverse, take, Some, IsSome, get_or, ap, ◌∙◌, arith, refl, length-append}
use Rattle.std.specs.List.{slice_get}
use Rattle.std.proofs.lemmas.Option.{slice_get-get_or, slice_get-map, get_or_from_slice_get, slice_get_within}
use Rattle.std.proofs.lemmas.List.{take_more, map-append, reverse-reverse, get_or_at}
use Rattle.tile_shape.specs.declared.step.Step as program
use Rattle.tile_shape.specs.Views.{step_of}
use Rattle.theory_addresses.specs.Address.{Step, Address}
use Rattle.theory_addresses.specs.Contact.{inner, outer}
use Rattle.theory_addresses.specs.Tables.{Tables, type_of, contact_of, part_count}
use Rattle.theory_addresses.specs.Coherent.{IsCoherent}
use Rattle.theory_addresses.specs.Trace.{Cut, first_part}
use Rattle.theory_addresses.proofs.Chains.{IsChain, IsChain-at, level_kind}
use Rattle.theory_addresses.proofs.Traces.{Lies, itself, Lies-snoc, lies_of, trace_of, reverse_cons}
use Rattle.theory_addresses.proofs.Mated.{contact_exists}
use Rattle.transducer_core.specs.declared.climb.Meeting.{Meeting}
use Rattle.transducer_core.specs.Climbing.{Rises, MeetsAt}

-- a digit that is read, as the theory has it
pub digit_read : (xs ys : List program.Step) (i : ℕ) (d : program.Step) → xs ≡ ys → i < length xs
    → slice_get (map step_of ys) i ≡ Some (step_of (get_or xs i d))
digit_read xs ys i d e h = rw (← e, slice_get-map step_of xs i, slice_get-get_or xs i d h) refl

-- edge e lies on edge `own` of the ancestor at that level, by these parts
pub record Climbed (t : Tables) (digits : List Step) (e level own : ℕ) (parts : List ℕ) : Type 0 where
  pub cuts : List Cut
  pub parts_are : parts ≡ map (λ (c : Cut). c.part) cuts
  pub trace : Lies t e (take level digits) own cuts

-- there it meets another child's edge
pub record MetAt (t : Tables) (digits : List Step) (e level child edge : ℕ) (parts : List ℕ) : Type 0 where
  pub own : ℕ
  pub step : Step
  pub climbs : Climbed t digits e level own parts
  pub at : slice_get digits level ≡ Some step
  pub met : contact_of t step.parent step.child own ≡ Some (inner child edge)
  pub count : length parts ≡ level

-- in the words of traces, and back
pub rises_of : {t : Tables} {e level own : ℕ} {parts : List ℕ} (a : Address) → Climbed t a.digits e level own parts → Rises t a e level own parts
rises_of a h = record { cuts = reverse h.cuts; parts_are = rw (reverse-reverse h.cuts) h.parts_are; trace = trace_of h.trace }

pub climbed_of : {t : Tables} {e level own : ℕ} {parts : List ℕ} (a : Address) → Rises t a e level own parts → Climbed t a.digits e level own parts
climbed_of a h = record { cuts = reverse h.cuts; parts_are = h.parts_are; trace = lies_of h.trace }

pub met_of : {t : Tables} {e : ℕ} {m : Meeting} {parts : List ℕ} (a : Address) → MeetsAt t a e m parts
    → MetAt t a.digits e m.level (m.word % 256) (m.word / 256 % 256) parts
met_of a h = record { own = h.own; step = h.step; climbs = climbed_of a h.rises; at = h.digit; met = h.met; count = h.count }

-- the climb, as far as it has come
pub record Rising (t : Tables) (k : ℕ) (ds : List Step) (e i own : ℕ) (parts : List ℕ) : Type 0 where
  pub count : length parts ≡ i
  pub climbs : Climbed t ds e i own parts
  pub edge : IsSome (type_of t (level_kind k ds i) own)

pub rise_start : (t : Tables) (k : ℕ) (ds : List Step) (e : ℕ) → IsSome (type_of t k e) → Rising t k ds e 0 e []
rise_start t k ds e edge = record { count = refl; climbs = record { cuts = []; parts_are = refl; trace = itself }; edge = edge }

pub rise_exists : (t : Tables) (k : ℕ) (ds : List Step) (e i own : ℕ) (parts : List ℕ) (s : Step)
    → IsCoherent t → IsChain t k ds → Rising t k ds e i own parts
    → slice_get ds i ≡ Some s → IsSome (contact_of t s.parent s.child own)
rise_exists t k ds e i own parts s coherent fits r is =
    let at = IsChain-at t k ds i s fits is in
    contact_exists t s.parent s.child (level_kind k ds i) own coherent at.0 r.edge

pub rise_more : (t : Tables) (k : ℕ) (ds : List Step) (e i own : ℕ) (parts : List ℕ) (s : Step) (f p : ℕ)
    → IsCoherent t → IsChain t k ds → Rising t k ds e i own parts
    → slice_get ds i ≡ Some s → contact_of t s.parent s.child own ≡ Some (outer f p) → Rising t k ds e (i + 1) f (parts ++ p ∷ [])
rise_more t k ds e i own parts s f p coherent fits r is met =
    let at = IsChain-at t k ds i s fits is in
    let more = take_more ds i s (slice_get_within ds i s is) in
    let here = get_or_from_slice_get ds i s s is in
    let cut : Cut = record { part = p; parts = part_count t s.parent f } in
    let longer = Lies-snoc s f cut r.climbs.trace met refl in
    record {
      count = omega (arith, length-append parts (p ∷ []), r.count);
      climbs = record {
        cuts = r.climbs.cuts ++ cut ∷ [];
        parts_are = rw (r.climbs.parts_are, map-append (λ (c : Cut). c.part) r.climbs.cuts (cut ∷ [])) refl;
        trace = rw (more, here) longer;
      };
      edge = rw at.1 (coherent.outer_edge s.parent s.child own f p met);
    }

pub rise_meets : (t : Tables) (k : ℕ) (ds : List Step) (e i own : ℕ) (parts : List ℕ) (s : Step) (at word : ℕ)
    → at ≡ 256 * s.parent + s.child → Rising t k ds e i own parts
    → slice_get ds i ≡ Some s → contact_of t s.parent s.child own ≡ Some
    (inner (word % 256) (word / 256 % 256)) → MeetsAt t (record { kind = k; digits = ds }) e
    (record { level = i; at = at; word = word }) parts
rise_meets t k ds e i own parts s at word cell r is met =
    record { own = own; step = s; rises = rises_of (record { kind = k; digits = ds }) r.climbs; digit = is; at_is = cell; met = met; count = r.count }

pub rise_ends : (t : Tables) (k : ℕ) (ds : List Step) (e i own : ℕ) (parts : List ℕ) → Rising t k ds e i own parts → i ≡ length ds
    → Rises t (record { kind = k; digits = ds }) e (length ds) own parts
rise_ends t k ds e i own parts r end = rw (← end) (rises_of (record { kind = k; digits = ds }) r.climbs)

-- the last part kept is the first of the trace
pub last_part : (cuts : List Cut) → get_or (map (λ (c : Cut). c.part) (reverse cuts))
    (length (map (λ (c : Cut). c.part) (reverse cuts)) - 1) 0 ≡ first_part cuts
last_part [] = refl
last_part (c ∷ cuts) =
    let split : map (λ (c : Cut). c.part) (reverse (c ∷ cuts)) ≡ map (λ (c : Cut). c.part) (reverse cuts) ++ c.part ∷ [] =
    ap (map (λ (c : Cut). c.part)) (reverse_cons c cuts) ∙ map-append (λ (c : Cut). c.part) (reverse cuts) (c ∷ []) in
    rw split (at_end (map (λ (c : Cut). c.part) (reverse cuts)) c.part)
  where
    at_end : (xs : List ℕ) (x : ℕ) → get_or (xs ++ x ∷ []) (length (xs ++ x ∷ []) - 1) 0 ≡ x
    at_end xs x =
        let end : length (xs ++ x ∷ []) - 1 ≡ length xs = omega (arith, length-append xs (x ∷ [])) in
        rw end (get_or_at xs x [] 0 (length xs) refl)
