-- The headline, of what the two commands that carry it print.
use Rattle.std.proofs.Common.{◌≡◌, ℕ, true, false, List, map, Result, Ok, sym, ap, subst, ◌∙◌}
use Rattle.std.specs.declared.option.Option.{Option}
use Rattle.theory_addresses.specs.Address.{Address}
use Rattle.call_words.specs.declared.rule_choice.RuleChoice.{RuleChoice}
use Rattle.call_words.specs.Request.{WindowAsked}
use Rattle.call_words.specs.Request.{Request, request_in}
use Rattle.call_words.specs.Request.Request.{Neighbour, Draw}
use Rattle.layer_api.specs.declared.format.Format.{Format}
use Rattle.theory_walks.specs.Frames.{FrameValue}
use Rattle.plane_geom.specs.declared.window.Window.{Window}
use Rattle.rule_model.specs.Tiling.{Tiling}
use Rattle.tile_app.specs.Answer.{IsPrinted, Prints}
use Rattle.tile_app.specs.Asked.{OfCall}
use Rattle.tile_app.specs.BaseFrame.{frame_of}
use Rattle.tile_app.specs.Call.{Names}
use Rattle.tile_app.specs.Draw.{PrintsDraw, view_of, texts_of}
use Rattle.tile_app.specs.Headline.{TellsOnlyNeighbour, WritesExactlyTheWindow, WritesTheWholeTiles}
use Rattle.tile_app.specs.Neighbour.{PrintsNeighbour}
use Rattle.tile_app.specs.Tile.{OfTile}
use Rattle.tile_app.specs.Windows.{window_asked}

tells : (t : Tiling) (a : Address) (edge : ℕ) (text : List ℕ) → PrintsNeighbour t a edge text → TellsOnlyNeighbour t a edge text
tells t a edge text p = record { across = p.across; back = p.back; only_across = p.only_across; leads_back = p.leads_back; line = p.line }

writes : (t : Tiling) (f : FrameValue) (window : Window) (formats : List Format) (text : List ℕ)
    → PrintsDraw false formats t f window text → WritesExactlyTheWindow t f window formats text
writes t f window formats text p = record {
  frame = p.pictures.frame;
  tiles = p.pictures.tiles;
  exactly = p.pictures.exactly;
  texts = p.is_text ∙ ap (λ picture. texts_of (view_of t window) picture formats) p.pictures.is_picture;
}

writes-whole : (t : Tiling) (f : FrameValue) (window : Window) (formats : List Format) (text : List ℕ)
    → PrintsDraw true formats t f window text → WritesTheWholeTiles t f window formats text
writes-whole t f window formats text p = record {
  frame = p.pictures.frame;
  tiles = p.pictures.tiles;
  exactly = p.pictures.exactly;
  picture = p.picture;
  whole = p.pictures.is_picture;
  texts = p.is_text;
}

-- the words ask for one thing
ok_is : (p q : Request) → (let o : Result Request ℕ = Ok p in o) ≡ Ok q → p ≡ q
ok_is p q e = cc

module _ (words : List (List ℕ)) (handed : List Format) (left rest : Option (List ℕ)) (Took : List ℕ → Type 0)
    (done : OfCall words handed left rest (λ c. (text : List ℕ) × Prints c text × Took text)) where
  -- what is printed is what the request asks for
  abbrev printed : Prints done.0 done.2.0
  printed = done.2.1

  same : (q : Request) → request_in words ≡ Ok q → printed.request ≡ q
  same q right = ok_is printed.request q (sym printed.asks.right.asked ∙ ap request_in done.1.by_words ∙ right)

  names : (q : Request) → request_in words ≡ Ok q → Names done.0 q printed.tiling
  names q right = subst (λ p. Names done.0 p printed.tiling) (same q right) printed.asks.names

  of_request : (q : Request) → request_in words ≡ Ok q → IsPrinted q done.0.file printed.tiling done.2.0
  of_request q right = subst (λ p. IsPrinted p done.0.file printed.tiling done.2.0) (same q right) printed.holds

  pub only_neighbour : (rule : RuleChoice) (addr : List ℕ) (edge : ℕ) → request_in words ≡ Ok (Neighbour rule addr edge)
      → OfCall words handed left rest (λ c. (t : Tiling) × (text : List ℕ)
      × Names c (Neighbour rule addr edge) t × OfTile t addr (λ a. TellsOnlyNeighbour t a edge text)
      × Took text)
  only_neighbour rule addr edge right =
      let p = of_request (Neighbour rule addr edge) right in
      let tells_it = tells printed.tiling p.address edge done.2.0 p.holds in (
        done.0,
        done.1,
        (
          printed.tiling,
          done.2.0,
          names (Neighbour rule addr edge) right,
          record
              { address = p.address; tile = p.tile; holds = tells_it },
          done.2.2,
        ),
      )

  pub exactly_the_window : (rule : RuleChoice) (addr : List ℕ) (seed : ℕ) (window : WindowAsked)
      (formats : List Format) → request_in words ≡ Ok (Draw rule addr seed window formats false)
      → OfCall words handed left rest (λ c. (t : Tiling) × (text : List ℕ)
      × Names c (Draw rule addr seed window formats false) t
      × OfTile t addr (λ a. WritesExactlyTheWindow t (frame_of a seed) (window_asked t.order window) formats text)
      × Took text)
  exactly_the_window rule addr seed window formats right =
      let asked = Draw rule addr seed window formats false in
      let p = of_request asked right in
      let t = printed.tiling in
      let holds = writes t (frame_of p.address seed) (window_asked t.order window) formats done.2.0 p.holds in (
        done.0,
        done.1,
        (t, done.2.0, names asked right, record { address = p.address; tile = p.tile; holds = holds }, done.2.2),
      )

  pub whole_tiles : (rule : RuleChoice) (addr : List ℕ) (seed : ℕ) (window : WindowAsked)
      (formats : List Format) → request_in words ≡ Ok (Draw rule addr seed window formats true)
      → OfCall words handed left rest (λ c. (t : Tiling) × (text : List ℕ)
      × Names c (Draw rule addr seed window formats true) t
      × OfTile t addr (λ a. WritesTheWholeTiles t (frame_of a seed) (window_asked t.order window) formats text)
      × Took text)
  whole_tiles rule addr seed window formats right =
      let asked = Draw rule addr seed window formats true in
      let p = of_request asked right in
      let t = printed.tiling in
      let holds = writes-whole t (frame_of p.address seed) (window_asked t.order window) formats done.2.0 p.holds in (
        done.0,
        done.1,
        (t, done.2.0, names asked right, record { address = p.address; tile = p.tile; holds = holds }, done.2.2),
      )

-- what holds of equal words and layers
pub with_same : {D : Type 0} (form : D → Format) (words other : List (List ℕ)) (layers had : List D)
    (P : List (List ℕ) → List Format → Type 0) → words ≡ other → layers ≡ had
    → P words (map form layers) → P other (map form had)
with_same form words other layers had P e f h = subst (λ ds. P other (map form ds)) f (subst (λ ws. P ws (map form layers)) e h)
