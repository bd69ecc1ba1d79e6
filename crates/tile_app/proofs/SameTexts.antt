-- Lists of tiles that are the same to a layer have the same text in its format.
use Rattle.std.specs.Prelude.{codes, Option}
use Rattle.std.specs.Fmt.{decimal}
use Rattle.std.specs.List.{flat_map, AllZip, join_with_byte}
use Rattle.std.proofs.Common.{◌≡◌, ℕ, zero, suc, Bool, true, false, List, [], ◌∷◌, ◌++◌, map, refl, sym, ap, ap₂, ◌∙◌, ◌+◌, cond, ◌==◌}
use Rattle.std.proofs.lemmas.List.Sums.{sum_by-append}
use Rattle.cyclo_points.specs.Text.{blank, newline}
use Rattle.layer_api.specs.declared.drawn.Drawn.{Drawn}
use Rattle.layer_api.specs.declared.part.Part.{Part}
use Rattle.layer_api.specs.declared.format.Format.{Format}
use Rattle.layer_api.specs.declared.format.Format.TheVariants.{Svg, List as Listing, Census}
use Rattle.layer_api.specs.declared.view.View.{View}
use Rattle.layer_api.specs.CensusText.{class_lines}
use Rattle.layer_api.specs.ListText.{part_text, second_text, list_line}
use Rattle.layer_api.specs.SvgText.{head_text, vertex_text, path_line, tail_text}
use Rattle.layer_api.specs.LayerText.{layer_text}
use Rattle.tile_app.specs.declared.looks.Looks.{Looks}
use Rattle.tile_app.specs.declared.looks.Looks.TheVariants.{All, Paths, Parts, Classes}
use Rattle.tile_app.specs.Alike.{AreAlikeIn}
use Rattle.tile_app.specs.Looks.{HaveSamePath, HaveSameParts, HaveSameCounts, AreSameTo, AreSameListsTo, looks_in}

-- ---- alike, the same text
lines-alike : (k : ℕ) (ts us : List Drawn) → HaveSameCounts ts us → class_lines k ts ≡ class_lines k us
lines-alike zero ts us h = refl
lines-alike (suc k) ts us h =
    ap₂ (λ lines n. lines ++ (decimal k ++ blank ∷ decimal n ++ newline ∷ [])) (lines-alike k ts us h) (h.each k)

each-alike : (R : Drawn → Drawn → Type 0) (f : Drawn → List ℕ) → ((d e : Drawn) → R d e → f d ≡ f e)
    → (ts us : List Drawn) → AllZip R ts us → flat_map f ts ≡ flat_map f us
each-alike R f same [] [] h = refl
each-alike R f same [] (u ∷ us) h = absurd h
each-alike R f same (t ∷ ts) [] h = absurd h
each-alike R f same (t ∷ ts) (u ∷ us) h = ap₂ (λ x xs. x ++ xs) (same t u h.0) (each-alike R f same ts us h.1)

same-path : (v : View) (d e : Drawn) → HaveSamePath d e → path_line v d ≡ path_line v e
same-path v d e h =
    ap₂ (λ class outline. codes "<path class=\"k" ++ decimal class ++ codes "\" d=\"M"
    ++ join_with_byte 76 (map (vertex_text v) outline.items) ++ codes "Z\"/>\n") h.class h.outline

same-line : (d e : Drawn) → HaveSameParts d e → list_line d ≡ list_line e
same-line d e h = ap₂ (λ (p : Part) (q : Option Part). part_text p ++ second_text q ++ newline ∷ []) h.first h.second

pub same-text : (f : Format) (v : View) (ts us : List Drawn) → AreAlikeIn f ts us → layer_text f v ts ≡ layer_text f v us
same-text Svg v ts us h =
    ap (λ paths. head_text v ++ paths ++ tail_text) (each-alike HaveSamePath (path_line v) (same-path v) ts us h)
same-text Listing v ts us h = each-alike HaveSameParts list_line same-line ts us h
same-text Census v ts us h =
    ap₂ (λ lines n. lines ++ codes "all " ++ decimal n ++ newline ∷ []) (lines-alike v.kinds ts us h) h.in_all

-- ---- the same to a layer, alike in its format
zip-weaker : (R S : Drawn → Drawn → Type 0) → ((d e : Drawn) → R d e → S d e) → (ts us : List Drawn) → AllZip R ts us → AllZip S ts us
zip-weaker R S weaker [] [] h = tt
zip-weaker R S weaker [] (u ∷ us) h = absurd h
zip-weaker R S weaker (t ∷ ts) [] h = absurd h
zip-weaker R S weaker (t ∷ ts) (u ∷ us) h = (weaker t u h.0, zip-weaker R S weaker ts us h.1)

same-counts : (ts us : List Drawn) → AllZip (λ d e. d.class ≡ e.class) ts us → HaveSameCounts ts us
same-counts [] [] h = record { each = λ class. refl; in_all = refl }
same-counts [] (u ∷ us) h = absurd h
same-counts (t ∷ ts) [] h = absurd h
same-counts (t ∷ ts) (u ∷ us) h =
    let rest = same-counts ts us h.1 in
    record {
      each = λ class.
          sum_by-append (λ (x : Drawn). cond (x.class == class) 1 0) (t ∷ []) ts
          ∙ ap₂ (λ k n. (0 + cond (k == class) 1 0) + n) h.0 (rest.each class)
          ∙ sym (sum_by-append (λ (x : Drawn). cond (x.class == class) 1 0) (u ∷ []) us);
      in_all = ap suc rest.in_all;
    }

pub lists-same : (looks : Looks) (ts us : List Drawn) → AllZip (AreSameTo looks) ts us → AreSameListsTo looks ts us
lists-same All ts us h = h
lists-same Paths ts us h = h
lists-same Parts ts us h = h
lists-same Classes ts us h = same-counts ts us h

pub alike-in : (all : Bool) (f : Format) (ts us : List Drawn) → AreSameListsTo (looks_in all f) ts us → AreAlikeIn f ts us
alike-in true Svg ts us h =
    zip-weaker (λ d e. d ≡ e) HaveSamePath
    (λ d e same. record { class = ap (λ (x : Drawn). x.class) same; outline = ap (λ (x : Drawn). x.outline) same }) ts us h
alike-in true Listing ts us h =
    zip-weaker (λ d e. d ≡ e) HaveSameParts
    (λ d e same. record { first = ap (λ (x : Drawn). x.first) same; second = ap (λ (x : Drawn). x.second) same }) ts us h
alike-in true Census ts us h =
    same-counts ts us (zip-weaker (λ d e. d ≡ e) (λ d e. d.class ≡ e.class) (λ d e same. ap (λ (x : Drawn). x.class) same) ts us h)
alike-in false Svg ts us h = h
alike-in false Listing ts us h = h
alike-in false Census ts us h = h

-- ---- to a layer that looks at all, equal
pub equal-tiles : (ts us : List Drawn) → AllZip (λ d e. d ≡ e) ts us → ts ≡ us
equal-tiles [] [] h = refl
equal-tiles [] (u ∷ us) h = absurd h
equal-tiles (t ∷ ts) [] h = absurd h
equal-tiles (t ∷ ts) (u ∷ us) h = ap₂ (λ x xs. x ∷ xs) h.0 (equal-tiles ts us h.1)

-- ---- one tile more
pub zip-more : (R : Drawn → Drawn → Type 0) (ts us : List Drawn) (d e : Drawn) → AllZip R ts us → R d e → AllZip R (ts ++ d ∷ []) (us ++ e ∷ [])
zip-more R [] [] d e h r = (r, tt)
zip-more R [] (u ∷ us) d e h r = absurd h
zip-more R (t ∷ ts) [] d e h r = absurd h
zip-more R (t ∷ ts) (u ∷ us) d e h r = (h.0, zip-more R ts us d e h.1 r)
