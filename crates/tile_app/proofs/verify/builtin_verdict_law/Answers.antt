use Rattle.cyclo_points.specs.declared.order.Order.{Order}
use Rattle.cyclo_points.specs.declared.order.Order.TheVariants.{Four, Six, Eight, Ten}
use Rattle.cyclo_points.specs.Order.{is_refused}
use Rattle.list_verify.specs.OneVerdict.{OneVerdictLaw}
use Rattle.listing_text.specs.Listing.{listing_in}
use Rattle.rule_model.specs.Tiling.{tiling_listed, children}
use Rattle.rule_model.specs.Views.{as_edition}
use Rattle.builtin_rules.specs.Named.{named}
use Rattle.tile_app.proofs.verify.builtin_verdict_law.Goals as goal

-- by the law of each order, since the rule of each name is accepted
pub returns : goal.returns
returns c = λ name f w listing frame window.
    let accepted = c.accepted_names_law.ensures name in
    law (named name).order
    (record {
      edition = as_edition (named name).edition;
      refused = is_refused (named name).order;
      rule = (tiling_listed (named name)).rule;
      numbered = accepted.numbered;
      edge_to_edge = accepted.edge_to_edge;
    })
    f w (listing_in (children (tiling_listed (named name))) listing) frame window
  where
    law : (o : Order) → OneVerdictLaw o
    law Four = c.one_verdict_law.ensures
    law Six = c.one_verdict_law-2.ensures
    law Eight = c.one_verdict_law-3.ensures
    law Ten = c.one_verdict_law-4.ensures
