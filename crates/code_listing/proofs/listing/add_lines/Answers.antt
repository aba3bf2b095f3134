use Rattle.std.proofs.Common.{codes, [], ◌∷◌, ◌++◌, map, ap, ◌∙◌}
use Rattle.pals_model.specs.RoundTexts.{text_of}
use Rattle.pals_report.specs.CheckReports.{link_line, feed_line, tap_line}
use Rattle.code_listing.specs.Listings.{period_and_bounds_lines, lines_of_all, listing_lines}
use Rattle.code_listing.proofs.AddedLines.{Adds, lines_behind, line_last, six_lists}
use Rattle.code_listing.proofs.listing.add_lines.Goals as goal

pub returns-clause-ok : goal.returns-clause-ok
returns-clause-ok c =
    let design = c.args.design.now in
    let old = c.args.out.now.items in
    let all = lines_of_all design design.components c.args.codes.now in
    let bounds : Adds old (period_and_bounds_lines design) _ = record { is = c.in_ok-add_bounds.ensures.ok } in
    let components = lines_behind _ all bounds c.in_ok-add_components.ensures.ok in
    let links = lines_behind _ (map (link_line design) design.links) components
    (c.in_ok-add_links.ensures.ok
    ∙ ap (λ xs. c.add_components.new.out.items ++ text_of (map (link_line design) xs)) c.as_slice.ensures.value) in
    let feeds = lines_behind _ (map (feed_line design) design.feeds) links
    (c.in_ok-add_feeds.ensures.ok
    ∙ ap (λ xs. c.add_links.new.out.items ++ text_of (map (feed_line design) xs)) c.as_slice-2.ensures.value) in
    let taps = lines_behind _ (map (tap_line design) design.taps) feeds
    (c.in_ok-add_taps.ensures.ok
    ∙ ap (λ xs. c.add_feeds.new.out.items ++ text_of (map (tap_line design) xs)) c.as_slice-3.ensures.value) in
    line_last c.add_line.result _ (codes "end") (listing_lines design c.args.codes.now) taps
    (six_lists (period_and_bounds_lines design) all (map (link_line design) design.links)
    (map (feed_line design) design.feeds)
    (map (tap_line design) design.taps) (codes "end" ∷ []))
    c.add_line.ensures.ok
