use Rattle.std.proofs.Common.{◌++◌, map, ap, ◌∙◌}
use Rattle.pals_model.specs.RoundTexts.{text_of}
use Rattle.pals_report.proofs.TextPrefixes.{last_on_ok}
use Rattle.pals_report.specs.CheckReports.{period_lines, component_line, link_line, feed_line, tap_line, ignored_line}
use Rattle.pals_report.proofs.ConcatenatedTexts.{five_behind, six_lists}
use Rattle.pals_report.proofs.design_report.add_lines.Goals as goal

pub returns-clause-ok : goal.returns-clause-ok
returns-clause-ok c =
    let design = c.args.design.now in
    let components =
    c.in_ok-add_components.ensures.ok
    ∙ ap (λ xs. c.add_periods.new.out.items ++ text_of (map component_line xs)) c.as_slice.ensures.value in
    let links =
    c.in_ok-add_links.ensures.ok
    ∙ ap (λ xs. c.add_components.new.out.items ++ text_of (map (link_line design) xs)) c.as_slice-2.ensures.value in
    let feeds =
    c.in_ok-add_feeds.ensures.ok
    ∙ ap (λ xs. c.add_links.new.out.items ++ text_of (map (feed_line design) xs)) c.as_slice-3.ensures.value in
    let taps =
    c.in_ok-add_taps.ensures.ok
    ∙ ap (λ xs. c.add_feeds.new.out.items ++ text_of (map (tap_line design) xs)) c.as_slice-4.ensures.value in
    let first =
    five_behind c.args.out.now.items _ _ _ _ _ _ _ _ _ _ c.in_ok-add_periods.ensures.ok components links
    feeds taps in
    let lines =
    six_lists (period_lines design c.args.shortest) (map component_line design.components)
    (map (link_line design) design.links) (map (feed_line design) design.feeds) (map (tap_line design) design.taps)
    (map ignored_line design.ignored) in
    last_on_ok c.add_ignored_name_lines.result _ c.add_taps.new.out.items c.args.out.now.items _ _ _ first
    (ap (λ xs. (text_of (period_lines design c.args.shortest)
    ++ (text_of (map component_line design.components)
    ++ (text_of (map (link_line design) design.links)
    ++ (text_of (map (feed_line design) design.feeds) ++ text_of (map (tap_line design) design.taps)))))
    ++ text_of (map ignored_line xs)) c.as_slice-5.ensures.value ∙ lines)
    c.add_ignored_name_lines.ensures.ok
