use Rattle.std.proofs.Common.{rules, refl, ◌≡◌, ◌<◌, ◌+◌, ◌++◌, length, take, drop, IfSome, is_some, sym, ap, ◌∙◌}
use Rattle.std.proofs.Common.{subst, arith}
use Rattle.list_lemmas.proofs.ListOperations.{take-written_whole}
use Rattle.pals_model.specs.Composition.{comp}
use Rattle.pals_model.specs.ComponentInputs.{values_at}
use Rattle.pals_model.specs.RoundTexts.{text_of}
use Rattle.pals_model.proofs.ShapeLaws.{length-values_at}
use Rattle.run_monitor.specs.proof.SeveralMonitors.{HasWatched}
use Rattle.run_monitor.specs.WatchText.{watched_lines, watched_rows}
use Rattle.run_monitor.specs.FalseProperties.{first_false, is_some_false}
use Rattle.run_monitor.specs.FormulaSemantics.{frame_rows}
use Rattle.analysis_texts.specs.MonitoredFormulas.{named, formulas}
use Rattle.analysis_texts.proofs.WatchedRounds.{found_is, found_tells, found_within, rows_more, watched_whole}
use Rattle.analysis_texts.proofs.properties.watch_rounds.Goals as goal

pub loop-round-init : goal.loop-round-init
loop-round-init c = record {
  design = refl;
  stands = c.requires.opening;
  watched = c.requires.monitors;
  rows = c.new-text.ensures.items;
  values = search rules;
}

pub loop-round-preserved : goal.loop-round-preserved
loop-round-preserved c =
    let design = c.args.product.now.design in
    let env = c.args.env.now in
    let round = c.loop-round.round in
    let properties = c.args.properties.now in
    let values = c.loop-round.values in
    let written = c.write_values.new.values in
    let wide : length written ≡ length env.lists = ap length c.write_values.ensures ∙ length-values_at env round in
    let whole : take values.len (written ++ drop (length written) values.items) ≡ written =
    take-written_whole values.len written values.items (omega arith) (wide ∙ sym c.loop-round.invariant.values) in
    let here : c.as_slice.result.now ≡ values_at env round = c.as_slice.ensures.value ∙ whole
    ∙ c.write_values.ensures in
    let same = c.loop-round.invariant.design in
    let stands = c.loop-round.invariant.stands ∙ ap (λ d. comp d env round) (sym same) in
    let watched =
    subst (λ d. HasWatched c.loop-round.monitors (formulas properties) (frame_rows d env round)) (sym same)
    c.loop-round.invariant.watched in
    let watches = c.in_ok-go_on.ensures.watches env (formulas properties) here stands watched in
    record {
      design = c.in_ok-go_on.ensures.design ∙ same;
      stands = c.in_ok-go_on.ensures.further env here stands ∙ ap (λ d. comp d env (round + 1)) same;
      watched =
          subst (λ d. HasWatched c.go_on.new.monitors (formulas properties) (frame_rows d env (round + 1))) same
          watches.watched;
      rows = c.in_ok-add_verdicts.ensures (frame_rows c.loop-round.product.design env (round + 1)) watches.says
          ∙ ap (λ d. c.loop-round.text.items
          ++ text_of (watched_lines (named properties) (frame_rows d env (round + 1)) round)) same
          ∙ rows_more design env round properties c.loop-round.text.items c.loop-round.invariant.rows;
      values = ap length whole ∙ wide;
    }

pub add_end-requires : goal.add_end-requires
add_end-requires c =
    let properties = c.args.properties.now in
    subst (λ o. IfSome o (λ v. v.property < length properties)) (sym c.violation-violation.ensures)
    (found_within c.args.product.now.design c.args.env.now c.loop-round.round properties c.loop-round.monitors
    c.loop-round.invariant.watched)

pub returns-clause-text : goal.returns-clause-text
returns-clause-text c =
    let design = c.args.product.now.design in
    let env = c.args.env.now in
    let properties = c.args.properties.now in
    let fs = formulas properties in
    let all : c.loop-round.round ≡ c.args.rounds = omega arith in
    watched_whole design env c.args.rounds properties c.violation-violation.result c.loop-round.text.items _
    (c.loop-round.invariant.rows ∙ ap (λ n. watched_rows design env n (named properties)) all)
    (c.violation-violation.ensures
    ∙ found_is design env c.loop-round.round fs c.loop-round.monitors c.loop-round.invariant.watched
    ∙ ap (λ n. first_false fs (frame_rows design env n) n) all)
    c.in_ok-add_end.ensures

pub returns-clause-violated : goal.returns-clause-violated
returns-clause-violated c =
    let design = c.args.product.now.design in
    let env = c.args.env.now in
    let fs = formulas c.args.properties.now in
    let all : c.loop-round.round ≡ c.args.rounds = omega arith in
    c.is_some-violated.ensures ∙ ap is_some c.violation-violation.ensures
    ∙ found_tells design env c.loop-round.round fs c.loop-round.monitors c.loop-round.invariant.watched
    ∙ ap (λ n. is_some_false design env n fs) all
