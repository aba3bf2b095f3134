use Rattle.pals_base.specs.declared.limits.TheConstants.{BUNDLE_BYTES}
use Rattle.pals_io.specs.SourcesAndSinks.{GivesWithin}
use Rattle.pals_top.specs.Answers.{IsAnswer}
use Rattle.pals_top.specs.CommandWords.{command_of_words}
use Rattle.pals_top.specs.ProgramInput.{reading}
use Rattle.program_edge.proofs.ExposedCalls.{reader_shown, consumes_within, appends, appends_part, same_writer}
use Rattle.pals_cli.proofs.edge.execute_on_streams.Goals as goal

pub returns-clause-answered : goal.returns-clause-answered
returns-clause-answered g c no_fault memory =
    let answered = c.pals-status.ensures.answered no_fault memory in (
      answered.0,
      (
        c.pals-status.new.source.faults,
        reader_shown g.R.Read.remaining _ _ _ _ _ c.requires.input c.new-source.ensures c.into_reader.ensures
            (λ before after. IsAnswer (command_of_words c.args.words.now) (reading before after) c.pals-status.result
            answered.0)
            answered.1,
      ),
      appends g.W.Write.contents _ _ _ _ _ c.requires.output c.new-sink.ensures c.into_writer.ensures answered.0
          answered.2,
    )

pub returns-clause-cut_short : goal.returns-clause-cut_short
returns-clause-cut_short g c fault =
    let cut = c.pals-status.ensures.cut_short fault in (
      cut.0,
      cut.1,
      (
        c.pals-status.new.source.faults,
        reader_shown g.R.Read.remaining _ _ _ _ _ c.requires.input c.new-source.ensures c.into_reader.ensures
            (λ before after. IsAnswer (command_of_words c.args.words.now) (reading before after) cut.0 cut.1) cut.2,
      ),
      appends_part g.W.Write.contents _ _ _ _ _ c.requires.output c.new-sink.ensures c.into_writer.ensures cut.1 cut.3,
    )

pub returns-clause-no_memory : goal.returns-clause-no_memory
returns-clause-no_memory g c memory =
    let untouched = c.pals-status.ensures.no_memory memory in (
      consumes_within _ _ _ _
          (reader_shown g.R.Read.remaining _ _ _ _ _ c.requires.input c.new-source.ensures c.into_reader.ensures
          (λ before after. GivesWithin before after BUNDLE_BYTES) untouched.1),
      same_writer g.W.Write.contents _ _ _ _ _ c.requires.output c.new-sink.ensures c.into_writer.ensures untouched.2,
    )
