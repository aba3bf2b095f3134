use Rattle.std.proofs.Common.{◌≡◌, ◌∙◌, ℕ, Result, Ok, Option, Some, None, refl, sym, ap, subst}
use Rattle.pals_runs.specs.declared.commands.Command.{Command}
use Rattle.pals_runs.specs.declared.commands.Command.TheVariants.{Run}
use Rattle.pals_top.specs.declared.answer.Answer.{Answer}
use Rattle.pals_top.specs.declared.answer.Answer.TheVariants.{Usage}
use Rattle.pals_top.specs.declared.status.TheConstants.{USAGE}
use Rattle.pals_top.specs.CommonAnswerTexts.{usage_line}
use Rattle.pals_top.specs.Answers.{IsAnswer}
use Rattle.pals_top.specs.ProgramInput.{reading}
use Rattle.pals_top.specs.CommandWords.{command_of_words, IsWordsEnd}
use Rattle.pals_top.proofs.ProgramEndings.{answered_by, cut_short_by, no_memory_by, of_words, none_of_words}
use Rattle.pals_top.proofs.program.pals.Goals as goal

pub returns-in-Ok-Run : goal.returns-in-Ok-Run
returns-in-Ok-Run g c =
    let command : Command = Run c.in-Ok-Run.root c.in-Ok-Run.trace in
    let asked : command_of_words c.args.words.now ≡ Some command =
    c.in-Ok-Run.ensures.0 ∙ ap Some c.in-Ok-Run.field-0-is in
    let answered = c.answer_run.result in
    let is = of_words _ command _ asked answered c.answer_run.ensures.ok in
    let un = none_of_words _ command _ asked answered c.answer_run.ensures.err in
    let written = c.write_answer.ensures.written in
    let nothing = c.write_answer.ensures.nothing in
    record {
      answered = answered_by _ _ _ _ _ _ _ answered is written nothing;
      cut_short = cut_short_by _ _ _ _ _ _ _ answered is written nothing;
      no_memory = no_memory_by _ _ _ _ _ _ _ answered un written nothing;
    }

pub returns-in-Ok : goal.returns-in-Ok
returns-in-Ok g c =
    let command : Command = c.in-Ok.command in
    let asked : command_of_words c.args.words.now ≡ Some command = c.in-Ok.ensures.0 ∙ ap Some c.in-Ok.command-is in
    let answered = c.answer_command.result in
    let is = of_words _ command _ asked answered c.answer_command.ensures.ok in
    let un = none_of_words _ command _ asked answered c.answer_command.ensures.err in
    let written = c.write_answer-in-Ok.ensures.written in
    let nothing = c.write_answer-in-Ok.ensures.nothing in
    record {
      answered = answered_by _ _ _ _ _ _ _ answered is written nothing;
      cut_short = cut_short_by _ _ _ _ _ _ _ answered is written nothing;
      no_memory = no_memory_by _ _ _ _ _ _ _ answered un written nothing;
    }

pub returns-in-Err-Usage-clause-cut_short : goal.returns-in-Err-Usage-clause-cut_short
returns-in-Err-Usage-clause-cut_short g c =
    let source = g.S.Source.shown c.args.source.now in
    let seen = reading source source in
    let none : command_of_words c.args.words.now ≡ None =
    subst (IsWordsEnd (command_of_words c.args.words.now)) c.in-Err-Usage.field-0-is c.in-Err-Usage.ensures in
    let is : IsAnswer (command_of_words c.args.words.now) seen USAGE usage_line =
    subst (λ (f : Option Command). IsAnswer f seen USAGE usage_line) (sym none) (refl, refl, refl) in
    let answered : Result Answer ℕ = Ok Usage in
    cut_short_by {K = ℕ} _ seen _ _ 0 0 _ answered is c.write_answer-in-Err-Usage.ensures.written tt
