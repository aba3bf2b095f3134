use Rattle.pals_report.specs.proof.LineWords.{word_text}
use Rattle.pals_report.proofs.SpacedWords.{spaced-all}
use Rattle.pals_report.proofs.line_word.add_words.Goals as goal

pub returns-clause-ok : goal.returns-clause-ok
returns-clause-ok c =
    spaced-all word_text _ c.args.words.now c.loop-word.word-index _ _ _ c.in-len1-up.len_at_least
    c.loop-word-test.false c.in_ok-add_word.ensures.ok c.loop-word.invariant
