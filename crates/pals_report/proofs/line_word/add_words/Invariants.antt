use Rattle.std.proofs.Common.{◌≡◌, ◌++◌, take, codes}
use Rattle.std.specs.List.{flat_map}
use Rattle.pals_report.specs.proof.LineWords.{word_text}
use Rattle.pals_report.proofs.line_word.add_words.Given as goal

-- a space and each word, for the words so far
abbrev pub invariant-loop-word : goal.invariant-loop-word
invariant-loop-word l =
    l.out.items ≡ l.initial.out.items ++ flat_map (λ w. codes " " ++ word_text w) (take l.word-index l.rest)
