use Rattle.std.proofs.Common.{◌≡◌, drop}
use Rattle.std.specs.List.{find}
use Rattle.std.specs.Str.{str_eq_ignore_ascii_case}
use Rattle.aadl_tree.specs.KeywordsAndSymbols.{mark_text}
use Rattle.aadl_tree.proofs.keywords_and_symbols.spelled_as.Given as goal

abbrev pub invariant-loop-mark : goal.invariant-loop-mark
invariant-loop-mark l =
    find (λ m. str_eq_ignore_ascii_case l.word (mark_text m)) l.marks
    ≡ find (λ m. str_eq_ignore_ascii_case l.word (mark_text m)) (drop l.mark-index l.marks)
