use Rattle.std.proofs.Common.{◌≡◌, drop}
use Rattle.std.specs.List.{find}
use Rattle.std.specs.Str.{bytes_eq}
use Rattle.aadl_tree.specs.KeywordsAndSymbols.{mark_text}
use Rattle.aadl_tree.proofs.keywords_and_symbols.written_as.Given as goal

abbrev pub invariant-loop-mark : goal.invariant-loop-mark
invariant-loop-mark l =
    find (λ m. bytes_eq l.bytes (mark_text m)) l.marks
    ≡ find (λ m. bytes_eq l.bytes (mark_text m)) (drop l.mark-index l.marks)
