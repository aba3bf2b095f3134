use Rattle.std.proofs.Common.{arith, ◌∙◌}
use Rattle.std.specs.Str.{str_eq_ignore_ascii_case}
use Rattle.aadl_tree.specs.declared.mark.Mark.TheVariants as k
use Rattle.aadl_tree.specs.KeywordsAndSymbols.{mark_text}
use Rattle.aadl_tree.proofs.ListSearch.{find_past}
use Rattle.aadl_tree.proofs.MarksByFirstByte.{unspelled}
use Rattle.aadl_tree.proofs.keywords_and_symbols.spelled_as.Goals as goal

pub loop-mark-preserved : goal.loop-mark-preserved
loop-mark-preserved c =
    c.loop-mark.invariant
    ∙ find_past (λ m. str_eq_ignore_ascii_case c.args.word.now (mark_text m)) c.args.marks.now c.loop-mark.mark-index
    k.Package (omega arith)
    (unspelled _ _ _ (rw c.text.ensures at c.eq_ignore_ascii_case.ensures.test) c.if-eq_ignore_ascii_case.false)
