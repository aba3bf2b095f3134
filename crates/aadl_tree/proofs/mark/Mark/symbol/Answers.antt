use Rattle.std.proofs.Common.{◌∙◌, ap, sym}
use Rattle.std.specs.List.{find}
use Rattle.std.specs.Str.{bytes_eq}
use Rattle.aadl_tree.specs.KeywordsAndSymbols.{mark_text}
use Rattle.aadl_tree.proofs.MarksByFirstByte.{symbol_kept, no_symbol}
use Rattle.aadl_tree.proofs.mark.Mark.symbol.Goals as goal

pub returns : goal.returns
returns c =
    c.written_as.ensures ∙ ap (find (λ m. bytes_eq c.args.bytes.now (mark_text m))) c.symbols_from.ensures
    ∙ sym (symbol_kept c.args.bytes.now)

pub returns-then-is_empty : goal.returns-then-is_empty
returns-then-is_empty c = sym (no_symbol c.args.bytes.now (sym c.is_empty.ensures ∙ c.if-is_empty.true))
