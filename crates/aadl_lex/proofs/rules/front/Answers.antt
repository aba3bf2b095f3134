use Rattle.std.proofs.Common.{length, subst, sym, arith}
use Rattle.aadl_lex.specs.declared.rules.First.{First}
use Rattle.aadl_lex.specs.Rules.{IsWithin}
use Rattle.aadl_lex.proofs.FrontExtents.{annex_within, symbol_within}
use Rattle.aadl_lex.proofs.rules.front.Goals as goal

pub returns-then-ne-clause-within : goal.returns-then-ne-clause-within
returns-then-ne-clause-within c =
    subst (λ (x : First). IsWithin (length c.args.text.now) x) (sym c.annex_first.ensures)
    (annex_within c.args.reading c.args.at c.args.text.now (omega arith))

pub returns-else-starts_with-2-clause-within : goal.returns-else-starts_with-2-clause-within
returns-else-starts_with-2-clause-within c =
    subst (λ (x : First). IsWithin (length c.args.text.now) x) (sym c.symbol_first.ensures)
    (symbol_within c.args.at c.args.text.now (omega arith))
