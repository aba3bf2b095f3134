use Rattle.std.proofs.Common.{◌∙◌, ap, sym, refl, arith}
use Rattle.aadl_grammar.specs.proof.GrammarSymbols as s
use Rattle.aadl_grammar.specs.proof.StackMachine.{move, depth, syntax_at}
use Rattle.aadl_grammar.specs.proof.ParserAnswers.{here}
use Rattle.aadl_grammar.proofs.TopSymbolMoves.{takes_row, refuses_unless, a_word_at}
use Rattle.aadl_grammar.proofs.PartSequences.{named}
use Rattle.aadl_grammar.proofs.names.identifier.Goals as goal

pub returns-in-Some : goal.returns-in-Some
unfolding move depth
returns-in-Some c =
    let l = rw c.in-Some.is at c.in_ok-found.ensures.ok in
    record {
      runs = λ outer below h.
          takes_row outer c.args.reader.now.end s.identifier below (a_word_at l) refl (omega arith);
      reads = named l;
    }

pub returns-in-None : goal.returns-in-None
returns-in-None c =
    let l = rw c.in-None.is at c.in_ok-found.ensures.ok in
    record {
      runs = λ outer below h.
          refuses_unless outer c.args.reader.now.end s.identifier below (here c.args.reader.now c.args.at) refl (l, tt)
          ∙ ap syntax_at (sym c.place.ensures);
      reads = tt;
    }
