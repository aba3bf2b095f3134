use Rattle.aadl_grammar.specs.proof.ParserAnswers.{here}
use Rattle.aadl_grammar.proofs.TerminalViews.{spots_cons, spots_past}
use Rattle.aadl_grammar.proofs.parse_input.Reader.first.Goals as goal

pub returns : goal.returns
unfolding here
returns c =
    record {
      whole = spots_cons c.args.self.now.text.now c.args.self.now.terminals.now c.args.at _ c.if-at-self.false;
      word = c.args.self.now.words c.args.at _ c.if-at-self.false;
    }

pub returns-then-at-self : goal.returns-then-at-self
unfolding here
returns-then-at-self c = spots_past c.args.self.now.text.now c.args.self.now.terminals.now c.args.at c.if-at-self.true
