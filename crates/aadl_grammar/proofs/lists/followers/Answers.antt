use Rattle.aadl_grammar.proofs.ParserFaults.{exits, no_reads}
use Rattle.aadl_grammar.proofs.ListLoop.{item_runs, grown}
use Rattle.aadl_grammar.proofs.lists.followers.Goals as goal

pub returns-in_err-next : goal.returns-in_err-next
returns-in_err-next g c = record {
  runs =
      λ of outer below h. exits _ _ _ _ _ _ _ c.from_residual.ensures.1
      (item_runs of outer below c.loop-start.rest c.in-Some.start _ _ h (c.loop-start.invariant.runs of outer below h)
      c.in-Some.ensures c.in_err-next.ensures);
  reads = λ of. no_reads _ _ _ c.from_residual.ensures.1;
}

pub loop-start-preserved : goal.loop-start-preserved
loop-start-preserved g c = record {
  runs =
      λ of outer below h. item_runs of outer below c.loop-start.rest c.in-Some.start _ _ h
      (c.loop-start.invariant.runs of outer below h) c.in-Some.ensures c.in_ok-next.ensures;
  reads =
      λ of. grown c.args.before of.parts c.args.found.items c.loop-start.found.items c.push.new.self.items
      c.in_ok-next.next (c.loop-start.invariant.reads of) c.in_ok-push.ensures.items c.in-Some.ensures
      (of.each c.in-Some.start _ c.in_ok-next.ensures).reads;
}
