use Rattle.std.proofs.Common.{◌∙◌, length, sym, arith}
use Rattle.std.proofs.lemmas.Bool.{eqb-true}
use Rattle.std.proofs.lemmas.List.{nil_from_length}
use Rattle.triple_vote.proofs.FaultTables.{filled_none, filled_put, first_all, first_of_none}
use Rattle.triple_vote.proofs.fault_table.first_faults.Goals as goal

pub returns-then-is_empty : goal.returns-then-is_empty
returns-then-is_empty c =
    first_of_none c.args.faults.now c.args.links c.new.result
    (nil_from_length c.args.faults.now
    (eqb-true (length c.args.faults.now) 0 (sym c.is_empty.ensures ∙ c.if-is_empty.true))) c.new.ensures

pub put_fault-requires : goal.put_fault-requires
put_fault-requires c = c.loop-at.invariant.size

pub loop-at-init : goal.loop-at-init
loop-at-init c = filled_none c.args.faults.now c.args.links _ c.in_ok-places.places (omega arith) c.in_ok-places.ensures

pub loop-at-preserved : goal.loop-at-preserved
loop-at-preserved c =
    filled_put c.args.faults.now c.args.links c.loop-at.places c.put_fault.new.places c.loop-at.at
    c.index-faults-at.result c.loop-at-test.true c.loop-at.auto.at
    c.index-faults-at.is c.loop-at.invariant c.put_fault.ensures

pub returns : goal.returns
returns c = first_all c.args.faults.now c.args.links c.loop-at.at c.loop-at.places (omega arith) c.loop-at.invariant
