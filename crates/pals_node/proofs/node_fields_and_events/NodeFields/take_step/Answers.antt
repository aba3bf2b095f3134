use Rattle.std.proofs.Common.{◌∙◌, Some, sym, subst}
use Rattle.pals_base.specs.SingleStep.{Fired}
use Rattle.pals_node.specs.proof.NodeAndJobValues.{JobValue, IsResult}
use Rattle.pals_node.proofs.StepEnds.{runs_open, makes, keeps_on}
use Rattle.pals_node.proofs.JobMemories.{memory_left}
use Rattle.pals_node.proofs.node_fields_and_events.NodeFields.take_step.Goals as goal

pub end_step-requires : goal.end_step-requires
end_step-requires c =
    let f = c.args.self.now in
    let keeps = c.requires.keeps in
    let round = runs_open f c.args.step keeps c.requires.runs in
    let result : Fired = record { frame = c.give_result-memory.new.last; outs = c.give_result-memory.new.row.items } in
    let left = subst (λ (job : JobValue). IsResult job result) c.requires.job c.give_result-memory.ensures.result in
    let made =
    makes f c.args.step c.give_result-memory.new.last c.give_result-memory.new.row.items keeps
    c.requires.runs left in
    record {
      ready = record {
        plan = keeps.program.plan;
        count = keeps.count;
        made =
            record {
              within = round.within;
              round = record { begun = round.round.begun; vectors = round.round.vectors; outs = round.round.outs };
              part = round.part;
              place = round.place;
            };
        frame = made.shape;
        row = made.count_is;
      };
    }

pub returns-clause-keeps : goal.returns-clause-keeps
returns-clause-keeps c =
    let f = c.args.self.now in
    let keeps = c.requires.keeps in
    let result : Fired = record { frame = c.give_result-memory.new.last; outs = c.give_result-memory.new.row.items } in
    let left = subst (λ (job : JobValue). IsResult job result) c.requires.job c.give_result-memory.ensures.result in
    let made =
    makes f c.args.step c.give_result-memory.new.last c.give_result-memory.new.row.items keeps
    c.requires.runs left in
    keeps_on (record f {
      frame = c.give_result-memory.new.last;
      row = c.give_result-memory.new.row;
      spare = Some c.give_result-memory.result;
    }) c.end_step.new.self
    (record {
      program = keeps.program;
      rounds = keeps.rounds;
      count = keeps.count;
      frame = made.shape;
      slots = keeps.slots;
      messages_keep = keeps.messages_keep;
      room = keeps.room;
      row = made.count_is ∙ sym keeps.program.means.outs;
      spare =
          memory_left f c.args.step c.args.done c.give_result-memory.result keeps c.requires.runs c.requires.job
          c.give_result-memory.ensures.memory;
    })
    c.end_step.ensures.others c.end_step.ensures.keeps
