use Rattle.std.proofs.Common.{◌≡◌, ◌∙◌, ◌∷◌, [], ◌++◌, None, Some, refl, ap, subst, arith}
use Rattle.std.specs.Prelude.{vec_capacity}
use Rattle.std.proofs.lemmas.Grind.{common_steps}
use Rattle.pals_runs.specs.declared.journal.JournalEntry.TheVariants as entry
use Rattle.pals_bus.specs.declared.bus_fields.BusFields.{BusFields}
use Rattle.pals_bus.proofs.NodeEventCalls.{journal_shows}
use Rattle.pals_bus.proofs.OldestCopyRemoval.{Takes, none_keeps, none_value}
use Rattle.pals_bus.proofs.MessageLosses.{drop_happens, drop_keeps}
use Rattle.pals_bus.proofs.bus.Bus.drop_message.Goals as goal

pub invariant_of-self-in_default-take_message : goal.invariant_of-self-in_default-take_message
invariant_of-self-in_default-take_message c =
    let f = c.reserve_entries.new.self in
    let g = c.take_message.new.self in
    let says = c.take_message.ensures in
    let takes : Takes f g c.args.link c.args.round c.take_message.result =
    record {
      taken = says.taken;
      copies = says.copies;
      queues = says.queues;
      room = says.room;
      others = says.others;
    } in
    none_keeps f g c.args.link c.args.round c.reserve_entries.ensures.keeps
    (subst (Takes f g c.args.link c.args.round) c.in_default-take_message.is takes)

pub returns-in_default-take_message-clause-same : goal.returns-in_default-take_message-clause-same
returns-in_default-take_message-clause-same c =
    let f = c.reserve_entries.new.self in
    let g = c.take_message.new.self in
    let says = c.take_message.ensures in
    let takes : Takes f g c.args.link c.args.round c.take_message.result =
    record {
      taken = says.taken;
      copies = says.copies;
      queues = says.queues;
      room = says.room;
      others = says.others;
    } in
    none_value f g c.args.link c.args.round
    (subst (Takes f g c.args.link c.args.round) c.in_default-take_message.is takes)
    ∙ journal_shows c.self.inside.fields f c.reserve_entries.ensures.others c.reserve_entries.ensures.items
    ∙ c.self.view_is

pub invariant_of-self-2 : goal.invariant_of-self-2
invariant_of-self-2 c =
    let old = c.self.inside.fields in
    let f = c.reserve_entries.new.self in
    let t = c.take_message.new.self in
    let link = c.args.link in
    let round = c.args.round in
    let lost = c.in-Some-take_message._lost in
    let g : BusFields = record t { journal = c.push_reserved.new.self } in
    let going : old.stop ≡ None = grind (arith, common_steps) in
    let says = c.take_message.ensures in
    let asked : Takes f t link round c.take_message.result =
    record {
      taken = says.taken;
      copies = says.copies;
      queues = says.queues;
      room = says.room;
      others = says.others;
    } in
    let takes : Takes f t link round (Some lost) = subst (Takes f t link round) c.in-Some-take_message.is asked in
    let told =
    c.push_reserved.ensures.items
    ∙ ap (λ (k : BusFields). k.journal.items ++ entry.Drop link round ∷ []) says.others in
    let capacity = c.push_reserved.ensures.capacity ∙ ap (λ (k : BusFields). vec_capacity k.journal) says.others in
    let room = c.in_ok-reserve_entries.ensures.room in
    drop_keeps f t g link round lost c.reserve_entries.ensures.keeps takes refl told
    (drop_happens f t g link round lost (ap (λ (k : BusFields). k.stop) c.reserve_entries.ensures.others ∙ going) takes
    refl told) (omega (arith, room, capacity))
