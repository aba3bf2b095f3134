-- What lies under the lock may go to other threads: a course is made of data that it owns, and what lies under an
-- `Arc` may be shared.
use denote.RattleType.{RattleType}
use denote.Param.Send.{IsSend, IsSync, sendable, struct_send, recorded_send}
use denote.Struct.Declared as S
use Rattle.std.proofs.Crossing.{Box-send, Box-sync, Vec-send, Vec-sync, Arc-send, Arc-sync, crosses}
use Rattle.std.specs.contracts.marker.PhantomData.{the_field as phantom, the_type as phantom_type}
use Rattle.pals_base.proofs.behaviour.Expr.TheLaws.TheKnot.{send-Expr, sync-Expr}
use Rattle.pals_base.proofs.behaviour.Act.TheLaws.TheKnot.{send-Act, sync-Act}
use Rattle.pals_base.proofs.item_list.ItemList.TheSendSync.{the_send as items_send, the_sync as items_sync}
use Rattle.pals_base.proofs.text.Text.TheSendSync.{the_send as text_send, the_sync as text_sync}
use Rattle.step_code.proofs.code.Code.TheSendSync.{the_send as code_send, the_sync as code_sync}
use Rattle.link_buffers.proofs.slot.Slot.TheSendSync.{the_send as slot_send}
use Rattle.link_buffers.proofs.flight.Flight.TheSendSync.{the_send as flight_send}
use Rattle.link_buffers.proofs.due_queue.DueQueue.TheSendSync.{the_send as queue_send}
use Rattle.pals_bus.proofs.outgoing_links.Outgoing.TheSendSync.{the_send as outgoing_send}
use Rattle.pals_bus.proofs.target_list.TargetList.TheSendSync.{the_send as targets_send}
use Rattle.step_vm.proofs.room.Room.TheSendSync.{the_send as room_send}
use Rattle.pals_clock.proofs.clock.ListClock.TheSendSync.{the_send as clock_send}
use Rattle.pals_base.proofs.basic_types.PortValue.TheSendSync.{the_field_send as port_send}
use Rattle.pals_runs.proofs.phase.Phase.TheSendSync.{the_field_send as phase_send}
use Rattle.pals_runs.proofs.journal.JournalEntry.TheSendSync.{the_field_send as entry_send}
use Rattle.pals_runs.proofs.journal.Stop.TheSendSync.{the_field_send as stop_send}
use Rattle.pals_model.proofs.part.Part.TheSendSync.{the_field_send as part_send}
use Rattle.pals_model.proofs.environment.Env.TheSendSync.{the_field_send as env_send}
use Rattle.pals_model.proofs.delays.Delays.TheSendSync.{the_field_send as delays_send}
use Rattle.pals_base.proofs.behaviour.Op.TheSendSync.{the_field_send as op_send, the_field_sync as op_sync}
use Rattle.pals_base.proofs.behaviour.PortDecl.TheSendSync.{the_field_send as named_send, the_field_sync as named_sync}
use Rattle.pals_base.proofs.behaviour.VarDecl.TheSendSync.{the_field_send as variable_send}
use Rattle.pals_base.proofs.behaviour.VarDecl.TheSendSync.{the_field_sync as variable_sync}
use Rattle.pals_base.proofs.behaviour.StateDecl.TheSendSync.{the_field_send as state_send, the_field_sync as state_sync}
use Rattle.pals_base.proofs.period_bound_and_releases.Gamma.TheSendSync.{the_field_send as gamma_send}
use Rattle.pals_base.proofs.period_bound_and_releases.Gamma.TheSendSync.{the_field_sync as gamma_sync}
use Rattle.pals_base.proofs.frames.Frame.TheSendSync.{the_field_send as frame_send}
use Rattle.pals_node.proofs.job_memory.Memory.TheSendSync.{the_field_send as memory_send}
use Rattle.pals_model.proofs.design.Link.TheSendSync.{the_field_send as link_send, the_field_sync as link_sync}
use Rattle.pals_model.proofs.design.Feed.TheSendSync.{the_field_send as feed_send, the_field_sync as feed_sync}
use Rattle.pals_model.proofs.design.Tap.TheSendSync.{the_field_send as tap_send, the_field_sync as tap_sync}
use Rattle.bus_machine.proofs.plan.Input.TheSendSync.{the_field_send as input_send, the_field_sync as input_sync}
use Rattle.pals_base.specs.contracts.behaviour.Expr.{the_field as expr}
use Rattle.pals_base.specs.contracts.behaviour.Act.{the_field as act}
use Rattle.pals_base.specs.contracts.behaviour.Guard.{the_field as guard}
use Rattle.pals_base.specs.contracts.behaviour.Transition.{the_field as transition}
use Rattle.pals_base.specs.contracts.behaviour.BehaviourParts.{the_field as behaviour_parts}
use Rattle.pals_base.specs.contracts.behaviour.Behaviour.{the_field as behaviour}
use Rattle.pals_model.specs.contracts.design.Component.{the_field as component}
use Rattle.pals_model.specs.contracts.design.DesignParts.{the_field as design_parts}
use Rattle.pals_model.specs.contracts.design.Design.{the_field as design}
use Rattle.bus_machine.specs.contracts.plan.Plan.{the_field as plan}
use Rattle.pals_node.specs.contracts.plan.NodePlan.{the_field as node_plan}
use Rattle.pals_node.specs.contracts.node_fields_and_events.NodeFields.{the_field as node_fields}
use Rattle.pals_node.specs.contracts.node_fields_and_events.NodeFields.{the_type as node_fields_type}
use Rattle.pals_node.specs.contracts.node.Node.{the_field as node}
use Rattle.pals_bus.specs.contracts.node_list.NodeList.{the_field as node_list}
use Rattle.pals_bus.specs.contracts.node_list.NodeList.TheInside.{the_type as node_list_inside}
use Rattle.pals_bus.specs.contracts.bus_fields.BusFields.{the_field as bus_fields}
use Rattle.pals_bus.specs.contracts.bus.Bus.{the_field as bus}
use Rattle.node_threads.specs.declared.run_codes.RunCodes.{Ghosts}
use Rattle.node_threads.specs.contracts.course.SharedRun.{the_field as course}
use Rattle.node_threads.specs.contracts.locked_state.Locked.{the_field as locked}
use Rattle.node_threads.specs.contracts.sleepers.ThreadSlot.{the_field as slot}
use Rattle.node_threads.specs.contracts.sleepers.Sleepers.{the_field as sleepers}
use Rattle.node_threads.specs.contracts.wake_list.WakeList.{the_field as wakes}
use Rattle.node_threads.specs.contracts.wake_signals.WakeSignals.{the_field as signals}
use Rattle.node_threads.specs.contracts.node_end.NodeNote.{the_field as note}

-- ---- what a component does
-- its expressions and actions hold themselves
expr_send : IsSend expr.row
expr_send = send-Expr (search sendable) (search sendable) Box-send Vec-send op_send

expr_sync : IsSync expr.row
expr_sync = sync-Expr (search sendable) (search sendable) Box-sync Vec-sync op_sync

act_send : IsSend act.row
act_send = send-Act (search sendable) expr_send Vec-send (search sendable)

act_sync : IsSync act.row
act_sync = sync-Act (search sendable) expr_sync Vec-sync (search sendable)

guard_send : IsSend guard.row
guard_send = search (sendable, expr_send) depth 20

guard_sync : IsSync guard.row
guard_sync = search (sendable, expr_sync) depth 20

transition_send : IsSend transition.row
transition_send = search (sendable, guard_send, act_send, Vec-send) depth 20

transition_sync : IsSync transition.row
transition_sync = search (sendable, guard_sync, act_sync, Vec-sync) depth 20

behaviour_parts_send : IsSend behaviour_parts.row
behaviour_parts_send = search (sendable, transition_send, items_send, named_send, variable_send, state_send) depth 20

behaviour_parts_sync : IsSync behaviour_parts.row
behaviour_parts_sync = search (sendable, transition_sync, items_sync, named_sync, variable_sync, state_sync) depth 20

behaviour_send : IsSend behaviour.row
behaviour_send = search (sendable, Arc-send, behaviour_parts_send, behaviour_parts_sync) depth 20

behaviour_sync : IsSync behaviour.row
behaviour_sync = search (sendable, Arc-sync, behaviour_parts_send, behaviour_parts_sync) depth 20

-- ---- a design
component_send : IsSend component.row
component_send = search (sendable, behaviour_send, text_send) depth 20

component_sync : IsSync component.row
component_sync = search (sendable, behaviour_sync, text_sync) depth 20

design_parts_send : IsSend design_parts.row
design_parts_send =
    search (sendable, component_send, items_send, gamma_send, link_send, feed_send, tap_send, text_send) depth 20

design_parts_sync : IsSync design_parts.row
design_parts_sync =
    search (sendable, component_sync, items_sync, gamma_sync, link_sync, feed_sync, tap_sync, text_sync) depth 20

design_send : IsSend design.row
design_send = search (sendable, design_parts_send) depth 20

design_sync : IsSync design.row
design_sync = search (sendable, design_parts_sync) depth 20

-- ---- a node
plan_send : IsSend plan.row
plan_send = search (sendable, behaviour_send, items_send, input_send) depth 20

plan_sync : IsSync plan.row
plan_sync = search (sendable, behaviour_sync, items_sync, input_sync) depth 20

node_plan_send : IsSend node_plan.row
node_plan_send = search (sendable, plan_send, code_send) depth 20

node_plan_sync : IsSync node_plan.row
node_plan_sync = search (sendable, plan_sync, code_sync) depth 20

node_fields_send : IsSend node_fields.row
node_fields_send =
    struct_send (S.shape node_fields_type) (
      search sendable depth 20,
      (
        search (sendable, Arc-send, node_plan_send, node_plan_sync) depth 20,
        (
          search sendable depth 20,
          (
            search sendable depth 20,
            (
              search (sendable, phase_send) depth 20,
              (
                search (sendable, frame_send) depth 20,
                (
                  search (sendable, items_send, slot_send) depth 20,
                  (
                    search (sendable, items_send, port_send) depth 20,
                    (
                      search (sendable, items_send, port_send) depth 20,
                      (
                        search sendable depth 20,
                        (
                          search (sendable, Vec-send, part_send) depth 20,
                          (
                            search (sendable, part_send) depth 20,
                            (
                              search (sendable, items_send, port_send) depth 20,
                              (
                                search (sendable, room_send) depth 20,
                                (
                                  search (sendable, Vec-send, port_send) depth 20,
                                  (search (sendable, memory_send) depth 20, tt),
                                ),
                              ),
                            ),
                          ),
                        ),
                      ),
                    ),
                  ),
                ),
              ),
            ),
          ),
        ),
      ),
    )

node_send : IsSend node.row
node_send = search (sendable, node_fields_send) depth 20

node_list_inside_send : IsSend (S.row node_list_inside)
node_list_inside_send =
    recorded_send _ _ _ node_list_inside.to_one (
    struct_send (S.shape node_list_inside) (
      search (sendable, node_send, items_send) depth 20,
      (search (sendable, targets_send) depth 20, tt),
    )
    )

node_list_send : IsSend node_list.row
node_list_send = search (sendable, node_list_inside_send) depth 20

-- ---- a bus, a course, and what lies under the lock
bus_fields_send : IsSend bus_fields.row
bus_fields_send =
    search (
      sendable,
      Arc-send,
      design_send,
      design_sync,
      outgoing_send,
      env_send,
      delays_send,
      node_list_send,
      flight_send,
      queue_send,
      stop_send,
      entry_send,
      port_send,
      items_send,
      Vec-send,
    ) depth 20

bus_send : IsSend bus.row
bus_send = search (sendable, bus_fields_send) depth 20

note_send : IsSend note.row
note_send = search sendable depth 20

wakes_send : IsSend wakes.row
wakes_send = search sendable depth 20

course_send : IsSend course.row
course_send = search (sendable, bus_send, items_send, clock_send, note_send) depth 20

thread_slot_send : IsSend slot.row
thread_slot_send = search sendable depth 20

sleepers_send : IsSend sleepers.row
sleepers_send = search (sendable, items_send, thread_slot_send, wakes_send) depth 20

phantom_send : (C : RattleType) → IsSend (phantom C).row
phantom_send C = struct_send (S.shape (phantom_type C)) tt

pub locked_send : (C : RattleType) (codes : Ghosts C.Denot) → IsSend (locked C codes).row
locked_send C codes = search (sendable, course_send, sleepers_send, phantom_send) depth 20

pub signals_sync : IsSync signals.row
signals_sync = search (sendable, crosses) depth 20
