use Rattle.std.proofs.Common.{[], map, flat_map, not, refl}
use Rattle.std.specs.List.{enumerate_from}
use Rattle.std.proofs.lemmas.List.{length-map}
use Rattle.list_lemmas.proofs.ListOperations.{append_is_nil}
use Rattle.annex_resolve.specs.declared.violation.TheConstants.{NO_INITIAL}
use Rattle.annex_resolve.specs.FindingRecords.{found_if}
use Rattle.annex_resolve.specs.BehavioursAndFindings.{declared, states_of, transitions_of, departure_of, behaviour_of}
use Rattle.annex_resolve.specs.BehavioursAndFindings.{has_initial, transition_findings, rule_findings, state_rules}
use Rattle.annex_resolve.specs.BehavioursAndFindings.{cycles_of}
use Rattle.design_laws.proofs.EmptyFindingLists.{is_right}
use Rattle.design_laws.proofs.SoundTransitions.{edges_sound, all_have_ways, no_cycles}
use Rattle.design_laws.proofs.InitialStates.{may_begin_there}
use Rattle.design_laws.proofs.annex_behaviours.no_findings_make_a_behaviour.Goals as goal

pub returns : goal.returns
returns c = λ values scope at annex ready none.
    let b = behaviour_of values scope annex in
    let states = states_of annex in
    let ts = transitions_of annex in
    let p = append_is_nil (flat_map (transition_findings scope) ts) (rule_findings at b states ts) none in
    let q =
    append_is_nil (found_if (not (has_initial states)) at NO_INITIAL [])
    (flat_map (state_rules b (map (departure_of states) ts) (cycles_of b)) (enumerate_from 0 states)) p.1 in
    record {
      names = ready.names;
      firsts = ready.firsts;
      initial = may_begin_there states (is_right (has_initial states) at NO_INITIAL [] q.0);
      edges = edges_sound b scope states ready.fits (length-map states declared) ts ready.states p.0;
      ways = all_have_ways b scope states ts refl refl q.1;
      acyclic = no_cycles b scope states ts refl refl q.1;
    }
