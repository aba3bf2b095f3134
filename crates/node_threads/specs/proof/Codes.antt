-- How the logic stores the values of courses.
use Rattle.std.specs.Prelude.{List, refl}
use Rattle.std.specs.Coded.{Coded, code_by, coded×, coded_list}
use Rattle.pals_bus.specs.proof.Codes.{bus_code}
use Rattle.pals_bus.specs.BusValues.{BusValue}
use Rattle.pals_clock.specs.contracts.clock.Clocks.{the_row as clocks}
use Rattle.pals_clock.specs.declared.clock.Clocks.{Clocks}
use Rattle.node_threads.specs.contracts.node_end.NodeNote.{the_row as notes}
use Rattle.node_threads.specs.declared.node_end.NodeNote.{NodeNote}
use Rattle.node_threads.specs.proof.SharedCourses.{CourseValue}

abbrev pub course_code : Coded CourseValue
course_code =
    code_by (BusValue × (Clocks × List NodeNote)) (coded× bus_code (coded× clocks.coded (coded_list notes.coded)))
    (λ c. (c.bus, (c.clocks, c.notes))) (λ p. record { bus = p.0; clocks = p.1.0; notes = p.1.1 }) (λ _. refl)
