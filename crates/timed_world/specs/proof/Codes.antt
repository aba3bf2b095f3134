-- How the logic stores the values of worlds.
use Rattle.std.specs.Prelude.{ℕ, List, refl}
use Rattle.std.specs.Coded.{Coded, code_by, coded×, coded_ℕ, coded_list}
use Rattle.pals_bus.specs.BusValues.{BusValue}
use Rattle.pals_bus.specs.proof.Codes.{bus_code}
use Rattle.timed_world.specs.proof.WorldValuesAndMoves.{WorldValue}

abbrev pub times_code : Coded (List ℕ)
times_code = coded_list coded_ℕ

abbrev pub world_code : Coded WorldValue
world_code =
    code_by (BusValue × (ℕ × (List ℕ × (List ℕ × (List ℕ × List (List ℕ))))))
    (coded× bus_code (coded× coded_ℕ
    (coded× times_code (coded× times_code (coded× times_code (coded_list times_code))))))
    (λ w. (w.bus, (w.time, (w.readings, (w.since, (w.ready, w.sent_at))))))
    (λ p. record {
      bus = p.0;
      time = p.1.0;
      readings = p.1.1.0;
      since = p.1.1.1.0;
      ready = p.1.1.1.1.0;
      sent_at = p.1.1.1.1.1;
    }) (λ _. refl)
