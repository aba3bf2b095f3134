-- The designs of two counters and of the exchanged ones differ only by the components' numbers.
use Rattle.std.proofs.Common.{◌≡◌, ℕ, zero, suc, ◌<◌, List, [], ◌∷◌, Contains, slice_get, refl, arith}
use Rattle.std.specs.Prelude.{codes}
use Rattle.std.proofs.lemmas.List.Elements.{All-nil}
use Rattle.pals_base.specs.declared.basic_types.PortValue.{PortValue}
use Rattle.pals_model.specs.proof.TwoCounters.{two_counters}
use Rattle.pals_model.specs.ComponentInputs.{no_env}
use Rattle.sync_product.specs.proof.RenumberedDesigns.{IsRenumbered, AreSameInputs, values_of}
use Rattle.sync_product.specs.proof.ExchangedCounters.{exchange, exchanged_counters, fed_counters}
use Rattle.sync_product.specs.proof.ExchangedCounters.{exchanged_fed_counters, inputs_of_two}
use Rattle.sync_product.proofs.CounterBehaviour.{all_of_two}

-- two elements in the other order
turned : {X : Type 0} (x y z : X) → Contains (x ∷ y ∷ []) z → Contains (y ∷ x ∷ []) z
turned x y z (zero, within, is) = (1, omega arith, is)
turned x y z (suc zero, within, is) = (0, omega arith, is)
turned x y z (suc (suc k), within, is) = absurd (omega arith)

exchanged_at : (n : ℕ) → n < 2
    → slice_get exchanged_counters.components (exchange n) ≡ slice_get two_counters.components n
exchanged_at zero within = refl
exchanged_at (suc zero) within = refl
exchanged_at (suc (suc n)) within = absurd (omega arith)

exchanged_one_each : (m n : ℕ) → m < 2 → n < 2 → exchange m ≡ exchange n → m ≡ n
exchanged_one_each m n first second same = omega arith

-- ---- linked to one another
pub counters_are_renumbered : IsRenumbered exchange two_counters exchanged_counters
counters_are_renumbered = record {
  period = refl;
  gamma = refl;
  count = refl;
  component = exchanged_at;
  one_each = exchanged_one_each;
  links = λ link. (turned _ _ link, turned _ _ link);
  feeds = λ feed. ((λ among. among), (λ among. among));
}

pub no_inputs : AreSameInputs two_counters exchanged_counters no_env no_env
no_inputs = All-nil (λ name. values_of exchanged_counters no_env name ≡ values_of two_counters no_env name)

-- ---- fed from without
pub fed_counters_are_renumbered : IsRenumbered exchange fed_counters exchanged_fed_counters
fed_counters_are_renumbered = record {
  period = refl;
  gamma = refl;
  count = refl;
  component = exchanged_at;
  one_each = exchanged_one_each;
  links = λ link. ((λ among. among), (λ among. among));
  feeds = λ feed. (turned _ _ feed, turned _ _ feed);
}

pub exchanged_inputs : (x y : List PortValue)
    → AreSameInputs fed_counters exchanged_fed_counters (inputs_of_two x y) (inputs_of_two y x)
exchanged_inputs x y =
    all_of_two (λ name. values_of exchanged_fed_counters (inputs_of_two y x) name
    ≡ values_of fed_counters (inputs_of_two x y) name)
    (codes "x") (codes "y") refl refl
