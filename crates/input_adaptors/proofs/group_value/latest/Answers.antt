use Rattle.std.proofs.Common.{◌∙◌, ap, ℤ, None, Some, rules}
use Rattle.std.specs.List.{reduce}
use Rattle.std.proofs.lemmas.Iterator.{YieldsList-from_slice}
use Rattle.std.proofs.lemmas.Iterator.Adapters.{total_from_yields_List}
use Rattle.std.proofs.lemmas.Iterator.Consumers.{YieldsList-from_filter_map}
use borrow.Author.Tests.{tests}
use Rattle.input_adaptors.specs.proof.PortValuesAsNumbers.{number_of}
use Rattle.input_adaptors.proofs.PresentNumbers.{filter_map-number_of, last_or_fold, reduce-later}
use Rattle.input_adaptors.proofs.group_value.latest.Goals as goal

pub returns : goal.returns
returns c =
    total_from_yields_List (λ _ v. Some v) None _ (
      c.last.ensures.ran.0,
      (λ _. c.last.ensures.ran.1),
      c.last.ensures.ran.2 ∙ last_or_fold None c.last.ensures.ran.0,
    )
    (YieldsList-from_filter_map _ number_of (YieldsList-from_slice c.args.group.now (cc))
    c.filter_map.ensures.closure (λ x r q k. search (rules, tests)))
    ∙ reduce-later _
    ∙ ap (reduce (λ (_ later : ℤ). later)) (filter_map-number_of c.args.group.now)
