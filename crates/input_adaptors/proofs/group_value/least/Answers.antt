use Rattle.std.proofs.Common.{◌∙◌, ap, ℤ, rules}
use Rattle.std.specs.List.{reduce}
use Rattle.std.specs.Int.{int_min}
use Rattle.std.specs.Ordering.{int_cmp, min_by_ordering}
use Rattle.std.proofs.lemmas.Iterator.{YieldsList-from_slice}
use Rattle.std.proofs.lemmas.Iterator.Consumers.{reduce_from_yields_List, YieldsList-from_filter_map}
use borrow.Author.Tests.{tests}
use Rattle.input_adaptors.specs.proof.PortValuesAsNumbers.{number_of}
use Rattle.input_adaptors.proofs.PresentNumbers.{filter_map-number_of, reduce_agree, lesser_is}
use Rattle.input_adaptors.proofs.group_value.least.Goals as goal

pub returns : goal.returns
returns c =
    reduce_from_yields_List _ c.filter_map.result _ c.min.ensures.ran
    (YieldsList-from_filter_map _ number_of (YieldsList-from_slice c.args.group.now (cc))
    c.filter_map.ensures.closure (λ x r q k. search (rules, tests)))
    ∙ reduce_agree (λ (x y : ℤ). min_by_ordering (int_cmp x y) x y) int_min lesser_is _
    ∙ ap (reduce int_min) (filter_map-number_of c.args.group.now)
