use Rattle.annex_resolve.proofs.BaseTypesQualifier.{one_qualifier}
use Rattle.annex_resolve.proofs.type_names.is_base_types.Goals as goal

pub returns-in-len1 : goal.returns-in-len1
returns-in-len1 c =
    one_qualifier c.args.qualifiers.now c.package-item.result c.is_spelled.result c.in-len1.len_at_least
    c.in-len1.len_below c.package-item.is c.is_spelled.ensures
