use Rattle.std.proofs.Common.{map, refl, ap, ◌∙◌}
use Rattle.aadl_tree.specs.Names.{same_name}
use Rattle.std.specs.Option.{option_or}
use Rattle.aadl_tree.specs.proof.NameViews.{identifier_view}
use Rattle.aadl_tree.specs.proof.PlaceMaps.{kept_place}
use Rattle.aadl_names.specs.proof.NameTables.{value_of}
use Rattle.aadl_names.specs.PackageNameFaults.{is_among}
use Rattle.name_faults.specs.proof.ConditionalValues.{value_if}
use Rattle.name_faults.proofs.RoleTables.{next_role, last_role, value_or, added_twice}
use Rattle.name_faults.proofs.behaviour_name_tables.add_words.Goals as goal

pub loop-word-preserved : goal.loop-word-preserved
loop-word-preserved g c = λ name.
    next_role (λ xs. value_if c.args.value (is_among (map (identifier_view kept_place) xs) name))
    (λ x. value_if c.args.value (same_name name (identifier_view kept_place x).spelling))
    (λ x xs. value_or c.args.value (same_name name (identifier_view kept_place x).spelling)
    (is_among (map (identifier_view kept_place) xs) name)) _ _ _ _ _ _
    c.loop-word-test.true c.word-item.is (c.loop-word.invariant name) (c.in_ok-add_word-2.ensures name)

pub returns : goal.returns
returns g c = λ name.
    added_twice c.args.value _ _ _ _ _ (c.in_ok-add_word.ensures name)
    (last_role (λ xs. value_if c.args.value (is_among (map (identifier_view kept_place) xs) name)) _ _ _ _
    c.loop-word-test.false refl
    (c.loop-word.invariant name)
    ∙ ap (λ ws. option_or (value_of c.add_word.new.table name)
    (value_if c.args.value (is_among (map (identifier_view kept_place) ws) name)))
    c.deref-word-items.ensures.value)
