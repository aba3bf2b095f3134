use Rattle.std.proofs.Common.{◌≡◌, ℕ, List, [], length, map, take, get_or}
use Rattle.std.specs.Prelude.{slice_get}
use Rattle.aadl_tree.specs.proof.DeclarationViews.{declaration_view}
use Rattle.aadl_tree.specs.proof.PlaceMaps.{kept_place}
use Rattle.aadl_names.specs.proof.NameTables.{value_of}
use Rattle.aadl_names.specs.proof.MemberNumbers.{member_of}
use Rattle.aadl_names.proofs.package_names.members_of.Given as goal

-- the members of the declarations so far
abbrev pub invariant-loop-declaration : goal.invariant-loop-declaration
invariant-loop-declaration l = record {
  count : length l.members ≡ l.declaration-index;
  values : (n : ℕ) (name : List ℕ) → value_of (get_or l.members n []) name
      ≡ member_of (slice_get (map (declaration_view kept_place) (take l.declaration-index l.declarations)) n) name;
}
