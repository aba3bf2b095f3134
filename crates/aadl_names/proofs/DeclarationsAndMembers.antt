-- The code's declaration, subcomponent or port of a number is the one that has this number in the package, and its
-- port of a name is the port of that name.
use denote.Ref.{Bor}
use Rattle.std.proofs.Common.{◌≡◌, ◌∙◌, ℕ, List, Option, Some, None, refl, sym, ap, map}
use Rattle.std.specs.Prelude.{slice_get, option_map, option_copied}
use Rattle.std.specs.Slice.{IsItemAt}
use Rattle.std.proofs.lemmas.Option.{none-some, slice_get-map, slice_get_read, slice_get_past}
use Rattle.aadl_tree.specs.declared.package.PackageTree as source_package
use Rattle.aadl_tree.specs.declared.declarations.Declaration as source_declaration
use Rattle.aadl_tree.specs.Declarations.{TypeDeclaration, Declaration, type, implementation, PackageTree}
use Rattle.aadl_tree.specs.proof.DeclarationViews.{declaration_view}
use Rattle.aadl_tree.specs.proof.PlaceMaps.{kept_place}
use Rattle.aadl_tree.specs.proof.PackageViews.{placed}
use Rattle.aadl_names.specs.proof.MemberNumbers.{member_of}
use Rattle.aadl_names.specs.NameResolution.{type_in, type_numbered, features_of, port_named}

-- the declaration of a number
pub declaration_there : (tree : source_package.PackageTree) (n : ℕ) (ds : List source_declaration.Declaration)
    (d : Option source_declaration.Declaration)
    → ds ≡ tree.declarations.items → slice_get ds n ≡ d
    → slice_get (placed tree).declarations n ≡ option_map (declaration_view kept_place) d
declaration_there tree n ds d stored is =
    slice_get-map (declaration_view kept_place) tree.declarations.items n
    ∙ ap (option_map (declaration_view kept_place)) (ap (λ l. slice_get l n) (sym stored) ∙ is)

-- what `get` lends
lent : {A : Type 0} (xs : List A) (i : ℕ) (r : Option (Bor A)) → IsItemAt xs i r → option_copied r ≡ slice_get xs i
lent xs i None h = sym (slice_get_past xs i h.3)
lent xs i (Some x) h = sym (slice_get_read xs _ i x.now refl h.3.0 h.1)

pub view_lent : {A B : Type 0} (view : A → B) (items stored : List A) (i : ℕ) (r : Option (Bor A)) → stored ≡ items
    → IsItemAt stored i r
    → option_map view (option_copied r) ≡ slice_get (map view items) i
view_lent view items stored i r same h =
    ap (option_map view) (lent stored i r h ∙ ap (λ l. slice_get l i) same) ∙ sym (slice_get-map view items i)

-- ---- the ports of a type
typed : (d : Option (Declaration ℕ)) (x : TypeDeclaration ℕ) (name : List ℕ) → Some x ≡ type_in d
    → member_of d name ≡ port_named (features_of (type_in d)) name
typed None x name e = absurd (none-some x (sym e))
typed (Some (type t)) x name e = refl
typed (Some (implementation t)) x name e = absurd (none-some x (sym e))

pub members_there : (tree : PackageTree ℕ) (of_type : Option ℕ) (n : ℕ) (x : TypeDeclaration ℕ) (name : List ℕ)
    → of_type ≡ Some n → Some x ≡ type_in (slice_get tree.declarations n)
    → member_of (slice_get tree.declarations n) name ≡ port_named (features_of (type_numbered tree of_type)) name
members_there tree of_type n x name some is =
    typed (slice_get tree.declarations n) x name is
    ∙ ap (λ o. port_named (features_of (type_numbered tree o)) name) (sym some)
