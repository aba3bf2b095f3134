-- The violations of the declarations in use; each declaration is checked once.
use Rattle.std.specs.Prelude.{◌≡◌, ℕ, nat_eq, Bool, true, List, [], ◌++◌, flat_map, Some, if◌then◌else◌}
use Rattle.std.specs.List.{enumerate_from}
use Rattle.aadl_tree.specs.Declarations.{Subcomponent, TypeDeclaration, Implementation, Declaration, type}
use Rattle.aadl_tree.specs.Declarations.{implementation, PackageTree}
use Rattle.aadl_names.specs.NameResolution.{is_thread, implementation_at}
use Rattle.annex_resolve.specs.declared.violation.Violation.{Violation}
use Rattle.component_checks.specs.Times.{list_big}
use Rattle.component_checks.specs.TypeFindings.{port_findings}
use Rattle.model_violations.specs.ConnectionFindings.{connections_findings}
use Rattle.model_violations.specs.IgnoredProperties.{is_root_type}
use Rattle.aadl_names.specs.declared.recognised_properties.PropertyHolder.TheVariants as holders
use Rattle.model_violations.specs.ThreadBehaviours as threads

-- ---- a type: its ports, and times above one hour
abbrev pub type_findings : Bool → TypeDeclaration ℕ → List Violation
type_findings of_root x =
    flat_map port_findings x.features ++ list_big (holders.Declaration x.category of_root) x.properties

-- ---- an implementation: times above one hour, its connections, and the behaviour of a thread
abbrev pub sub_findings : Subcomponent ℕ → List Violation
sub_findings s = list_big (holders.Subcomponent s.category) s.properties

abbrev pub thread_findings : PackageTree ℕ → Implementation ℕ → List Violation
thread_findings tree x = if is_thread x.category then threads.implementation_findings tree x else []

abbrev pub implementation_findings : PackageTree ℕ → ℕ → (ℕ → ℕ → Bool) → ℕ → Implementation ℕ → List Violation
implementation_findings tree root carried n x =
    list_big (holders.Declaration x.category (nat_eq n root)) x.properties ++ flat_map sub_findings x.subcomponents
    ++ connections_findings tree carried n x ++ thread_findings tree x

-- the implementations of threads in use have at most as many ports and variables as a design may have
pub record AreSmall (tree : PackageTree ℕ) (used : ℕ → Bool) : Type 0 where
  pub each : (n : ℕ) (x : Implementation ℕ) → used n ≡ true → implementation_at tree n ≡ Some x
      → is_thread x.category ≡ true
      → threads.IsSmall tree x

-- ---- a declaration by its number, if it is in use, by the predicates for implementations and for types
abbrev pub declaration_findings : PackageTree ℕ → ℕ → (ℕ → Bool) → (ℕ → Bool) → (ℕ → ℕ → Bool) → ℕ × Declaration ℕ
    → List Violation
declaration_findings tree root used types carried (n, type x) =
    if types n then type_findings (is_root_type tree root n) x else []
declaration_findings tree root used types carried (n, implementation x) =
    if used n then implementation_findings tree root carried n x else []

abbrev pub declarations_findings : PackageTree ℕ → ℕ → (ℕ → Bool) → (ℕ → Bool) → (ℕ → ℕ → Bool) → List Violation
declarations_findings tree root used types carried =
    flat_map (declaration_findings tree root used types carried) (enumerate_from 0 tree.declarations)
