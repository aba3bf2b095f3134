-- For `all_port_names` and `port_roles`: the port names of all types, one type after another.
use Rattle.std.proofs.Common.{◌≡◌, ℕ, ◌+◌, ◌<◌, Bool, true, false, cond, List, [], ◌∷◌, ◌++◌, length, take, get_or, map}
use Rattle.std.proofs.Common.{Option, Some, None, refl, sym, ap, ◌∙◌, subst, zero, suc}
use Rattle.aadl_tree.specs.Names.{same_name}
use Rattle.std.specs.Prelude.{slice_get, slice_index_or, find, option_map}
use Rattle.std.specs.Option.{option_or}
use Rattle.std.proofs.lemmas.List.{map_more}
use Rattle.aadl_tree.specs.Declarations.{Feature, Declaration, Implementation, PackageTree}
use Rattle.aadl_names.specs.proof.NameTables.{value_of}
use Rattle.aadl_names.specs.NameResolution.{features_of, type_in, type_numbered, type_number, ports_of}
use Rattle.aadl_names.specs.PackageNameFaults.{role_in, port_roles}
use Rattle.name_faults.specs.declared.port_name_tables.PortNames.{PortNames}
use Rattle.name_faults.specs.declared.port_name_tables.AllPortNames.{AllPortNames}
use Rattle.name_faults.specs.proof.TypePortNames.{AreNamesOf, names_at, AreAllNamesOf}

cons_by : (b : Bool) (x : Feature ℕ) (rest : Option (Feature ℕ))
    → option_map (λ (p : Feature ℕ). role_in p.direction) (cond b (Some x) rest)
    ≡ option_or (cond b (Some (role_in x.direction)) None) (option_map (λ (p : Feature ℕ). role_in p.direction) rest)
cons_by true x rest = refl
cons_by false x rest = refl

pub roles-cons : (name : List ℕ) (x : Feature ℕ) (xs : List (Feature ℕ))
    → port_roles (x ∷ xs) name
    ≡ option_or (cond (same_name name x.name.spelling) (Some (role_in x.direction)) None) (port_roles xs name)
roles-cons name x xs = cons_by (same_name name x.name.spelling) x (find (λ p. same_name name p.name.spelling) xs)

-- these are the names of the ports of each declaration
abbrev pub AreNamed : List (Declaration ℕ) → List PortNames → Type 0
AreNamed [] [] = Unit {0}
AreNamed [] (n ∷ ns) = ⊥
AreNamed (d ∷ ds) [] = ⊥
AreNamed (d ∷ ds) (n ∷ ns) = AreNamesOf (features_of (type_in (Some d))) n × AreNamed ds ns

named-push : (ds : List (Declaration ℕ)) (ns : List PortNames) (d : Declaration ℕ) (n : PortNames) → AreNamed ds ns
    → AreNamesOf (features_of (type_in (Some d))) n → AreNamed (ds ++ d ∷ []) (ns ++ n ∷ [])
named-push [] [] d n all here = (here, tt)
named-push [] (m ∷ ns) d n all here = absurd all
named-push (e ∷ ds) [] d n all here = absurd all
named-push (e ∷ ds) (m ∷ ns) d n all here = (all.0, named-push ds ns d n all.1 here)

-- one iteration of the loop over declarations
pub next_named : {A : Type 0} (view : A → Declaration ℕ) (items : List A) (i : ℕ) (x : A) (old new : List PortNames)
    (n : PortNames) → i < length items
    → x ≡ get_or items i x
    → new ≡ old ++ n ∷ [] → AreNamed (map view (take i items)) old
    → AreNamesOf (features_of (type_in (Some (view x)))) n
    → AreNamed (map view (take (i + 1) items)) new
next_named view items i x old new n within is more so_far here =
    let grown : map view (take (i + 1) items) ≡ map view (take i items) ++ view x ∷ [] = map_more view items i x within
    ∙ ap (λ y. map view (take i items) ++ view y ∷ []) (sym is) in
    subst (λ ds. AreNamed ds new) (sym grown) (subst (AreNamed (map view (take i items) ++ view x ∷ [])) (sym more)
    (named-push (map view (take i items)) old (view x) n so_far here))

-- the names at a number, and none after the last one
pub all_named : (ds : List (Declaration ℕ)) (ns : List PortNames) (none : PortNames) → AreNamed ds ns
    → AreNamesOf [] none
    → (k : ℕ) → AreNamesOf (features_of (type_in (slice_get ds k))) (slice_index_or ns k none)
all_named [] [] none all here k = here
all_named [] (n ∷ ns) none all here k = absurd all
all_named (d ∷ ds) [] none all here k = absurd all
all_named (d ∷ ds) (n ∷ ns) none all here zero = all.0
all_named (d ∷ ds) (n ∷ ns) none all here (suc k) = all_named ds ns none all.1 here k

pub each_named : (tree : PackageTree ℕ) (all : AllPortNames) → AreNamed tree.declarations all.of_declarations
    → AreNamesOf [] all.none → AreAllNamesOf tree all
each_named tree all named none = record { each = by }
  where
    by : (number : Option ℕ) → AreNamesOf (features_of (type_numbered tree number)) (names_at all number)
    by None = none
    by (Some k) = all_named tree.declarations all.of_declarations all.none named none k

-- ---- of the type of an implementation
pub names_there : (tree : PackageTree ℕ) (all : AllPortNames) → AreAllNamesOf tree all
    → (number : Option ℕ) (ports : List (Feature ℕ)) (names : PortNames)
    → ports ≡ features_of (type_numbered tree number) → names ≡ names_at all number → AreNamesOf ports names
names_there tree all h number ports names is_ports is_names =
    subst (AreNamesOf ports) (sym is_names)
    (subst (λ ps. AreNamesOf ps (names_at all number)) (sym is_ports) (h.each number))

pub roles_there : (tree : PackageTree ℕ) (all : AllPortNames) → AreAllNamesOf tree all
    → (x : Implementation ℕ) (number : Option ℕ) (names : PortNames)
    → number ≡ type_number tree x → names ≡ names_at all number → (name : List ℕ)
    → value_of names.roles name ≡ port_roles (ports_of tree x) name
roles_there tree all h x number names is_number is_names name =
    ap (λ (n : PortNames). value_of n.roles name) is_names
    ∙ ((h.each number).roles name ∙ ap (λ n. port_roles (features_of (type_numbered tree n)) name) is_number)
